use Rattle.std.proofs.Common.{◌≡◌, Ok, true, false, rules}
use Rattle.std.specs.Prelude.{is_some, nat_lt}
use Rattle.run_words.specs.Accepted.{AreWithin}
use Rattle.run_words.specs.Requests.{chosen, clashes, has_task, is_limitless, or_bad, values_of, works}
use Rattle.run_words.specs.Seen.{seen}
use Rattle.run_words.proofs.RequestLaws.{is_accepted, request_clashes, request_is}
use Rattle.run_words.proofs.checks.request.Goals as goal

pub returns-then-clashes-clause-exact : goal.returns-then-clashes-clause-exact
returns-then-clashes-clause-exact c =
    let line = seen c.args.given.now in
    let task : has_task line ≡ true = search rules in
    let one : nat_lt 1 (works line) ≡ false = search rules in
    let read : values_of line ≡ Ok c.in_ok-values.values = search rules in
    let found : or_bad (chosen line.alias line.search line.portfolio) ≡ Ok c.in_ok-work.work = search rules in
    let limited : is_limitless line c.in_ok-values.values.limit ≡ false = search rules in
    let clash : clashes c.in_ok-values.values.base line ≡ true = search rules in
    request_clashes line c.in_ok-values.values c.in_ok-work.work task one read found limited clash

pub returns-clause-exact : goal.returns-clause-exact
returns-clause-exact c =
    let line = seen c.args.given.now in
    let task : has_task line ≡ true = search rules in
    let one : nat_lt 1 (works line) ≡ false = search rules in
    let read : values_of line ≡ Ok c.in_ok-values.values = search rules in
    let found : or_bad (chosen line.alias line.search line.portfolio) ≡ Ok c.in_ok-work.work = search rules in
    let limited : is_limitless line c.in_ok-values.values.limit ≡ false = search rules in
    let apart : clashes c.in_ok-values.values.base line ≡ false = search rules in
    request_is line c.in_ok-values.values c.in_ok-work.work task one read found limited c.in_ok-task.task apart c.in_ok-task.ensures

pub returns-clause-accepted : goal.returns-clause-accepted
returns-clause-accepted c =
    let line = seen c.args.given.now in
    let values = c.in_ok-values.values in
    let task : has_task line ≡ true = search rules in
    let found : or_bad (chosen line.alias line.search line.portfolio) ≡ Ok c.in_ok-work.work = search rules in
    let limited : is_limitless line values.limit ≡ false = search rules in
    let apart : clashes values.base line ≡ false = search rules in
    let within : AreWithin values = search rules in
    let counted : is_some values.made ≡ is_some line.made = search rules in
    is_accepted line _ task found limited apart c.in_ok-task.ensures counted within.base within.limit within.child_kib within.made
