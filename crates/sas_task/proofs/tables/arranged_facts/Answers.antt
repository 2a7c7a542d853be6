use Rattle.std.proofs.Common.{◌≡◌, ◌∙◌, sym, ap, ◌++◌, length, rules}
use Rattle.sas_task.proofs.TableLaws.{are_arranged}
use Rattle.sas_task.proofs.tables.arranged_facts.Goals as goal

pub returns-clause-order : goal.returns-clause-order
returns-clause-order c =
    let standing = c.in_ok-standing.standing in
    let are = are_arranged standing.known c.args.pre.now c.args.effects.now c.keep_unknown.new.facts.items standing.facts.items c.in_ok-standing.ensures.known c.in_ok-standing.ensures.facts (search rules) in
    let extended : c.extend_from_slice.new.self.items ≡ c.keep_unknown.new.facts.items ++ standing.facts.items = search rules in
    extended ∙ are.whole

pub returns-clause-front : goal.returns-clause-front
returns-clause-front c =
    let standing = c.in_ok-standing.standing in
    let are = are_arranged standing.known c.args.pre.now c.args.effects.now c.keep_unknown.new.facts.items standing.facts.items c.in_ok-standing.ensures.known c.in_ok-standing.ensures.facts (search rules) in
    let long : c.len-prevail.result ≡ length c.keep_unknown.new.facts.items = search rules in
    long ∙ ap length are.front
