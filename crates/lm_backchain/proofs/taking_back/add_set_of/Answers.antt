use Rattle.std.proofs.Common.{◌≡◌, ◌∙◌, sym, ap, Some, None}
use Rattle.std.specs.Prelude.{option_map}
use Rattle.sas_task.specs.Facts.{predicate_of}
use Rattle.lm_backchain.proofs.SharedConditions.{sets_more, sets_same}
use Rattle.lm_backchain.proofs.taking_back.add_set_of.Goals as goal

pub returns-in_ok-add_set-in-Some : goal.returns-in_ok-add_set-in-Some
returns-in_ok-add_set-in-Some c seeds h =
    let of : predicate_of c.args.task.now c.args.seed ≡ Some c.in-Some.predicate.now = sym c.predicate.ensures ∙ ap (option_map (λ p. p.now)) c.in-Some.is in
    sets_more c.args.task.now c.args.lists.now seeds c.args.seed c.in-Some.predicate.now c.args.sets.now.items _ of h c.in_ok-add_set-in-Some.ensures

pub returns-in-None : goal.returns-in-None
returns-in-None c seeds h =
    let of : predicate_of c.args.task.now c.args.seed ≡ None = sym c.predicate.ensures ∙ ap (option_map (λ p. p.now)) c.in-None.is in
    sets_same c.args.task.now c.args.lists.now seeds c.args.seed c.args.sets.now.items of h
