use Rattle.std.proofs.Common.{refl}
use Rattle.std.proofs.lemmas.Option.{slice_get-get_or}
use Rattle.axiom_eval.proofs.RuleTables.{heads_more, rule_below}
use Rattle.axiom_eval.proofs.building.heads_of.Goals as goal

pub loop-slot-preserved : goal.loop-slot-preserved
loop-slot-preserved c =
    let below = rule_below c.args.rules.now c.args.slots.now c.loop-slot.slot-index (record { layer = 0; rule = 0 }) c.requires c.loop-slot-test.true in
    heads_more c.args.rules.now c.args.slots.now c.loop-slot.slot-index (record { layer = 0; rule = 0 }) _ c.loop-slot.heads.items _ _ c.loop-slot-test.true (slice_get-get_or c.args.rules.now _ c.index-rules-slot.result below) c.loop-slot.invariant c.in_ok-push.ensures.items refl refl
