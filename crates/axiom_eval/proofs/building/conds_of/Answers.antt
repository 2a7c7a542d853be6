use Rattle.std.proofs.lemmas.Option.{slice_get-get_or}
use Rattle.axiom_eval.proofs.RuleTables.{conds_more, rule_below}
use Rattle.axiom_eval.proofs.building.conds_of.Goals as goal

pub loop-slot-preserved : goal.loop-slot-preserved
loop-slot-preserved c =
    let below = rule_below c.args.rules.now c.args.slots.now c.loop-slot.slot-index (record { layer = 0; rule = 0 }) c.requires c.loop-slot-test.true in
    conds_more c.args.rules.now c.args.slots.now c.loop-slot.slot-index (record { layer = 0; rule = 0 }) _ _ c.loop-slot.rows _ c.loop-slot-test.true (slice_get-get_or c.args.rules.now _ c.index-rules-slot.result below) c.deref.ensures c.loop-slot.invariant c.in-Ok.ensures.ok
