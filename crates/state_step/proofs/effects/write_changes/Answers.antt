use Rattle.std.proofs.Common.{◌∙◌, ◌<◌, sym, length, map, arith}
use Rattle.axiom_eval.proofs.Written.{written_none, written_fires, written_still}
use Rattle.state_step.specs.Tables.{effect_of}
use Rattle.state_step.proofs.OperatorTables.{effect_at, conds_within_at, fact_within_at, mapped_long}
use Rattle.state_step.proofs.effects.write_changes.Goals as goal
use Rattle.state_step.proofs.effects.write_changes.Goals.{then-fires, else-fires}

pub loop-change-init : goal.loop-change-init
loop-change-init c = c.copy_from_slice.ensures.after ∙ written_none c.args.state.now

pub fires-requires-clause-facts : goal.fires-requires-clause-facts
fires-requires-clause-facts c = conds_within_at (length c.args.state.now) c.args.conds.now c.args.changes.now c.loop-change.change-index _ c.requires.facts (omega arith)

pub bounds-out-change : goal.bounds-out-change
bounds-out-change c =
    let within = fact_within_at (length c.args.state.now) c.args.conds.now c.args.changes.now c.loop-change.change-index record { fact = record { var = 0; val = 0 }; conds = 0 } c.requires.facts (omega arith) in
    omega (arith, within)

pub loop-change-preserved : goal.loop-change-preserved
loop-change-preserved c =
    let lt : c.loop-change.change-index < length c.args.changes.now = omega arith in
    let long : c.loop-change.change-index < length (map (effect_of c.args.conds.now) c.args.changes.now) = omega (arith, mapped_long c.args.conds.now c.args.changes.now) in
    let at = effect_at c.args.conds.now c.args.changes.now c.loop-change.change-index record { fact = record { var = 0; val = 0 }; conds = 0 } lt in
    elim c.if-fires.branch [
      | then-fires w ↦ w.out-is ∙ written_fires _ _ _ _ _ long at c.loop-change.invariant (sym c.fires.ensures ∙ w.if-fires.true)
      | else-fires w ↦ w.out-is ∙ written_still _ _ _ _ _ long at c.loop-change.invariant (sym c.fires.ensures ∙ w.if-fires.false)
    ]
