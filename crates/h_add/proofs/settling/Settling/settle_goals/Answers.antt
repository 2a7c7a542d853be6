use Rattle.std.proofs.Common.{◌∙◌, refl, arith}
use Rattle.std.proofs.lemmas.List.Folds.{list_all_more}
use Rattle.relaxed_task.proofs.Elements.{join}
use Rattle.relaxed_task.proofs.NumberLaws.{weaker}
use Rattle.h_add.specs.UnderWay.{is_settled}
use Rattle.h_add.proofs.Steps.{later_more}
use Rattle.h_add.proofs.settling.Settling.settle_goals.Goals as goal

pub returns-then-not-settle_until-clause-later : goal.returns-then-not-settle_until-clause-later
returns-then-not-settle_until-clause-later c = later_more _ _ _ _ c.loop-goal.invariant.later c.if-not-settle_until.ensures.later

pub loop-goal-preserved : goal.loop-goal-preserved
loop-goal-preserved c = record {
  later = later_more _ _ _ _ c.loop-goal.invariant.later c.if-not-settle_until.ensures.later;
  settled = list_all_more (is_settled c.settle_until.new.self) c.goals-goal-items.result.now c.loop-goal.goal-index 0 (omega arith)
      ∙ join _ _ (weaker _ _ _ c.if-not-settle_until.ensures.later.stays c.loop-goal.invariant.settled) (c.if-not-settle_until.ensures.settled refl);
}
