use Rattle.std.proofs.Common.{◌∙◌}
use Rattle.plan_manager.proofs.RemovedNames.{removed_as}
use Rattle.plan_manager.proofs.Stages.{sealed, sealing_failed}
use Rattle.plan_manager.proofs.sealing.seal.Goals as goal

pub returns-in_err-seal_family-clause-changes : goal.returns-in_err-seal_family-clause-changes
returns-in_err-seal_family-clause-changes g c = sealing_failed _ _ c.seal_family.result c.from_residual.result c.args.base.now c.args.many c.args.task.now c.args.kept.now c.from_residual.ensures.0 c.seal_family.ensures.changes

pub returns-clause-changes : goal.returns-clause-changes
returns-clause-changes g c =
    sealed _ _ _ c.seal_family.result _ c.remove.result c.args.base.now c.args.many c.args.task.now c.args.kept.now c.in_ok-seal_family.was c.seal_family.ensures.keeps.busy c.seal_family.ensures.changes
    (removed_as _ _ _ _ _ (c.text.ensures ∙ c.part.ensures.name) c.remove.ensures.changes)
