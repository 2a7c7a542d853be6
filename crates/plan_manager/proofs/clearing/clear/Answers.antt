use Rattle.std.proofs.Common.{◌∙◌}
use Rattle.plan_manager.proofs.RemovedNames.{removed_as, part_failed, clears_all}
use Rattle.plan_manager.proofs.clearing.clear.Goals as goal

pub returns-in_err-remove-clause-changes : goal.returns-in_err-remove-clause-changes
returns-in_err-remove-clause-changes g c =
    part_failed _ _ c.remove.result c.from_residual.result c.args.base.now c.from_residual.ensures.0 (removed_as _ _ _ _ _ (c.text.ensures ∙ c.part.ensures.name) c.remove.ensures.changes)

pub returns-clause-changes : goal.returns-clause-changes
returns-clause-changes g c =
    clears_all _ _ _ c.remove.result _ c.remove_names.result c.args.base.now c.in_ok-remove.was c.remove.ensures.keeps.busy (removed_as _ _ _ _ _ (c.text.ensures ∙ c.part.ensures.name) c.remove.ensures.changes) c.remove_names.ensures.changes
