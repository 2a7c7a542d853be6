use Rattle.std.proofs.Common.{◌∙◌}
use Rattle.plan_manager.proofs.RemovedNames.{removed_as}
use Rattle.plan_manager.proofs.clearing.remove_name.Goals as goal

pub returns-clause-changes : goal.returns-clause-changes
returns-clause-changes g c = removed_as _ _ _ _ _ (c.name.ensures ∙ c.new.ensures) c.remove.ensures.changes
