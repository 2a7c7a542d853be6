use Rattle.std.proofs.Common.{◌∙◌}
use Rattle.lama_num.specs.Names.{part_name}
use Rattle.plan_text.specs.PlanText.{plan_text}
use Rattle.plan_manager.proofs.Renames.{apart}
use Rattle.plan_manager.proofs.Stages.{rewrites_as}
use Rattle.plan_manager.proofs.sealing.rewrite_name.Goals as goal

pub rewrite-requires-clause-apart : goal.rewrite-requires-clause-apart
rewrite-requires-clause-apart g c = apart c.args.base.now _ _ c.args.number c.requires.number (c.name.ensures ∙ c.new-file.ensures) (c.text.ensures ∙ c.part-draft.ensures.name)

pub returns-clause-changes : goal.returns-clause-changes
returns-clause-changes g c =
    rewrites_as _ _ c.rewrite.result _ _ (plan_text c.args.task.now c.args.ops.now) (part_name c.args.base.now) _ (c.text.ensures ∙ c.part-draft.ensures.name)
    (c.name.ensures ∙ c.new-file.ensures) c.rewrite.ensures.changes
