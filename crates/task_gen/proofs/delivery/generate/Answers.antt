use Rattle.std.proofs.Common.{◌≡◌, ◌∙◌, sym, ap, subst, true}
use Rattle.sas_task.specs.Refusals.{canonical_parts}
use Rattle.task_gen.specs.ReadBack.{has_line_names}
use Rattle.task_gen.proofs.Delivered.{delivery_brought}
use Rattle.task_gen.proofs.LineNames.{delivery_named}
use Rattle.task_gen.proofs.delivery.generate.Goals as goal

pub returns-clause-names : goal.returns-clause-names
returns-clause-names c = subst (λ task. has_line_names task ≡ true) (sym (c.accepted.ensures ∙ ap canonical_parts c.in_ok-parts.ensures ∙ delivery_brought c.args.n)) (delivery_named c.args.n c.requires)
