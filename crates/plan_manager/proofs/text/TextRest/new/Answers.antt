use Rattle.std.proofs.Common.{◌≡◌, ◌∙◌, ap, sym, subst, length, ◌++◌, ◌<◌, ◌^◌, List, ℕ}
use Rattle.sas_task.specs.declared.contents.Parts.{Parts}
use Rattle.plan_text.specs.PlanText.{plan_text}
use Rattle.plan_manager.specs.TextRests.{steps_text, line_left, later_left, text_left}
use Rattle.plan_manager.proofs.Lengths.{short_text}
use Rattle.plan_manager.proofs.text.TextRest.new.Goals as goal

pub returns-clause-text : goal.returns-clause-text
unfolding text_left line_left later_left
returns-clause-text c =
    ap (λ (p : Parts). steps_text p c.args.ops.now ++ c.args.cost.now) c.parts.ensures.parts
    ∙ ap (λ l. steps_text c.args.task.now c.args.ops.now ++ l) c.requires

pub returns-clause-short : goal.returns-clause-short
unfolding text_left line_left later_left
returns-clause-short c few last =
    subst (λ p. length (steps_text p c.args.ops.now ++ c.args.cost.now) < 2 ^ 63) (sym c.parts.ensures.parts) (short_text c.args.task.now c.args.ops.now c.args.cost.now c.parts.ensures.well_formed few last)
