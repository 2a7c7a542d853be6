use Rattle.std.proofs.Common.{ap, sym, ◌∙◌, subst, IsTrue, not, ◌≡◌, ◌++◌, []}
use Rattle.plan_manager.specs.TextRests.{steps_text, line_left, later_left, lines_left, text_left}
use Rattle.plan_manager.proofs.Lines.{next_step, one_fewer, next_cost, none_fewer, nothing_left}
use Rattle.plan_manager.proofs.text.TextRest.next_line.Goals as goal

pub returns-then-not-is_empty-clause-same : goal.returns-then-not-is_empty-clause-same
unfolding text_left line_left later_left
returns-then-not-is_empty-clause-same c =
    let rest = c.args.self.now in
    let hand : rest.first.now ++ rest.second.now ++ rest.third.now ≡ [] = c.requires in
    next_step rest.parts.now rest.ops.now rest.cost.now c.name_of-name.result.now (sym c.is_empty.ensures ∙ c.if-not-is_empty.true) c.name_of-name.ensures ∙ ap (λ l. l ++ (steps_text rest.parts.now rest.ops.now ++ rest.cost.now)) (sym hand)

pub returns-then-not-is_empty-clause-fewer : goal.returns-then-not-is_empty-clause-fewer
unfolding lines_left
returns-then-not-is_empty-clause-fewer c = λ _. one_fewer c.args.self.now.ops.now c.args.self.now.cost.now (sym c.is_empty.ensures ∙ c.if-not-is_empty.true)

pub returns-clause-same : goal.returns-clause-same
unfolding text_left line_left later_left
returns-clause-same c =
    let rest = c.args.self.now in
    next_cost rest.parts.now rest.first.now rest.second.now rest.third.now rest.ops.now rest.cost.now c.requires (sym c.is_empty.ensures ∙ c.if-not-is_empty.false)

pub returns-clause-fewer : goal.returns-clause-fewer
unfolding lines_left
returns-clause-fewer c = λ some. none_fewer c.args.self.now.ops.now c.args.self.now.cost.now (subst (λ b. IsTrue (not b)) c.is_empty-2.ensures some)

pub returns-clause-none : goal.returns-clause-none
unfolding text_left line_left later_left
returns-clause-none c = λ last.
    let rest = c.args.self.now in
    nothing_left rest.parts.now rest.first.now rest.second.now rest.third.now rest.ops.now rest.cost.now c.requires (sym c.is_empty.ensures ∙ c.if-not-is_empty.false) (ap not (sym c.is_empty-2.ensures) ∙ last)
