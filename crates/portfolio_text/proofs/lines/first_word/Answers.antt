use Rattle.std.proofs.Common.{◌∙◌, sym, arith}
use Rattle.std.proofs.lemmas.Grind.{common_steps}
use Rattle.portfolio_text.proofs.Blanks.{cut_before, first_by, first_all}
use Rattle.portfolio_text.proofs.lines.first_word.Goals as goal

pub range-requires-clause-end_boundary : goal.range-requires-clause-end_boundary
range-requires-clause-end_boundary c = cut_before c.args.line.now c.in-Some.i (sym c.blank.ensures ∙ c.in-Some.is)

pub returns-in-Some : goal.returns-in-Some
returns-in-Some c = let first = first_by c.args.line.now c.in-Some.i (sym c.blank.ensures ∙ c.in-Some.is) in grind (arith, common_steps, first)

pub returns-in-None : goal.returns-in-None
returns-in-None c = first_all c.args.line.now (sym c.blank.ensures ∙ c.in-None.is)
