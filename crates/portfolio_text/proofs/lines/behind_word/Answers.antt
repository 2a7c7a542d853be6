use Rattle.std.proofs.Common.{◌∙◌, sym, arith}
use Rattle.std.proofs.lemmas.Grind.{common_steps}
use Rattle.portfolio_text.proofs.Blanks.{cut_before, behind_by, behind_none}
use Rattle.portfolio_text.proofs.lines.behind_word.Goals as goal

pub range_from-requires : goal.range_from-requires
range_from-requires c = λ _. cut_before c.args.line.now c.in-Some.i (sym c.blank.ensures ∙ c.in-Some.is)

pub returns-in-Some : goal.returns-in-Some
returns-in-Some c = let behind = behind_by c.args.line.now c.in-Some.i (sym c.blank.ensures ∙ c.in-Some.is) in grind (arith, common_steps, behind)

pub returns-in-None : goal.returns-in-None
returns-in-None c = behind_none c.args.line.now (sym c.blank.ensures ∙ c.in-None.is)
