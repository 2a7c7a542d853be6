use Rattle.std.proofs.Common.{◌∙◌, sym, arith}
use Rattle.std.proofs.lemmas.Grind.{common_steps}
use Rattle.text_lines.proofs.Cuts.{cut_lines-position, cut_lines-none}
use Rattle.text_lines.proofs.cursor.cut.Goals as goal

pub returns-in-Some-clause-lines : goal.returns-in-Some-clause-lines
returns-in-Some-clause-lines c =
    let l = cut_lines-position c.args.bytes.now c.in-Some.i (sym c.line_feed.ensures ∙ c.in-Some.is) in
    grind (arith, common_steps, l)

pub returns-in-None-clause-lines : goal.returns-in-None-clause-lines
returns-in-None-clause-lines c = cut_lines-none c.args.bytes.now (sym c.line_feed.ensures ∙ c.in-None.is) c.requires
