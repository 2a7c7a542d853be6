use Rattle.std.proofs.Common.{◌≡◌, ◌∙◌, sym, ap, arith}
use Rattle.std.proofs.lemmas.Grind.{common_steps}
use Rattle.text_lines.proofs.Cuts.{words_of-position, words_of-none}
use Rattle.text_lines.proofs.words.cut.Goals as goal

pub returns-in-Some : goal.returns-in-Some
returns-in-Some c =
    let w = words_of-position c.args.text.now c.in-Some.i c.requires.no_blank (sym c.blank.ensures ∙ c.in-Some.is) in
    grind (arith, common_steps, w)

pub returns-in-None : goal.returns-in-None
returns-in-None c = words_of-none c.args.text.now c.requires.no_blank (sym c.blank.ensures ∙ c.in-None.is) c.requires.some
