use Rattle.std.proofs.lemmas.Slice.Eq.{strip_suffix_is}
use Rattle.std.proofs.lemmas.Bool.Decides.{Decides-eqb}
use Rattle.plan_text.proofs.TextEnds.{stripped_end}
use Rattle.plan_text.proofs.forms.before.Goals as goal

pub returns : goal.returns
returns c =
    let end = c.args.end.now in
    let text = c.args.text.now in
    stripped_end end text c.strip_suffix.result (strip_suffix_is Decides-eqb text end c.strip_suffix.result c.strip_suffix.ensures.cases)
