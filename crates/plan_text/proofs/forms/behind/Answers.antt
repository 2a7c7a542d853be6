use Rattle.std.proofs.lemmas.Slice.Eq.{strip_prefix_is}
use Rattle.std.proofs.lemmas.Bool.Decides.{Decides-eqb}
use Rattle.plan_text.proofs.TextEnds.{stripped_front}
use Rattle.plan_text.proofs.forms.behind.Goals as goal

pub returns : goal.returns
returns c =
    let front = c.args.front.now in
    let text = c.args.text.now in
    stripped_front front text c.strip_prefix.result (strip_prefix_is Decides-eqb text front c.strip_prefix.result c.strip_prefix.ensures.cases)
