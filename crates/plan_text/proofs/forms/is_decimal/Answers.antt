use Rattle.std.proofs.Common.{◌≡◌, ◌∙◌, sym, refl, true, false, length}
use Rattle.plan_text.proofs.TextEnds.{is_decimal-digits}
use Rattle.plan_text.proofs.forms.is_decimal.Goals as goal

pub returns : goal.returns
returns c = c.are_digits.ensures ∙ is_decimal-digits c.args.text.now (λ none. let empty : length c.args.text.now ≡ 0 = rw none refl in let test : c.is_empty.result ≡ true = rw empty at c.is_empty.ensures in let clash : true ≡ false = sym test ∙ c.if-is_empty.false in cc)
