use Rattle.std.proofs.Common.{◌≡◌, ◌∙◌, sym, ap, subst, ℕ, List, Bool, not, true, false, ◌↔◌}
use Rattle.bit_rows.specs.Rows.{has}
use Rattle.lm_backchain.specs.Backchain.{GivesNatural}
use Rattle.lm_backchain.proofs.Strong.{late_test, none_to}
use Rattle.lm_backchain.proofs.natural.is_late.Goals as goal

pub returns-in-None : goal.returns-in-None
returns-in-None c parts a b single kept ne = (
  λ h. (let k : false ≡ true = h in cc),
  λ g. absurd (none_to parts a b (rw c.in-None.is at kept) g),
)

pub returns-in-Some : goal.returns-in-Some
returns-in-Some c parts a b single kept ne =
    let is : c.has.result ≡ has c.args.before.now.reached c.in-Some.after.number = c.has.ensures ∙ ap (λ (row : List ℕ). has row c.in-Some.after.number) c.deref.ensures in
    subst (λ (t : Bool). (not t ≡ true) ↔ GivesNatural parts a b) (sym is) (late_test parts a b c.args.before.now c.in-Some.after single (rw c.in-Some.is at kept) ne)
