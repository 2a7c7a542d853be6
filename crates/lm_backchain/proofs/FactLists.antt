-- Lists of facts.
use Rattle.std.proofs.Common.{◌≡◌, ◌∙◌, sym, ap, refl, subst, ℕ, suc, List, [], ◌∷◌, Bool, true, false, Some, slice_get, inl, inr}
use Rattle.std.specs.List.{list_any}
use Rattle.std.proofs.lemmas.Bool.{or_cases, or_left}
use Rattle.sas_task.specs.Facts.{same_fact}
use Rattle.sas_task.specs.declared.contents.Fact.{Fact}
use Rattle.relaxed_task.proofs.Elements.{any_at}
use Rattle.relaxed_task.specs.Facts.{over_facts}
use Rattle.sas_task.proofs.FactLists.{same-true as facts_equal}
use Rattle.lm_backchain.specs.Backchain.{has}
use Rattle.lama_num.proofs.ListLaws.{any_get}

pub same_self : (a : Fact) → same_fact a a ≡ true
same_self a = over_facts.itself a

pub has_one : (a f : Fact) → has (a ∷ []) f ≡ true → f ≡ a
has_one a f h = elim (or_cases (same_fact f a) false h) [ inl e ↦ facts_equal f a e | inr n ↦ let k : false ≡ true = n in cc ]

pub has_self : (a : Fact) → has (a ∷ []) a ≡ true
has_self a = or_left _ _ (same_self a)

-- what holds of one of some facts
pub any_has : (p : Fact → Bool) (facts : List Fact) (f : Fact) → has facts f ≡ true → p f ≡ true → list_any p facts ≡ true
any_has p facts f h here =
    let r = any_get (same_fact f) facts h in
    any_at p facts r.0 r.1 r.2 (subst (λ z. p z ≡ true) (facts_equal f r.1 r.3) here)

-- one of some facts of which it holds
pub has_any : (p : Fact → Bool) (facts : List Fact) → list_any p facts ≡ true → (f : Fact) × (has facts f ≡ true) × (p f ≡ true)
has_any p facts h =
    let r = any_get p facts h in
    (r.1, any_at (same_fact r.1) facts r.0 r.1 r.2 (same_self r.1), r.3)

pub has_at : (facts : List Fact) (i : ℕ) (f : Fact) → slice_get facts i ≡ Some f → has facts f ≡ true
has_at facts i f at = any_at (same_fact f) facts i f at (same_self f)

pub at_has : (facts : List Fact) (f : Fact) → has facts f ≡ true → (i : ℕ) × (slice_get facts i ≡ Some f)
at_has facts f h = let r = any_get (same_fact f) facts h in (r.0, r.2 ∙ ap (λ g. Some g) (sym (facts_equal f r.1 r.3)))
