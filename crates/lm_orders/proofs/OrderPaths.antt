-- Paths of orders, as a reasonable order is added.
use Rattle.std.proofs.Common.{◌≡◌, ◌≢◌, ◌∙◌, sym, ap, refl, subst, ℕ, true, false, inl, inr, Option, Some, None}
use Rattle.std.proofs.lemmas.Bool.{cases_eq}
use Rattle.lm_graph.specs.declared.orders.Order.{Order}
use Rattle.lm_graph.specs.declared.orders.Order.TheVariants.{Reasonable, Natural, GreedyNecessary}
use Rattle.lm_graph.specs.Graphs.{Content, kind_of, PutsOrder}
use Rattle.lm_graph.specs.Orders.{is_strong, stronger}
use Rattle.lm_graph.specs.Paths.{Path, one, more}
use Rattle.lm_orders.specs.Tables.{SameStrong}

pub path_along : (kinds others : ℕ → ℕ → Option Order) (weakest : Order) → ((i j : ℕ) → is_strong weakest (kinds i j) ≡ true → is_strong weakest (others i j) ≡ true) → (i j : ℕ) → Path kinds weakest i j → Path others weakest i j
path_along kinds others weakest goes i j (one h) = one (goes i j h)
path_along kinds others weakest goes i k (more {j = j} h p) = more (goes i j h) (path_along kinds others weakest goes j k p)

-- where no path led back, a new order is on no path to the node that it comes from
pub path_back : (kinds others : ℕ → ℕ → Option Order) (weakest : Order) (a b : ℕ) → a ≢ b → ((i j : ℕ) → (i ≡ a → j ≡ b → ⊥) → others i j ≡ kinds i j) → (Path kinds weakest b a → ⊥) →
    (i j : ℕ) → j ≡ a → Path others weakest i j → Path kinds weakest i j
path_back kinds others weakest a b ne same never i j e (one h) = one (sym (ap (is_strong weakest) (same i j (λ x y. ne (sym e ∙ y)))) ∙ h)
path_back kinds others weakest a b ne same never i k e (more {j = j} h p) =
    let q = path_back kinds others weakest a b ne same never j k e p in
    more (sym (ap (is_strong weakest) (same i j (λ x y. never (subst (λ m. Path kinds weakest m a) y (subst (λ m. Path kinds weakest j m) e q))))) ∙ h) q

-- the order that was put
pub put_here : (old new : Content) (a b : ℕ) → PutsOrder old new a b Reasonable → kind_of old a b ≡ None → kind_of new a b ≡ Some Reasonable
put_here old new a b puts none = puts.here ∙ ap (λ (k : Option Order). Some (stronger k Reasonable)) none

-- neither more nor fewer natural and greedy-necessary orders
pub strong_stay : (old new : Content) (a b : ℕ) → PutsOrder old new a b Reasonable → kind_of old a b ≡ None → SameStrong (kind_of new) (kind_of old)
strong_stay old new a b puts none = record {
  natural = λ i j. by Natural refl refl i j;
  greedy = λ i j. by GreedyNecessary refl refl i j;
}
  where
    by : (weakest : Order) → is_strong weakest (Some Reasonable) ≡ false → is_strong weakest None ≡ false → (i j : ℕ) → is_strong weakest (kind_of new i j) ≡ is_strong weakest (kind_of old i j)
    by weakest some gone i j = elim (cases_eq i a) [
      | inl x ↦ elim (cases_eq j b) [
        | inl y ↦
            let is : kind_of new i j ≡ Some Reasonable = ap (λ m. kind_of new m j) x ∙ (ap (kind_of new a) y ∙ put_here old new a b puts none) in
            let was : kind_of old i j ≡ None = ap (λ m. kind_of old m j) x ∙ (ap (kind_of old a) y ∙ none) in
            ap (is_strong weakest) is ∙ (some ∙ (sym gone ∙ ap (is_strong weakest) (sym was)))
        | inr ne ↦ ap (is_strong weakest) (puts.others i j (λ e f. ne f))
      ]
      | inr ne ↦ ap (is_strong weakest) (puts.others i j (λ e f. ne e))
    ]

-- no order becomes weaker
pub orders_grow : (old new : Content) (a b : ℕ) → PutsOrder old new a b Reasonable → kind_of old a b ≡ None → (i j : ℕ) → is_strong Reasonable (kind_of old i j) ≡ true → is_strong Reasonable (kind_of new i j) ≡ true
orders_grow old new a b puts none i j h = elim (cases_eq i a) [
  | inl x ↦ elim (cases_eq j b) [
    | inl y ↦ ap (is_strong Reasonable) (ap (λ m. kind_of new m j) x ∙ (ap (kind_of new a) y ∙ put_here old new a b puts none))
    | inr ne ↦ ap (is_strong Reasonable) (puts.others i j (λ e f. ne f)) ∙ h
  ]
  | inr ne ↦ ap (is_strong Reasonable) (puts.others i j (λ e f. ne e)) ∙ h
]
