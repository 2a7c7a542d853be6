-- Chains and a heap stand for one list of prices.
use Rattle.std.specs.Prelude.{◌≡◌, ℕ, List, [], ◌∷◌, Option, Some, None, slice_index_or}
use Rattle.std.proofs.Common.{◌∙◌, sym, ap, subst, refl, arith, get_or}
use Rattle.std.proofs.Props.{props}
use Rattle.std.proofs.lemmas.Bool.Decides.{nat_tests}
use Rattle.std.proofs.lemmas.List.{ext_get_or}
use mathlib.Core.HLevel.{Σ_prop_path}
use Rattle.cost_queue.specs.Links.{Item, IsChain, IsQueue, Waiting, is_price}
use Rattle.cost_queue.specs.Occurrences.{one_if, occurrences}

-- a head leads to one chain, in one way
same_chain : (next : List (Option ℕ)) (head : Option ℕ) (xs ys : List ℕ) → IsChain next head xs → IsChain next head ys → xs ≡ ys
same_chain next head [] [] a b = refl
same_chain next head [] (y ∷ ys) a b = absurd cc
same_chain next head (x ∷ xs) [] a b = absurd cc
same_chain next head (x ∷ xs) (y ∷ ys) a b =
    let same : y ≡ x = cc in
    let rest = same_chain next (slice_index_or next x None) xs ys a.1 (subst (λ (n : ℕ). IsChain next (slice_index_or next n None) ys) same b.1) in
    cc

chain_prop : (next : List (Option ℕ)) (head : Option ℕ) (xs : List ℕ) → IsProp (IsChain next head xs)
chain_prop next head [] = hlevel props
chain_prop next head (x ∷ xs) = hlevel (props, chain_prop next (slice_index_or next x None) xs)

same_price : (o p : Option ℕ) → ((price : ℕ) → one_if (is_price o price) ≡ one_if (is_price p price)) → o ≡ p
same_price None None same = refl
same_price None (Some price) same = absurd (grind (arith, nat_tests, same price))
same_price (Some price) None same = absurd (grind (arith, nat_tests, same price))
same_price (Some price) (Some other) same = grind (arith, nat_tests, same price)

module _ {next heads : List (Option ℕ)} {start end : ℕ} {heap : List Item} {len capacity : ℕ} where
  pub stands_for : (w : Waiting next heads start end heap len capacity) {waiting : List (Option ℕ)} {chain : ℕ → List ℕ} → IsQueue next heads start end heap len capacity waiting chain → w.0 ≡ waiting
  stands_for w {waiting} {chain} is = ext_get_or None w.0 waiting (w.1.1.next_long ∙ sym is.next_long) (λ number within. same_price (get_or w.0 number None) (get_or waiting number None) (λ price.
      (let same = ap (occurrences number) (same_chain next (get_or heads price None) (w.1.0 price) (chain price) (w.1.1.chains price) (is.chains price)) in
      let one = w.1.1.those number price in
      let two = is.those number price in
      omega arith)))

pub waiting_prop : (next heads : List (Option ℕ)) (start end : ℕ) (heap : List Item) (len capacity : ℕ) → IsProp (Waiting next heads start end heap len capacity)
waiting_prop next heads start end heap len capacity = λ x y. Σ_prop_path one_way (stands_for x y.1.1)
  where
    one_way : (waiting : List (Option ℕ)) → IsProp ((chain : ℕ → List ℕ) × IsQueue next heads start end heap len capacity waiting chain)
    one_way waiting a b = Σ_prop_path {B = λ chain. IsQueue next heads start end heap len capacity waiting chain} (λ chain. hlevel (props, chain_prop)) (λ i price. same_chain next (get_or heads price None) (a.0 price) (b.0 price) (a.1.chains price) (b.1.chains price) i)
