-- Two sets of flags, one made from the other.
use Rattle.std.proofs.Common.{◌≡◌, ℕ, ◌<◌, Bool, true, false, not, ◌||◌, ◌==◌, List, [], ◌∷◌, length, get_or, set, suc, refl, sym, ap, ◌∙◌, arith, ◌≤◌, inl, inr, get_or-set_same, get_or-set_other}
use Rattle.std.proofs.lemmas.Bool.{cases_lt}
use Rattle.std.proofs.lemmas.Bool.Decides.{eqb_tells}
use Rattle.std.proofs.lemmas.List.{get_or_past}
use Rattle.std.specs.List.{list_all}
use Rattle.std.specs.Cmp.{nat_cmp_total}
use Rattle.std.specs.FinSet as sets
use Rattle.exit_codes.specs.Sets.{CodeSet}
use Rattle.exit_codes.specs.Flags.{set_from, set_of, contains-insert_nat}
use Rattle.exit_codes.proofs.FlagLaws.{contains-set_of}

pub same : (s t : CodeSet) → ((q : ℕ) → sets.contains s q ≡ sets.contains t q) → s ≡ t
same s t alike = sets.same_set nat_cmp_total sets.nat_cmp-IsAntisymmetric s t alike

set_from-unset : (n : ℕ) (flags : List Bool) → list_all not flags ≡ true → set_from n flags ≡ sets.empty
unfolding set_from
set_from-unset n [] e = refl
set_from-unset n (true ∷ flags) e = let k : false ≡ true = e in cc
set_from-unset n (false ∷ flags) e = set_from-unset (suc n) flags e

-- flags of which none is set
pub set_of-unset : (flags : List Bool) → list_all not flags ≡ true → set_of flags ≡ sets.empty
set_of-unset flags e = set_from-unset 0 flags e

get_or-flag : (flags : List Bool) (k q : ℕ) → k < length flags → get_or (set flags k true) q false ≡ ((q == k) || get_or flags q false)
get_or-flag flags k q within = elim (eqb_tells q k) [
  | inl (test, e) ↦ ap (λ j. get_or (set flags k true) j false) e ∙ get_or-set_same flags k true false within ∙ sym (ap (λ b. b || get_or flags q false) test)
  | inr (test, ne) ↦ get_or-set_other flags k q true false ne ∙ sym (ap (λ b. b || get_or flags q false) test)
]

-- one more flag
pub set_of-set : (flags : List Bool) (k : ℕ) → k < length flags → set_of (set flags k true) ≡ sets.insert (set_of flags) k
set_of-set flags k within =
    same _ _ (λ q. contains-set_of (set flags k true) q ∙ get_or-flag flags k q within ∙ ap (λ b. (q == k) || b) (sym (contains-set_of flags q)) ∙ sym (contains-insert_nat (set_of flags) k q))

-- the flags of either list
pub set_of-either : (flags a b : List Bool) → ((k : ℕ) → get_or flags k false ≡ (get_or a k false || get_or b k false)) → set_of flags ≡ sets.union (set_of a) (set_of b)
set_of-either flags a b each =
    same _ _ (λ q. contains-set_of flags q ∙ each q
    ∙ (let p = contains-set_of a q in let r = contains-set_of b q in rw (← p, ← r) refl)
    ∙ sym (sets.contains-union nat_cmp_total (set_of a) (set_of b) q))

-- what a loop over the flags has made, once it has passed both lists
pub set_of-joined : (flags a b : List Bool) (i : ℕ) → length a ≤ i → length b ≤ i
    → ((k : ℕ) → k < i → get_or flags k false ≡ (get_or a k false || get_or b k false))
    → ((k : ℕ) → i ≤ k → get_or flags k false ≡ get_or a k false)
    → set_of flags ≡ sets.union (set_of a) (set_of b)
set_of-joined flags a b i a_ends b_ends done left =
    set_of-either flags a b (λ k. elim (cases_lt k i) [
      | inl below ↦ done k below
      | inr past ↦
          let in_a = get_or_past a k false (omega arith) in
          let in_b = get_or_past b k false (omega arith) in
          left k past ∙ in_a ∙ sym (rw (in_a, in_b) refl)
    ])
