-- A set of numbers as a list of flags, one for each number from 0 on.
use Rattle.std.proofs.Common.{◌≡◌, ℕ, ◌+◌, ◌<◌, Bool, true, false, ◌||◌, ◌==◌, List, [], ◌∷◌, length, get_or, zero, suc, refl, sym, ap, ◌∙◌, arith}
use Rattle.std.proofs.lemmas.Bool.{ne_eqb, eq-eqb}
use Rattle.std.specs.Ordering.{nat_cmp}
use Rattle.std.specs.Cmp.{nat_cmp_total, unsigned_tied}
use Rattle.std.specs.FinSet as set
use Rattle.exit_codes.specs.Sets.{CodeSet}

-- the numbers of the flags that are set, the first flag having number n
unfoldable pub set_from : ℕ → List Bool → CodeSet
set_from n [] = set.empty
set_from n (true ∷ flags) = set.insert (set_from (suc n) flags) n
set_from n (false ∷ flags) = set_from (suc n) flags

abbrev pub set_of : List Bool → CodeSet
set_of flags = set_from 0 flags

-- the flags of the numbers from n on, as many as are asked for
unfoldable pub flags_from : ℕ → ℕ → CodeSet → List Bool
flags_from n zero codes = []
flags_from n (suc count) codes = set.contains codes n ∷ flags_from (suc n) count codes

-- the flags of the numbers below 64
abbrev pub flags_of : CodeSet → List Bool
flags_of codes = flags_from 0 64 codes

pub contains-insert_nat : (codes : CodeSet) (k q : ℕ) → set.contains (set.insert codes k) q ≡ ((q == k) || set.contains codes q)
contains-insert_nat codes k q = set.contains-insert nat_cmp_total codes k q ∙ ap (λ b. b || set.contains codes q) (unsigned_tied q k)

-- no number below the first is in the set
pub contains-set_from_below : (n q : ℕ) (flags : List Bool) → q < n → set.contains (set_from n flags) q ≡ false
unfolding set_from
contains-set_from_below n q [] lt = set.contains-empty nat_cmp q
contains-set_from_below n q (true ∷ flags) lt =
    contains-insert_nat (set_from (suc n) flags) n q
    ∙ ap (λ b. b || set.contains (set_from (suc n) flags) q) (ne_eqb q n (λ e. absurd (omega arith)))
    ∙ contains-set_from_below (suc n) q flags (omega arith)
contains-set_from_below n q (false ∷ flags) lt = contains-set_from_below (suc n) q flags (omega arith)

-- the set has a number where its flag is set
pub contains-set_from : (n k q : ℕ) (flags : List Bool) → n + k ≡ q → set.contains (set_from n flags) q ≡ get_or flags k false
unfolding set_from
contains-set_from n k q [] e = set.contains-empty nat_cmp q
contains-set_from n zero q (true ∷ flags) e =
    contains-insert_nat (set_from (suc n) flags) n q
    ∙ ap (λ b. b || set.contains (set_from (suc n) flags) q) (eq-eqb q n (omega arith))
contains-set_from n zero q (false ∷ flags) e = contains-set_from_below (suc n) q flags (omega arith)
contains-set_from n (suc k) q (true ∷ flags) e =
    contains-insert_nat (set_from (suc n) flags) n q
    ∙ ap (λ b. b || set.contains (set_from (suc n) flags) q) (ne_eqb q n (λ same. absurd (omega arith)))
    ∙ contains-set_from (suc n) k q flags (omega arith)
contains-set_from n (suc k) q (false ∷ flags) e = contains-set_from (suc n) k q flags (omega arith)

-- flags that tell of each number what the set says are the set's
flags_from-told : (n : ℕ) (codes : CodeSet) (flags : List Bool) → ((k : ℕ) → set.contains codes (n + k) ≡ get_or flags k false) → flags_from n (length flags) codes ≡ flags
unfolding flags_from
flags_from-told n codes [] told = refl
flags_from-told n codes (flag ∷ flags) told =
    let here : set.contains codes n ≡ flag = ap (set.contains codes) (omega arith) ∙ told 0 in
    let rest : flags_from (suc n) (length flags) codes ≡ flags =
    flags_from-told (suc n) codes flags (λ k. ap (set.contains codes) (omega arith) ∙ told (suc k)) in
    cc

pub flags_of-set_of : (flags : List Bool) → length flags ≡ 64 → flags_of (set_of flags) ≡ flags
flags_of-set_of flags has_64 =
    ap (λ n. flags_from 0 n (set_of flags)) (sym has_64)
    ∙ flags_from-told 0 (set_of flags) flags (λ k. contains-set_from 0 k (0 + k) flags refl)
