-- The critical errors among the codes up to one more.
use Rattle.std.proofs.Common.{◌≡◌, ℕ, ◌+◌, ◌-◌, ◌≤◌, true, false, List, [], ◌∷◌, ◌++◌, zero, suc, refl, sym, ap, ◌∙◌, arith, add-zero, Some, is_some}
use Rattle.std.proofs.lemmas.List.{append-nil}
use Rattle.std.proofs.lemmas.List.Elements.{filter-append}
use Rattle.std.specs.List.{filter, range_with_len}
use Rattle.std.specs.FinSet as sets
use Rattle.exit_codes.specs.Sets.{CodeSet}
use Rattle.exit_codes.specs.Combined.{single_critical, codes_between}

range_with_len-suc : (first n : ℕ) → range_with_len first (suc n) ≡ range_with_len first n ++ (first + n) ∷ []
range_with_len-suc first zero = ap (λ k. k ∷ []) (sym (add-zero first))
range_with_len-suc first (suc n) =
    ap (λ ks. first ∷ ks) (range_with_len-suc (first + 1) n) ∙ ap (λ k. first ∷ (range_with_len (first + 1) n ++ k ∷ [])) (omega arith)

range_with_len-to : (first code : ℕ) → first ≤ code → range_with_len first (code + 1 - first) ≡ range_with_len first (code - first) ++ code ∷ []
range_with_len-to first code from =
    let one_more : code + 1 - first ≡ suc (code - first) = omega arith in
    ap (range_with_len first) one_more
    ∙ range_with_len-suc first (code - first)
    ∙ ap (λ k. range_with_len first (code - first) ++ k ∷ []) (omega arith)

pub codes_between-none : (codes : CodeSet) (low : ℕ) → codes_between codes low low ≡ []
unfolding codes_between
codes_between-none codes low = let none : low - low ≡ 0 = omega arith in rw none refl

-- a code of the set comes at the end
pub codes_between-with : (codes : CodeSet) (low code : ℕ) → low ≤ code → sets.contains codes code ≡ true → codes_between codes low (code + 1) ≡ codes_between codes low code ++ code ∷ []
unfolding codes_between
codes_between-with codes low code from passes =
    ap (filter (sets.contains codes)) (range_with_len-to low code from)
    ∙ filter-append (sets.contains codes) (range_with_len low (code - low)) (code ∷ [])
    ∙ (rw passes refl)

pub codes_between-without : (codes : CodeSet) (low code : ℕ) → low ≤ code → sets.contains codes code ≡ false → codes_between codes low (code + 1) ≡ codes_between codes low code
unfolding codes_between
codes_between-without codes low code from fails =
    ap (filter (sets.contains codes)) (range_with_len-to low code from)
    ∙ filter-append (sets.contains codes) (range_with_len low (code - low)) (code ∷ [])
    ∙ (rw fails (append-nil (filter (sets.contains codes) (range_with_len low (code - low)))))

pub single_critical-first : (codes : List ℕ) (code : ℕ) → is_some (single_critical codes) ≡ false → single_critical (codes ++ code ∷ []) ≡ Some code
single_critical-first [] code none = refl
single_critical-first (a ∷ []) code none = let k : true ≡ false = none in cc
single_critical-first (a ∷ b ∷ codes) code none = let k : true ≡ false = none in cc

pub single_critical-second : (codes : List ℕ) (code : ℕ) → is_some (single_critical codes) ≡ true → single_critical (codes ++ code ∷ []) ≡ Some 32
single_critical-second [] code some = let k : false ≡ true = some in cc
single_critical-second (a ∷ []) code some = refl
single_critical-second (a ∷ b ∷ codes) code some = refl
