-- What is made of one element more.
use Rattle.std.specs.Prelude.{◌≡◌, ℕ, ◌+◌, ◌<◌, zero, suc, List, [], ◌∷◌, ◌++◌, length, take, map, filter, Bool, true, false, if◌then◌else◌}
use Rattle.std.specs.List.{enumerate_from, flat_map}
use Rattle.std.proofs.Common.{arith, refl, sym, ap, ◌∙◌, get_or, append_assoc, append-nil}
use Rattle.std.proofs.lemmas.Grind.{flat_map-append}
use Rattle.std.proofs.lemmas.List.{map-append}
use Rattle.std.proofs.lemmas.List.Elements.{filter-append}
use Rattle.sas_task.specs.Costs.{adjusted_cost}
use Rattle.sas_task.specs.WellFormed.{is_derived}
use Rattle.sas_task.specs.declared.contents.CostKind.{CostKind}
use Rattle.sas_task.specs.declared.contents.Variable.{Variable}
use Rattle.sas_task.specs.declared.contents.Operator.{Operator}
use Rattle.sas_task.specs.declared.contents.Parts.{Parts}
use Rattle.relaxed_task.specs.declared.unary.Unary.{Unary}
use Rattle.relaxed_task.specs.Facts.{fact_at}
use Rattle.relaxed_task.specs.Numbers.{number_by}
use Rattle.relaxed_task.specs.Making.{effect_by, operator_by, operators_by, defaults_by}

places_more : {X : Type 0} (k i : ℕ) (xs : List X) (d : X) → i < length xs → enumerate_from k (take (i + 1) xs) ≡ enumerate_from k (take i xs) ++ (k + i, get_or xs i d) ∷ []
places_more k i [] d lt = absurd (omega arith)
places_more k zero (x ∷ xs) d lt = let z : k + 0 ≡ k = omega arith in rw z refl
places_more k (suc i) (x ∷ xs) d lt =
    let e : suc i + 1 ≡ suc (i + 1) = omega arith in
    let z : k + suc i ≡ (k + 1) + i = omega arith in
    rw (e, z) (ap (λ t. (k, x) ∷ t) (places_more (k + 1) i xs d (omega arith)))

pub operators_more : (parts : Parts) (kind : CostKind) (offsets : List ℕ) (operators : List Operator) (i cost : ℕ) (o : Operator) (before made next : List Unary) → i < length operators → o ≡ get_or operators i o →
    cost ≡ adjusted_cost parts i kind → made ≡ before ++ operators_by parts kind offsets (take i operators) → next ≡ made ++ map (effect_by offsets i cost o.pre) o.effects →
    next ≡ before ++ operators_by parts kind offsets (take (i + 1) operators)
operators_more parts kind offsets operators i cost o before made next lt is costs so_far new =
    let z : 0 + i ≡ i = omega arith in
    let f : ℕ × Operator → List Unary = λ p. operator_by parts kind offsets p.0 p.1 in
    let places : enumerate_from 0 (take (i + 1) operators) ≡ enumerate_from 0 (take i operators) ++ (i, o) ∷ [] = places_more 0 i operators o lt ∙ rw (z, ← is) refl in
    let all : operators_by parts kind offsets (take (i + 1) operators) ≡ operators_by parts kind offsets (take i operators) ++ operator_by parts kind offsets i o =
    ap (flat_map f) places ∙ (flat_map-append f (enumerate_from 0 (take i operators)) ((i, o) ∷ []) ∙ ap (λ t. operators_by parts kind offsets (take i operators) ++ t) (append-nil (operator_by parts kind offsets i o))) in
    let added : map (effect_by offsets i cost o.pre) o.effects ≡ operator_by parts kind offsets i o = ap (λ (n : ℕ). map (effect_by offsets i n o.pre) o.effects) costs in
    new ∙ (ap (λ t. t ++ map (effect_by offsets i cost o.pre) o.effects) so_far
    ∙ (append_assoc before (operators_by parts kind offsets (take i operators)) (map (effect_by offsets i cost o.pre) o.effects)
    ∙ ap (λ t. before ++ t) (ap (λ t. operators_by parts kind offsets (take i operators) ++ t) added ∙ sym all)))

pub defaults_more : (offsets : List ℕ) (variables : List Variable) (init : List ℕ) (i value : ℕ) (b : Bool) (made next : List ℕ) → i < length init → value ≡ get_or init i 0 → made ≡ defaults_by offsets variables (take i init) → is_derived variables i ≡ b →
    next ≡ (if b then made ++ number_by offsets (fact_at i value) ∷ [] else made) → next ≡ defaults_by offsets variables (take (i + 1) init)
defaults_more offsets variables init i value b made next lt is so_far derived new = by_test b derived new
  where
    z : 0 + i ≡ i
    z = omega arith

    places : enumerate_from 0 (take (i + 1) init) ≡ enumerate_from 0 (take i init) ++ (i, value) ∷ []
    places = places_more 0 i init 0 lt ∙ rw (z, ← is) refl

    all : defaults_by offsets variables (take (i + 1) init) ≡
        defaults_by offsets variables (take i init) ++ map (λ (p : ℕ × ℕ). number_by offsets (fact_at p.0 p.1)) (filter (λ (p : ℕ × ℕ). is_derived variables p.0) ((i, value) ∷ []))
    all =
        let f : ℕ × ℕ → ℕ = λ p. number_by offsets (fact_at p.0 p.1) in
        let q : ℕ × ℕ → Bool = λ p. is_derived variables p.0 in
        ap (λ (t : List (ℕ × ℕ)). map f (filter q t)) places
        ∙ (ap (map f) (filter-append q (enumerate_from 0 (take i init)) ((i, value) ∷ [])) ∙ map-append f (filter q (enumerate_from 0 (take i init))) (filter q ((i, value) ∷ [])))

    by_test : (b : Bool) → is_derived variables i ≡ b → next ≡ (if b then made ++ number_by offsets (fact_at i value) ∷ [] else made) → next ≡ defaults_by offsets variables (take (i + 1) init)
    by_test true derived new = new ∙ (ap (λ t. t ++ number_by offsets (fact_at i value) ∷ []) so_far ∙ sym (all ∙ rw derived refl))
    by_test false derived new = new ∙ (so_far ∙ sym (all ∙ rw derived (append-nil (defaults_by offsets variables (take i init)))))
