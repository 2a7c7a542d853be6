-- What the tables have for an operator.
use Rattle.std.proofs.Common.{◌≡◌, ◌∙◌, sym, ap, refl, ℕ, zero, suc, ◌<◌, List, [], ◌∷◌, length, map, get_or, true, Some, arith, slice_get}
use Rattle.std.specs.List.{list_all}
use Rattle.std.proofs.lemmas.Bool.Decides.{nat_tests}
use Rattle.lama_num.proofs.ListLaws.{both}
use Rattle.lama_num.specs.Rows.{row_at}
use Rattle.sas_task.specs.declared.contents.Fact.{Fact}
use Rattle.sas_task.specs.declared.contents.Operator.{Operator}
use Rattle.sas_task.specs.declared.contents.Parts.{Parts}
use Rattle.sas_task.specs.WellFormed.{IsWellFormed}
use Rattle.sas_task.specs.States.{all_hold, written, settled, step}
use Rattle.axiom_eval.specs.Within.{is_within}
use Rattle.state_step.specs.Steps.{effect_is_within, is_applicable}
use Rattle.sas_task.proofs.RunLaws.{step-applicable}
use Rattle.state_step.specs.declared.tables.Change.{Change}
use Rattle.state_step.specs.Tables.{effect_of, is_row, AreEffects}
use Rattle.state_step.proofs.RunLaws.{pre_within, effects_within}

pub row_mapped : {X Y : Type 0} (f : X → List Y) (xs : List X) (i : ℕ) (x : X) → slice_get xs i ≡ Some x → row_at (map f xs) i ≡ f x
row_mapped f [] i x at = let k : ◌≡◌ {A = _} (slice_get [] i) (Some x) = at in cc
row_mapped f (y ∷ xs) zero x at = let k : Some y ≡ Some x = at in let same : y ≡ x = cc in ap f same
row_mapped f (y ∷ xs) (suc i) x at = row_mapped f xs i x at

row_effects : (conds : List (List Fact)) (table : List (List Change)) (i : ℕ) → row_at (map (map (effect_of conds)) table) i ≡ map (effect_of conds) (row_at table i)
row_effects conds [] i = refl
row_effects conds (changes ∷ table) zero = refl
row_effects conds (changes ∷ table) (suc i) = row_effects conds table i

-- the changes of an operator stand for its effects
pub changes_at : (operators : List Operator) (table : List (List Change)) (conds : List (List Fact)) (i : ℕ) (o : Operator) → AreEffects operators table conds → slice_get operators i ≡ Some o → map (effect_of conds) (row_at table i) ≡ o.effects
changes_at operators table conds i o are at = sym (row_effects conds table i) ∙ (ap (λ rows. row_at rows i) are.effects ∙ row_mapped (λ (x : Operator). x.effects) operators i o at)

pub rows_at : (n : ℕ) (table : List (List Change)) (i : ℕ) → list_all (list_all (is_row n)) table ≡ true → list_all (is_row n) (row_at table i) ≡ true
rows_at n [] i are = refl
rows_at n (changes ∷ table) zero are = (both (list_all (is_row n) changes) (list_all (list_all (is_row n)) table) are).0
rows_at n (changes ∷ table) (suc i) are = rows_at n table i (both (list_all (is_row n) changes) (list_all (list_all (is_row n)) table) are).1

-- the effect of a change by its place
pub effect_at : (conds : List (List Fact)) (changes : List Change) (i : ℕ) (d : Change) → i < length changes → effect_of conds (get_or changes i d) ≡ get_or (map (effect_of conds) changes) i (effect_of conds (get_or changes i d))
effect_at conds [] i d lt = absurd (omega arith)
effect_at conds (change ∷ changes) zero d lt = refl
effect_at conds (change ∷ changes) (suc i) d lt = effect_at conds changes i d (omega arith)

within_at : (n : ℕ) (conds : List (List Fact)) (changes : List Change) (i : ℕ) (d : Change) → list_all (effect_is_within n) (map (effect_of conds) changes) ≡ true → i < length changes → effect_is_within n (effect_of conds (get_or changes i d)) ≡ true
within_at n conds [] i d are lt = absurd (omega arith)
within_at n conds (change ∷ changes) zero d are lt = (both (effect_is_within n (effect_of conds change)) (list_all (effect_is_within n) (map (effect_of conds) changes)) are).0
within_at n conds (change ∷ changes) (suc i) d are lt = within_at n conds changes i d (both (effect_is_within n (effect_of conds change)) (list_all (effect_is_within n) (map (effect_of conds) changes)) are).1 (omega arith)

pub conds_within_at : (n : ℕ) (conds : List (List Fact)) (changes : List Change) (i : ℕ) (d : Change) → list_all (effect_is_within n) (map (effect_of conds) changes) ≡ true → i < length changes → list_all (is_within n) (row_at conds (get_or changes i d).conds) ≡ true
conds_within_at n conds changes i d are lt = (both (list_all (is_within n) (row_at conds (get_or changes i d).conds)) (is_within n (get_or changes i d).fact) (within_at n conds changes i d are lt)).0

pub fact_within_at : (n : ℕ) (conds : List (List Fact)) (changes : List Change) (i : ℕ) (d : Change) → list_all (effect_is_within n) (map (effect_of conds) changes) ≡ true → i < length changes → (get_or changes i d).fact.var < n
fact_within_at n conds changes i d are lt =
    let within = (both (list_all (is_within n) (row_at conds (get_or changes i d).conds)) (is_within n (get_or changes i d).fact) (within_at n conds changes i d are lt)).1 in
    grind (arith, nat_tests, within)

pub mapped_long : (conds : List (List Fact)) (changes : List Change) → length (map (effect_of conds) changes) ≡ length changes
mapped_long conds [] = refl
mapped_long conds (change ∷ changes) = let rest = mapped_long conds changes in omega arith

operator_there : (operators : List Operator) (op : ℕ) → op < length operators → (o : Operator) × (slice_get operators op ≡ Some o)
operator_there [] op lt = absurd (omega arith)
operator_there (o ∷ operators) zero lt = (o, refl)
operator_there (o ∷ operators) (suc op) lt = operator_there operators op (omega arith)

-- the row of an operator has its preconditions
pub pre_row_within : (parts : Parts) (n : ℕ) (pre : List (List Fact)) (op : ℕ) → IsWellFormed parts → n ≡ length parts.variables → pre ≡ map (λ o. o.pre) parts.operators → op < length parts.operators → list_all (is_within n) (row_at pre op) ≡ true
pre_row_within parts n pre op formed long is lt =
    let there = operator_there parts.operators op lt in
    rw (is, row_mapped (λ (x : Operator). x.pre) parts.operators op there.0 there.1) (pre_within parts n op there.0 formed long there.1)

pub pre_row_holds : (parts : Parts) (state : List ℕ) (pre : List (List Fact)) (op : ℕ) → pre ≡ map (λ o. o.pre) parts.operators → op < length parts.operators → all_hold state (row_at pre op) ≡ is_applicable parts state op
pre_row_holds parts state pre op is lt =
    let there = operator_there parts.operators op lt in
    rw (is, row_mapped (λ (x : Operator). x.pre) parts.operators op there.0 there.1, there.1) refl

-- and the row of changes its effects
pub changes_within : (parts : Parts) (n : ℕ) (table : List (List Change)) (conds : List (List Fact)) (op : ℕ) → IsWellFormed parts → n ≡ length parts.variables → AreEffects parts.operators table conds → op < length parts.operators →
    list_all (effect_is_within n) (map (effect_of conds) (row_at table op)) ≡ true
changes_within parts n table conds op formed long are lt =
    let there = operator_there parts.operators op lt in
    rw (changes_at parts.operators table conds op there.0 are there.1) (effects_within parts n op there.0 formed long there.1)

pub changes_step : (parts : Parts) (state mid out : List ℕ) (table : List (List Change)) (conds : List (List Fact)) (op : ℕ) → AreEffects parts.operators table conds → op < length parts.operators → is_applicable parts state op ≡ true →
    mid ≡ written state (map (effect_of conds) (row_at table op)) → out ≡ settled parts mid → step parts state op ≡ Some out
changes_step parts state mid out table conds op are lt applicable wrote settles =
    let there = operator_there parts.operators op lt in
    let after : mid ≡ written state there.0.effects = wrote ∙ ap (written state) (changes_at parts.operators table conds op there.0 are there.1) in
    step-applicable parts state op there.0 there.1 applicable ∙ ap (λ xs. Some xs) (sym (settles ∙ ap (settled parts) after))
