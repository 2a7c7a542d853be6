-- Rows of conditions that grow, and changes that stand for effects.
use Rattle.std.proofs.Common.{◌≡◌, ◌∙◌, sym, ap, refl, ℕ, zero, suc, ◌+◌, ◌<◌, List, [], ◌∷◌, ◌++◌, length, map, take, get_or, true, arith, length-append}
use Rattle.std.specs.List.{list_all}
use Rattle.std.proofs.lemmas.Bool.Decides.{nat_tests}
use Rattle.std.proofs.lemmas.List.{take_more, map-append}
use Rattle.std.proofs.lemmas.List.Folds.{list_all-append}
use Rattle.lama_num.proofs.ListLaws.{both}
use Rattle.lama_num.specs.Rows.{row_at}
use Rattle.sas_task.specs.declared.contents.Fact.{Fact}
use Rattle.sas_task.specs.declared.contents.Effect.{Effect}
use Rattle.sas_task.specs.declared.contents.Operator.{Operator}
use Rattle.state_step.specs.declared.tables.Change.{Change}
use Rattle.state_step.specs.Tables.{effect_of, is_row, AreEffects, Grows, AddsChange, AddsChanges}

front_row : {X : Type 0} (xs ys : List (List X)) (i : ℕ) → i < length xs → row_at (xs ++ ys) i ≡ row_at xs i
front_row [] ys i lt = absurd (omega arith)
front_row (x ∷ xs) ys zero lt = refl
front_row (x ∷ xs) ys (suc i) lt = front_row xs ys i (omega arith)

last_row : {X : Type 0} (xs : List (List X)) (row : List X) → row_at (xs ++ row ∷ []) (length xs) ≡ row
last_row [] row = refl
last_row (x ∷ xs) row = last_row xs row

pub grows_none : (rows : List (List Fact)) → Grows rows rows
grows_none rows = record { long = omega arith; same = λ i lt. refl }

grows_on : (old mid new : List (List Fact)) → Grows old mid → Grows mid new → Grows old new
grows_on old mid new first second = record {
  long = omega (arith, first.long, second.long);
  same = λ i lt. second.same i (omega (arith, first.long)) ∙ first.same i lt;
}

grows_pushed : (old new : List (List Fact)) (row : List Fact) → new ≡ old ++ row ∷ [] → Grows old new
grows_pushed old new row is = record {
  long = omega (arith, ap length is, length-append old (row ∷ []));
  same = λ i lt. ap (λ rows. row_at rows i) is ∙ front_row old (row ∷ []) i lt;
}

abbrev make : List Fact → Fact → Effect
make conds fact = record { conds = conds; fact = fact }

stands_for : (conds : List Fact) (fact : Fact) (effect : Effect) → conds ≡ effect.conds → fact ≡ effect.fact → make conds fact ≡ effect
stands_for conds fact effect same_conds same_fact = ap (λ (r : List Fact). make r fact) same_conds ∙ ap (make effect.conds) same_fact

-- an effect without conditions has row 0
pub adds_bare : (effect : Effect) (change : Change) (rows : List (List Fact)) → effect.conds ≡ [] → row_at rows 0 ≡ [] → 0 < length rows → change.fact ≡ effect.fact → change.conds ≡ 0 → AddsChange effect change rows rows
adds_bare effect change rows bare none some fact row = record {
  grows = grows_none rows;
  is = stands_for _ _ effect (ap (row_at rows) row ∙ (none ∙ sym bare)) fact;
  row = omega arith;
}

-- one with conditions has the last row
pub adds_row : (effect : Effect) (change : Change) (old new : List (List Fact)) → new ≡ old ++ effect.conds ∷ [] → change.fact ≡ effect.fact → change.conds ≡ length old → AddsChange effect change old new
adds_row effect change old new is fact row = record {
  grows = grows_pushed old new effect.conds is;
  is = stands_for _ _ effect (ap (row_at new) row ∙ (ap (λ rows. row_at rows (length old)) is ∙ last_row old effect.conds)) fact;
  row = omega (arith, ap length is, length-append old (effect.conds ∷ []));
}

-- what stands for an effect does so when rows grow
effect_kept : (old new : List (List Fact)) (change : Change) → Grows old new → is_row (length old) change ≡ true → effect_of new change ≡ effect_of old change
effect_kept old new change grows is =
    let lt : change.conds < length old = grind (arith, nat_tests, is) in
    let same = grows.same change.conds lt in
    cc

row_kept : (old new : List (List Fact)) (change : Change) → Grows old new → is_row (length old) change ≡ true → is_row (length new) change ≡ true
row_kept old new change grows is =
    let long = grows.long in
    grind (arith, nat_tests, is)

effects_kept : (old new : List (List Fact)) (changes : List Change) → Grows old new → list_all (is_row (length old)) changes ≡ true → map (effect_of new) changes ≡ map (effect_of old) changes
effects_kept old new [] grows are = refl
effects_kept old new (change ∷ changes) grows are =
    let parts = both (is_row (length old) change) (list_all (is_row (length old)) changes) are in
    let here = effect_kept old new change grows parts.0 in
    let rest = effects_kept old new changes grows parts.1 in
    cc

rows_kept : (old new : List (List Fact)) (changes : List Change) → Grows old new → list_all (is_row (length old)) changes ≡ true → list_all (is_row (length new)) changes ≡ true
rows_kept old new [] grows are = refl
rows_kept old new (change ∷ changes) grows are =
    let parts = both (is_row (length old) change) (list_all (is_row (length old)) changes) are in
    rw (row_kept old new change grows parts.0) (rows_kept old new changes grows parts.1)

all_effects_kept : (old new : List (List Fact)) (table : List (List Change)) → Grows old new → list_all (list_all (is_row (length old))) table ≡ true → map (map (effect_of new)) table ≡ map (map (effect_of old)) table
all_effects_kept old new [] grows are = refl
all_effects_kept old new (changes ∷ table) grows are =
    let parts = both (list_all (is_row (length old)) changes) (list_all (list_all (is_row (length old))) table) are in
    let here = effects_kept old new changes grows parts.0 in
    let rest = all_effects_kept old new table grows parts.1 in
    cc

all_rows_kept : (old new : List (List Fact)) (table : List (List Change)) → Grows old new → list_all (list_all (is_row (length old))) table ≡ true → list_all (list_all (is_row (length new))) table ≡ true
all_rows_kept old new [] grows are = refl
all_rows_kept old new (changes ∷ table) grows are =
    let parts = both (list_all (is_row (length old)) changes) (list_all (list_all (is_row (length old))) table) are in
    rw (rows_kept old new changes grows parts.0) (all_rows_kept old new table grows parts.1)

pub adds_none : (rows : List (List Fact)) → AddsChanges [] [] rows rows
adds_none rows = record { grows = grows_none rows; are = refl; rows = refl }

-- one more effect
pub adds_more : (effects : List Effect) (i : ℕ) (effect : Effect) (changes now : List Change) (change : Change) (old mid new : List (List Fact)) → i < length effects → effect ≡ get_or effects i effect →
    AddsChanges (take i effects) changes old mid → AddsChange effect change mid new → now ≡ changes ++ change ∷ [] → AddsChanges (take (i + 1) effects) now old new
adds_more effects i effect changes now change old mid new lt at so one is = record {
  grows = grows_on old mid new so.grows one.grows;
  are = (let kept = effects_kept mid new changes one.grows so.rows in
      let last = one.is in
      let joined = map-append (effect_of new) changes (change ∷ []) in
      let before = so.are in
      let more = take_more effects i effect lt in
      rw (is, joined, kept, before, last, more, ← at) refl);
  rows = (let kept = rows_kept mid new changes one.grows so.rows in
      let row = one.row in
      let last : is_row (length new) change ≡ true = grind (arith, nat_tests) in
      rw (is, list_all-append (is_row (length new)) changes (change ∷ []), kept, last) refl);
}

pub effects_none : (conds : List (List Fact)) → row_at conds 0 ≡ [] → AreEffects [] [] conds
effects_none conds none = record { effects = refl; rows = refl; none = none }

-- one more operator
pub effects_more : (operators : List Operator) (i : ℕ) (o : Operator) (effects : List Effect) (changes : List Change) (table now : List (List Change)) (old new : List (List Fact)) → i < length operators → o ≡ get_or operators i o → effects ≡ o.effects → 0 < length old →
    AreEffects (take i operators) table old → AddsChanges effects changes old new → now ≡ table ++ changes ∷ [] → AreEffects (take (i + 1) operators) now new
effects_more operators i o effects changes table now old new lt at shown some so one is = record {
  effects = (let kept = all_effects_kept old new table one.grows so.rows in
      let last = one.are ∙ shown in
      let joined = map-append (map (effect_of new)) table (changes ∷ []) in
      let before = so.effects in
      let split = map-append (λ (x : Operator). x.effects) (take i operators) (o ∷ []) in
      let more = take_more operators i o lt in
      rw (is, joined, kept, before, last, more, ← at, split) refl);
  rows = (let kept = all_rows_kept old new table one.grows so.rows in
      rw (is, list_all-append (list_all (is_row (length new))) table (changes ∷ []), kept, one.rows) refl);
  none = one.grows.same 0 some ∙ so.none;
}
