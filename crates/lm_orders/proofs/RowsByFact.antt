-- Rows by each of their facts.
use Rattle.std.proofs.Common.{◌≡◌, ◌∙◌, sym, ap, refl, ℕ, ◌+◌, ◌<◌, ◌⊎◌, inl, inr, List, [], ◌∷◌, ◌++◌, length, take, subst, Bool, true, false, ◌||◌, ◌&&◌, not, nat_eq, arith}
use Rattle.std.specs.List.{list_any}
use Rattle.std.proofs.lemmas.Bool.{cases_eq, eq-eqb, ne_eqb, and_parts, and_from, eqb-true}
use Rattle.std.proofs.lemmas.List.{take_more, length-take}
use Rattle.std.proofs.lemmas.Map.Keys.{any_passes_from_place}
use Rattle.lama_num.specs.Rows.{row_at}
use Rattle.sas_task.specs.Facts.{same_fact, has_fact, are_mutex}
use Rattle.sas_task.specs.declared.contents.Fact.{Fact}
use Rattle.sas_task.specs.declared.contents.Parts.{Parts}
use Rattle.lm_graph.specs.declared.fact_table.FactTable.{FactTable}
use Rattle.lm_graph.specs.FactTables.{numbers_at, AddsNumber}
use Rattle.lm_orders.specs.Givers.{Indexes}
use Rattle.lm_orders.specs.Tables.{share, mutex_by}
use Rattle.lm_orders.proofs.ListLaws.{row_past, row_last, row_other, row_place, row_read}
use Rattle.lama_num.proofs.ListLaws.{any_get}
use Rattle.lama_num.proofs.BoolLaws.{both_ways}

pub indexes_none : (table : FactTable) → ((fact : Fact) → numbers_at table fact ≡ []) → Indexes [] table
indexes_none table none = record { each = λ fact n. ap (list_any (nat_eq n)) (none fact) }

pub indexes_more : (rows : List (List Fact)) (row : List Fact) (old new : FactTable) (n : ℕ) → n ≡ length rows → Indexes rows old → AddsNumber old new row n → Indexes (rows ++ row ∷ []) new
indexes_more rows row old new n long so_far adds = record {
  each = λ fact m. adds.each fact (nat_eq m) ∙ (ap (λ b. b || (has_fact row fact && nat_eq m n)) (so_far.each fact m) ∙ by fact m (cases_eq m n));
}
  where
    and_true : (b : Bool) → (b && true) ≡ b
    and_true true = refl
    and_true false = refl

    or_none : (a b : Bool) → (a || (b && false)) ≡ a
    or_none true b = refl
    or_none false true = refl
    or_none false false = refl

    by : (fact : Fact) (m : ℕ) → (m ≡ n) ⊎ (m ≡ n → ⊥) → (has_fact (row_at rows m) fact || (has_fact row fact && nat_eq m n)) ≡ has_fact (row_at (rows ++ row ∷ []) m) fact
    by fact m (inl same) =
        let here : nat_eq m n ≡ true = eq-eqb m n same in
        let past : row_at rows m ≡ [] = row_past rows m (omega arith) in
        let last : row_at (rows ++ row ∷ []) m ≡ row = ap (row_at (rows ++ row ∷ [])) (same ∙ long) ∙ row_last rows row in
        ap (λ (r : List Fact). has_fact r fact || (has_fact row fact && nat_eq m n)) past
        ∙ (ap (λ b. has_fact row fact && b) here ∙ (and_true (has_fact row fact) ∙ ap (λ (r : List Fact). has_fact r fact) (sym last)))
    by fact m (inr ne) =
        let other = row_other rows row m (λ e. ne (e ∙ sym long)) in
        ap (λ b. has_fact (row_at rows m) fact || (has_fact row fact && b)) (ne_eqb m n ne)
        ∙ (or_none (has_fact (row_at rows m) fact) (has_fact row fact) ∙ ap (λ (r : List Fact). has_fact r fact) (sym other))

pub indexes_next : (rows : List (List Fact)) (row : List Fact) (old new : FactTable) (n : ℕ) → n < length rows → row ≡ row_at rows n → Indexes (take n rows) old → AddsNumber old new row n → Indexes (take (n + 1) rows) new
indexes_next rows row old new n lt is so_far adds =
    subst (λ rs. Indexes rs new) (ap (λ r. take n rows ++ r ∷ []) is ∙ sym (take_more rows n [] lt))
    (indexes_more (take n rows) row old new n (omega (arith, length-take {A = List Fact} n rows, lt)) so_far adds)

-- facts that share a group
pub shares_group : (groups : List (List Fact)) (table : FactTable) (a b : Fact) → Indexes groups table → share (numbers_at table a) (numbers_at table b) ≡ list_any (λ group. has_fact group a && has_fact group b) groups
shares_group groups table a b indexes = both_ways _ _ there back
  where
    there : share (numbers_at table a) (numbers_at table b) ≡ true → list_any (λ group. has_fact group a && has_fact group b) groups ≡ true
    there h =
        let r = any_get (λ x. list_any (nat_eq x) (numbers_at table b)) (numbers_at table a) h in
        let in_a = sym (indexes.each a r.1) ∙ any_passes_from_place (nat_eq r.1) (numbers_at table a) r.0 r.1 r.2 (eq-eqb r.1 r.1 refl) in
        let in_b = sym (indexes.each b r.1) ∙ r.3 in
        let g = row_place groups r.1 a in_a in
        any_passes_from_place (λ group. has_fact group a && has_fact group b) groups r.1 (row_at groups r.1) g (and_from _ _ in_a in_b)

    back : list_any (λ group. has_fact group a && has_fact group b) groups ≡ true → share (numbers_at table a) (numbers_at table b) ≡ true
    back h =
        let r = any_get (λ group. has_fact group a && has_fact group b) groups h in
        let t = and_parts _ _ r.3 in
        let is = row_read groups r.0 r.1 r.2 in
        let in_a = indexes.each a r.0 ∙ (ap (λ (g : List Fact). has_fact g a) is ∙ t.0) in
        let in_b = indexes.each b r.0 ∙ (ap (λ (g : List Fact). has_fact g b) is ∙ t.1) in
        let s = any_get (nat_eq r.0) (numbers_at table a) in_a in
        any_passes_from_place (λ x. list_any (nat_eq x) (numbers_at table b)) (numbers_at table a) s.0 s.1 s.2 (ap (λ x. list_any (nat_eq x) (numbers_at table b)) (sym (eqb-true r.0 s.1 s.3)) ∙ in_b)

pub mutex_same : (parts : Parts) (groups : FactTable) (a b : Fact) → Indexes parts.groups groups → mutex_by groups a b ≡ are_mutex parts a b
mutex_same parts groups a b indexes = ap (λ shared. not (same_fact a b) && (nat_eq a.var b.var || shared)) (shares_group parts.groups groups a b indexes)
