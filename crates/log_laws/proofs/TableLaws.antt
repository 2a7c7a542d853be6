-- The latest visits by id, and the ids of states.
use Rattle.std.proofs.Common.{◌≡◌, ◌≢◌, ℕ, ◌+◌, ◌<◌, ◌≤◌, Bool, List, [], ◌∷◌, ◌++◌, length, slice_get, Some, ap, sym, ◌∙◌, arith, inl, inr, ◌⊎◌}
use Rattle.std.specs.Prelude.{slice_set, if◌then◌else◌}
use Rattle.std.specs.Str.{bytes_eq}
use Rattle.std.proofs.lemmas.List.{length-append, length-set}
use Rattle.std.proofs.lemmas.List.Sums.{fold-append}
use Rattle.std.proofs.lemmas.Bool.{cases_eq, cases_lt, lt-ltb, le-ltb}
use Rattle.std.proofs.lemmas.Slice.Eq.{bytes_eq-Decides}
use Rattle.search_log.specs.Places.{Node, latest, put_latest, id_of}
use Rattle.log_laws.proofs.Elements.{slice_get-push_other, slice_get-set_same, slice_get-set_other, position_passes, position_first, position_within}
use Rattle.lama_num.proofs.ListLaws.{slice_get-append_last as slice_get-push_at}

pub latest-push : (nodes : List Node) (n : Node) → latest (nodes ++ n ∷ []) ≡ put_latest (latest nodes) n
latest-push nodes n = fold-append put_latest [] nodes (n ∷ [])

pub put_latest-at : (table : List Node) (n : Node) → n.visit.id ≤ length table → slice_get (put_latest table n) n.visit.id ≡ Some n
put_latest-at table n h =
    elim (cases_lt n.visit.id (length table)) [
      | inl l ↦ ap (λ b. slice_get (if b then slice_set table n.visit.id n else table ++ n ∷ []) n.visit.id) (lt-ltb _ _ l) ∙ slice_get-set_same table n.visit.id n l
      | inr g ↦
          let e : n.visit.id ≡ length table = omega arith in
          ap (λ b. slice_get (if b then slice_set table n.visit.id n else table ++ n ∷ []) n.visit.id) (le-ltb _ _ g) ∙ ap (slice_get (table ++ n ∷ [])) e ∙ slice_get-push_at table n
    ]

pub put_latest-other : (table : List Node) (n : Node) (i : ℕ) → n.visit.id ≤ length table → i ≢ n.visit.id → slice_get (put_latest table n) i ≡ slice_get table i
put_latest-other table n i h ne =
    elim (cases_lt n.visit.id (length table)) [
      | inl l ↦ ap (λ b. slice_get (if b then slice_set table n.visit.id n else table ++ n ∷ []) i) (lt-ltb _ _ l) ∙ slice_get-set_other table n.visit.id i n ne
      | inr g ↦
          let e : n.visit.id ≡ length table = omega arith in
          ap (λ b. slice_get (if b then slice_set table n.visit.id n else table ++ n ∷ []) i) (le-ltb _ _ g) ∙ slice_get-push_other table n i (λ f. ne (f ∙ sym e))
    ]

-- what stands in the table after a visit: the visit, or what stood there
pub put_latest-cases : (table : List Node) (n : Node) (i : ℕ) (m : Node) → n.visit.id ≤ length table → slice_get (put_latest table n) i ≡ Some m
    → ((i ≡ n.visit.id) × (m ≡ n)) ⊎ ((i ≢ n.visit.id) × (slice_get table i ≡ Some m))
put_latest-cases table n i m h e =
    elim (cases_eq i n.visit.id) [
      | inl same ↦
          let f : Some m ≡ Some n = sym e ∙ ap (slice_get (put_latest table n)) same ∙ put_latest-at table n h in
          let g : m ≡ n = cc in inl (same, g)
      | inr other ↦ inr (other, sym (put_latest-other table n i h other) ∙ e)
    ]

pub table_stays : (table : List Node) (n : Node) → n.visit.id < length table → length (put_latest table n) ≡ length table
table_stays table n l = ap (λ (b : Bool). length (if b then slice_set table n.visit.id n else table ++ n ∷ [])) (lt-ltb _ _ l) ∙ length-set table n.visit.id n

pub table_grows : (table : List Node) (n : Node) → length table ≤ n.visit.id → length (put_latest table n) ≡ length table + 1
table_grows table n o = ap (λ (b : Bool). length (if b then slice_set table n.visit.id n else table ++ n ∷ [])) (le-ltb _ _ o) ∙ length-append table (n ∷ []) ∙ omega arith

-- the place that a state's id tells
pub id_within : (nodes : List Node) (state : List ℕ) → id_of nodes state ≤ length (latest nodes)
id_within nodes state = position_within (λ (n : Node). bytes_eq n.place.state state) (latest nodes)

pub id_state : (nodes : List Node) (state : List ℕ) (m : Node) → slice_get (latest nodes) (id_of nodes state) ≡ Some m → m.place.state ≡ state
id_state nodes state m at = (bytes_eq-Decides m.place.state state).0 (position_passes (λ (n : Node). bytes_eq n.place.state state) (latest nodes) m at)

pub id_first : (nodes : List Node) (state : List ℕ) (i : ℕ) (m : Node) → slice_get (latest nodes) i ≡ Some m → m.place.state ≡ state → id_of nodes state ≤ i
id_first nodes state i m at same = position_first (λ (n : Node). bytes_eq n.place.state state) (latest nodes) i m at ((bytes_eq-Decides m.place.state state).1 same)
