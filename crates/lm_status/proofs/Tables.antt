-- Rows of the tables of a graph.
use Rattle.std.proofs.Common.{◌≡◌, ◌∙◌, sym, ap, refl, ℕ, zero, suc, ◌+◌, ◌<◌, List, [], ◌∷◌, map, Bool, true, false, ◌||◌, ◌&&◌, nat_eq, Some, slice_get, arith}
use Rattle.std.specs.List.{list_any, range_with_len}
use Rattle.std.proofs.lemmas.Bool.{and_parts, eq-eqb, eqb-true}
use Rattle.std.proofs.lemmas.List.Folds.{list_any-append}
use Rattle.std.proofs.lemmas.Map.Keys.{any_passes_from_place}
use Rattle.sas_task.specs.Facts.{has_fact}
use Rattle.sas_task.specs.declared.contents.Fact.{Fact}
use Rattle.lama_num.specs.Rows.{row_at}
use Rattle.lm_graph.specs.declared.nodes.Node.{Node}
use Rattle.lm_graph.specs.declared.orders.Edge.{Edge}
use Rattle.lm_graph.specs.declared.fact_table.FactTable.{FactTable}
use Rattle.lm_graph.specs.FactTables.{numbers_at, AddsNumber}
use Rattle.lm_graph.specs.Graphs.{row_of}
use Rattle.lm_status.specs.Accepted.{nodes_in, facts_of}
use Rattle.lm_status.specs.Statuses.{Finds}
use Rattle.lm_status.proofs.Ranges.{from_range}
use Rattle.lm_status.proofs.Sums.{range_more}

pub nodes_at : (rows : List (List Edge)) (i : ℕ) → row_at (map nodes_in rows) i ≡ nodes_in (row_of rows i)
nodes_at [] i = refl
nodes_at (row ∷ rows) zero = refl
nodes_at (row ∷ rows) (suc i) = nodes_at rows i

pub facts_read : (nodes : List Node) (i : ℕ) (node : Node) → slice_get nodes i ≡ Some node → facts_of nodes i ≡ node.facts
facts_read [] i node at = absurd (cc)
facts_read (n ∷ nodes) zero node at = ap (λ (m : Node). m.facts) (let is : n ≡ node = cc in is)
facts_read (n ∷ nodes) (suc i) node at = facts_read nodes i node at

pub finds_none : (table : FactTable) (nodes : List Node) → ((fact : Fact) → numbers_at table fact ≡ []) → Finds table nodes 0
finds_none table nodes none = record { each = λ fact test. ap (list_any test) (none fact) }

-- one more node
pub finds_more : (old new : FactTable) (nodes : List Node) (n : ℕ) (facts : List Fact) → Finds old nodes n → facts_of nodes n ≡ facts → AddsNumber old new facts n → Finds new nodes (n + 1)
finds_more old new nodes n facts so_far is adds = record {
  each = λ fact test.
      let p : ℕ → Bool = λ node. has_fact (facts_of nodes node) fact && test node in
      let own : (has_fact facts fact && test n) ≡ p n = ap (λ (fs : List Fact). has_fact fs fact && test n) (sym is) in
      adds.each fact test
      ∙ (ap (λ b. b || (has_fact facts fact && test n)) (so_far.each fact test)
      ∙ (ap (λ b. list_any p (range_with_len 0 n) || b) (own ∙ sym (or_false (p n)))
      ∙ sym (ap (list_any p) (range_more n) ∙ list_any-append p (range_with_len 0 n) (n ∷ []))));
}
  where
    or_false : (b : Bool) → (b || false) ≡ b
    or_false true = refl
    or_false false = refl

-- the numbers under a fact are of nodes
pub found_within : (table : FactTable) (nodes : List Node) (n : ℕ) (fact : Fact) (place node : ℕ) → Finds table nodes n → slice_get (numbers_at table fact) place ≡ Some node → node < n
found_within table nodes n fact place node found at =
    let passes : list_any (nat_eq node) (numbers_at table fact) ≡ true = any_passes_from_place (nat_eq node) (numbers_at table fact) place node at (eq-eqb node node refl) in
    let one = from_range 0 n (λ m. has_fact (facts_of nodes m) fact && nat_eq node m) (sym (found.each fact (nat_eq node)) ∙ passes) in
    let same = eqb-true node one.number (and_parts _ _ one.passes).1 in
    omega (arith, one.below, same)
