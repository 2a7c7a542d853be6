-- Which nodes a node is to hold directly before.
use Rattle.std.proofs.Common.{◌≡◌, ◌∙◌, sym, ap, refl, ℕ, zero, suc, ◌+◌, ◌<◌, List, [], ◌∷◌, ◌++◌, length, Bool, true, false, inl, inr, nat_eq, filter, if◌then◌else◌, Some, slice_get, arith, length-append}
use Rattle.std.specs.List.{list_any}
use Rattle.std.proofs.lemmas.Bool.{or_cases, or_left, or_right, and_parts, eqb-true, cases_eq}
use Rattle.lama_num.specs.Rows.{row_at}
use Rattle.lm_graph.specs.declared.orders.Order.TheVariants.{GreedyNecessary}
use Rattle.lm_graph.specs.declared.orders.Edge.{Edge}
use Rattle.lm_graph.specs.Orders.{is_strong}
use Rattle.lm_graph.specs.Rows.{kind_in}
use Rattle.lm_graph.specs.Graphs.{Content, row_of, kind_of}
use Rattle.lm_graph.specs.Turned.{kinds_from, AreSuccessors}
use Rattle.lm_status.specs.Accepted.{nodes_in}
use Rattle.lm_status.specs.Estimates.{after_of}
use Rattle.lm_status.proofs.Ranges.{from_kept, to_kept}
use Rattle.lama_num.proofs.BoolLaws.{both_ways}

abbrev pub is_greedy : Edge → Bool
is_greedy edge = is_strong GreedyNecessary (Some edge.kind)

-- a greedy-necessary edge of a row, whose node passes a test
record Found (row : List Edge) (test : ℕ → Bool) : Type 0 where
  place : ℕ
  edge : Edge
  at : slice_get row place ≡ Some edge
  greedy : is_greedy edge ≡ true
  passes : test edge.node ≡ true

from_edges : (row : List Edge) (test : ℕ → Bool) → list_any test (nodes_in (filter is_greedy row)) ≡ true → Found row test
from_edges [] test h = let k : false ≡ true = h in cc
from_edges (edge ∷ row) test h = by (is_greedy edge) refl h (from_edges row test)
  where
    further : Found row test → Found (edge ∷ row) test
    further f = record { place = suc f.place; edge = f.edge; at = f.at; greedy = f.greedy; passes = f.passes }

    by : (b : Bool) → is_greedy edge ≡ b → list_any test (nodes_in (if b then edge ∷ filter is_greedy row else filter is_greedy row)) ≡ true →
        (list_any test (nodes_in (filter is_greedy row)) ≡ true → Found row test) → Found (edge ∷ row) test
    by true is h later = elim (or_cases (test edge.node) (list_any test (nodes_in (filter is_greedy row))) h) [
      | inl here ↦ record { place = 0; edge = edge; at = refl; greedy = is; passes = here }
      | inr rest ↦ further (later rest)
    ]
    by false is h later = further (later h)

to_edges : (row : List Edge) (test : ℕ → Bool) (m : ℕ) → is_strong GreedyNecessary (kind_in row m) ≡ true → test m ≡ true → list_any test (nodes_in (filter is_greedy row)) ≡ true
to_edges [] test m strong passes = let k : false ≡ true = strong in cc
to_edges (edge ∷ row) test m strong passes = by (nat_eq edge.node m) refl strong (to_edges row test m)
  where
    more : (b : Bool) → list_any test (nodes_in (filter is_greedy row)) ≡ true → list_any test (nodes_in (if b then edge ∷ filter is_greedy row else filter is_greedy row)) ≡ true
    more true rest = or_right (test edge.node) _ rest
    more false rest = rest

    by : (b : Bool) → nat_eq edge.node m ≡ b → is_strong GreedyNecessary (if b then Some edge.kind else kind_in row m) ≡ true →
        (is_strong GreedyNecessary (kind_in row m) ≡ true → test m ≡ true → list_any test (nodes_in (filter is_greedy row)) ≡ true) → list_any test (nodes_in (filter is_greedy (edge ∷ row))) ≡ true
    by true is strong later = let greedy : is_greedy edge ≡ true = strong in rw greedy (or_left _ _ (ap test (eqb-true edge.node m is) ∙ passes))
    by false is strong later = more (is_greedy edge) (later strong passes)

-- the edges from a node lead to just the nodes that it is to hold directly before
pub greedy_same : (graph : Content) (node : ℕ) (row : List Edge) (test : ℕ → Bool) →
    ((place : ℕ) (edge : Edge) → slice_get row place ≡ Some edge → (edge.node < length graph.nodes) × (kind_of graph node edge.node ≡ Some edge.kind)) →
    ((m : ℕ) → kind_in row m ≡ kind_of graph node m) →
    list_any test (nodes_in (filter is_greedy row)) ≡ list_any test (after_of graph node)
greedy_same graph node row test each kinds = both_ways _ _ there back
  where
    there : list_any test (nodes_in (filter is_greedy row)) ≡ true → list_any test (after_of graph node) ≡ true
    there h =
        let found = from_edges row test h in
        let own = each found.place found.edge found.at in
        to_kept 0 (length graph.nodes) (λ m. is_strong GreedyNecessary (kind_of graph node m)) test found.edge.node (omega arith) (omega (arith, own.0)) (ap (is_strong GreedyNecessary) own.1 ∙ found.greedy) found.passes

    back : list_any test (after_of graph node) ≡ true → list_any test (nodes_in (filter is_greedy row)) ≡ true
    back h =
        let found = from_kept 0 (length graph.nodes) (λ m. is_strong GreedyNecessary (kind_of graph node m)) test h in
        let both = and_parts _ _ found.passes in
        to_edges row test found.number (ap (is_strong GreedyNecessary) (kinds found.number) ∙ both.0) both.1

-- rows for the nodes below a number
pub record AfterBelow (graph : Content) (after : List (List ℕ)) (n : ℕ) : Type 0 where
  pub long : length after ≡ n
  pub each : (node : ℕ) (test : ℕ → Bool) → node < n → list_any test (row_at after node) ≡ list_any test (after_of graph node)

row_front : (rows : List (List ℕ)) (row : List ℕ) (i : ℕ) → i < length rows → row_at (rows ++ row ∷ []) i ≡ row_at rows i
row_front [] row i lt = absurd (omega arith)
row_front (r ∷ rows) row zero lt = refl
row_front (r ∷ rows) row (suc i) lt = row_front rows row i (omega arith)

row_last : (rows : List (List ℕ)) (row : List ℕ) → row_at (rows ++ row ∷ []) (length rows) ≡ row
row_last [] row = refl
row_last (r ∷ rows) row = row_last rows row

pub after_none : (graph : Content) → AfterBelow graph [] 0
after_none graph = record { long = refl; each = λ node test lt. absurd (omega arith) }

pub after_more : (graph : Content) (after : List (List ℕ)) (n : ℕ) (nodes : List ℕ) → AfterBelow graph after n → ((test : ℕ → Bool) → list_any test nodes ≡ list_any test (after_of graph n)) → AfterBelow graph (after ++ nodes ∷ []) (n + 1)
after_more graph after n nodes so_far same = record {
  long = omega (arith, length-append after (nodes ∷ []), so_far.long);
  each = λ node test lt. elim (cases_eq node n) [
    | inl here ↦
        let place : node ≡ length after = here ∙ sym so_far.long in
        ap (λ i. list_any test (row_at (after ++ nodes ∷ []) i)) place ∙ (ap (list_any test) (row_last after nodes) ∙ (same test ∙ ap (λ m. list_any test (after_of graph m)) (sym here)))
    | inr ne ↦ ap (list_any test) (row_front after nodes node (omega (arith, so_far.long, lt))) ∙ so_far.each node test (omega arith)
  ];
}

-- the row of one more node
pub next_after : (graph : Content) (successors : List (List Edge)) (old new : List (List ℕ)) (n : ℕ) (row : List Edge) (nodes : List ℕ) → AreSuccessors graph successors → AfterBelow graph old n → row ≡ row_of successors n →
    ((place : ℕ) (edge : Edge) → slice_get row place ≡ Some edge → (edge.node < length successors) × (kinds_from successors n edge.node ≡ Some edge.kind)) →
    nodes ≡ nodes_in (filter is_greedy row) → new ≡ old ++ nodes ∷ [] → AfterBelow graph new (n + 1)
next_after graph successors old new n row nodes are so_far is each nodes_are pushed =
    rw pushed (after_more graph old n nodes so_far (λ test. ap (list_any test) nodes_are ∙ greedy_same graph n row test own kinds))
  where
    own : (place : ℕ) (edge : Edge) → slice_get row place ≡ Some edge → (edge.node < length graph.nodes) × (kind_of graph n edge.node ≡ Some edge.kind)
    own place edge at = let e = each place edge at in (omega (arith, e.0, are.long), sym (are.same n edge.node) ∙ e.1)

    kinds : (m : ℕ) → kind_in row m ≡ kind_of graph n m
    kinds m = ap (λ (r : List Edge). kind_in r m) is ∙ are.same n m
