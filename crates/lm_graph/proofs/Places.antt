-- What a search among ascending edges finds, and what an edit at that place does.
use Rattle.std.proofs.Common.{◌≡◌, ℕ, ◌+◌, ◌-◌, ◌<◌, ◌≤◌, List, length, get_or, set, Some, None, Result, Ok, Err, IfOk, IfErr, refl, sym, ap, subst, arith}
use Rattle.std.specs.List.{insert}
use Rattle.std.specs.List.Sorted.{IsSearchInRange, IsBinarySearchResult, IsNonDecreasingBy}
use Rattle.std.specs.Ordering.{nat_cmp, ordering_index}
use Rattle.std.proofs.lemmas.Cmp.{ranked}
use Rattle.std.proofs.lemmas.List.Sorted.{IsNonDecreasingBy-from_default}
use Rattle.std.proofs.lemmas.List.Edits.{length-insert, get_or-insert_below, get_or-insert_at, get_or-insert_above}
use Rattle.std.proofs.lemmas.Bool.Decides.{nat_tests}
use Rattle.std.proofs.lemmas.Grind.{common_steps}
use Rattle.lm_graph.specs.declared.orders.Order.{Order}
use Rattle.lm_graph.specs.declared.orders.Edge.{Edge}
use Rattle.lm_graph.specs.Orders.{stronger}
use Rattle.lm_graph.specs.Rows.{kind_in, node_at, past_end, IsAscending, IsAt, IsGapFor, Raises}
use Rattle.lm_graph.proofs.Edges.{NoneBelow, GivesAt, edge_of, kind_in-none, kind_in-first, kind_in-set, kind_in-insert}

raises_from : (old new : List Edge) (node : ℕ) (kind most : Order) → most ≡ stronger (kind_in old node) kind → GivesAt old new node most → Raises old new node kind
raises_from old new node kind most is gives = record {
  here = grind (arith, nat_tests, gives node, is);
  others = λ other ne. grind (arith, nat_tests, gives other);
}

module _ (row : List Edge) (ascending : IsAscending row) (node : ℕ) where
  compares_up : IsNonDecreasingBy (λ edge. ordering_index (nat_cmp edge.node node)) row
  compares_up = IsNonDecreasingBy-from_default (λ edge. ordering_index (nat_cmp edge.node node)) row past_end (λ i j le within.
      let up : node_at row i ≤ node_at row j = grind (arith, ascending.each i j, λ (same : i ≡ j). ap (node_at row) same) in
      grind (arith, nat_tests))

  pub searched : (r : Result ℕ ℕ) → IsSearchInRange r (length row) → IsBinarySearchResult (λ edge. nat_cmp edge.node node) row r → record { found : IfOk r (IsAt row node); absent : IfErr r (IsGapFor row node) }
  searched (Ok place) range equal = record { found = record { within = range; here = ranked _ node _ (sym (equal past_end)) }; absent = tt }
  searched (Err place) range parted = record {
    found = tt;
    absent = record {
      within = range;
      below = λ i lt. ranked _ node _ (sym ((parted compares_up).0 i past_end (omega arith) lt));
      above = λ i le lt. ranked _ node _ (sym ((parted compares_up).1 i past_end le lt));
    };
  }

module _ (row : List Edge) (ascending : IsAscending row) (node place : ℕ) (is : IsAt row node place) where
  none_below : NoneBelow row node place
  none_below i lt same = omega (arith, ascending.each i place lt is.within, is.here)

  pub kind_at : kind_in row node ≡ Some (get_or row place past_end).kind
  kind_at = kind_in-first row node place is none_below

  pub raises_set : (kind most : Order) → most ≡ stronger (Some (get_or row place past_end).kind) kind → Raises row (set row place (edge_of node most)) node kind
  raises_set kind most is_most = raises_from row _ node kind most (rw kind_at is_most) (kind_in-set row node most place is none_below)

  pub ascending_set : (kind : Order) → IsAscending (set row place (edge_of node kind))
  ascending_set kind = record { each = λ i j lt within. grind (arith, common_steps, ascending.each i j, ascending.each i place, ascending.each place j, is.within, is.here) }

module _ (row : List Edge) (node place : ℕ) (gap : IsGapFor row node place) where
  pub kind_in_gap : kind_in row node ≡ None
  kind_in_gap = kind_in-none row node (λ i lt same. grind (arith, gap.below i, gap.above i))

  pub raises_insert : (kind : Order) → Raises row (insert row place (edge_of node kind)) node kind
  raises_insert kind = raises_from row _ node kind kind (rw kind_in_gap refl) (kind_in-insert row node kind place (λ i lt same. omega (arith, gap.below i lt)))

  -- each new edge is an old one below the gap, the one in it, or an old one moved up by one
  pub ascending_insert : (kind : Order) → IsAscending row → IsAscending (insert row place (edge_of node kind))
  ascending_insert kind ascending = record {
    each = λ i j lt within.
        let edge = edge_of node kind in
        let new = insert row place edge in
        let number = λ (e : Edge). e.node in
        let long = length-insert row place edge gap.within in
        let lower : (i : ℕ) → i < place → node_at new i ≡ node_at row i = λ i below. ap number (get_or-insert_below row place edge past_end i below gap.within) in
        let here : (i : ℕ) → i ≡ place → node_at new i ≡ node = λ i same. rw same (ap number (get_or-insert_at row place edge past_end gap.within)) in
        let upper : (i : ℕ) → place < i → node_at new i ≡ node_at row (i - 1) = λ i above. subst (λ q. node_at new q ≡ node_at row (i - 1)) {x = i - 1 + 1} (omega arith) (ap number (get_or-insert_above row place edge past_end (i - 1) (omega arith) gap.within)) in
        grind (arith, lower i, here i, upper i, lower j, here j, upper j, ascending.each i j, ascending.each i (j - 1), ascending.each (i - 1) (j - 1), gap.below i, gap.above (j - 1));
  }
