-- Orders of a row that are at least so strong.
use Rattle.std.proofs.Common.{◌≡◌, ◌∙◌, sym, ap, refl, ℕ, suc, ◌<◌, List, [], ◌∷◌, get_or, Bool, true, false, ◌||◌, ◌&&◌, nat_eq, if◌then◌else◌, Some, None, slice_get, arith}
use Rattle.std.proofs.lemmas.Bool.{eqb-true}
use Rattle.std.proofs.lemmas.Option.{slice_get_within, get_or_from_slice_get}
use Rattle.lm_graph.specs.declared.orders.Order.{Order}
use Rattle.lm_graph.specs.declared.orders.Order.TheVariants.{Reasonable, Natural, GreedyNecessary}
use Rattle.lm_graph.specs.declared.orders.Edge.{Edge}
use Rattle.lm_graph.specs.Orders.{is_strong}
use Rattle.lm_graph.specs.Rows.{kind_in, node_at, past_end, IsAscending, IsAt}
use Rattle.lm_graph.specs.Marks.{is_taken}
use Rattle.lm_graph.proofs.Edges.{kind_in-none}
use Rattle.lm_graph.proofs.Places.{kind_at}
use Rattle.lama_num.proofs.BoolLaws.{or-false as or_false}

-- the order of the edge at a place
pub kind_at_place : (row : List Edge) (place : ℕ) (edge : Edge) → IsAscending row → slice_get row place ≡ Some edge → kind_in row edge.node ≡ Some edge.kind
kind_at_place row place edge ascending at =
    let same : get_or row place past_end ≡ edge = get_or_from_slice_get row place edge past_end at in
    let is : IsAt row edge.node place = record { within = slice_get_within row place edge at; here = ap (λ (e : Edge). e.node) same } in
    kind_at row ascending edge.node place is ∙ ap (λ (e : Edge). Some e.kind) same

ascending_behind : (edge : Edge) (row : List Edge) → IsAscending (edge ∷ row) → IsAscending row
ascending_behind edge row ascending = record { each = λ i j lt within. ascending.each (suc i) (suc j) (omega arith) (omega arith) }

-- no other edge comes from the node of the first
first_alone : (edge : Edge) (row : List Edge) → IsAscending (edge ∷ row) → kind_in row edge.node ≡ None
first_alone edge row ascending = kind_in-none row edge.node (λ i lt same.
    let up : edge.node < node_at row i = ascending.each 0 (suc i) (omega arith) (omega arith) in
    absurd (omega (arith, up, same)))

none_strong : (weakest : Order) → is_strong weakest None ≡ false
none_strong Reasonable = refl
none_strong Natural = refl
none_strong GreedyNecessary = refl

-- an edge that is strong enough is there exactly where the order is that strong
pub taken-strong : (row : List Edge) (weakest : Order) (i : ℕ) → IsAscending row → is_taken row weakest i ≡ is_strong weakest (kind_in row i)
taken-strong [] weakest i ascending = sym (none_strong weakest)
taken-strong (edge ∷ row) weakest i ascending = by (nat_eq edge.node i) refl (taken-strong row weakest i (ascending_behind edge row ascending))
  where
    by : (b : Bool) → nat_eq edge.node i ≡ b → is_taken row weakest i ≡ is_strong weakest (kind_in row i) →
        ((b && is_strong weakest (Some edge.kind)) || is_taken row weakest i) ≡ is_strong weakest (if b then Some edge.kind else kind_in row i)
    by true is rest =
        let none : kind_in row i ≡ None = ap (kind_in row) (sym (eqb-true edge.node i is)) ∙ first_alone edge row ascending in
        let lone : is_taken row weakest i ≡ false = rest ∙ (ap (is_strong weakest) none ∙ none_strong weakest) in
        rw lone (or_false (is_strong weakest (Some edge.kind)))
    by false is rest = rest
