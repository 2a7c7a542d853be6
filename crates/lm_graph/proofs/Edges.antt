-- The order of a node in a row, and what an edit of the row does to it.
use Rattle.std.proofs.Common.{◌≡◌, ◌≢◌, ℕ, zero, suc, ◌<◌, List, [], ◌∷◌, length, get_or, set, nat_eq, if◌then◌else◌, Some, None, refl, arith}
use Rattle.std.specs.List.{insert}
use Rattle.std.proofs.lemmas.Bool.Decides.{nat_tests}
use Rattle.lm_graph.specs.declared.orders.Order.{Order}
use Rattle.lm_graph.specs.declared.orders.Edge.{Edge}
use Rattle.lm_graph.specs.Rows.{kind_in, node_at, past_end, IsAt}

-- no edge below a place has the node
abbrev pub NoneBelow : List Edge → ℕ → ℕ → Type 0
NoneBelow row node place = (i : ℕ) → i < place → node_at row i ≢ node

-- the edge of a node
abbrev pub edge_of : ℕ → Order → Edge
edge_of node kind = record { node = node; kind = kind }

-- one row gives what another does, but for one node
abbrev pub GivesAt : List Edge → List Edge → ℕ → Order → Type 0
GivesAt old new node kind = (other : ℕ) → kind_in new other ≡ (if nat_eq node other then Some kind else kind_in old other)

none_behind : (edge : Edge) (row : List Edge) (node place : ℕ) → NoneBelow (edge ∷ row) node (suc place) → NoneBelow row node place
none_behind edge row node place none i lt = none (suc i) (omega arith)

at_behind : (edge : Edge) (row : List Edge) (node place : ℕ) → IsAt (edge ∷ row) node (suc place) → IsAt row node place
at_behind edge row node place is = record { within = omega (arith, is.within); here = is.here }

pub kind_in-none : (row : List Edge) (node : ℕ) → NoneBelow row node (length row) → kind_in row node ≡ None
kind_in-none [] node none = refl
kind_in-none (edge ∷ row) node none = grind (arith, nat_tests, none 0 (omega arith), kind_in-none row node (none_behind edge row node _ none))

pub kind_in-first : (row : List Edge) (node place : ℕ) → IsAt row node place → NoneBelow row node place → kind_in row node ≡ Some (get_or row place past_end).kind
kind_in-first [] node place is none = absurd (omega (arith, is.within))
kind_in-first (edge ∷ row) node zero is none = grind (arith, nat_tests, is.here)
kind_in-first (edge ∷ row) node (suc place) is none = grind (arith, nat_tests, none 0 (omega arith), kind_in-first row node place (at_behind edge row node place is) (none_behind edge row node place none))

pub kind_in-set : (row : List Edge) (node : ℕ) (kind : Order) (place : ℕ) → IsAt row node place → NoneBelow row node place → GivesAt row (set row place (edge_of node kind)) node kind
kind_in-set [] node kind place is none other = absurd (omega (arith, is.within))
kind_in-set (edge ∷ row) node kind zero is none other = grind (arith, nat_tests, is.here)
kind_in-set (edge ∷ row) node kind (suc place) is none other = grind (arith, nat_tests, none 0 (omega arith), kind_in-set row node kind place (at_behind edge row node place is) (none_behind edge row node place none) other)

pub kind_in-insert : (row : List Edge) (node : ℕ) (kind : Order) (place : ℕ) → NoneBelow row node place → GivesAt row (insert row place (edge_of node kind)) node kind
kind_in-insert row node kind zero none other = refl
kind_in-insert [] node kind (suc place) none other = refl
kind_in-insert (edge ∷ row) node kind (suc place) none other = grind (arith, nat_tests, none 0 (omega arith), kind_in-insert row node kind place (none_behind edge row node place none) other)
