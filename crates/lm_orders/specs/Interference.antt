-- When a fact interferes with a node of one fact.
use Rattle.std.specs.Prelude.{◌≡◌, ℕ, List, [], ◌∷◌, map, filter, length, Bool, true, nat_eq, ◌⊎◌, Option, Some, None, option_and_then, slice_get}
use Rattle.sas_task.specs.Facts.{has_fact, are_mutex}
use Rattle.sas_task.specs.declared.contents.Effect.{Effect}
use Rattle.sas_task.specs.declared.contents.Fact.{Fact}
use Rattle.sas_task.specs.declared.contents.Operator.{Operator}
use Rattle.sas_task.specs.declared.contents.Parts.{Parts}
use Rattle.lm_graph.specs.declared.nodes.Node.{Node}
use Rattle.lm_graph.specs.declared.orders.Order.{Order}
use Rattle.lm_graph.specs.declared.orders.Order.TheVariants.{GreedyNecessary}

-- the fact of a list that has one
abbrev pub single_of : List Fact → Option Fact
single_of [] = None
single_of (fact ∷ []) = Some fact
single_of (fact ∷ other ∷ facts) = None

-- the fact of a node that is one fact; other nodes, and numbers of no node, have none
abbrev pub fact_of : List Node → ℕ → Option Fact
fact_of nodes node = option_and_then (λ n. single_of n.facts) (slice_get nodes node)

-- the facts that an operator may give
abbrev pub given_facts : Operator → List Fact
given_facts operator = map (λ effect. effect.fact) operator.effects

-- the effect has no condition
abbrev pub is_certain : Effect → Bool
is_certain effect = nat_eq (length effect.conds) 0

-- those that it always gives, by effects without conditions
abbrev pub always_given : Operator → List Fact
always_given operator = map (λ effect. effect.fact) (filter is_certain operator.effects)

-- the operator of this number has an effect that gives the fact
pub record IsGiver (parts : Parts) (fact : Fact) (op : ℕ) (operator : Operator) : Type 0 where
  pub at : slice_get parts.operators op ≡ Some operator
  pub gives : has_fact (given_facts operator) fact ≡ true

-- Some operator gives a fact, and each one that does always gives another as well.
pub record ComesWith (parts : Parts) (fact other : Fact) : Type 0 where
  pub some : (op : ℕ) × (operator : Operator) × IsGiver parts fact op operator
  pub every : (op : ℕ) (operator : Operator) → IsGiver parts fact op operator → has_fact (always_given operator) other ≡ true

-- A node of one fact, by its fact, is ordered greedy-necessarily before a node.
pub record IsDirectlyBefore (nodes : List Node) (kinds : ℕ → ℕ → Option Order) (node : ℕ) (other : Fact) : Type 0 where
  pub before : ℕ
  pub fact : fact_of nodes before ≡ Some other
  pub order : kinds before node ≡ Some GreedyNecessary

-- What goes with a node of one fact: that fact, what always comes with it, and what is to hold directly before it.
abbrev pub GoesWith : Parts → List Node → (ℕ → ℕ → Option Order) → ℕ → Fact → Fact → Type 0
GoesWith parts nodes kinds node fact other = (other ≡ fact) ⊎ (ComesWith parts fact other ⊎ IsDirectlyBefore nodes kinds node other)

-- A fact interferes with a node of one fact where it is mutex with something that goes with it.
pub record Interferes (parts : Parts) (nodes : List Node) (kinds : ℕ → ℕ → Option Order) (fact : Fact) (node : ℕ) (own : Fact) : Type 0 where
  pub other : Fact
  pub goes : GoesWith parts nodes kinds node own other
  pub mutex : are_mutex parts other fact ≡ true
