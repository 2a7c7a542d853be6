-- Backchaining: the least set of nodes that has the goal facts and is closed under its rules, and the orders that the rules give.
use Rattle.std.specs.Prelude.{◌≡◌, ◌≢◌, ℕ, ◌<◌, ◌≤◌, List, [], ◌∷◌, ◌++◌, length, Bool, true, false, ◌&&◌, not, map, filter, take, min, slice_get, Option, Some, None}
use Rattle.std.specs.List.{list_all, list_any}
use Rattle.sas_task.specs.Facts.{same_fact, predicate_of}
use Rattle.sas_task.specs.Runs.{start_of}
use Rattle.sas_task.specs.States.{holds}
use Rattle.sas_task.specs.WellFormed.{is_derived}
use Rattle.sas_task.specs.declared.contents.Effect.{Effect}
use Rattle.sas_task.specs.declared.contents.Fact.{Fact}
use Rattle.sas_task.specs.declared.contents.Operator.{Operator}
use Rattle.sas_task.specs.declared.contents.Parts.{Parts}
use Rattle.relaxed_task.specs.Facts.{distinct_facts}
use Rattle.relaxed_task.specs.Reached.{IsReached}
use Rattle.lm_graph.specs.declared.nodes.Node.{Node}
use Rattle.lm_graph.specs.declared.orders.Order.{Order}
use Rattle.lm_graph.specs.declared.orders.Order.TheVariants.{Reasonable, Natural, GreedyNecessary}
use Rattle.lm_graph.specs.Graphs.{Content, kind_of, most_nodes}
use Rattle.lm_graph.specs.Nodes.{is_ascending, sets_of}

-- one of some facts
abbrev pub has : List Fact → Fact → Bool
has facts fact = list_any (same_fact fact) facts

-- it isn't derived, and doesn't hold in the initial state
abbrev pub is_open_fact : Parts → Fact → Bool
is_open_fact parts fact = not (is_derived parts.variables fact.var) && not (holds (start_of parts) fact)

-- no fact of the node is derived or holds in the initial state
abbrev pub is_open : Parts → List Fact → Bool
is_open parts node = list_all (is_open_fact parts) node

-- what an operator and an effect of it ask for
abbrev pub conditions_of : Operator → Effect → List Fact
conditions_of operator effect = operator.pre ++ effect.conds

-- The conditions of a possible first achiever of a node: an operator with an effect that gives one of the node's facts, where all
-- conditions are reached without them.
pub record IsPossibleFirst (parts : Parts) (node conds : List Fact) : Type 0 where
  pub op : ℕ
  pub operator : Operator
  pub at : slice_get parts.operators op ≡ Some operator
  pub place : ℕ
  pub effect : Effect
  pub effect_at : slice_get operator.effects place ≡ Some effect
  pub gives : has node effect.fact ≡ true
  pub conds_are : conds ≡ conditions_of operator effect
  pub reached : (fact : Fact) → has conds fact ≡ true → IsReached parts (start_of parts) node fact

-- There is a possible first achiever, and the fact is a condition of every one.
pub record IsShared (parts : Parts) (node : List Fact) (fact : Fact) : Type 0 where
  pub some : List Fact
  pub possible : IsPossibleFirst parts node some
  pub every : (conds : List Fact) → IsPossibleFirst parts node conds → has conds fact ≡ true

-- a condition of a possible first achiever, with a predicate
pub record IsWanted (parts : Parts) (node : List Fact) (predicate : List ℕ) (fact : Fact) : Type 0 where
  pub is_of : predicate_of parts fact ≡ Some predicate
  pub conds : List Fact
  pub possible : IsPossibleFirst parts node conds
  pub asked : has conds fact ≡ true

-- Every possible first achiever has a condition of one predicate, and the set has just the conditions of this predicate: 2 to 4 facts,
-- of which none is derived or holds in the initial state.
pub record IsOfOnePredicate (parts : Parts) (node set : List Fact) : Type 0 where
  pub predicate : List ℕ
  pub every : (conds : List Fact) → IsPossibleFirst parts node conds → (fact : Fact) × (has conds fact ≡ true) × (predicate_of parts fact ≡ Some predicate)
  pub all : (fact : Fact) → IsWanted parts node predicate fact → has set fact ≡ true
  pub only : (fact : Fact) → has set fact ≡ true → IsWanted parts node predicate fact
  pub ascending : is_ascending set ≡ true
  pub some : 2 ≤ length set
  pub few : length set ≤ 4
  pub are_open : is_open parts set ≡ true

-- what b is taken back to: it is to hold directly before b
pub data GivesGreedy (parts : Parts) : List Fact → List Fact → Type 0 where
  shared : {b : List Fact} {fact : Fact} → is_open parts b ≡ true → IsShared parts b fact → GivesGreedy parts (fact ∷ []) b
  one_of : {a b : List Fact} → is_open parts b ≡ true → IsOfOnePredicate parts b a → GivesGreedy parts a b

-- two nodes of one fact, of which the second isn't reached without the first
pub data GivesNatural (parts : Parts) : List Fact → List Fact → Type 0 where
  unreached : {b c : Fact} → is_open parts (b ∷ []) ≡ true → is_open parts (c ∷ []) ≡ true → b ≢ c →
      (IsReached parts (start_of parts) (b ∷ []) c → ⊥) → GivesNatural parts (b ∷ []) (c ∷ [])

-- A node, by how it is found: a goal fact, or what a node is taken back to.
pub data IsNode (parts : Parts) : List Fact → Type 0 where
  goal : {fact : Fact} → has parts.goal fact ≡ true → IsNode parts (fact ∷ [])
  back : {a b : List Fact} → IsNode parts b → GivesGreedy parts a b → IsNode parts a

-- the strongest order that the rules give, or that they give none
abbrev pub IsStrongest : Parts → List Fact → List Fact → Option Order → Type 0
IsStrongest parts a b None = (GivesGreedy parts a b → ⊥) × (GivesNatural parts a b → ⊥)
IsStrongest parts a b (Some GreedyNecessary) = GivesGreedy parts a b
IsStrongest parts a b (Some Natural) = GivesNatural parts a b × (GivesGreedy parts a b → ⊥)
IsStrongest parts a b (Some Reasonable) = ⊥

abbrev pub singles : List Fact → List (List Fact)
singles facts = map (λ fact. fact ∷ []) facts

-- one of some lists of facts, by its place
pub record Among (sets : List (List Fact)) (facts : List Fact) : Type 0 where
  pub place : ℕ
  pub at : slice_get sets place ≡ Some facts

-- an effect of the operator gives one of the facts
abbrev pub gives_one : List Fact → Operator → Bool
gives_one facts operator = list_any (λ effect. has facts effect.fact) operator.effects

-- a number, or another if that is less
abbrev pub or_less : ℕ → Option ℕ → ℕ
or_less n None = n
or_less n (Some m) = min n m

-- the least of some numbers, if there is one
abbrev pub least : List ℕ → Option ℕ
least [] = None
least (n ∷ numbers) = Some (or_less n (least numbers))

-- the least cost of an operator that gives one of the facts
abbrev pub least_cost : Parts → List Fact → Option ℕ
least_cost parts facts = least (map (λ o. o.cost) (filter (gives_one facts) parts.operators))

-- one fact that is a goal fact
abbrev pub is_goal_fact : Parts → List Fact → Bool
is_goal_fact parts [] = false
is_goal_fact parts (fact ∷ []) = has parts.goal fact
is_goal_fact parts (fact ∷ other ∷ facts) = false

-- the node of some facts
abbrev pub node_of : Parts → List Fact → Node
node_of parts facts = record { facts = facts; least = least_cost parts facts; goal = is_goal_fact parts facts }

-- The graph of backchaining. Where as many nodes are there as may be, it needn't be closed under the rules.
pub record Backchain (parts : Parts) (graph : Content) : Type 0 where
  -- the goal facts come first, each once, in their order
  pub goals : (rest : List (List Fact)) × (sets_of graph.nodes ≡ take most_nodes (singles (distinct_facts parts.goal)) ++ rest)
  pub nodes_are : graph.nodes ≡ map (node_of parts) (sets_of graph.nodes)
  pub distinct : (i j : ℕ) (facts : List Fact) → slice_get (sets_of graph.nodes) i ≡ Some facts → slice_get (sets_of graph.nodes) j ≡ Some facts → i ≡ j
  pub found : (facts : List Fact) → Among (sets_of graph.nodes) facts → IsNode parts facts
  pub closed : length graph.nodes < most_nodes → (facts : List Fact) → IsNode parts facts → Among (sets_of graph.nodes) facts
  pub strongest : (i j : ℕ) (a b : List Fact) → slice_get (sets_of graph.nodes) i ≡ Some a → slice_get (sets_of graph.nodes) j ≡ Some b →
      IsStrongest parts a b (kind_of graph i j)
