-- The words of a relaxation, over any type of fact with its equality: rounds, costs, and lists of best supporters.
use Rattle.std.specs.Prelude.{◌≡◌, ℕ, zero, suc, List, [], ◌∷◌, ◌++◌, map, filter, Bool, true, false, ◌&&◌, ◌||◌, not, if◌then◌else◌, IsTrue, slice_get, Some}
use Rattle.std.specs.List.{list_all, list_any}
use Rattle.lama_num.specs.declared.estimates.Estimate.{Estimate}
use Rattle.lama_num.specs.declared.estimates.Estimate.TheVariants.{Finite, Infinite}
use Rattle.lama_num.specs.Estimates.{estimate_sum}
use Rattle.relaxed_task.specs.Estimates.{least, is_finite, IsLeast}

-- Unary operators over facts: each gives one fact where its conditions are there, at a cost. Facts have their equality.
pub record UnaryOver (F U : Type 0) : Type 0 where
  pub same : F → F → Bool
  pub equal : (a b : F) → same a b ≡ true → a ≡ b
  pub itself : (a : F) → same a a ≡ true
  pub conds : U → List F
  pub gives : U → F
  pub cost : U → ℕ

-- one of a list
abbrev pub has : {F U : Type 0} → UnaryOver F U → List F → F → Bool
has o facts fact = list_any (o.same fact) facts

-- each once, in order of first occurrence
abbrev pub each_once : {F U : Type 0} → UnaryOver F U → List F → List F
each_once o [] = []
each_once o (f ∷ facts) = f ∷ filter (λ g. not (o.same g f)) (each_once o facts)

-- Round 0 has what is there at the start. Each next one adds what is given from the round before. What is left out is in no round.
abbrev pub in_round : {F : Type 0} → ((F → Bool) → F → Bool) → (F → Bool) → (F → Bool) → ℕ → F → Bool
in_round given start out zero fact = start fact && not (out fact)
in_round given start out (suc n) fact = in_round given start out n fact || (given (in_round given start out n) fact && not (out fact))

-- the sum of what facts cost
abbrev pub sum_of : {F : Type 0} → (F → Estimate) → List F → Estimate
sum_of costs [] = Finite 0
sum_of costs (fact ∷ facts) = estimate_sum (costs fact) (sum_of costs facts)

-- what a unary operator asks for: its cost, and what its conditions cost
abbrev pub price_of : {F U : Type 0} → UnaryOver F U → (F → Estimate) → U → Estimate
price_of o costs u = estimate_sum (Finite (o.cost u)) (sum_of costs (o.conds u))

-- the least price of those that give a fact
abbrev pub least_price : {F U : Type 0} → UnaryOver F U → (F → Estimate) → F → List U → Estimate
least_price o costs fact [] = Infinite
least_price o costs fact (u ∷ unaries) = if o.same (o.gives u) fact then least (price_of o costs u) (least_price o costs fact unaries) else least_price o costs fact unaries

-- One round later a fact costs the least of what it cost before and of the prices of what gives it. What is left out stays infinite.
abbrev pub next_costs : {F U : Type 0} → UnaryOver F U → List U → List F → (F → Estimate) → F → Estimate
next_costs o unaries without costs fact = if has o without fact then Infinite else least (costs fact) (least_price o costs fact unaries)

-- In round 0 what is there at the start costs nothing, and all others are infinite.
abbrev pub cost_in : {F U : Type 0} → UnaryOver F U → List U → List F → List F → ℕ → F → Estimate
cost_in o unaries start without zero fact = if has o start fact && not (has o without fact) then Finite 0 else Infinite
cost_in o unaries start without (suc n) fact = next_costs o unaries without (cost_in o unaries start without n) fact

-- what a fact costs: the least over all rounds
abbrev pub IsCost : {F U : Type 0} → UnaryOver F U → List U → List F → List F → F → Estimate → Type 0
IsCost o unaries start without fact cost = IsLeast (λ n. cost_in o unaries start without n fact) cost

-- a unary operator that gives its fact for what the fact costs
pub record IsBest {F U : Type 0} (o : UnaryOver F U) (unaries : List U) (costs : F → Estimate) (u : U) : Type 0 where
  pub place : ℕ
  pub at : slice_get unaries place ≡ Some u
  pub finite : is_finite (costs (o.gives u)) ≡ true
  pub pays : price_of o costs u ≡ costs (o.gives u)

abbrev pub AreBest : {F U : Type 0} → UnaryOver F U → List U → (F → Estimate) → List U → Type 0
AreBest o unaries costs [] = Unit {0}
AreBest o unaries costs (u ∷ list) = IsBest o unaries costs u × AreBest o unaries costs list

-- after some facts, each gives a new fact, from conditions that are there or given earlier
abbrev pub IsInOrder : {F U : Type 0} → UnaryOver F U → List F → List U → Type 0
IsInOrder o facts [] = Unit {0}
IsInOrder o facts (u ∷ list) = IsTrue (list_all (has o facts) (o.conds u)) × (has o facts (o.gives u) ≡ false) × IsInOrder o (o.gives u ∷ facts) list

-- what is asked for: the goal facts and the conditions
abbrev pub asked : {F U : Type 0} → UnaryOver F U → List F → List U → List F
asked o goals [] = goals
asked o goals (u ∷ list) = o.conds u ++ asked o goals list

-- each gives a goal fact or a condition of a later one
abbrev pub IsAsked : {F U : Type 0} → UnaryOver F U → List F → List U → Type 0
IsAsked o goals [] = Unit {0}
IsAsked o goals (u ∷ list) = IsTrue (has o (asked o goals list) (o.gives u)) × IsAsked o goals list

-- best supporters in an order in which they can be applied, each needed, that reach all goal facts
pub record IsSupported {F U : Type 0} (o : UnaryOver F U) (unaries : List U) (start : List F) (costs : F → Estimate) (goals : List F) (list : List U) : Type 0 where
  pub best : AreBest o unaries costs list
  pub order : IsInOrder o start list
  pub needed : IsAsked o goals list
  pub goals_given : IsTrue (list_all (has o (start ++ map o.gives list)) goals)

-- those of a list that are needed, given those after
abbrev pub kept : {F U : Type 0} → UnaryOver F U → List F → List U → List U
kept o goals [] = []
kept o goals (u ∷ list) = if has o (asked o goals (kept o goals list)) (o.gives u) then u ∷ kept o goals list else kept o goals list
