-- The text of a planning task.
use Rattle.std.specs.Prelude.{ℕ, zero, suc, ◌+◌, List, [], ◌∷◌, ◌++◌, length, Bool, if◌then◌else◌, map, Option, option_to_list}
use Rattle.sas_reader.specs.Formats.{Format, Done, ◌>>=◌, Begin, End, Version, ZeroOrOne, Name, Count, Layer, Range, Below, FactIn, EffectIn, HeadIn, line, times, each}
use Rattle.sas_task.specs.Limits.{most_variables, most_listed, most_operators, most_rules, highest_cost}
use Rattle.sas_task.specs.declared.contents.Fact.{Fact}
use Rattle.sas_task.specs.declared.contents.Variable.{Variable}
use Rattle.sas_task.specs.declared.contents.Effect.{Effect}
use Rattle.sas_task.specs.declared.contents.Operator.{Operator}
use Rattle.sas_task.specs.declared.contents.Rule.{Rule}
use Rattle.sas_task.specs.declared.contents.Parts.{Parts}
use Rattle.sas_reader.specs.declared.sections.Section.TheVariants.{Version as InVersion, Metric as InMetric, Variable as InVariable, MutexGroup as InGroup, State as InState, Goal as InGoal, Operator as InOperator, Rule as InRule}
use Rattle.sas_task.specs.declared.refusals.What.{What}
use Rattle.sas_task.specs.declared.refusals.What.TheVariants.{Variables, Groups, GroupFacts, Goals, Operators, Conditions, Effects, Rules, Cost}

unfoldable pub version : Format (Unit {0})
version = do
  begin ← line (Begin InVersion)
  three ← line Version
  done ← line (End InVersion)
  Done tt

unfoldable pub metric : Format Bool
metric = do
  begin ← line (Begin InMetric)
  metric ← line ZeroOrOne
  done ← line (End InMetric)
  Done metric

-- the variable with that number, behind so many facts
unfoldable pub variable : ℕ → ℕ → Format Variable
variable var before = do
  begin ← line (Begin InVariable)
  name ← line Name
  layer ← line Layer
  range ← line (Range var layer before)
  values ← times range (line Name)
  done ← line (End InVariable)
  Done (record { name = name; layer = layer; values = values })

-- so many variables, the first with that number
unfoldable pub variables_from : ℕ → ℕ → ℕ → Format (List Variable)
variables_from zero var before = Done []
variables_from (suc n) var before = do
  v ← variable var before
  vs ← variables_from n (var + 1) (before + length v.values)
  Done (v ∷ vs)

unfoldable pub variables : Format (List Variable)
variables = do
  n ← line (Count Variables most_variables)
  variables_from n 0 0

-- facts behind their count
unfoldable pub facts : What → List Variable → Format (List Fact)
facts what variables = do
  n ← line (Count what most_listed)
  times n (line (FactIn variables))

unfoldable pub group : List Variable → Format (List Fact)
group variables = do
  begin ← line (Begin InGroup)
  group ← facts GroupFacts variables
  done ← line (End InGroup)
  Done group

unfoldable pub groups : List Variable → Format (List (List Fact))
groups variables = do
  n ← line (Count Groups most_listed)
  times n (group variables)

-- an initial value
abbrev pub initial : Variable → Format ℕ
initial variable = line (Below (length variable.values))

-- an initial value for each variable
unfoldable pub state : List Variable → Format (List ℕ)
state variables = do
  begin ← line (Begin InState)
  values ← each initial variables
  done ← line (End InState)
  Done values

unfoldable pub goal : List Variable → Format (List Fact)
goal variables = do
  begin ← line (Begin InGoal)
  goal ← facts Goals variables
  done ← line (End InGoal)
  Done goal

-- the preconditions of effects, in the order of the effects
abbrev pub preconditions : List (Option Fact × Effect) → List Fact
preconditions [] = []
preconditions (e ∷ es) = option_to_list e.0 ++ preconditions es

-- What the effects need comes behind the prevail conditions.
unfoldable pub changes : List Variable → Format (List Fact × List Effect)
changes variables = do
  prevail ← facts Conditions variables
  n ← line (Count Effects most_listed)
  effects ← times n (line (EffectIn variables))
  Done (prevail ++ preconditions effects, map (λ e. e.1) effects)

-- Without a metric every operator costs 1, whatever its line says.
unfoldable pub operator : Bool → List Variable → Format Operator
operator metric variables = do
  begin ← line (Begin InOperator)
  name ← line Name
  changes ← changes variables
  cost ← line (Count Cost highest_cost)
  done ← line (End InOperator)
  Done (record { name = name; pre = changes.0; effects = changes.1; cost = if metric then cost else 1 })

unfoldable pub operators : Bool → List Variable → Format (List Operator)
operators metric variables = do
  n ← line (Count Operators most_operators)
  times n (operator metric variables)

unfoldable pub rule : List Variable → List ℕ → Format Rule
rule variables init = do
  begin ← line (Begin InRule)
  conds ← facts Conditions variables
  rule ← line (HeadIn variables init conds)
  done ← line (End InRule)
  Done rule

unfoldable pub rules : List Variable → List ℕ → Format (List Rule)
rules variables init = do
  n ← line (Count Rules most_rules)
  times n (rule variables init)

-- the metric and the variables
unfoldable pub opening : Format (Bool × List Variable)
opening = do
  begin ← version
  metric ← metric
  variables ← variables
  Done (metric, variables)

-- the initial values and the goal
unfoldable pub ends : List Variable → Format (List ℕ × List Fact)
ends variables = do
  init ← state variables
  goal ← goal variables
  Done (init, goal)

-- the parts behind the variables
unfoldable pub rest : Bool → List Variable → Format Parts
rest metric variables = do
  groups ← groups variables
  ends ← ends variables
  operators ← operators metric variables
  rules ← rules variables ends.0
  Done (record { metric = metric; variables = variables; groups = groups; init = ends.0; goal = ends.1; operators = operators; rules = rules })

unfoldable pub task : Format Parts
task = do
  opening ← opening
  rest opening.0 opening.1
