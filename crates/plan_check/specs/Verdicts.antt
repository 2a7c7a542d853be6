-- The verdict on a plan file.
use Rattle.std.specs.Prelude.{ℕ, zero, suc, ◌+◌, List, [], ◌∷◌, length, take, Bool, true, false, nat_eq, nat_lt, ◌&&◌, ◌||◌, not, min, map, filter, slice_get, if◌then◌else◌, Option, Some, None, Result, Ok, Err}
use Rattle.std.specs.List.{list_any, find}
use Rattle.std.specs.Option.{option_map_or, option_or}
use Rattle.std.specs.Str.{bytes_eq}
use Rattle.lama_num.specs.Gives.{◌>>=◌}
use Rattle.sas_task.specs.declared.contents.Parts.{Parts}
use Rattle.sas_task.specs.Runs.{start_of, is_goal, cost_of}
use Rattle.sas_task.specs.Costs.{is_unit_cost}
use Rattle.plan_text.specs.PlanLines.{plan_lines_of}
use Rattle.plan_text.specs.declared.reading.PlanLines.{PlanLines}
use Rattle.plan_text.specs.declared.faults.PlanTextFault.{PlanTextFault}
use Rattle.plan_check.specs.Choices.{has_name, state_after, choices}
use Rattle.plan_check.specs.declared.verdicts.PlanFault.{PlanFault}
use Rattle.plan_check.specs.declared.verdicts.PlanFault.TheVariants.{Text, NoOperator, NotApplicable, TooMany, NoGoal, WrongKind, WrongCost, NotCheaper}
use Rattle.plan_check.specs.declared.verdicts.Verdict.{Verdict}
use Rattle.plan_check.specs.declared.verdicts.Verdict.TheVariants.{Good, Bad}
use Rattle.plan_check.specs.declared.widening.TheConstants.{MOST_TOGETHER, MOST_PAIRS}

-- the state after operators, each applicable in its turn
abbrev pub state_by : Parts → List ℕ → List ℕ → List ℕ
state_by parts state [] = state
state_by parts state (op ∷ ops) = state_by parts (state_after parts state op) ops

abbrev pub last_state : Parts → List ℕ → List ℕ
last_state parts ops = state_by parts (start_of parts) ops

-- what the choices of names lead to

-- two choices lead to one state at one cost
abbrev pub same_end : Parts → List ℕ → List ℕ → Bool
same_end parts ops others = bytes_eq (last_state parts ops) (last_state parts others) && nat_eq (cost_of parts ops) (cost_of parts others)

-- the items of a list that aren't the same as one before them, or as one seen earlier
abbrev pub firsts_after : {A : Type 0} → (A → A → Bool) → List A → List A → List A
firsts_after same seen [] = []
firsts_after same seen (x ∷ xs) = if list_any (same x) seen then firsts_after same seen xs else (x ∷ firsts_after same (x ∷ seen) xs)

-- the ends of the choices of names: one choice for each pair of last state and cost, the first that has it
abbrev pub ends : Parts → List (List ℕ) → List (List ℕ)
ends parts names = firsts_after (same_end parts) [] (choices parts names)

-- the number of pairs of last state and cost after so many names
abbrev pub pairs_after : Parts → List (List ℕ) → ℕ → ℕ
pairs_after parts names count = length (ends parts (take count names))

-- and after one name, two names and so on together
abbrev pub pairs_up_to : Parts → List (List ℕ) → ℕ → ℕ
pairs_up_to parts names zero = 0
pairs_up_to parts names (suc count) = pairs_up_to parts names count + pairs_after parts names (suc count)

-- faults of single steps

abbrev pub has_operator : Parts → List (List ℕ) → ℕ → Bool
has_operator parts names place = option_map_or (λ name. list_any (has_name name) parts.operators) (slice_get names place) false

-- more than 65,536 pairs, or more than 67,108,864 together
abbrev pub are_many : ℕ → ℕ → Bool
are_many pairs together = nat_lt MOST_PAIRS pairs || nat_lt MOST_TOGETHER together

-- what is wrong with a step, the one after so many
abbrev pub fault_after : Parts → List (List ℕ) → ℕ → Option PlanFault
fault_after parts names count =
    if not (has_operator parts names count) then Some (NoOperator (suc count)) else
    if nat_eq (pairs_after parts names (suc count)) 0 then Some (NotApplicable (suc count)) else
    if are_many (pairs_after parts names (suc count)) (pairs_up_to parts names (suc count)) then Some (TooMany (suc count)) else None

-- what is wrong with the first of so many steps with which something is wrong
abbrev pub first_fault : Parts → List (List ℕ) → ℕ → Option PlanFault
first_fault parts names zero = None
first_fault parts names (suc count) = option_or (first_fault parts names count) (fault_after parts names count)

-- the goal

abbrev pub reaches_goal : Parts → List ℕ → Bool
reaches_goal parts ops = is_goal parts (last_state parts ops)

abbrev pub least : List ℕ → Option ℕ
least [] = None
least (x ∷ xs) = Some (option_map_or (min x) (least xs) x)

-- the least cost of a pair whose state is a goal
abbrev pub least_cost : Parts → List (List ℕ) → Option ℕ
least_cost parts names = least (map (cost_of parts) (filter (reaches_goal parts) (ends parts names)))

-- the choice leads to a goal at this cost
abbrev pub is_plan_at : Parts → ℕ → List ℕ → Bool
is_plan_at parts cost ops = reaches_goal parts ops && nat_eq (cost_of parts ops) cost

-- the first choice that is a plan of the cost
abbrev pub first_plan : Parts → List (List ℕ) → ℕ → Option (List ℕ)
first_plan parts names cost = find (is_plan_at parts cost) (choices parts names)

-- the verdict

abbrev pub or_fault : {A : Type 0} → PlanFault → Option A → Result A PlanFault
or_fault fault None = Err fault
or_fault fault (Some x) = Ok x

abbrev pub only_if : Bool → PlanFault → Result (Unit {0}) PlanFault
only_if true fault = Ok tt
only_if false fault = Err fault

abbrev pub unless : Option PlanFault → Result (Unit {0}) PlanFault
unless None = Ok tt
unless (Some fault) = Err fault

-- a cost below the bound, where there is one
abbrev pub cheaper : Option ℕ → ℕ → Result (Unit {0}) PlanFault
cheaper None cost = Ok tt
cheaper (Some bound) cost = only_if (nat_lt cost bound) (NotCheaper cost bound)

-- What is told of the end: there is a goal, the kind of cost is the task's, a choice is a plan of the stated cost, and the stated cost is
-- below the bound. Then that choice is the plan.
abbrev pub compared : Bool → Option ℕ → Option (List ℕ) → Option ℕ → PlanLines → Result (List ℕ) PlanFault
compared unit real plan bound lines = do
  lowest ← or_fault NoGoal real
  kind ← only_if (if unit then lines.unit else not lines.unit) WrongKind
  ops ← or_fault (WrongCost lowest) plan
  below ← cheaper bound lines.cost
  Ok ops

-- the plan that lines tell, and its cost; or what is wrong
unfoldable pub plan_in : Parts → Option ℕ → PlanLines → Result (List ℕ × ℕ) PlanFault
plan_in parts bound lines = do
  each ← unless (first_fault parts lines.names (length lines.names))
  ops ← compared (is_unit_cost parts) (least_cost parts lines.names) (first_plan parts lines.names lines.cost) bound lines
  Ok (ops, lines.cost)

-- a fault of the text is one of the plan
abbrev pub as_text : Result PlanLines PlanTextFault → Result PlanLines PlanFault
as_text (Ok lines) = Ok lines
as_text (Err fault) = Err (Text fault)

abbrev pub as_verdict : Result (List ℕ × ℕ) PlanFault → Verdict
as_verdict (Ok plan) = Good plan.0 plan.1
as_verdict (Err fault) = Bad fault

-- the plan of a text
unfoldable pub plan_of : Parts → Option ℕ → List ℕ → Result (List ℕ × ℕ) PlanFault
plan_of parts bound bytes = as_text (plan_lines_of bytes) >>= plan_in parts bound

-- The first verdict that applies: a fault of the text; the first step that no operator has the name of, or for which none is applicable, or
-- after which there are too many pairs of last state and cost; no goal at the end; another kind of cost; no plan of the stated cost; a stated
-- cost that isn't below the bound. Otherwise the file is good.
unfoldable pub verdict_of : Parts → List ℕ → Option ℕ → Verdict
verdict_of parts bytes bound = as_verdict (plan_of parts bound bytes)
