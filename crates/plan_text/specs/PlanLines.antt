-- The lines of a plan file, and what a whole text gives.
use Rattle.std.specs.Prelude.{ℕ, ◌+◌, List, [], ◌∷◌, length, Bool, true, false, nat_eq, nat_lt, ◌&&◌, not, if◌then◌else◌, map, drop, reverse, position, codes, Option, Some, None, is_some, option_map, option_and_then, unwrap_or, Result, Ok, Err, slice_index, ◌-◌}
use Rattle.std.specs.List.{take_while, prefix_len}
use Rattle.std.specs.Option.{option_or}
use Rattle.lama_num.specs.Gives.{◌>>=◌}
use Rattle.lama_num.specs.Decimals.{is_decimal, decimal_of}
use Rattle.text_lines.specs.Lines.{is_blank, is_some_bytes, trimmed, lines_of}
use Rattle.plan_text.specs.declared.reading.PlanLines.{PlanLines}
use Rattle.plan_text.specs.declared.faults.PlanTextFault.{PlanTextFault}
use Rattle.plan_text.specs.declared.faults.PlanTextFault.TheVariants.{CutShort, BadLine, BadCost, TooLong}
use Rattle.plan_text.specs.declared.faults.PlanTextError.{PlanTextError}
use Rattle.plan_text.specs.declared.faults.PlanTextError.TheVariants.{Bad, NoMemory}
use Rattle.plan_text.specs.declared.reading.TheConstants.{MOST_PLAN_BYTES}

abbrev pub fault_of : PlanTextError → Option PlanTextFault
fault_of (Bad fault) = Some fault
fault_of NoMemory = None

-- lines

-- what stands behind a front, where a text begins with it
abbrev pub behind : List ℕ → List ℕ → Option (List ℕ)
behind [] text = Some text
behind (f ∷ front) [] = None
behind (f ∷ front) (b ∷ bytes) = if nat_eq f b then behind front bytes else None

-- what stands before an end, where a text ends with it
abbrev pub before : List ℕ → List ℕ → Option (List ℕ)
before end text = option_map reverse (behind (reverse end) (reverse text))

-- The name of a step: what stands between the parentheses at both ends of its line, without what may stand at the ends of a line.
abbrev pub step_name : List ℕ → Option (List ℕ)
step_name line = option_map trimmed (option_and_then (before (codes ")")) (behind (codes "(") line))

abbrev pub is_step : List ℕ → Bool
is_step line = is_some (step_name line)

abbrev pub name_in : List ℕ → List ℕ
name_in line = unwrap_or (step_name line) []

-- digits, without the one blank behind them
abbrev pub digits_in : List ℕ → Option (List ℕ)
digits_in text = digits (reverse text)
  where
    digits : List ℕ → Option (List ℕ)
    digits [] = None
    digits (b ∷ bs) = if is_blank b && is_decimal (reverse bs) then Some (reverse bs) else None

-- the digits of a line that tells a cost of this kind
abbrev pub cost_digits : List ℕ → List ℕ → Option (List ℕ)
cost_digits kind line = option_and_then digits_in (option_and_then (before kind) (behind (codes "; cost = ") line))

-- A cost line: its digits, and whether it tells that every operator costs 1.
abbrev pub cost_in : List ℕ → Option (List ℕ × Bool)
cost_in line = option_or
    (option_map (λ digits. (digits, true)) (cost_digits (codes "(unit cost)") line))
    (option_map (λ digits. (digits, false)) (cost_digits (codes "(general cost)") line))

-- texts

abbrev pub or_fault : {A : Type 0} → PlanTextFault → Option A → Result A PlanTextFault
or_fault fault None = Err fault
or_fault fault (Some x) = Ok x

-- The first line that isn't a step comes after so many lines, has those others behind it, and is no cost line: where it is the last
-- and has no line feed, more of it may have been wanted.
abbrev pub no_cost : Bool → ℕ → List (List ℕ) → PlanTextFault
no_cost finished n rest = if not finished && nat_eq (length rest) 0 then CutShort else BadLine (n + 1)

-- only empty lines, of which the first has this number
abbrev pub only_empty : ℕ → List (List ℕ) → Result (Unit {0}) PlanTextFault
only_empty n lines = unless (position is_some_bytes lines)
  where
    unless : Option ℕ → Result (Unit {0}) PlanTextFault
    unless None = Ok tt
    unless (Some i) = Err (BadLine (n + i))

-- what stands behind so many steps: a cost line, whose number and kind it gives, and then only empty lines
abbrev pub ending : Bool → ℕ → List (List ℕ) → Result (ℕ × Bool) PlanTextFault
ending finished n [] = Err CutShort
ending finished n (line ∷ rest) = do
  cost ← or_fault (no_cost finished n rest) (cost_in line)
  number ← or_fault BadCost (decimal_of cost.0)
  nothing ← only_empty (n + 2) rest
  Ok (number, cost.1)

-- the names of the steps in front of all other lines
abbrev pub names_in_front : List (List ℕ) → List (List ℕ)
names_in_front lines = map name_in (take_while is_step lines)

-- what the lines give, or the first fault; whether a line feed stands behind the last of them decides what a last line of another form is
unfoldable pub plan_lines : Bool → List (List ℕ) → Result PlanLines PlanTextFault
plan_lines finished lines =
    ending finished (prefix_len is_step lines) (drop (prefix_len is_step lines) lines)
    >>= λ cost. Ok (record { names = names_in_front lines; cost = cost.0; unit = cost.1 })

-- the last byte is a line feed
abbrev pub is_finished : List ℕ → Bool
is_finished bytes = nat_eq (slice_index bytes (length bytes - 1)) 10

-- what a text gives: the names of its steps, the number that it tells as their cost, and the kind of that; or the first fault
unfoldable pub plan_lines_of : List ℕ → Result PlanLines PlanTextFault
plan_lines_of bytes = if nat_lt MOST_PLAN_BYTES (length bytes) then Err TooLong else plan_lines (is_finished bytes) (lines_of bytes)
