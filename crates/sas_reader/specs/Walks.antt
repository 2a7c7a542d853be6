-- Walks over a format: what a text gives, or its first fault.
use Rattle.std.specs.Prelude.{ℕ, ◌+◌, List, [], ◌∷◌, ◌++◌, map, length, nat_eq, nat_le, if◌then◌else◌, Option, Some, None, Result, Ok, Err}
use Rattle.lama_num.specs.Gives.{◌>>=◌}
use Rattle.text_lines.specs.Lines.{Place, lines_of}
use Rattle.sas_reader.specs.Reading.{most_bytes}
use Rattle.sas_reader.specs.Formats.{Format, Done, Line, Kind, Value, value_of}
use Rattle.sas_reader.specs.TaskText.{task, preconditions}
use Rattle.sas_task.specs.declared.contents.Fact.{Fact}
use Rattle.sas_task.specs.declared.contents.Effect.{Effect}
use Rattle.sas_task.specs.Refusals.{canonical_parts}
use Rattle.sas_task.specs.declared.contents.Parts.{Parts}
use Rattle.sas_reader.specs.declared.faults.SasFault.{SasFault}
use Rattle.sas_reader.specs.declared.faults.SasFault.TheVariants.{CutShort, Trailing, TooLarge}
use Rattle.sas_task.specs.declared.refusals.What.TheVariants.{Bytes}
use Rattle.sas_reader.specs.declared.faults.SasError.{SasError}
use Rattle.sas_reader.specs.declared.faults.SasError.TheVariants.{Bad, NoMemory}

abbrev pub fault_of : SasError → Option SasFault
fault_of (Bad fault) = Some fault
fault_of NoMemory = None

-- the next line, which has to be there
abbrev pub first_line : Place → Result (List ℕ × Place) SasFault
first_line place = first place.left
  where
    first : List (List ℕ) → Result (List ℕ × Place) SasFault
    first [] = Err (CutShort place.line)
    first (line ∷ lines) = Ok (line, record { left = lines; line = place.line + 1 })

-- what a reading gives of the next line and its number, and the place behind it
unfoldable pub next_by : {A : Type 0} → (ℕ → List ℕ → Result A SasFault) → Place → Result (A × Place) SasFault
next_by reading place = do
  first ← first_line place
  value ← reading place.line first.0
  Ok (value, first.1)

-- what the next line gives
abbrev pub next : (kind : Kind) → Place → Result (Value kind × Place) SasFault
next kind place = next_by (value_of kind) place

-- what the lines give, each being what the format wants after those before it, and the place behind them; or the first fault
abbrev pub walk : {A : Type 0} → Format A → Place → Result (A × Place) SasFault
walk (Done x) place = Ok (x, place)
walk (Line kind onward) place = next kind place >>= λ r. walk (onward r.0) r.1

-- only empty lines are left
abbrev pub trailing : ℕ → List (List ℕ) → Result (Unit {0}) SasFault
trailing n [] = Ok tt
trailing n (line ∷ lines) = if nat_eq (length line) 0 then trailing (n + 1) lines else Err (Trailing n)

-- only empty lines are left behind what was given
abbrev pub whole : {A : Type 0} → A × Place → Result A SasFault
whole read = trailing read.1.line read.1.left >>= λ done. Ok read.0

-- what lines give from the first of them on
unfoldable pub parts_in : List (List ℕ) → Result Parts SasFault
parts_in lines = walk task (record { left = lines; line = 1 }) >>= whole

-- what a text gives, or its first fault
unfoldable pub parts_of : List ℕ → Result Parts SasFault
parts_of bytes = if nat_le (length bytes) most_bytes then parts_in (lines_of bytes) else Err (TooLarge Bytes (length bytes))

-- preconditions and effects, and behind them those of what was read
abbrev pub changed : List Fact → List Effect → Result (List (Option Fact × Effect) × Place) SasFault → Result ((List Fact × List Effect) × Place) SasFault
changed pre effects read = read >>= λ r. Ok ((pre ++ preconditions r.0, effects ++ map (λ e. e.1) r.0), r.1)

-- the task of a text: what the text gives, with rules of defaults left out and preconditions in order; or the first fault
unfoldable pub task_of : List ℕ → Result Parts SasFault
task_of bytes = parts_of bytes >>= λ parts. Ok (canonical_parts parts)
