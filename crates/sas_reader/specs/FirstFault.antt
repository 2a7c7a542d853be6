-- What a format wants after lines, texts, and first faults.
use Rattle.std.specs.Prelude.{◌≡◌, ℕ, ◌+◌, ◌<◌, ◌≤◌, List, [], ◌∷◌, ◌++◌, length, nat_eq, if◌then◌else◌, Option, Some, None, option_and_then, Result, Ok, Err, ◌⊎◌}
use Rattle.std.specs.Result.{result_ok}
use Rattle.text_lines.specs.Lines.{lines_of}
use Rattle.sas_reader.specs.Reading.{most_bytes}
use Rattle.sas_reader.specs.Formats.{Format, Done, Line, value_of}
use Rattle.sas_reader.specs.TaskText.{task as the_task}
use Rattle.sas_task.specs.Refusals.{canonical_parts}
use Rattle.sas_task.specs.declared.contents.Parts.{Parts}
use Rattle.sas_reader.specs.declared.faults.SasFault.{SasFault}
use Rattle.sas_reader.specs.declared.faults.SasFault.TheVariants.{CutShort, Trailing, TooLarge}
use Rattle.sas_task.specs.declared.refusals.What.TheVariants.{Bytes}

-- What is wanted after lines, the first of which has that number; none where one of them isn't what those before it want.
-- Where nothing is wanted any more, empty lines may follow.
abbrev pub after : {A : Type 0} → Format A → ℕ → List (List ℕ) → Option (Format A)
after format n [] = Some format
after (Done x) n (line ∷ lines) = if nat_eq (length line) 0 then after (Done x) (n + 1) lines else None
after (Line kind onward) n (line ∷ lines) = option_and_then (λ value. after (onward value) (n + 1) lines) (result_ok (value_of kind n line))

-- the first of lines isn't what is wanted, or is wanted and isn't there
abbrev pub Refuses : {A : Type 0} → Format A → ℕ → List (List ℕ) → SasFault → Type 0
Refuses (Done x) n [] fault = ⊥
Refuses (Done x) n (line ∷ lines) fault = (0 < length line) × (fault ≡ Trailing n)
Refuses (Line kind onward) n [] fault = fault ≡ CutShort n
Refuses (Line kind onward) n (line ∷ lines) fault = value_of kind n line ≡ Err fault

-- lines that are what is wanted, and then one that isn't
pub record Faults {A : Type 0} (format : Format A) (n : ℕ) (lines : List (List ℕ)) (fault : SasFault) : Type 0 where
  pub front : List (List ℕ)
  pub others : List (List ℕ)
  pub split : lines ≡ front ++ others
  pub wanted : Format A
  pub before : after format n front ≡ Some wanted
  pub here : Refuses wanted (n + length front) others fault

-- The bytes are within the limit, and each line is what the lines before it want. The task is what they give, with
-- rules of defaults left out and preconditions in order.
pub record IsTextOf (bytes : List ℕ) (task : Parts) : Type 0 where
  pub within : length bytes ≤ most_bytes
  pub given : Parts
  pub lines : after the_task 1 (lines_of bytes) ≡ Some (Done given)
  pub canonical_parts : task ≡ canonical_parts given

-- the first fault of bytes
abbrev pub IsFirstFaultOf : List ℕ → SasFault → Type 0
IsFirstFaultOf bytes fault =
    ((most_bytes < length bytes) × (fault ≡ TooLarge Bytes (length bytes)))
    ⊎ ((length bytes ≤ most_bytes) × Faults the_task 1 (lines_of bytes) fault)

-- what bytes are: the text of a task, or faulty with a first fault
abbrev pub Reads : List ℕ → Result Parts SasFault → Type 0
Reads bytes (Ok task) = IsTextOf bytes task
Reads bytes (Err fault) = IsFirstFaultOf bytes fault

-- it holds of one, and of no other
pub record ExactlyOne {A : Type 0} (P : A → Type 0) : Type 0 where
  pub one : A
  pub holds : P one
  pub only : (x : A) → P x → x ≡ one
