-- Which command lines are accepted.
use Rattle.std.specs.Prelude.{ℕ, List, [], ◌∷◌, length, take, drop, slice_get, Bool, true, false, nat_eq, nat_le, not, ◌&&◌, ◌||◌, if◌then◌else◌, Option, Some, None, is_some, unwrap_or, Result, Ok, Err, codes, decimal}
use Rattle.std.specs.Char.{is_ascii_digit}
use Rattle.std.specs.List.{list_all}
use Rattle.std.specs.Str.{bytes_eq}
use Rattle.lama_num.specs.Decimals.{decimal_of}
use Rattle.lama_num.specs.Gives.{◌>>=◌}
use Rattle.conf_text.specs.declared.alias_names.AliasName.{AliasName}
use Rattle.conf_text.specs.AliasNames.{alias_of}
use Rattle.run_report.specs.declared.report.Opt.TheVariants.{Bound}
use Rattle.run_report.specs.declared.report.WordsFault.{WordsFault}
use Rattle.run_report.specs.declared.report.WordsFault.TheVariants.{Refused, BadValue, UnknownAlias, NameClash}
use Rattle.lama_num.specs.declared.names.TheConstants.{MOST_PLANS}

-- the base of the plan files
abbrev pub base_name : List ℕ
base_name = codes "sas_plan"

abbrev pub begins_with_dash : List ℕ → Bool
begins_with_dash [] = false
begins_with_dash (b ∷ bs) = nat_eq b 45

-- a task's name isn't empty, is no option, and holds no NUL byte
abbrev pub is_task_name : List ℕ → Bool
is_task_name name = not (nat_eq (length name) 0) && (not (begins_with_dash name) && list_all (λ b. not (nat_eq b 0)) name)

-- the decimal of a number from 1 to 9,999, without leading zeros
abbrev pub is_plan_number : List ℕ → Bool
is_plan_number digits = numbers (decimal_of digits)
  where
    numbers : Option ℕ → Bool
    numbers None = false
    numbers (Some n) = nat_le 1 n && (nat_le n MOST_PLANS && bytes_eq digits (decimal n))

abbrev pub begins_with_digit : List ℕ → Bool
begins_with_digit [] = false
begins_with_digit (b ∷ bs) = is_ascii_digit b

-- c and a digit, as the files of a child begin behind the dot
abbrev pub is_of_child : List ℕ → Bool
is_of_child [] = false
is_of_child (b ∷ bs) = nat_eq b 99 && begins_with_digit bs

-- what a run's own files have behind their base: nothing; or a dot, and "part", a plan's number, or what begins as a child's
abbrev pub is_own_ending : List ℕ → Bool
is_own_ending [] = true
is_own_ending (b ∷ bs) = nat_eq b 46 && (bytes_eq bs (codes "part") || (is_plan_number bs || is_of_child bs))

-- a name of the run's own files
abbrev pub is_own_name : List ℕ → List ℕ → Bool
is_own_name base name = bytes_eq (take (length base) name) base && is_own_ending (drop (length base) name)

-- what a line asks the search for: a configuration that is built in, or one by its text
pub data Work : Type 0 where
  Alias : AliasName → Work
  Search : List ℕ → Work

-- what a line asks for
pub record Line : Type 0 where
  pub work : Work
  pub bound : Option ℕ
  pub task : List ℕ

-- the words begin with this option and a value
abbrev pub begins_with : List ℕ → List (List ℕ) → Bool
begins_with option [] = false
begins_with option (word ∷ []) = false
begins_with option (word ∷ (value ∷ words)) = bytes_eq word option

-- its value, and the words behind that
abbrev pub value_in : List ℕ → List (List ℕ) → Option (List ℕ)
value_in option words = if begins_with option words then slice_get words 1 else None

abbrev pub words_behind : List ℕ → List (List ℕ) → List (List ℕ)
words_behind option words = if begins_with option words then drop 2 words else words

-- a bound is a decimal
abbrev pub bound_of : Option (List ℕ) → Result (Option ℕ) WordsFault
bound_of None = Ok None
bound_of (Some text) = bounded (decimal_of text)
  where
    bounded : Option ℕ → Result (Option ℕ) WordsFault
    bounded None = Err (BadValue Bound)
    bounded (Some bound) = Ok (Some bound)

-- the work of a line with this alias or this configuration; lama where it has neither
abbrev pub work_of : Option (List ℕ) → Option (List ℕ) → Result Work WordsFault
work_of alias (Some text) = Ok (Search text)
work_of alias None = named (alias_of (unwrap_or alias (codes "lama")))
  where
    named : Option AliasName → Result Work WordsFault
    named None = Err UnknownAlias
    named (Some name) = Ok (Alias name)

-- what the options of a line and its task ask for, or the first that is wrong with them
abbrev pub asked_of : Option (List ℕ) → Option (List ℕ) → Option (List ℕ) → List ℕ → Result Line WordsFault
asked_of alias search limit task =
    bound_of limit >>= (λ bound. work_of alias search >>= (λ work.
    if is_own_name base_name task then Err NameClash else Ok (record { work = work; bound = bound; task = task })))

-- a line has one word behind its options, a task's name, and not both an alias and a configuration
abbrev pub line_with : Option (List ℕ) → Option (List ℕ) → Option (List ℕ) → List (List ℕ) → Result Line WordsFault
line_with alias search limit [] = Err Refused
line_with alias search limit (task ∷ []) =
    if not (is_some alias && is_some search) && is_task_name task then asked_of alias search limit task else Err Refused
line_with alias search limit (task ∷ (second ∷ words)) = Err Refused

-- What the words ask for, or the first that is wrong with them: an alias or a configuration, or neither; a bound, or none; and the task.
abbrev pub line_of : List (List ℕ) → Result Line WordsFault
line_of words =
    let named = words_behind (codes "--alias") words in
    let searched = words_behind (codes "--search") named in
    line_with (value_in (codes "--alias") words) (value_in (codes "--search") named) (value_in (codes "--bound") searched) (words_behind (codes "--bound") searched)
