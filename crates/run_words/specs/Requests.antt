-- What a line asks for, or the first refusal.
use Rattle.std.specs.Prelude.{ℕ, ◌-◌, ◌*◌, List, [], ◌∷◌, length, take, Bool, true, false, not, nat_eq, nat_le, nat_lt, ◌&&◌, ◌||◌, if◌then◌else◌, codes, Option, Some, None, is_some, option_map, option_and_then, unwrap_or, slice_get, count_by, Result, Ok, Err}
use Rattle.std.specs.List.{list_all}
use Rattle.std.specs.Option.{option_map_or}
use Rattle.lama_num.specs.Decimals.{decimal_of}
use Rattle.lama_num.specs.Gives.{◌>>=◌}
use Rattle.lama_num.specs.Names.{base_of}
use Rattle.conf_text.specs.AliasNames.{alias_of}
use Rattle.conf_text.specs.declared.alias_names.AliasName.{AliasName}
use Rattle.run_words.specs.Grammar.{Text, Line, line_of}
use Rattle.run_words.specs.OwnNames.{is_own_name}
use Rattle.run_words.specs.declared.faults.Asked.TheVariants.{Translate, Validate}
use Rattle.run_words.specs.declared.faults.Opt.{Opt}
use Rattle.run_words.specs.declared.faults.Opt.TheVariants.{PlanFile, Bound, TimeLimit, ChildMemory, Gen, TaskName, PortfolioName}
use Rattle.run_words.specs.declared.faults.WordsError.{WordsError}
use Rattle.run_words.specs.declared.faults.WordsError.TheVariants.{Bad, Asked, NoMemory}
use Rattle.run_words.specs.declared.faults.WordsFault.{WordsFault}
use Rattle.run_words.specs.declared.faults.WordsFault.TheVariants.{Refused, NoTask, TwoWorks, BadValue, UnknownAlias, NeedsTimeLimit, NameClash}
use Rattle.run_words.specs.declared.request.Chosen.{Chosen}
use Rattle.run_words.specs.declared.request.Chosen.TheVariants.{Alias, Search, Portfolio}
use Rattle.run_words.specs.declared.request.Request.{Request}
use Rattle.run_words.specs.declared.values.Values.{Values}

-- what is refused by an error; want of memory is no refusal
abbrev pub refusal : WordsError → Option WordsError
refusal NoMemory = None
refusal (Bad fault) = Some (Bad fault)
refusal (Asked asked) = Some (Asked asked)

abbrev pub refused_if : {E : Type 0} → E → Bool → Result (Unit {0}) E
refused_if e true = Err e
refused_if e false = Ok tt

-- values

-- a value that must be there
abbrev pub needed : {A : Type 0} → Opt → Option A → Result A WordsFault
needed opt None = Err (BadValue opt)
needed opt (Some x) = Ok x

-- a value that may be left out, and must be readable where it is given
abbrev pub wanted : {A : Type 0} → Opt → (Text → Option A) → Option Text → Result (Option A) WordsFault
wanted opt reading None = Ok None
wanted opt reading (Some text) = needed opt (reading text) >>= λ x. Ok (Some x)

abbrev pub up_to : ℕ → ℕ → Option ℕ
up_to most n = if nat_le 1 n && nat_le n most then Some n else None

-- a decimal from 1 to that number
abbrev pub number_to : ℕ → Text → Option ℕ
number_to most text = option_and_then (up_to most) (decimal_of text)

-- the seconds of a second, a minute and an hour, by their letters
abbrev pub unit_of : ℕ → Option ℕ
unit_of b = if nat_eq b 115 then Some 1 else (if nat_eq b 109 then Some 60 else (if nat_eq b 104 then Some 3600 else None))

-- a decimal of seconds; or of units, with the letter of the unit behind it
abbrev pub seconds_by : Text → Option ℕ → Option ℕ
seconds_by text None = decimal_of text
seconds_by text (Some unit) = option_map (λ n. n * unit) (decimal_of (take (length text - 1) text))

abbrev pub seconds_of : Text → Option ℕ
seconds_of text = seconds_by text (option_and_then unit_of (slice_get text (length text - 1)))

-- from 1 to 1,000,000 seconds, in milliseconds
abbrev pub limit_of : Text → Option ℕ
limit_of text = option_map (λ n. n * 1000) (option_and_then (up_to 1000000) (seconds_of text))

-- from 1 to 1,048,576 MiB, in KiB
abbrev pub kib_of : Text → Option ℕ
kib_of text = option_map (λ n. n * 1024) (number_to 1048576 text)

-- the name of a file isn't empty and holds no NUL byte
abbrev pub is_file_name : Text → Bool
is_file_name name = not (nat_eq (length name) 0) && list_all (λ b. not (nat_eq b 0)) name

-- a name that is given, and can't be a file's
abbrev pub is_no_name : Option Text → Bool
is_no_name name = option_map_or (λ n. not (is_file_name n)) name false

-- the values that are given, in the order in which they are looked at
unfoldable pub values_of : Line → Result Values WordsFault
values_of line = do
  base ← needed PlanFile (base_of (unwrap_or line.plan_file (codes "sas_plan")))
  bound ← wanted Bound decimal_of line.bound
  limit ← wanted TimeLimit limit_of line.time_limit
  child_kib ← wanted ChildMemory kib_of line.child_memory
  made ← wanted Gen (number_to 100) line.made
  task ← refused_if (BadValue TaskName) (is_no_name line.task)
  portfolio ← refused_if (BadValue PortfolioName) (is_no_name line.portfolio)
  Ok (record { base = base; bound = bound; limit = limit; child_kib = child_kib; made = made })

-- works

-- how many works are given
abbrev pub works : Line → ℕ
works line = count_by (λ given. given) (is_some line.alias ∷ is_some line.search ∷ is_some line.portfolio ∷ [])

-- one of a task's file and a task to be made is given, and not the other
abbrev pub has_task : Line → Bool
has_task line = if is_some line.task then not (is_some line.made) else is_some line.made

abbrev pub if_alias : Option AliasName → Result Chosen WordsFault
if_alias None = Err UnknownAlias
if_alias (Some alias) = Ok (Alias alias)

-- the work that is given; without any it is the alias `lama`
abbrev pub chosen : Option Text → Option Text → Option Text → Result Chosen WordsFault
chosen alias search (Some name) = Ok (Portfolio name)
chosen alias (Some text) None = Ok (Search text)
chosen alias None None = if_alias (alias_of (unwrap_or alias (codes "lama")))

-- a portfolio is given, and no limit of time
abbrev pub is_limitless : Line → Option ℕ → Bool
is_limitless line limit = is_some line.portfolio && not (is_some limit)

-- a name that is given, and is one of the run's own files
abbrev pub is_own : Text → Option Text → Bool
is_own base name = option_map_or (is_own_name base) name false

abbrev pub clashes : Text → Line → Bool
clashes base line = is_own base line.task || is_own base line.portfolio

-- the request of a line, or the first fault
unfoldable pub request_by : Line → Result Request WordsFault
request_by line = do
  task ← refused_if NoTask (not (has_task line))
  one ← refused_if TwoWorks (nat_lt 1 (works line))
  values ← values_of line
  work ← chosen line.alias line.search line.portfolio
  limited ← refused_if NeedsTimeLimit (is_limitless line values.limit)
  apart ← refused_if NameClash (clashes values.base line)
  Ok (record {
    task = line.task;
    made = values.made;
    work = work;
    base = values.base;
    bound = values.bound;
    limit = values.limit;
    child_kib = values.child_kib;
    single = line.single;
  })

-- a fault as a refusal
abbrev pub or_bad : {A : Type 0} → Result A WordsFault → Result A WordsError
or_bad (Ok x) = Ok x
or_bad (Err fault) = Err (Bad fault)

-- words that are no line are refused
abbrev pub if_line : Option Line → Result Line WordsError
if_line None = Err (Bad Refused)
if_line (Some line) = Ok line

-- the request that words make, or the first refusal
unfoldable pub request_of : List Text → Result Request WordsError
request_of words = do
  line ← if_line (line_of words)
  translate ← refused_if (Asked Translate) line.translate
  validate ← refused_if (Asked Validate) line.validate
  or_bad (request_by line)
