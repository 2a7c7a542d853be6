-- What lines and words give, or their fault.
use Rattle.std.specs.Prelude.{◌≡◌, ◌≤◌, ℕ, zero, suc, ◌+◌, List, [], ◌∷◌, length, map, Bool, true, false, nat_le, nat_lt, nat_eq, ◌&&◌, not, if◌then◌else◌, codes, Option, Some, None, option_and_then, option_map, option_to_list, Result, Ok, Err}
use Rattle.std.specs.List.{list_all}
use Rattle.std.specs.Str.{bytes_eq}
use Rattle.lama_num.specs.Gives.{◌>>=◌}
use Rattle.lama_num.specs.Decimals.{decimal_of}
use Rattle.text_lines.specs.Lines.{words_of}
use Rattle.sas_task.specs.Limits.{most_variables, most_facts, most_listed, highest_layer, longest_name}
use Rattle.sas_task.specs.WellFormed.{is_variable, is_fact, is_derived}
use Rattle.sas_task.specs.Refusals.{is_good_rule}
use Rattle.sas_task.specs.declared.contents.Fact.{Fact}
use Rattle.sas_task.specs.declared.contents.Effect.{Effect}
use Rattle.sas_task.specs.declared.contents.Rule.{Rule}
use Rattle.sas_task.specs.declared.contents.Variable.{Variable}
use Rattle.sas_reader.specs.declared.numbers.Pair.{Pair}
use Rattle.sas_reader.specs.declared.numbers.Change.{Change}
use Rattle.sas_reader.specs.declared.numbers.Head.{Head}
use Rattle.sas_reader.specs.declared.faults.SasFault.{SasFault}
use Rattle.sas_reader.specs.declared.faults.SasFault.TheVariants.{BadLine, BadNumber, BadFact, BadRule, TooLarge, WideDerived}
use Rattle.sas_reader.specs.declared.faults.Want.TheVariants.{Word, Version, Metric, Name as AName}
use Rattle.sas_reader.specs.declared.sections.Section.{Section}
use Rattle.sas_reader.specs.declared.sections.Section.TheVariants.{Version as InVersion, Metric as InMetric, Variable as InVariable, MutexGroup as InGroup, State as InState, Goal as InGoal, Operator as InOperator, Rule as InRule}
use Rattle.sas_task.specs.declared.refusals.What.{What}
use Rattle.sas_task.specs.declared.refusals.What.TheVariants.{Range, Layer, Facts, Conditions, Name}

-- the bytes of a text
abbrev pub most_bytes : ℕ
most_bytes = 268435456

abbrev pub or_fault : {A : Type 0} → SasFault → Option A → Result A SasFault
or_fault fault None = Err fault
or_fault fault (Some x) = Ok x

-- a value where a test passes
abbrev pub where_true : {A : Type 0} → Bool → A → Option A
where_true true x = Some x
where_true false x = None

abbrev pub only_if : Bool → SasFault → Result (Unit {0}) SasFault
only_if true fault = Ok tt
only_if false fault = Err fault

-- a quantity within its limit
abbrev pub at_most : What → ℕ → ℕ → Result (Unit {0}) SasFault
at_most what most n = only_if (nat_le n most) (TooLarge what n)

-- the one word of a list
abbrev pub only : List (List ℕ) → Option (List ℕ)
only [] = None
only (word ∷ []) = Some word
only (word ∷ next ∷ words) = None

-- a line of one number
abbrev pub one_number : List ℕ → Option ℕ
one_number line = option_and_then decimal_of (only (words_of line))

-- a number, or none where `-1` stands in its place
abbrev pub decimal_or_none : List ℕ → Option (Option ℕ)
decimal_or_none word = if bytes_eq word (codes "-1") then Some None else option_map (λ n. Some n) (decimal_of word)

-- a line of one number or of `-1`
abbrev pub number_or_none : List ℕ → Option (Option ℕ)
number_or_none line = option_and_then decimal_or_none (only (words_of line))

-- the word that begins a part
abbrev pub begin_of : Section → List ℕ
begin_of InVersion = codes "begin_version"
begin_of InMetric = codes "begin_metric"
begin_of InVariable = codes "begin_variable"
begin_of InGroup = codes "begin_mutex_group"
begin_of InState = codes "begin_state"
begin_of InGoal = codes "begin_goal"
begin_of InOperator = codes "begin_operator"
begin_of InRule = codes "begin_rule"

-- the word that ends it
abbrev pub end_of : Section → List ℕ
end_of InVersion = codes "end_version"
end_of InMetric = codes "end_metric"
end_of InVariable = codes "end_variable"
end_of InGroup = codes "end_mutex_group"
end_of InState = codes "end_state"
end_of InGoal = codes "end_goal"
end_of InOperator = codes "end_operator"
end_of InRule = codes "end_rule"

-- a line of the word that begins a part
unfoldable pub begin_line : Section → ℕ → List ℕ → Result (Unit {0}) SasFault
begin_line section n line = only_if (bytes_eq line (begin_of section)) (BadLine n Word)

-- a line of the word that ends it
unfoldable pub end_line : Section → ℕ → List ℕ → Result (Unit {0}) SasFault
end_line section n line = only_if (bytes_eq line (end_of section)) (BadLine n Word)

-- the version
unfoldable pub version_line : ℕ → List ℕ → Result (Unit {0}) SasFault
version_line n line = only_if (bytes_eq line (codes "3")) (BadLine n Version)

abbrev pub zero_or_one : List ℕ → Option Bool
zero_or_one line = if bytes_eq line (codes "0") then Some false else if bytes_eq line (codes "1") then Some true else None

unfoldable pub metric_line : ℕ → List ℕ → Result Bool SasFault
metric_line n line = or_fault (BadLine n Metric) (zero_or_one line)

-- a line that isn't empty, and not too long
unfoldable pub name_line : ℕ → List ℕ → Result (List ℕ) SasFault
name_line n line = do
  some ← only_if (nat_lt 0 (length line)) (BadLine n AName)
  short ← at_most Name longest_name (length line)
  Ok line

-- a line of one number, up to a limit
unfoldable pub count_line : What → ℕ → ℕ → List ℕ → Result ℕ SasFault
count_line what most n line = do
  count ← or_fault (BadNumber n) (one_number line)
  few ← at_most what most count
  Ok count

abbrev pub low_layer : Option ℕ → Result (Unit {0}) SasFault
low_layer None = Ok tt
low_layer (Some layer) = at_most Layer highest_layer layer

-- a layer, or `-1` where the variable isn't derived
unfoldable pub layer_line : ℕ → List ℕ → Result (Option ℕ) SasFault
layer_line n line = do
  layer ← or_fault (BadNumber n) (number_or_none line)
  low ← low_layer layer
  Ok layer

-- a derived variable has two values
abbrev pub is_narrow : Option ℕ → ℕ → Bool
is_narrow None range = true
is_narrow (Some layer) range = nat_eq range 2

-- the number of values of a variable that has this number and this layer and comes after so many facts
unfoldable pub range_line : ℕ → Option ℕ → ℕ → ℕ → List ℕ → Result ℕ SasFault
range_line var layer facts n line = do
  range ← or_fault (BadNumber n) (one_number line)
  some ← only_if (nat_lt 0 range) (BadNumber n)
  few ← at_most Range most_listed range
  few ← at_most Facts most_facts (facts + range)
  narrow ← only_if (is_narrow layer range) (WideDerived var)
  Ok range

-- a value below a range
unfoldable pub value_line : ℕ → ℕ → List ℕ → Result ℕ SasFault
value_line range n line = do
  value ← or_fault (BadNumber n) (one_number line)
  below ← only_if (nat_lt value range) (BadFact n)
  Ok value

-- the numbers of a line

-- the next word as a number, and the words behind it
abbrev pub number_at : List (List ℕ) → Option (ℕ × List (List ℕ))
number_at [] = None
number_at (word ∷ words) = option_map (λ n. (n, words)) (decimal_of word)

-- the next word as a number, or none where it is `-1`
abbrev pub number_or_none_at : List (List ℕ) → Option (Option ℕ × List (List ℕ))
number_or_none_at [] = None
number_or_none_at (word ∷ words) = option_map (λ n. (n, words)) (decimal_or_none word)

-- the numbers of a variable and of its value
unfoldable pub pair_at : List (List ℕ) → Option (Pair × List (List ℕ))
pair_at words = option_and_then (λ var. option_map (λ val. (record { var = var.0; val = val.0 }, val.1)) (number_at var.1)) (number_at words)

-- so many of them
unfoldable pub pairs_at : ℕ → List (List ℕ) → Option (List Pair × List (List ℕ))
pairs_at zero words = Some ([], words)
pairs_at (suc n) words = option_and_then (λ pair. option_map (λ pairs. (pair.0 ∷ pairs.0, pairs.1)) (pairs_at n pair.1)) (pair_at words)

-- the numbers of a variable, of its old value or `-1` and of its new value
unfoldable pub change_at : List (List ℕ) → Option (Change × List (List ℕ))
change_at words =
    option_and_then (λ var. option_and_then (λ old. option_map (λ new. (record { var = var.0; old = old.0; new = new.0 }, new.1)) (number_at old.1)) (number_or_none_at var.1)) (number_at words)

-- the numbers of a variable, of its old value and of its new value
unfoldable pub head_at : List (List ℕ) → Option (Head × List (List ℕ))
head_at words =
    option_and_then (λ var. option_and_then (λ old. option_map (λ new. (record { var = var.0; old = old.0; new = new.0 }, new.1)) (number_at old.1)) (number_at var.1)) (number_at words)

-- something, where no word is left behind it
abbrev pub at_the_end : {A : Type 0} → A × List (List ℕ) → Option A
at_the_end (x, []) = Some x
at_the_end (x, word ∷ words) = None

-- a line of a variable and its value
abbrev pub one_pair : List ℕ → Option Pair
one_pair line = option_and_then at_the_end (pair_at (words_of line))

-- a line of an effect: the count of its conditions, the conditions, and what it changes
unfoldable pub effect_numbers : List ℕ → Option (List Pair × Change)
effect_numbers line =
    option_and_then (λ count. option_and_then (λ conds. option_map (λ change. (conds.0, change)) (option_and_then at_the_end (change_at conds.1))) (pairs_at count.0 count.1)) (number_at (words_of line))

-- a line of a rule's head
abbrev pub one_head : List ℕ → Option Head
one_head line = option_and_then at_the_end (head_at (words_of line))

-- lines of facts

abbrev pub as_fact : Pair → Fact
as_fact pair = record { var = pair.var; val = pair.val }

-- a line of one fact
unfoldable pub fact_line : List Variable → ℕ → List ℕ → Result Fact SasFault
fact_line variables n line = do
  pair ← or_fault (BadNumber n) (one_pair line)
  there ← only_if (is_fact variables (as_fact pair)) (BadFact n)
  Ok (as_fact pair)

-- the fact that an effect needs of its variable, where its old value isn't `-1`
abbrev pub old_fact : Change → Option Fact
old_fact change = option_map (λ val. record { var = change.var; val = val }) change.old

-- the fact that it gives
abbrev pub new_fact : Change → Fact
new_fact change = record { var = change.var; val = change.new }

-- both are facts, of a variable that isn't derived
abbrev pub is_change : List Variable → Change → Bool
is_change variables change = not (is_derived variables change.var) && (list_all (is_fact variables) (option_to_list (old_fact change)) && is_fact variables (new_fact change))

-- a line of one effect
unfoldable pub effect_line : List Variable → ℕ → List ℕ → Result (Option Fact × Effect) SasFault
effect_line variables n line = do
  numbers ← or_fault (BadNumber n) (effect_numbers line)
  few ← at_most Conditions most_listed (length numbers.0)
  there ← only_if (list_all (is_fact variables) (map as_fact numbers.0)) (BadFact n)
  free ← only_if (is_change variables numbers.1) (BadFact n)
  Ok (old_fact numbers.1, record { conds = map as_fact numbers.0; fact = new_fact numbers.1 })

-- the rule that has those conditions and that head
abbrev pub headed : List Fact → Head → Rule
headed conds head = record { conds = conds; head = record { var = head.var; val = head.new } }

-- its old and its new value are there
abbrev pub is_head : List Variable → Head → Bool
is_head variables head = is_fact variables (record { var = head.var; val = head.old }) && is_fact variables (record { var = head.var; val = head.new })

-- a line of the head of a rule with those conditions
unfoldable pub head_line : List Variable → List ℕ → List Fact → ℕ → List ℕ → Result Rule SasFault
head_line variables init conds n line = do
  head ← or_fault (BadNumber n) (one_head line)
  there ← only_if (is_head variables head) (BadFact n)
  good ← only_if (is_good_rule variables init (headed conds head)) (BadRule n)
  Ok (headed conds head)

-- variables that a text has given: few, each within its limits
pub record AreVariables (variables : List Variable) : Type 0 where
  pub few : length variables ≤ most_variables
  pub each : list_all is_variable variables ≡ true
