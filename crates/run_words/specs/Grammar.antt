-- The language of the command line: which words are a line, and what a line gives.
use Rattle.std.specs.Prelude.{ℕ, List, [], ◌∷◌, map, Bool, true, not, nat_eq, ◌&&◌, if◌then◌else◌, codes, Option, Some, None, is_some, option_map, option_and_then, find}
use Rattle.std.specs.List.{list_any, before_first, after_first}
use Rattle.std.specs.Str.{bytes_eq}

abbrev pub Text : Type 0
Text = List ℕ

-- the options that take a value, and those that don't
abbrev pub option_names : List Text
option_names = codes "alias" ∷ codes "search" ∷ codes "portfolio" ∷ codes "plan-file" ∷ codes "bound" ∷ codes "overall-time-limit" ∷ codes "child-memory-limit" ∷ codes "gen" ∷ []

abbrev pub flag_names : List Text
flag_names = codes "portfolio-single-plan" ∷ codes "translate" ∷ codes "validate" ∷ []

-- an option with its value, a flag, whose value is empty, or the task's file as the value of TASK
pub record Use : Type 0 where
  pub name : Text
  pub value : Text

abbrev pub gives : Text → Text → Use
gives name value = record { name = name; value = value }

abbrev pub is_among : List Text → Text → Bool
is_among names name = list_any (λ n. bytes_eq n name) names

-- a word without the dash (45) that it begins with
abbrev pub behind_dash : Text → Option Text
behind_dash [] = None
behind_dash (b ∷ rest) = if nat_eq b 45 then Some rest else None

abbrev pub begins_with_dash : Text → Bool
begins_with_dash word = is_some (behind_dash word)

abbrev pub is_equals_sign : ℕ → Bool
is_equals_sign b = nat_eq b 61

-- what stands behind the first `=` of a text, if it has one
abbrev pub behind_equals : Text → Option Text
behind_equals text = if list_any is_equals_sign text then Some (after_first is_equals_sign text) else None

-- what a word is that isn't the value of the option in front: a use, an option whose value is the next word, or none of these
pub data Word : Type 0 where
  Whole : Use → Word
  Opens : Text → Word
  Wrong : Word

-- `--name`
abbrev pub bare : Text → Word
bare name = if is_among option_names name then Opens name else (if is_among flag_names name then Whole (gives name []) else Wrong)

-- `--name=value`
abbrev pub assigned : Text → Text → Word
assigned name value = if is_among option_names name then Whole (gives name value) else Wrong

abbrev pub named : Text → Option Text → Word
named name None = bare name
named name (Some value) = assigned name value

-- by what stands behind a first dash, and behind a second
abbrev pub behind_two : Option Text → Word
behind_two None = Wrong
behind_two (Some text) = named (before_first is_equals_sign text) (behind_equals text)

abbrev pub by_dash : Text → Option Text → Word
by_dash word None = Whole (gives (codes "TASK") word)
by_dash word (Some rest) = behind_two (behind_dash rest)

abbrev pub word_of : Text → Word
word_of word = by_dash word (behind_dash word)

abbrev pub and_then : Use → Option (List Use) → Option (List Use)
and_then one = option_map (λ uses. one ∷ uses)

abbrev pub by_word : Word → (Option Text → Option (List Use)) → Option (List Use)
by_word (Whole one) onward = and_then one (onward None)
by_word (Opens name) onward = onward (Some name)
by_word Wrong onward = None

-- the uses that words are, one after another, where an option in front of them waits for its value, or none does
unfoldable pub uses_from : Option Text → List Text → Option (List Use)
uses_from None [] = Some []
uses_from (Some name) [] = None
uses_from None (word ∷ words) = by_word (word_of word) (λ waiting. uses_from waiting words)
uses_from (Some name) (word ∷ words) = if begins_with_dash word then None else and_then (gives name word) (uses_from None words)

-- no name stands twice
abbrev pub is_once : List Text → Bool
is_once [] = true
is_once (name ∷ names) = not (is_among names name) && is_once names

abbrev pub if_once : List Use → Option (List Use)
if_once uses = if is_once (map (λ one. one.name) uses) then Some uses else None

-- the uses of words that are a line: each name stands once
abbrev pub uses_of : List Text → Option (List Use)
uses_of words = option_and_then if_once (uses_from None words)

abbrev pub use_of : List Use → Text → Option Use
use_of uses name = find (λ one. bytes_eq one.name name) uses

abbrev pub value_of : List Use → Text → Option Text
value_of uses name = option_map (λ one. one.value) (use_of uses name)

abbrev pub is_given : List Use → Text → Bool
is_given uses name = is_some (use_of uses name)

-- the values of a line, as they are written, and whether its flags are given
pub record Line : Type 0 where
  pub alias : Option Text
  pub search : Option Text
  pub portfolio : Option Text
  pub plan_file : Option Text
  pub bound : Option Text
  pub time_limit : Option Text
  pub child_memory : Option Text
  pub made : Option Text
  pub task : Option Text
  pub single : Bool
  pub translate : Bool
  pub validate : Bool

-- the line whose options and task have these values, and which has these flags
abbrev pub line_from : (Text → Option Text) → (Text → Bool) → Line
line_from value flag = record {
  alias = value (codes "alias");
  search = value (codes "search");
  portfolio = value (codes "portfolio");
  plan_file = value (codes "plan-file");
  bound = value (codes "bound");
  time_limit = value (codes "overall-time-limit");
  child_memory = value (codes "child-memory-limit");
  made = value (codes "gen");
  task = value (codes "TASK");
  single = flag (codes "portfolio-single-plan");
  translate = flag (codes "translate");
  validate = flag (codes "validate");
}

abbrev pub line_by : List Use → Line
line_by uses = line_from (value_of uses) (is_given uses)

-- the line that words are, if they are one
unfoldable pub line_of : List Text → Option Line
line_of words = option_map line_by (uses_of words)
