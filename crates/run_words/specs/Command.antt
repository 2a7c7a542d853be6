-- The command as clap sees it.
use Rattle.std.specs.Prelude.{◌≡◌, List, [], length, Bool, true, false, nat_eq, Some, codes, Result, Ok, Err, fold}
use Rattle.std.specs.Option.{option_map_or}
use Rattle.clap.specs.Walk.{Row, Rule, Text, rows_of}
use Rattle.clap.specs.Simple.{App, new_app, new_rule, with_rule, on_top}
use Rattle.clap.specs.Kinds.{Kinds}
use Rattle.clap.specs.Matches.{found_of, one_text}
use Rattle.clap.specs.declared.builder.action.ArgAction.TheVariants.{Set, SetTrue}
use Rattle.clap.specs.declared.error.kind.ErrorKind.{ErrorKind}
use Rattle.clap.specs.declared.error.kind.ErrorKind.TheVariants as kind
use Rattle.clap.specs.declared.parser.matches.ArgMatches.{ArgMatches}
use Rattle.clap.specs.declared.parser.matches.Found.{Found}
use Rattle.run_words.specs.Grammar.{option_names, flag_names, behind_dash, is_among}
use Rattle.run_words.specs.declared.faults.WordsError.{WordsError}
use Rattle.run_words.specs.declared.faults.WordsError.TheVariants.{Bad, Asked, NoMemory}
use Rattle.run_words.specs.declared.faults.WordsFault.TheVariants.{Refused}

abbrev pub named_rule : Text → Rule
named_rule name = record (new_rule name) { long = Some name; action = Some Set }

abbrev pub flag_rule : Text → Rule
flag_rule name = record (new_rule name) { long = Some name; action = Some SetTrue }

abbrev pub task_rule : Rule
task_rule = record (new_rule (codes "TASK")) { action = Some Set }

abbrev pub bare_app : App
bare_app = on_top (λ s. record s { no_binary_name = true; disable_help_flag = true }) (new_app (codes "downward"))

unfoldable pub the_command : App
the_command = with_rule (fold (λ a n. with_rule a (flag_rule n)) (fold (λ a n. with_rule a (named_rule n)) bare_app option_names) flag_names) task_rule

-- an answer comes where clap's rules have no fault, and a refusal where they have one
abbrev pub Answers : Kinds → List Row → Result ArgMatches WordsError → Type 0
Answers faults rows (Ok m) = (faults ≡ []) × (rows_of (found_of m) ≡ rows)
Answers faults rows (Err (Bad fault)) = (fault ≡ Refused) × (faults ≡ [] → ⊥)
Answers faults rows (Err (Asked asked)) = ⊥
Answers faults rows (Err NoMemory) = Unit {0}

-- what an error of clap comes to
abbrev pub error_by : ErrorKind → WordsError
error_by kind.OutOfMemory = NoMemory
error_by _ = Bad Refused

-- a word that begins with a dash and isn't a name behind two of them: clap takes `-` for a value, and `--` in its own way
abbrev pub is_stray : Text → Bool
is_stray word = option_map_or (λ rest. option_map_or (λ name. nat_eq (length name) 0) (behind_dash rest) true) (behind_dash word) false

abbrev pub flag_text : Bool → Text
flag_text true = codes "true"
flag_text false = codes "false"

-- whether flags are given, as clap's matches tell it
abbrev pub ReadsFlags : Found → (Text → Bool) → Type 0
ReadsFlags found flag = (name : Text) → is_among flag_names name ≡ true → one_text found name ≡ Some (flag_text (flag name))
