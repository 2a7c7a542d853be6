-- The rules by which clap reads words for this command.
use Rattle.std.proofs.Common.{◌≡◌, ◌∙◌, ap, refl, ℕ, List, [], ◌∷◌, ◌++◌, map, codes, Bool, true, false, not, ◌&&◌, ◌||◌, Option, Some, None}
use Rattle.std.specs.Prelude.{if◌then◌else◌, is_some}
use Rattle.std.specs.List.{find, fold, list_all}
use Rattle.lama_num.proofs.ListLaws.{both}
use Rattle.std.specs.Str.{bytes_eq}
use Rattle.std.proofs.lemmas.Slice.Eq.{bytes_eq-Decides}
use Rattle.clap.specs.Faults.{built_fault, check_fault, defaults_fault, entered_fault, fault_of, level_fault, settle_fault, walk_fault}
use Rattle.clap.specs.Kinds.{Kinds, or_else}
use Rattle.clap.specs.Simple.{Shape, App, built, entered, matches_of, new_rule, new_shape}
use Rattle.clap.specs.Walk.{Row, Rule, Text, Walk, arg_by_id, arg_by_index, arg_by_long, has_long, nothing_held, settled, walk_from, walked, with_default}
use Rattle.clap.specs.declared.builder.action.ArgAction.TheVariants.{Set, SetTrue}
use Rattle.clap.specs.declared.builder.value_parser.ValueParser.TheVariants as parser
use Rattle.run_words.specs.Command.{the_command}
use Rattle.run_words.specs.Grammar.{option_names, flag_names, is_among}
use Rattle.lama_num.proofs.BoolLaws.{or-false as or_false}
use Rattle.std.proofs.lemmas.Bool.{not-true as is_true}

-- an argument with one value
abbrev pub value_arg : Option Text → Option ℕ → Text → Rule
value_arg long index name = record (new_rule name) { long = long; index = index; action = Some Set; range = Some (record { start_inclusive = 1; end_inclusive = 1 }); parser = Some parser.String }

abbrev pub option_arg : Text → Rule
option_arg name = value_arg (Some name) None name

abbrev pub task_arg : Rule
task_arg = value_arg None (Some 1) (codes "TASK")

abbrev pub flag_arg : Text → Rule
flag_arg name = record (new_rule name) { long = Some name; action = Some SetTrue; range = Some (record { start_inclusive = 0; end_inclusive = 0 }); parser = Some parser.Bool; defaults = codes "false" ∷ []; missing = codes "true" ∷ [] }

unfoldable pub rules : List Rule
rules = map option_arg option_names ++ (map flag_arg flag_names ++ task_arg ∷ [])

abbrev pub shape : Shape
shape = record (new_shape (codes "downward")) { rules = rules; no_binary_name = true; disable_help_flag = true; disable_help_subcommand = true; is_built = true }

abbrev pub the_app : App
the_app = record { top = shape; subs = [] }

pub built_app : built the_command ≡ the_app
unfolding the_command rules
built_app = refl

-- the first argument that a name answers to
find_among : (p : Rule → Bool) (arg : Text → Rule) (name : Text) → ((n : Text) → p (arg n) ≡ bytes_eq n name) → (names : List Text) (rest : List Rule)
    → find p (map arg names ++ rest) ≡ (if is_among names name then Some (arg name) else find p rest)
find_among p arg name tests [] rest = refl
find_among p arg name tests (n ∷ names) rest = by_test (bytes_eq n name) refl (find_among p arg name tests names rest)
  where
    by_test : (b : Bool) → bytes_eq n name ≡ b → find p (map arg names ++ rest) ≡ (if is_among names name then Some (arg name) else find p rest)
        → find p (map arg (n ∷ names) ++ rest) ≡ (if is_among (n ∷ names) name then Some (arg name) else find p rest)
    by_test true e more = let same : n ≡ name = (bytes_eq-Decides n name).0 e in rw (tests n, e) (ap (λ m. Some (arg m)) same)
    by_test false e more = rw (tests n, e) more

abbrev has_name : Text → Rule → Bool
has_name name a = not (is_some a.index) && has_long a name

abbrev has_id : Text → Rule → Bool
has_id name a = bytes_eq a.id name

pub by_long : (name : Text) → arg_by_long rules name ≡ (if is_among option_names name then Some (option_arg name) else (if is_among flag_names name then Some (flag_arg name) else None))
unfolding rules
by_long name =
    find_among (has_name name) option_arg name (λ n. or_false (bytes_eq n name)) option_names (map flag_arg flag_names ++ task_arg ∷ [])
    ∙ ap (λ (o : Option Rule). if is_among option_names name then Some (option_arg name) else o) (find_among (has_name name) flag_arg name (λ n. or_false (bytes_eq n name)) flag_names (task_arg ∷ []))

pub option_by_id : (name : Text) → is_among option_names name ≡ true → arg_by_id rules name ≡ Some (option_arg name)
unfolding rules
option_by_id name known = find_among (has_id name) option_arg name (λ n. refl) option_names (map flag_arg flag_names ++ task_arg ∷ []) ∙ ap (λ (b : Bool). if b then Some (option_arg name) else find (has_id name) (map flag_arg flag_names ++ task_arg ∷ [])) known

-- what every name of a list has
among_all : (p : Text → Bool) (names : List Text) (name : Text) → list_all p names ≡ true → is_among names name ≡ true → p name ≡ true
among_all p [] name all among = let k : false ≡ true = among in cc
among_all p (n ∷ names) name all among = let parts = both (p n) (list_all p names) all in by_test (bytes_eq n name) refl parts.0 among (among_all p names name parts.1)
  where
    by_test : (b : Bool) → bytes_eq n name ≡ b → p n ≡ true → (b || is_among names name) ≡ true → (is_among names name ≡ true → p name ≡ true) → p name ≡ true
    by_test true e first there more = let same : n ≡ name = (bytes_eq-Decides n name).0 e in rw (← same) first
    by_test false e first there more = more there

pub option_no_flag : (name : Text) → is_among option_names name ≡ true → is_among flag_names name ≡ false
option_no_flag name known = is_true _ (among_all (λ n. not (is_among flag_names n)) option_names name refl known)

pub option_no_task : (name : Text) → is_among option_names name ≡ true → bytes_eq name (codes "TASK") ≡ false
option_no_task name known = is_true _ (among_all (λ n. not (bytes_eq n (codes "TASK"))) option_names name refl known)

pub flag_no_task : (name : Text) → is_among flag_names name ≡ true → bytes_eq name (codes "TASK") ≡ false
flag_no_task name known = is_true _ (among_all (λ n. not (bytes_eq n (codes "TASK"))) flag_names name refl known)

pub task_by_id : arg_by_id rules (codes "TASK") ≡ Some task_arg
unfolding rules
task_by_id = refl

pub first_place : arg_by_index rules 1 ≡ Some task_arg
unfolding rules
first_place = refl

pub second_place : arg_by_index rules 2 ≡ None
unfolding rules
second_place = refl

-- what is left to a walk from a place on: the first fault, and the rows at its end
abbrev pub fault_from : Walk → List Text → Kinds
fault_from w words = or_else (walk_fault shape [] w words) (settle_fault rules false (fold (walked rules []) w words).held)

abbrev pub rows_from : Walk → List Text → List Row
rows_from w words = (settled rules (fold (walked rules []) w words).held).rows

pub if_same : {A : Type 0} (b : Bool) (x : A) → (if b then x else x) ≡ x
if_same true x = refl
if_same false x = refl

if_true : {A : Type 0} (b : Bool) (x y : A) → (if b || true then x else y) ≡ x
if_true true x y = refl
if_true false x y = refl

no_default_options : (names : List Text) (rest : List Rule) → ((rows : List Row) → defaults_fault rows rest ≡ []) → (rows : List Row) → defaults_fault rows (map option_arg names ++ rest) ≡ []
unfolding defaults_fault
no_default_options [] rest none rows = none rows
no_default_options (n ∷ names) rest none rows = rw (if_true) (no_default_options names rest none _)

no_default_flags : (names : List Text) (rest : List Rule) → ((rows : List Row) → defaults_fault rows rest ≡ []) → (rows : List Row) → defaults_fault rows (map flag_arg names ++ rest) ≡ []
unfolding defaults_fault
no_default_flags [] rest none rows = none rows
no_default_flags (n ∷ names) rest none rows = rw (if_same) (no_default_flags names rest none _)

no_default_task : (rows : List Row) → defaults_fault rows (task_arg ∷ []) ≡ []
unfolding defaults_fault
no_default_task rows = rw (if_true) refl

pub no_default_fault : (rows : List Row) → defaults_fault rows rules ≡ []
unfolding rules
no_default_fault rows = no_default_options option_names _ (no_default_flags flag_names _ no_default_task) rows

none_required : (rows : List Row) → check_fault shape rows false ≡ []
unfolding rules
none_required rows = refl

-- no word names a subcommand
no_subcommand : (stop : Option (Text × List Text)) (words : List Text) → level_fault shape [] nothing_held words (is_some (entered the_app stop)) (entered_fault the_app stop) ≡ level_fault shape [] nothing_held words false []
no_subcommand None words = refl
no_subcommand (Some p) words = refl

or_nothing : (kinds : Kinds) → or_else kinds [] ≡ kinds
or_nothing [] = refl
or_nothing (k ∷ kinds) = refl

level : (words : List Text) → level_fault shape [] nothing_held words false [] ≡ fault_from (walk_from nothing_held) words
level words = rw (no_default_fault, none_required, or_nothing) refl

of_app : (words : List Text) → fault_of the_command words ≡ built_fault the_app nothing_held words
unfolding the_command rules
of_app words = refl

-- clap's fault at a line is the first of its walk
pub fault_is : (words : List Text) → fault_of the_command words ≡ fault_from (walk_from nothing_held) words
fault_is words = of_app words ∙ (no_subcommand _ words ∙ level words)

-- what clap finds in a line: the rows of its walk, with the defaults of flags
pub found_is : (words : List Text) → matches_of the_command words ≡ fold with_default (rows_from (walk_from nothing_held) words) rules
unfolding the_command rules
found_is words = refl
