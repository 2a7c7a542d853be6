-- Single steps of clap's walk over a line.
use Rattle.std.proofs.Common.{◌≡◌, ◌∙◌, ap, refl, sym, ℕ, List, [], ◌∷◌, ◌++◌, map, codes, Bool, true, false, ◌&&◌, ◌||◌, Option, Some, None, append-nil}
use Rattle.std.specs.Prelude.{if◌then◌else◌}
use Rattle.std.specs.Str.{bytes_eq}
use Rattle.std.proofs.lemmas.Slice.Eq.{bytes_eq-Decides}
use Rattle.std.proofs.lemmas.List.{map-append}
use Rattle.clap.specs.Faults.{long_fault, react_fault, settle_fault, step_fault, turn_fault, use_fault, word_fault}
use Rattle.clap.specs.Kinds.{Kinds, or_else}
use Rattle.clap.specs.Walk.{Held, Row, Rule, Text, Waiting, Walk, arg_by_id, arg_by_long, at_row, done as all_done, has_row, idle, long_met, more_values, option, reacted, settled, settled_rows, subcommand_met, used, walked, word_met}
use Rattle.clap.specs.declared.builder.value_parser.Reading.TheVariants.{AsWritten}
use Rattle.clap.specs.declared.error.kind.ErrorKind.{ErrorKind}
use Rattle.clap.specs.declared.error.kind.ErrorKind.TheVariants as kind
use Rattle.clap.specs.declared.parser.matches.ValueSource.TheVariants.{CommandLine}
use Rattle.run_words.specs.Grammar.{Opens, Use, Whole, Wrong, flag_names, gives, is_among, named, option_names}
use Rattle.run_words.proofs.Rules.{by_long, first_place, flag_arg, option_arg, option_by_id, option_no_flag, rules, second_place, shape, value_arg}
use Rattle.run_words.proofs.WordForms.{IsLong, IsPlain}
use Rattle.lama_num.proofs.BoolLaws.{and-false as and_false, and-true as and_true}

-- uses and their rows

-- the row of a use: a flag's value is `true`
abbrev pub row_by : Use → Row
row_by one = record { id = one.name; values = (if is_among flag_names one.name then codes "true" else one.value) ∷ []; count = None; source = Some CommandLine; reading = AsWritten }

abbrev pub rows_by : List Use → List Row
rows_by = map row_by

abbrev pub names_of : List Use → List Text
names_of = map (λ one. one.name)

pub row_among : (id : Text) (uses : List Use) → has_row id (rows_by uses) ≡ is_among (names_of uses) id
row_among id [] = refl
row_among id (one ∷ uses) = ap (λ b. bytes_eq one.name id || b) (row_among id uses)

pub at_no_row : (id : Text) (change : Row → List Row) (missing rows : List Row) → has_row id rows ≡ false → at_row id change missing rows ≡ rows ++ missing
at_no_row id change missing [] none = refl
at_no_row id change missing (r ∷ rows) none = by_test (bytes_eq r.id id) refl none (at_no_row id change missing rows)
  where
    by_test : (b : Bool) → bytes_eq r.id id ≡ b → (b || has_row id rows) ≡ false → (has_row id rows ≡ false → at_row id change missing rows ≡ rows ++ missing) → at_row id change missing (r ∷ rows) ≡ (r ∷ rows) ++ missing
    by_test true e here more = let k : true ≡ false = here in cc
    by_test false e here more = rw e (ap (λ (rs : List Row). r ∷ rs) (more here))

-- an argument whose one use gives this row
pub record Adds (arg : Rule) (values : List Text) (one : Use) : Type 0 where
  pub fault : (rows : List Row) → use_fault false arg values rows ≡ (if has_row one.name rows then kind.ArgumentConflict ∷ [] else [])
  pub rows : (rows : List Row) → has_row one.name rows ≡ false → used arg values rows ≡ rows ++ row_by one ∷ []

or_none : (b : Bool) (kinds : Kinds) → or_else (if b then kinds else []) [] ≡ (if b then kinds else [])
or_none true [] = refl
or_none true (k ∷ kinds) = refl
or_none false kinds = refl

added : (id : Text) (row : Row) (rows : List Row) (change : Row → List Row) → has_row id rows ≡ false → at_row id change (row ∷ []) (at_row id (λ r. []) [] rows) ≡ rows ++ row ∷ []
added id row rows change none =
    let same : at_row id (λ r. []) [] rows ≡ rows = at_no_row id (λ r. []) [] rows none ∙ append-nil rows in
    rw same (at_no_row id change (row ∷ []) rows none)

pub value_adds : (long : Option Text) (index : Option ℕ) (name value : Text) → is_among flag_names name ≡ false → Adds (value_arg long index name) (value ∷ []) (gives name value)
value_adds long index name value no_flag = record {
  fault = λ rows. rw (and_true, or_none) refl;
  rows = λ rows none. rw no_flag (added name _ rows (more_values CommandLine (value ∷ [])) none);
}

pub flag_adds : (name : Text) → is_among flag_names name ≡ true → Adds (flag_arg name) [] (gives name [])
flag_adds name flag = record {
  fault = λ rows. rw (and_true, or_none) refl;
  rows = λ rows none. rw flag (added name _ rows (more_values CommandLine (codes "true" ∷ [])) none);
}

-- where a walk stands

-- what isn't settled yet: nothing, or an option or the task with its value
pub data Pending : Type 0 where
  Nothing : Pending
  Holds : Text → Text → Pending

abbrev pub pending_by : Pending → Option (Text × List Text)
pending_by Nothing = None
pending_by (Holds name value) = Some (name, value ∷ [])

abbrev pub held_by : List Use → Pending → Held
held_by done pending = record { rows = rows_by done; pending = pending_by pending; skip = 0 }

abbrev pub walk_by : Waiting → Bool → Held → Walk
walk_by waiting tasked held = record { held = held; waiting = waiting; position = if tasked then 2 else 1; is_trailing = false; stopped = None }

-- the walk behind these uses, of which one may be the task
abbrev pub walk_at : List Use → Pending → Bool → Walk
walk_at done pending tasked = walk_by idle tasked (held_by done pending)

abbrev pub held_waiting : List Use → Text → Held
held_waiting done name = record { rows = rows_by done; pending = Some (name, []); skip = 0 }

-- the walk behind these uses, where an option waits for its value
abbrev pub walk_waiting : List Use → Text → Bool → Walk
walk_waiting done name tasked = walk_by (option name) tasked (held_waiting done name)

-- an option, or the task
pub record IsValued (name : Text) : Type 0 where
  pub long : Option Text
  pub index : Option ℕ
  pub found : arg_by_id rules name ≡ Some (value_arg long index name)
  pub no_flag : is_among flag_names name ≡ false

-- what is pending settles without a fault, and these uses are done then
pub record Settles (done : List Use) (pending : Pending) (after : List Use) : Type 0 where
  pub fault : settle_fault rules false (held_by done pending) ≡ []
  pub rows : settled_rows rules (pending_by pending) (rows_by done) ≡ rows_by after

-- there is a fault
pub record Fails (kinds : Kinds) : Type 0 where
  pub first : ErrorKind
  pub others : Kinds
  pub is : kinds ≡ first ∷ others

-- a step without a fault
pub record Goes (before : Walk) (word : Text) (after : Walk) : Type 0 where
  pub fault : turn_fault shape [] before word ≡ []
  pub walk : walked rules [] before word ≡ after

pub settles_nothing : (done : List Use) → Settles done Nothing done
settles_nothing done = record { fault = refl; rows = refl }

pub settles_value : (done : List Use) (name value : Text) → IsValued name → is_among (names_of done) name ≡ false → Settles done (Holds name value) (done ++ gives name value ∷ [])
settles_value done name value valued new =
    let adds = value_adds valued.long valued.index name value valued.no_flag in
    let none : has_row name (rows_by done) ≡ false = row_among name done ∙ new in
    record {
      fault = rw (valued.found, adds.fault (rows_by done), none) refl;
      rows = rw (valued.found) (adds.rows (rows_by done) none ∙ sym (map-append row_by done (gives name value ∷ [])));
    }

pub fails_again : (done : List Use) (name value : Text) → IsValued name → is_among (names_of done) name ≡ true → Fails (settle_fault rules false (held_by done (Holds name value)))
fails_again done name value valued twice =
    let adds = value_adds valued.long valued.index name value valued.no_flag in
    let there : has_row name (rows_by done) ≡ true = row_among name done ∙ twice in
    record { first = kind.ArgumentConflict; others = []; is = rw (valued.found, adds.fault (rows_by done), there) refl }

pub fails_waiting : (done : List Use) (name : Text) → is_among option_names name ≡ true → Fails (settle_fault rules false (held_waiting done name))
fails_waiting done name known = record { first = kind.InvalidValue; others = []; is = rw (option_by_id name known) refl }

or_fails : (kinds next : Kinds) → Fails kinds → Fails (or_else kinds next)
or_fails kinds next fails = record { first = fails.first; others = fails.others; is = rw (fails.is) refl }

-- a plain word

same_name : (name : Text) → bytes_eq name name ≡ true
same_name name = (bytes_eq-Decides name name).1 refl

-- it is the value of the option that waits for one
pub value_read : (done : List Use) (name word : Text) (tasked : Bool) → IsPlain word → is_among option_names name ≡ true → Goes (walk_waiting done name tasked) word (walk_at done (Holds name word) tasked)
unfolding walked
value_read done name word tasked plain known =
    let found = option_by_id name known in
    record {
      fault = rw (plain.dashes, plain.long, plain.short) refl;
      walk = rw (plain.dashes, plain.long, plain.short, found, same_name name) refl;
    }

-- it is the task
pub task_read : (done after : List Use) (pending : Pending) (word : Text) → IsPlain word → Settles done pending after → Goes (walk_at done pending false) word (walk_at after (Holds (codes "TASK") word) true)
unfolding walked
task_read done after pending word plain settles = record {
  fault = rw (plain.dashes, plain.long, plain.short, first_place, and_false) settles.fault;
  walk = rw (plain.dashes, plain.long, plain.short, first_place, and_false, settles.rows) refl;
}

pub task_fails : (done : List Use) (pending : Pending) (word : Text) → IsPlain word → Fails (settle_fault rules false (held_by done pending)) → Fails (turn_fault shape [] (walk_at done pending false) word)
task_fails done pending word plain fails = record { first = fails.first; others = fails.others; is = rw (plain.dashes, plain.long, plain.short, first_place, and_false) fails.is }

-- a second one is refused
pub second_task : (done : List Use) (pending : Pending) (word : Text) → IsPlain word → Fails (turn_fault shape [] (walk_at done pending true) word)
second_task done pending word plain = record { first = kind.UnknownArgument; others = []; is = rw (plain.dashes, plain.long, plain.short, second_place) refl }

-- a word with a name

long_fails : (waiting : Waiting) (tasked : Bool) (held : Held) (word name : Text) (value : Option Text) → subcommand_met [] waiting word ≡ None → IsLong word name value
    → Fails (long_fault rules false (arg_by_long rules name) value held) → Fails (turn_fault shape [] (walk_by waiting tasked held) word)
long_fails waiting tasked held word name value none long fails = or_fails (word_fault shape [] false waiting word held) (step_fault shape (if tasked then 2 else 1) (word_met rules [] false waiting (if tasked then 2 else 1) word held).0 (word_met rules [] false waiting (if tasked then 2 else 1) word held).1) (rw (none, long.dashes, long.long) fails)

-- a name that no option or flag has, or a flag with a value
pub unknown_fails : (waiting : Waiting) (tasked : Bool) (held : Held) (word name : Text) (value : Option Text) → subcommand_met [] waiting word ≡ None → IsLong word name value
    → named name value ≡ Wrong → Fails (turn_fault shape [] (walk_by waiting tasked held) word)
unknown_fails waiting tasked held word name value none long wrong = long_fails waiting tasked held word name value none long (rw (by_long name) (by_names _ _ refl refl value wrong))
  where
    by_names : (o f : Bool) → is_among option_names name ≡ o → is_among flag_names name ≡ f → (value : Option Text) → named name value ≡ Wrong
        → Fails (long_fault rules false (if is_among option_names name then Some (option_arg name) else (if is_among flag_names name then Some (flag_arg name) else None)) value held)
    by_names true f eo ef None is = let k : Opens name ≡ Wrong = rw eo at is in cc
    by_names true f eo ef (Some v) is = let k : Whole (gives name v) ≡ Wrong = rw eo at is in cc
    by_names false true eo ef None is = let k : Whole (gives name []) ≡ Wrong = rw (eo, ef) at is in cc
    by_names false true eo ef (Some v) is = record { first = kind.TooManyValues; others = []; is = rw (eo, ef) refl }
    by_names false false eo ef value is = record { first = kind.UnknownArgument; others = []; is = rw (eo, ef) refl }

-- what is pending fails first
pub unsettled_fails : (waiting : Waiting) (tasked : Bool) (held : Held) (word name : Text) (value : Option Text) → subcommand_met [] waiting word ≡ None → IsLong word name value
    → Fails (settle_fault rules false held) → Fails (turn_fault shape [] (walk_by waiting tasked held) word)
unsettled_fails waiting tasked held word name value none long fails = long_fails waiting tasked held word name value none long (rw (by_long name) (by_names _ _ value))
  where
    by_names : (o f : Bool) (value : Option Text) → Fails (long_fault rules false (if o then Some (option_arg name) else (if f then Some (flag_arg name) else None)) value held)
    by_names true f None = fails
    by_names true f (Some v) = or_fails (settle_fault rules false held) (use_fault false (option_arg name) (v ∷ []) (settled rules held).rows) fails
    by_names false true None = or_fails (settle_fault rules false held) (use_fault false (flag_arg name) [] (settled rules held).rows) fails
    by_names false true (Some v) = record { first = kind.TooManyValues; others = []; is = refl }
    by_names false false value = record { first = kind.UnknownArgument; others = []; is = refl }

-- an option whose value is the next word
pub option_opened : (done after : List Use) (pending : Pending) (tasked : Bool) (word name : Text) → IsLong word name None → is_among option_names name ≡ true → Settles done pending after
    → Goes (walk_at done pending tasked) word (walk_waiting after name tasked)
unfolding walked
option_opened done after pending tasked word name long known settles =
    let arg : arg_by_long rules name ≡ Some (option_arg name) = by_long name ∙ rw known refl in
    record {
      fault = rw (long.dashes, long.long, arg, settles.fault) refl;
      walk = rw (long.dashes, long.long, arg, settles.rows) refl;
    }

-- a use in one word, as clap reads it
pub record IsWhole (word : Text) (one : Use) : Type 0 where
  pub name : Text
  pub value : Option Text
  pub arg : Rule
  pub values : List Text
  pub long : IsLong word name value
  pub found : arg_by_long rules name ≡ Some arg
  pub met : (held : Held) → long_met rules (Some arg) value held ≡ (reacted rules arg values held, all_done)
  pub fault : (held : Held) → long_fault rules false (Some arg) value held ≡ react_fault rules false arg values held
  pub adds : Adds arg values one

pub option_given : (word name value : Text) → IsLong word name (Some value) → is_among option_names name ≡ true → IsWhole word (gives name value)
option_given word name value long known = record {
  name = name;
  value = Some value;
  arg = option_arg name;
  values = value ∷ [];
  long = long;
  found = by_long name ∙ rw known refl;
  met = λ held. refl;
  fault = λ held. refl;
  adds = value_adds (Some name) None name value (option_no_flag name known);
}

pub flag_given : (word name : Text) → IsLong word name None → is_among option_names name ≡ false → is_among flag_names name ≡ true → IsWhole word (gives name [])
flag_given word name long no_option known = record {
  name = name;
  value = None;
  arg = flag_arg name;
  values = [];
  long = long;
  found = by_long name ∙ rw (no_option, known) refl;
  met = λ held. refl;
  fault = λ held. refl;
  adds = flag_adds name known;
}

pub whole_goes : (done after : List Use) (pending : Pending) (tasked : Bool) (word : Text) (one : Use) → IsWhole word one → Settles done pending after → is_among (names_of after) one.name ≡ false
    → Goes (walk_at done pending tasked) word (walk_at (after ++ one ∷ []) Nothing tasked)
unfolding walked
whole_goes done after pending tasked word one whole settles new =
    let none : has_row one.name (rows_by after) ≡ false = row_among one.name after ∙ new in
    let rows : used whole.arg whole.values (rows_by after) ≡ rows_by (after ++ one ∷ []) = whole.adds.rows (rows_by after) none ∙ sym (map-append row_by after (one ∷ [])) in
    record {
      fault = rw (whole.long.dashes, whole.long.long, whole.found, whole.met (held_by done pending), whole.fault (held_by done pending), settles.fault, settles.rows, whole.adds.fault (rows_by after), none) refl;
      walk = rw (whole.long.dashes, whole.long.long, whole.found, whole.met (held_by done pending), settles.rows, rows) refl;
    }

pub whole_again : (done after : List Use) (pending : Pending) (tasked : Bool) (word : Text) (one : Use) → IsWhole word one → Settles done pending after → is_among (names_of after) one.name ≡ true
    → Fails (turn_fault shape [] (walk_at done pending tasked) word)
whole_again done after pending tasked word one whole settles twice =
    let there : has_row one.name (rows_by after) ≡ true = row_among one.name after ∙ twice in
    long_fails idle tasked (held_by done pending) word whole.name whole.value refl whole.long
    (record { first = kind.ArgumentConflict; others = []; is = rw (whole.found, whole.fault (held_by done pending), settles.fault, settles.rows, whole.adds.fault (rows_by after), there) refl })
