-- What clap's matches give of a line.
use Rattle.std.proofs.Common.{◌≡◌, ◌∙◌, ap, refl, sym, List, [], ◌∷◌, ◌++◌, map, codes, Bool, true, false, ◌||◌, Option, Some, None, nat_eq, length, arith}
use Rattle.std.proofs.lemmas.Bool.Decides.{nat_tests}
use Rattle.std.specs.Prelude.{if◌then◌else◌, is_some, option_map, option_and_then, slice_get, Ok, Err}
use Rattle.std.specs.List.{find, fold, list_any}
use Rattle.std.specs.Option.{option_or}
use Rattle.std.specs.Str.{bytes_eq}
use Rattle.std.proofs.lemmas.Slice.Eq.{bytes_eq-Decides}
use Rattle.std.proofs.lemmas.List.Sums.{fold-append}
use Rattle.clap.proofs.WalkLemmas.{find-map, first_value-rows, one_text-rows}
use Rattle.clap.specs.Faults.{fault_of}
use Rattle.clap.specs.Matches.{first_value, found_of}
use Rattle.clap.specs.Simple.{matches_of}
use Rattle.clap.specs.Walk.{Row, Rule, first_of, has_row, nothing_held, one_of, row_text, rows_of, walk_from, with_default}
use Rattle.clap.specs.declared.builder.value_parser.Reading.TheVariants.{AsWritten}
use Rattle.clap.specs.declared.parser.matches.ArgMatches.{ArgMatches}
use Rattle.clap.specs.declared.parser.matches.ValueSource.TheVariants.{DefaultValue}
use Rattle.run_words.specs.Command.{Answers, ReadsFlags, flag_text, is_stray, the_command}
use Rattle.run_words.specs.Grammar.{Line, Opens, Text, Use, Whole, Word, Wrong, and_then, begins_with_dash, by_word, flag_names, gives, if_once, is_among, is_given, line_by, line_from, line_of, option_names, use_of, uses_from, uses_of, value_of, word_of}
use Rattle.lama_num.specs.Gives.{Gives}
use Rattle.run_words.specs.Requests.{if_line, refusal}
use Rattle.run_words.specs.Seen.{seen}
use Rattle.run_words.specs.declared.line.Given.{Given}
use Rattle.run_words.specs.declared.faults.WordsError.{WordsError}
use Rattle.run_words.specs.declared.faults.WordsError.TheVariants.{Asked, Bad, NoMemory}
use Rattle.run_words.specs.declared.faults.WordsFault.TheVariants.{Refused}
use Rattle.run_words.proofs.Rules.{fault_is, flag_arg, found_is, option_arg, rows_from, rules, task_arg, if_same}
use Rattle.run_words.proofs.Steps.{Nothing, at_no_row, row_by, rows_by}
use Rattle.run_words.proofs.ClapWalk.{Agrees, agreement, line_with}

-- the defaults of flags

abbrev default_row : Text → Row
default_row id = record { id = id; values = codes "false" ∷ []; count = None; source = Some DefaultValue; reading = AsWritten }

abbrev has_id : Text → Row → Bool
has_id id r = bytes_eq r.id id

or_none : {A : Type 0} (o : Option A) → option_or o None ≡ o
or_none None = refl
or_none (Some x) = refl

find_end : {A : Type 0} (p : A → Bool) (xs : List A) (x : A) → find p (xs ++ x ∷ []) ≡ option_or (find p xs) (if p x then Some x else None)
find_end p [] x = refl
find_end p (y ∷ xs) x = by_test (p y) (find_end p xs x)
  where
    by_test : (b : Bool) → find p (xs ++ x ∷ []) ≡ option_or (find p xs) (if p x then Some x else None) → (if b then Some y else find p (xs ++ x ∷ [])) ≡ option_or (if b then Some y else find p xs) (if p x then Some x else None)
    by_test true more = refl
    by_test false more = more

found_or : {A : Type 0} (p : A → Bool) (xs : List A) (o : Option A) → list_any p xs ≡ true → option_or (find p xs) o ≡ find p xs
found_or p [] o any = let k : false ≡ true = any in cc
found_or p (x ∷ xs) o any = by_test (p x) any (found_or p xs o)
  where
    by_test : (b : Bool) → (b || list_any p xs) ≡ true → (list_any p xs ≡ true → option_or (find p xs) o ≡ find p xs) → option_or (if b then Some x else find p xs) o ≡ (if b then Some x else find p xs)
    by_test true h more = refl
    by_test false h more = more h

flag_default : (rows : List Row) (n id : Text) → find (has_id id) (with_default rows (flag_arg n)) ≡ option_or (find (has_id id) rows) (if bytes_eq n id then Some (default_row id) else None)
flag_default rows n id = by_row (has_row n rows) refl
  where
    there : (b : Bool) → bytes_eq n id ≡ b → has_row n rows ≡ true → find (has_id id) rows ≡ option_or (find (has_id id) rows) (if bytes_eq n id then Some (default_row id) else None)
    there true e has = let same : n ≡ id = (bytes_eq-Decides n id).0 e in let has_it : has_row id rows ≡ true = rw (← same) has in sym (found_or (has_id id) rows _ has_it)
    there false e has = rw e (sym (or_none _))

    missing : (b : Bool) → bytes_eq n id ≡ b → find (has_id id) (rows ++ default_row n ∷ []) ≡ option_or (find (has_id id) rows) (if bytes_eq n id then Some (default_row id) else None)
    missing true e = let same : n ≡ id = (bytes_eq-Decides n id).0 e in find_end (has_id id) rows (default_row n) ∙ ap (λ (m : Text). option_or (find (has_id id) rows) (if bytes_eq n id then Some (default_row m) else None)) same
    missing false e = find_end (has_id id) rows (default_row n) ∙ rw e refl

    by_row : (b : Bool) → has_row n rows ≡ b → find (has_id id) (with_default rows (flag_arg n)) ≡ option_or (find (has_id id) rows) (if bytes_eq n id then Some (default_row id) else None)
    by_row true e = rw e (there (bytes_eq n id) refl e)
    by_row false e = rw (e, at_no_row n _ (default_row n ∷ []) rows e) (missing (bytes_eq n id) refl)

or_more : (o : Option Row) (b c : Bool) (row : Row) → option_or (option_or o (if b then Some row else None)) (if c then Some row else None) ≡ option_or o (if b || c then Some row else None)
or_more None true true row = refl
or_more None true false row = refl
or_more None false c row = refl
or_more (Some r) b c row = refl

flag_defaults : (names : List Text) (rows : List Row) (id : Text) → find (has_id id) (fold with_default rows (map flag_arg names)) ≡ option_or (find (has_id id) rows) (if is_among names id then Some (default_row id) else None)
flag_defaults [] rows id = sym (or_none _)
flag_defaults (n ∷ names) rows id = flag_defaults names (with_default rows (flag_arg n)) id ∙ rw (flag_default rows n id) (or_more (find (has_id id) rows) (bytes_eq n id) (is_among names id) (default_row id))

option_defaults : (names : List Text) (rows : List Row) (rest : List Rule) → fold with_default rows (map option_arg names ++ rest) ≡ fold with_default rows rest
option_defaults [] rows rest = refl
option_defaults (n ∷ names) rows rest = ap (λ (rs : List Row). fold with_default rs (map option_arg names ++ rest)) (if_same (has_row n rows) rows) ∙ option_defaults names rows rest

all_defaults : (rows : List Row) (id : Text) → find (has_id id) (fold with_default rows rules) ≡ option_or (find (has_id id) rows) (if is_among flag_names id then Some (default_row id) else None)
unfolding rules
all_defaults rows id =
    ap (find (has_id id)) (option_defaults option_names rows (map flag_arg flag_names ++ task_arg ∷ []) ∙ fold-append with_default rows (map flag_arg flag_names) (task_arg ∷ []) ∙ if_same (has_row (codes "TASK") (fold with_default rows (map flag_arg flag_names))) _)
    ∙ flag_defaults flag_names rows id

-- what is read of a line's uses

use_named : (uses : List Use) (id : Text) (one : Use) → use_of uses id ≡ Some one → one.name ≡ id
use_named [] id one is = let k : None ≡ Some one = is in cc
use_named (u ∷ uses) id one is = by_test (bytes_eq u.name id) refl is (use_named uses id one)
  where
    by_test : (b : Bool) → bytes_eq u.name id ≡ b → (if b then Some u else use_of uses id) ≡ Some one → (use_of uses id ≡ Some one → one.name ≡ id) → one.name ≡ id
    by_test true e here more = let same : u ≡ one = cc in rw (← same) ((bytes_eq-Decides u.name id).0 e)
    by_test false e here more = more here

row_found : (uses : List Use) (id : Text) → find (has_id id) (fold with_default (rows_by uses) rules) ≡ option_or (option_map row_by (use_of uses id)) (if is_among flag_names id then Some (default_row id) else None)
row_found uses id = all_defaults (rows_by uses) id ∙ rw (sym (find-map (has_id id) row_by uses)) refl

value_found : (uses : List Use) (id : Text) → is_among flag_names id ≡ false → first_of id (fold with_default (rows_by uses) rules) ≡ value_of uses id
value_found uses id no_flag = rw (row_found uses id, no_flag) (by_use (use_of uses id) refl)
  where
    by_use : (o : Option Use) → use_of uses id ≡ o → option_and_then (λ (r : Row). slice_get r.values 0) (option_or (option_map row_by (use_of uses id)) None) ≡ option_map (λ (one : Use). one.value) (use_of uses id)
    by_use None e = rw e refl
    by_use (Some one) e = rw (e, use_named uses id one e, no_flag) refl

flag_found : (uses : List Use) (id : Text) → is_among flag_names id ≡ true → one_of id (fold with_default (rows_by uses) rules) ≡ Some (flag_text (is_given uses id))
flag_found uses id flag = rw (row_found uses id, flag) (by_use (use_of uses id) refl)
  where
    by_use : (o : Option Use) → use_of uses id ≡ o → option_and_then row_text (option_or (option_map row_by (use_of uses id)) (Some (default_row id))) ≡ Some (flag_text (is_some (use_of uses id)))
    by_use None e = rw e refl
    by_use (Some one) e = rw (e, use_named uses id one e, flag) refl

-- lines

whole : (coming : Option (List Use)) → line_with [] coming ≡ option_and_then if_once coming
whole None = refl
whole (Some uses) = refl

agrees : (words : List Text) → list_any is_stray words ≡ false → Agrees (uses_of words) (fault_of the_command words) (rows_from (walk_from nothing_held) words)
agrees words fits = rw (fault_is words, sym (whole (uses_from None words))) ((agreement words fits).at [] Nothing false refl tt refl)

-- what the getters tell is the line of these uses
pub getters : (words : List Text) (m : ArgMatches) (uses : List Use) (line : Line) → rows_of (found_of m) ≡ matches_of the_command words → rows_from (walk_from nothing_held) words ≡ rows_by uses
    → ((flag : Text → Bool) → ReadsFlags (found_of m) flag → line ≡ line_from (first_value (found_of m)) flag) → line ≡ line_by uses
getters words m uses line found rows told =
    let all : rows_of (found_of m) ≡ fold with_default (rows_by uses) rules = found ∙ (found_is words ∙ ap (λ (rs : List Row). fold with_default rs rules) rows) in
    let value : (id : Text) → is_among flag_names id ≡ false → first_value (found_of m) id ≡ value_of uses id = λ id no. first_value-rows (found_of m) id ∙ rw all (value_found uses id no) in
    let flags : ReadsFlags (found_of m) (is_given uses) = λ id known. one_text-rows (found_of m) id ∙ rw all (flag_found uses id known) in
    told (is_given uses) flags ∙ rw (value (codes "alias") refl, value (codes "search") refl, value (codes "portfolio") refl, value (codes "plan-file") refl, value (codes "bound") refl, value (codes "overall-time-limit") refl, value (codes "child-memory-limit") refl, value (codes "gen") refl, value (codes "TASK") refl) refl

-- words without a fault are a line
pub line_found : (words : List Text) (m : ArgMatches) (line : Line) → list_any is_stray words ≡ false → fault_of the_command words ≡ [] → rows_of (found_of m) ≡ matches_of the_command words
    → ((flag : Text → Bool) → ReadsFlags (found_of m) flag → line ≡ line_from (first_value (found_of m)) flag) → if_line (line_of words) ≡ Ok line
unfolding line_of
line_found words m line fits none found told = by_uses (uses_of words) refl (agrees words fits)
  where
    by_uses : (o : Option (List Use)) → uses_of words ≡ o → Agrees o (fault_of the_command words) (rows_from (walk_from nothing_held) words) → if_line (option_map line_by (uses_of words)) ≡ Ok line
    by_uses None e never = absurd (never none)
    by_uses (Some uses) e is = rw e (ap (λ (l : Line). Ok l) (sym (getters words m uses line found is.1 told)))

-- words with a fault are none
pub line_refused : (words : List Text) → list_any is_stray words ≡ false → (fault_of the_command words ≡ [] → ⊥) → if_line (line_of words) ≡ Err (Bad Refused)
unfolding line_of
line_refused words fits fault = by_uses (uses_of words) refl (agrees words fits)
  where
    by_uses : (o : Option (List Use)) → uses_of words ≡ o → Agrees o (fault_of the_command words) (rows_from (walk_from nothing_held) words) → if_line (option_map line_by (uses_of words)) ≡ Err (Bad Refused)
    by_uses None e never = rw e refl
    by_uses (Some uses) e is = absurd (fault is.0)

-- nor are words of which one is stray

record IsNoWord (word : Text) : Type 0 where
  begins : begins_with_dash word ≡ true
  is : word_of word ≡ Wrong

stray_word : (word : Text) → is_stray word ≡ true → IsNoWord word
stray_word [] stray = let k : false ≡ true = stray in cc
stray_word (b ∷ rest) stray = by_first (nat_eq b 45) refl
  where
    behind : (rest : Text) → nat_eq b 45 ≡ true → is_stray (b ∷ rest) ≡ true → IsNoWord (b ∷ rest)
    behind [] e stray = record { begins = rw e refl; is = rw e refl }
    behind (c ∷ rest) e stray = by_second (nat_eq c 45) refl rest stray
      where
        by_second : (t : Bool) → nat_eq c 45 ≡ t → (rest : Text) → is_stray (b ∷ (c ∷ rest)) ≡ true → IsNoWord (b ∷ (c ∷ rest))
        by_second false f rest stray = record { begins = rw e refl; is = rw (e, f) refl }
        by_second true f [] stray = record { begins = rw e refl; is = rw (e, f) refl }
        by_second true f (d ∷ rest) stray = let named : nat_eq (length (d ∷ rest)) 0 ≡ false = grind (arith, nat_tests) in let k : false ≡ true = rw (e, f, named) at stray in cc

    by_first : (t : Bool) → nat_eq b 45 ≡ t → IsNoWord (b ∷ rest)
    by_first true e = behind rest e stray
    by_first false e = let k : false ≡ true = rw e at stray in cc

none_coming : (word : Word) (words : List Text) → ((waiting : Option Text) → uses_from waiting words ≡ None) → by_word word (λ waiting. uses_from waiting words) ≡ None
none_coming (Whole one) words none = rw (none None) refl
none_coming (Opens name) words none = none (Some name)
none_coming Wrong words none = refl

if_none : {A : Type 0} (b : Bool) (o : Option A) → o ≡ None → (if b then None else o) ≡ None
if_none true o e = refl
if_none false o e = e

stray_here : (word : Text) (words : List Text) → IsNoWord word → (waiting : Option Text) → uses_from waiting (word ∷ words) ≡ None
unfolding uses_from
stray_here word words wrong None = rw (wrong.is) refl
stray_here word words wrong (Some name) = rw (wrong.begins) refl

stray_behind : (word : Text) (words : List Text) → ((waiting : Option Text) → uses_from waiting words ≡ None) → (waiting : Option Text) → uses_from waiting (word ∷ words) ≡ None
unfolding uses_from
stray_behind word words none None = none_coming (word_of word) words none
stray_behind word words none (Some name) = if_none (begins_with_dash word) _ (ap (and_then (gives name word)) (none None))

stray_uses : (words : List Text) → list_any is_stray words ≡ true → (waiting : Option Text) → uses_from waiting words ≡ None
stray_uses [] any waiting = let k : false ≡ true = any in cc
stray_uses (word ∷ words) any waiting = by_test (is_stray word) refl any (stray_uses words)
  where
    by_test : (b : Bool) → is_stray word ≡ b → (b || list_any is_stray words) ≡ true → (list_any is_stray words ≡ true → (waiting : Option Text) → uses_from waiting words ≡ None) → uses_from waiting (word ∷ words) ≡ None
    by_test true e h more = stray_here word words (stray_word word e) waiting
    by_test false e h more = stray_behind word words (more h) waiting

pub line_stray : (words : List Text) → list_any is_stray words ≡ true → if_line (line_of words) ≡ Err (Bad Refused)
unfolding line_of
line_stray words any = rw (stray_uses words any None) refl

-- an error of clap's is the line's refusal, or want of memory
pub line_error : (words : List Text) (e : WordsError) → list_any is_stray words ≡ false → Answers (fault_of the_command words) (matches_of the_command words) (Err e)
    → Gives {X = Given} {Y = Line} refusal seen (Err e) (if_line (line_of words))
line_error words (Bad fault) fits is = rw (is.0) (line_refused words fits is.1)
line_error words (Asked asked) fits is = absurd is
line_error words NoMemory fits is = tt
