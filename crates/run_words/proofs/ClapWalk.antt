-- Clap's walk over words, and the uses that they are.
use Rattle.std.proofs.Common.{◌≡◌, ◌∙◌, ap, refl, sym, List, [], ◌∷◌, ◌++◌, codes, Bool, true, false, not, ◌&&◌, ◌||◌, Option, Some, None, append-nil, append_assoc, inl, inr, subst}
use Rattle.std.specs.Prelude.{◌⊎◌, if◌then◌else◌, option_map, option_and_then}
use Rattle.std.specs.List.{fold, list_any}
use Rattle.std.specs.Str.{bytes_eq}
use Rattle.std.proofs.lemmas.Slice.Eq.{bytes_eq-Decides}
use Rattle.clap.specs.Faults.{settle_fault, turn_fault, walk_fault}
use Rattle.clap.specs.Kinds.{Kinds, or_else}
use Rattle.clap.specs.Walk.{Row, Walk, idle, option, settled, walked}
use Rattle.clap.specs.declared.error.kind.ErrorKind.{ErrorKind}
use Rattle.run_words.specs.Command.{is_stray}
use Rattle.run_words.specs.Grammar.{Text, Use, Wrong, and_then, begins_with_dash, by_word, flag_names, gives, if_once, is_among, is_once, named, option_names, uses_from, word_of}
use Rattle.run_words.proofs.Rules.{fault_from, option_by_id, option_no_flag, option_no_task, flag_no_task, rows_from, rules, shape, task_by_id}
use Rattle.run_words.proofs.Steps.{Fails, Goes, Holds, IsValued, IsWhole, Nothing, Pending, Settles, fails_again, fails_waiting, flag_given, held_by, held_waiting, names_of, option_given, option_opened, rows_by, second_task, settles_nothing, settles_value, task_fails, task_read, unknown_fails, unsettled_fails, value_read, walk_at, walk_waiting, whole_again, whole_goes}
use Rattle.run_words.proofs.WordForms.{HasForm, IsLong, IsPlain, form_of}
use Rattle.lama_num.proofs.BoolLaws.{and-false as and_false, or-true as or_true}

-- names that stand once

among_more : (names : List Text) (name m : Text) → is_among names m ≡ false → bytes_eq name m ≡ false → is_among (names ++ name ∷ []) m ≡ false
among_more [] name m none other = rw other refl
among_more (n ∷ names) name m none other = by_test (bytes_eq n m) refl none (λ h. among_more names name m h other)
  where
    by_test : (b : Bool) → bytes_eq n m ≡ b → (b || is_among names m) ≡ false → (is_among names m ≡ false → is_among (names ++ name ∷ []) m ≡ false) → is_among ((n ∷ names) ++ name ∷ []) m ≡ false
    by_test true e h more = let k : true ≡ false = h in cc
    by_test false e h more = rw e (more h)

differs : (a b : Text) → bytes_eq a b ≡ false → bytes_eq b a ≡ false
differs a b e = by_test (bytes_eq b a) refl
  where
    by_test : (t : Bool) → bytes_eq b a ≡ t → bytes_eq b a ≡ false
    by_test true f = let same : b ≡ a = (bytes_eq-Decides b a).0 f in let k : bytes_eq a b ≡ true = (bytes_eq-Decides a b).1 (sym same) in cc
    by_test false f = f

once_more : (names : List Text) (name : Text) → is_once names ≡ true → is_among names name ≡ false → is_once (names ++ name ∷ []) ≡ true
once_more [] name once new = refl
once_more (n ∷ names) name once new = by_tests (is_among names n) (bytes_eq n name) refl refl once new (once_more names name)
  where
    by_tests : (a b : Bool) → is_among names n ≡ a → bytes_eq n name ≡ b → (not a && is_once names) ≡ true → (b || is_among names name) ≡ false → (is_once names ≡ true → is_among names name ≡ false → is_once (names ++ name ∷ []) ≡ true)
        → is_once ((n ∷ names) ++ name ∷ []) ≡ true
    by_tests true b e f h none more = let k : false ≡ true = h in cc
    by_tests false true e f h none more = let k : true ≡ false = none in cc
    by_tests false false e f h none more = rw (among_more names name n e (differs n name f)) (more h none)

among_front : (names more : List Text) (m : Text) → is_among names m ≡ true → is_among (names ++ more) m ≡ true
among_front [] more m there = let k : false ≡ true = there in cc
among_front (n ∷ names) more m there = by_test (bytes_eq n m) refl there (among_front names more m)
  where
    by_test : (b : Bool) → bytes_eq n m ≡ b → (b || is_among names m) ≡ true → (is_among names m ≡ true → is_among (names ++ more) m ≡ true) → is_among ((n ∷ names) ++ more) m ≡ true
    by_test true e h behind = rw e refl
    by_test false e h behind = rw e (behind h)

among_middle : (names more : List Text) (m : Text) → is_among (names ++ m ∷ more) m ≡ true
among_middle [] more m = rw ((bytes_eq-Decides m m).1 refl) refl
among_middle (n ∷ names) more m = rw (among_middle names more m) (or_true (bytes_eq n m))

-- a name that stands twice
twice : (names more : List Text) (name : Text) → is_among names name ≡ true → is_once (names ++ name ∷ more) ≡ false
twice [] more name there = let k : false ≡ true = there in cc
twice (n ∷ names) more name there = by_test (bytes_eq n name) refl there (twice names more name)
  where
    by_test : (b : Bool) → bytes_eq n name ≡ b → (b || is_among names name) ≡ true → (is_among names name ≡ true → is_once (names ++ name ∷ more) ≡ false) → is_once ((n ∷ names) ++ name ∷ more) ≡ false
    by_test true e h behind = let same : n ≡ name = (bytes_eq-Decides n name).0 e in rw (same, among_middle names more name) refl
    by_test false e h behind = rw (behind h) (and_false _)

-- lines

abbrev pub held_uses : Pending → List Use
held_uses Nothing = []
held_uses (Holds name value) = gives name value ∷ []

-- the uses of a line: those that are done, what is pending, and those that come
abbrev pub line_with : List Use → Option (List Use) → Option (List Use)
line_with done coming = option_and_then if_once (option_map (λ uses. done ++ uses) coming)

-- clap agrees: it has a fault where there is no line, and else the rows of its uses
abbrev pub Agrees : Option (List Use) → Kinds → List Row → Type 0
Agrees None kinds rows = kinds ≡ [] → ⊥
Agrees (Some uses) kinds rows = (kinds ≡ []) × (rows ≡ rows_by uses)

one_more : (done : List Use) (one : Use) (coming : Option (List Use)) → line_with done (and_then one coming) ≡ line_with (done ++ one ∷ []) coming
one_more done one None = refl
one_more done one (Some uses) = ap if_once (sym (append_assoc done (one ∷ []) uses))

names_append : (uses more : List Use) → names_of (uses ++ more) ≡ names_of uses ++ names_of more
names_append [] more = refl
names_append (one ∷ uses) more = ap (λ (names : List Text). one.name ∷ names) (names_append uses more)

no_line : (done : List Use) (one : Use) (coming : Option (List Use)) → is_among (names_of done) one.name ≡ true → line_with done (and_then one coming) ≡ None
no_line done one None there = refl
no_line done one (Some uses) there = rw (names_append done (one ∷ uses), twice (names_of done) (names_of uses) one.name there) refl

no_longer_line : (done : List Use) (one : Use) (coming : Option (List Use)) → is_among (names_of done) one.name ≡ true → line_with (done ++ one ∷ []) coming ≡ None
no_longer_line done one coming there = sym (one_more done one coming) ∙ no_line done one coming there

-- steps of the agreement

-- what is left behind a word, from the fault of its step and the walk behind it
abbrev Onward : Option (List Use) → List Text → Kinds → Walk → Type 0
Onward line words turn after = Agrees line (or_else (or_else turn (walk_fault shape [] after words)) (settle_fault rules false (fold (walked rules []) after words).held)) (rows_from after words)

abbrev At : Option (List Use) → Walk → List Text → Type 0
At line walk words = Agrees line (fault_from walk words) (rows_from walk words)

go_on : (before after : Walk) (word : Text) (words : List Text) (line : Option (List Use)) → Goes before word after → At line after words → At line before (word ∷ words)
unfolding walk_fault
go_on before after word words line goes agrees =
    subst (λ (turn : Kinds). Onward line words turn (walked rules [] before word)) (sym goes.fault) (subst (λ (w : Walk). Onward line words [] w) (sym goes.walk) agrees)

no_fault : (kinds : Kinds) → Fails kinds → kinds ≡ [] → ⊥
no_fault kinds fails none = let k : fails.first ∷ fails.others ≡ [] = sym fails.is ∙ none in cc

fails_first : (first : ErrorKind) (others : Kinds) → first ∷ others ≡ [] → ⊥
fails_first first others e = cc

stops : (before : Walk) (word : Text) (words : List Text) (line : Option (List Use)) → Fails (turn_fault shape [] before word) → line ≡ None → At line before (word ∷ words)
unfolding walk_fault
stops before word words line fails none =
    subst (λ (turn : Kinds). Onward line words turn (walked rules [] before word)) (sym fails.is) (subst (λ (l : Option (List Use)). Onward l words (fails.first ∷ fails.others) (walked rules [] before word)) (sym none) (fails_first fails.first fails.others))

-- what is pending settles, or there is no line
abbrev Fits : Pending → Type 0
Fits Nothing = Unit {0}
Fits (Holds name value) = IsValued name

record IsSettled (done : List Use) (pending : Pending) : Type 0 where
  settles : Settles done pending (done ++ held_uses pending)
  once : is_once (names_of (done ++ held_uses pending)) ≡ true

record IsRefused (done : List Use) (pending : Pending) : Type 0 where
  fails : Fails (settle_fault rules false (held_by done pending))
  no_line : (coming : Option (List Use)) → line_with (done ++ held_uses pending) coming ≡ None

settling : (done : List Use) (pending : Pending) → is_once (names_of done) ≡ true → Fits pending → IsSettled done pending ⊎ IsRefused done pending
settling done Nothing once fits = inl (record { settles = rw (append-nil done) (settles_nothing done); once = rw (append-nil done) once })
settling done (Holds name value) once fits = by_test (is_among (names_of done) name) refl
  where
    by_test : (b : Bool) → is_among (names_of done) name ≡ b → IsSettled done (Holds name value) ⊎ IsRefused done (Holds name value)
    by_test true e = inr (record { fails = fails_again done name value fits e; no_line = λ coming. no_longer_line done (gives name value) coming e })
    by_test false e = inl (record { settles = settles_value done name value fits e; once = rw (names_append done (gives name value ∷ [])) (once_more (names_of done) name once e) })

abbrev is_tasked : List Use → Bool
is_tasked uses = is_among (names_of uses) (codes "TASK")

-- clap agrees on these words, wherever they stand
pub record Agreement (words : List Text) : Type 0 where
  pub at : (done : List Use) (pending : Pending) (tasked : Bool) → is_once (names_of done) ≡ true → Fits pending → is_tasked (done ++ held_uses pending) ≡ tasked
      → At (line_with (done ++ held_uses pending) (uses_from None words)) (walk_at done pending tasked) words
  pub waiting : (done : List Use) (name : Text) (tasked : Bool) → is_once (names_of done) ≡ true → is_among option_names name ≡ true → is_tasked done ≡ tasked
      → At (line_with done (uses_from (Some name) words)) (walk_waiting done name tasked) words

task_valued : IsValued (codes "TASK")
task_valued = record { long = None; index = Some 1; found = task_by_id; no_flag = refl }

option_valued : (name : Text) → is_among option_names name ≡ true → IsValued name
option_valued name known = record { long = Some name; index = None; found = option_by_id name known; no_flag = option_no_flag name known }

-- a use that isn't the task's leaves it as it was
tasked_behind : (done : List Use) (one : Use) (tasked : Bool) → is_tasked done ≡ tasked → bytes_eq one.name (codes "TASK") ≡ false → is_tasked (done ++ one ∷ []) ≡ tasked
tasked_behind done one tasked is other = rw (names_append done (one ∷ [])) (by_tasked tasked is)
  where
    by_tasked : (t : Bool) → is_tasked done ≡ t → is_among (names_of done ++ one.name ∷ []) (codes "TASK") ≡ t
    by_tasked true e = among_front (names_of done) (one.name ∷ []) (codes "TASK") e
    by_tasked false e = among_more (names_of done) one.name (codes "TASK") e other

end_agrees : (done : List Use) (pending : Pending) (tasked : Bool) → IsSettled done pending ⊎ IsRefused done pending
    → At (line_with (done ++ held_uses pending) (Some [])) (walk_at done pending tasked) []
unfolding walk_fault
end_agrees done pending tasked (inl settled) = rw (append-nil (done ++ held_uses pending), settled.once) (settled.settles.fault, settled.settles.rows)
end_agrees done pending tasked (inr refused) = rw (refused.no_line (Some [])) (no_fault (settle_fault rules false (held_by done pending)) refused.fails)

agreement_end : Agreement []
unfolding uses_from walk_fault
agreement_end = record {
  at = λ done pending tasked once fits tasks. end_agrees done pending tasked (settling done pending once fits);
  waiting = λ done name tasked once known tasks. no_fault (settle_fault rules false (held_waiting done name)) (fails_waiting done name known);
}

-- one more word in front
module _ (word : Text) (words : List Text) (more : Agreement words) where
  whole_agrees : (done : List Use) (pending : Pending) (tasked : Bool) (one : Use) → IsSettled done pending → is_tasked (done ++ held_uses pending) ≡ tasked → IsWhole word one → bytes_eq one.name (codes "TASK") ≡ false
      → At (line_with (done ++ held_uses pending) (and_then one (uses_from None words))) (walk_at done pending tasked) (word ∷ words)
  whole_agrees done pending tasked one settled tasks whole other = by_test (is_among (names_of (done ++ held_uses pending)) one.name) refl
    where
      by_test : (b : Bool) → is_among (names_of (done ++ held_uses pending)) one.name ≡ b → At (line_with (done ++ held_uses pending) (and_then one (uses_from None words))) (walk_at done pending tasked) (word ∷ words)
      by_test true e =
          stops (walk_at done pending tasked) word words (line_with (done ++ held_uses pending) (and_then one (uses_from None words))) (whole_again done (done ++ held_uses pending) pending tasked word one whole settled.settles e)
          (no_line (done ++ held_uses pending) one (uses_from None words) e)
      by_test false e =
          let after = (done ++ held_uses pending) ++ one ∷ [] in
          let same : after ++ [] ≡ after = append-nil after in
          let once : is_once (names_of after) ≡ true = rw (names_append (done ++ held_uses pending) (one ∷ [])) (once_more (names_of (done ++ held_uses pending)) one.name settled.once e) in
          let tasked_too : is_tasked (after ++ []) ≡ tasked = rw same (tasked_behind (done ++ held_uses pending) one tasked tasks other) in
          let onward : At (line_with (after ++ []) (uses_from None words)) (walk_at after Nothing tasked) words = more.at after Nothing tasked once tt tasked_too in
          let line : line_with (after ++ []) (uses_from None words) ≡ line_with (done ++ held_uses pending) (and_then one (uses_from None words)) = ap (λ (uses : List Use). line_with uses (uses_from None words)) same ∙ sym (one_more (done ++ held_uses pending) one (uses_from None words)) in
          go_on (walk_at done pending tasked) (walk_at after Nothing tasked) word words (line_with (done ++ held_uses pending) (and_then one (uses_from None words))) (whole_goes done (done ++ held_uses pending) pending tasked word one whole settled.settles e)
          (subst (λ (l : Option (List Use)). At l (walk_at after Nothing tasked) words) line onward)

  plain_agrees : (done : List Use) (pending : Pending) (tasked : Bool) → IsSettled done pending → is_tasked (done ++ held_uses pending) ≡ tasked → IsPlain word
      → At (line_with (done ++ held_uses pending) (and_then (gives (codes "TASK") word) (uses_from None words))) (walk_at done pending tasked) (word ∷ words)
  plain_agrees done pending true settled tasks plain =
      stops (walk_at done pending true) word words (line_with (done ++ held_uses pending) (and_then (gives (codes "TASK") word) (uses_from None words))) (second_task done pending word plain)
      (no_line (done ++ held_uses pending) (gives (codes "TASK") word) (uses_from None words) tasks)
  plain_agrees done pending false settled tasks plain =
      let front = done ++ held_uses pending in
      let task = gives (codes "TASK") word in
      let tasked : is_tasked (front ++ task ∷ []) ≡ true = rw (names_append front (task ∷ [])) (among_middle (names_of front) [] (codes "TASK")) in
      let line : line_with (front ++ task ∷ []) (uses_from None words) ≡ line_with front (and_then task (uses_from None words)) = sym (one_more front task (uses_from None words)) in
      go_on (walk_at done pending false) (walk_at front (Holds (codes "TASK") word) true) word words (line_with front (and_then task (uses_from None words))) (task_read done front pending word plain settled.settles)
      (subst (λ (l : Option (List Use)). At l (walk_at front (Holds (codes "TASK") word) true) words) line (more.at front (Holds (codes "TASK") word) true settled.once task_valued tasked))

  long_agrees : (done : List Use) (pending : Pending) (tasked : Bool) (name : Text) (value : Option Text) → IsSettled done pending → is_tasked (done ++ held_uses pending) ≡ tasked → IsLong word name value
      → At (line_with (done ++ held_uses pending) (by_word (named name value) (λ waiting. uses_from waiting words))) (walk_at done pending tasked) (word ∷ words)
  long_agrees done pending tasked name value settled tasks long = by_names (is_among option_names name) (is_among flag_names name) refl refl value long
    where
      wrong : (value : Option Text) → IsLong word name value → named name value ≡ Wrong → At (line_with (done ++ held_uses pending) (by_word (named name value) (λ waiting. uses_from waiting words))) (walk_at done pending tasked) (word ∷ words)
      wrong value long is =
          stops (walk_at done pending tasked) word words (line_with (done ++ held_uses pending) (by_word (named name value) (λ waiting. uses_from waiting words))) (unknown_fails idle tasked (held_by done pending) word name value refl long is) (rw is refl)

      by_names : (o f : Bool) → is_among option_names name ≡ o → is_among flag_names name ≡ f → (value : Option Text) → IsLong word name value
          → At (line_with (done ++ held_uses pending) (by_word (named name value) (λ waiting. uses_from waiting words))) (walk_at done pending tasked) (word ∷ words)
      by_names true f eo ef None long =
          let line : line_with (done ++ held_uses pending) (uses_from (Some name) words) ≡ line_with (done ++ held_uses pending) (by_word (named name None) (λ waiting. uses_from waiting words)) = rw eo refl in
          go_on (walk_at done pending tasked) (walk_waiting (done ++ held_uses pending) name tasked) word words (line_with (done ++ held_uses pending) (by_word (named name None) (λ waiting. uses_from waiting words)))
          (option_opened done (done ++ held_uses pending) pending tasked word name long eo settled.settles)
          (subst (λ (l : Option (List Use)). At l (walk_waiting (done ++ held_uses pending) name tasked) words) line (more.waiting (done ++ held_uses pending) name tasked settled.once eo tasks))
      by_names true f eo ef (Some v) long = rw eo (whole_agrees done pending tasked (gives name v) settled tasks (option_given word name v long eo) (option_no_task name eo))
      by_names false true eo ef None long = rw (eo, ef) (whole_agrees done pending tasked (gives name []) settled tasks (flag_given word name long eo ef) (flag_no_task name ef))
      by_names false false eo ef None long = wrong None long (rw (eo, ef) refl)
      by_names false f eo ef (Some v) long = wrong (Some v) long (rw eo refl)

  settled_agrees : (done : List Use) (pending : Pending) (tasked : Bool) → IsSettled done pending → is_tasked (done ++ held_uses pending) ≡ tasked → HasForm word
      → At (line_with (done ++ held_uses pending) (by_word (word_of word) (λ waiting. uses_from waiting words))) (walk_at done pending tasked) (word ∷ words)
  settled_agrees done pending tasked settled tasks (inl plain) = rw (plain.is) (plain_agrees done pending tasked settled tasks plain)
  settled_agrees done pending tasked settled tasks (inr l) = let long = l.2 in rw (long.is) (long_agrees done pending tasked l.0 l.1 settled tasks long)

  refused_agrees : (done : List Use) (pending : Pending) (tasked : Bool) (coming : Option (List Use)) → IsRefused done pending → HasForm word
      → At (line_with (done ++ held_uses pending) coming) (walk_at done pending tasked) (word ∷ words)
  refused_agrees done pending true coming refused (inl plain) = stops (walk_at done pending true) word words (line_with (done ++ held_uses pending) coming) (second_task done pending word plain) (refused.no_line coming)
  refused_agrees done pending false coming refused (inl plain) = stops (walk_at done pending false) word words (line_with (done ++ held_uses pending) coming) (task_fails done pending word plain refused.fails) (refused.no_line coming)
  refused_agrees done pending tasked coming refused (inr l) =
      stops (walk_at done pending tasked) word words (line_with (done ++ held_uses pending) coming) (unsettled_fails idle tasked (held_by done pending) word l.0 l.1 refl l.2 refused.fails) (refused.no_line coming)

  waiting_agrees : (done : List Use) (name : Text) (tasked : Bool) → is_once (names_of done) ≡ true → is_among option_names name ≡ true → is_tasked done ≡ tasked → HasForm word
      → At (line_with done (if begins_with_dash word then None else and_then (gives name word) (uses_from None words))) (walk_waiting done name tasked) (word ∷ words)
  waiting_agrees done name tasked once known tasks (inl plain) =
      let one = gives name word in
      let line : line_with (done ++ one ∷ []) (uses_from None words) ≡ line_with done (and_then one (uses_from None words)) = sym (one_more done one (uses_from None words)) in
      rw (plain.begins) (go_on (walk_waiting done name tasked) (walk_at done (Holds name word) tasked) word words (line_with done (and_then one (uses_from None words))) (value_read done name word tasked plain known)
      (subst (λ (l : Option (List Use)). At l (walk_at done (Holds name word) tasked) words) line (more.at done (Holds name word) tasked once (option_valued name known) (tasked_behind done one tasked tasks (option_no_task name known)))))
  waiting_agrees done name tasked once known tasks (inr l) =
      let long = l.2 in
      rw (long.begins) (stops (walk_waiting done name tasked) word words (line_with done None) (unsettled_fails (option name) tasked (held_waiting done name) word l.0 l.1 refl long (fails_waiting done name known)) refl)

  by_settling : (done : List Use) (pending : Pending) (tasked : Bool) → is_tasked (done ++ held_uses pending) ≡ tasked → IsSettled done pending ⊎ IsRefused done pending → HasForm word
      → At (line_with (done ++ held_uses pending) (by_word (word_of word) (λ waiting. uses_from waiting words))) (walk_at done pending tasked) (word ∷ words)
  by_settling done pending tasked tasks (inl settled) form = settled_agrees done pending tasked settled tasks form
  by_settling done pending tasked tasks (inr refused) form = refused_agrees done pending tasked (by_word (word_of word) (λ waiting. uses_from waiting words)) refused form

agreement_more : (word : Text) (words : List Text) → is_stray word ≡ false → Agreement words → Agreement (word ∷ words)
unfolding uses_from
agreement_more word words fits more = record {
  at = λ done pending tasked once held tasks. by_settling word words more done pending tasked tasks (settling done pending once held) (form_of word fits);
  waiting = λ done name tasked once known tasks. waiting_agrees word words more done name tasked once known tasks (form_of word fits);
}

pub agreement : (words : List Text) → list_any is_stray words ≡ false → Agreement words
agreement [] fits = agreement_end
agreement (word ∷ words) fits = by_test (is_stray word) refl fits (agreement words)
  where
    by_test : (b : Bool) → is_stray word ≡ b → (b || list_any is_stray words) ≡ false → (list_any is_stray words ≡ false → Agreement words) → Agreement (word ∷ words)
    by_test true e here more = let k : true ≡ false = here in cc
    by_test false e here more = agreement_more word words e (more here)
