-- The files of a child, one after another, and what is judged of them.
use Rattle.std.proofs.Common.{◌≡◌, ℕ, zero, suc, ◌+◌, ◌-◌, ◌≤◌, true, false, List, [], ◌∷◌, ◌++◌, Some, None, refl, sym, ap, ◌∙◌, arith, add-one}
use Rattle.std.specs.Prelude.{option_to_list}
use Rattle.std.proofs.lemmas.Bool.{cond-true, cond-false}
use Rattle.lama_host.specs.Folder.{Files}
use Rattle.sas_task.specs.declared.contents.Parts.{Parts}
use Rattle.driver_core.specs.declared.events.Event.{Event}
use Rattle.driver_core.specs.declared.settings.Setting.{Setting}
use Rattle.driver_core.specs.Keeping.{bound_of}
use Rattle.driver_core.specs.Running.{is_over_after}
use Rattle.driver_core.specs.Turns.{Turn}
use Rattle.candidates.specs.ChildFiles.{ChildFile, file_at, onto_file, numbered_files, child_files}
use Rattle.candidates.specs.Judging.{Judged, offer_of, judged_of, judged_in}

-- the files from a number on
unfoldable pub files_from : Files → List ℕ → ℕ → List ChildFile
files_from files child zero = child_files files child
files_from files child (suc n) = numbered_files files child (suc n) (9999 - n)

pub files_at_first : (files : Files) (child : List ℕ) → files_from files child 0 ≡ child_files files child
unfolding files_from
files_at_first files child = refl

files_after_zero : (files : Files) (child : List ℕ) → files_from files child 0 ≡ option_to_list (file_at files child 0) ++ files_from files child 1
unfolding files_from
files_after_zero files child = refl

files_after_number : (files : Files) (child : List ℕ) (n : ℕ) → suc n ≤ 9999 → files_from files child (suc n) ≡ onto_file (file_at files child (suc n)) (files_from files child (suc (suc n)))
unfolding files_from numbered_files
files_after_number files child n few = let one : 9999 - n ≡ suc (9999 - suc n) = omega arith in ap (numbered_files files child (suc n)) one

pub no_files_at_end : (files : Files) (child : List ℕ) → files_from files child 10000 ≡ []
unfolding files_from numbered_files
no_files_at_end files child = refl

-- the file of a number is there
pub file_then : (files : Files) (child : List ℕ) (number : ℕ) (file : ChildFile) → number ≤ 9999 → file_at files child number ≡ Some file → files_from files child number ≡ file ∷ files_from files child (number + 1)
file_then files child zero file few is = files_after_zero files child ∙ ap (λ f. option_to_list f ++ files_from files child 1) is
file_then files child (suc n) file few is =
    files_after_number files child n few ∙ ap (λ f. onto_file f (files_from files child (suc (suc n)))) is
    ∙ ap (λ k. file ∷ files_from files child k) (sym (add-one (suc n)))

-- the single file isn't
pub no_single : (files : Files) (child : List ℕ) (number : ℕ) → number ≡ 0 → file_at files child number ≡ None → files_from files child number ≡ files_from files child (number + 1)
no_single files child zero first none = files_after_zero files child ∙ ap (λ f. option_to_list f ++ files_from files child 1) none
no_single files child (suc n) first none = absurd (omega (arith, first))

-- nor that of another number
pub no_more : (files : Files) (child : List ℕ) (number : ℕ) → (number ≡ 0 → ⊥) → number ≤ 9999 → file_at files child number ≡ None → files_from files child number ≡ []
no_more files child zero later few none = absurd (later refl)
no_more files child (suc n) later few none = files_after_number files child n few ∙ ap (λ f. onto_file f (files_from files child (suc (suc n)))) none

-- what is judged of files

pub judged_over : (setting : Setting) (parts : Parts) (turn : Turn) (past : List Event) (files : List ChildFile) → is_over_after setting past ≡ true → judged_in setting parts turn past files ≡ []
unfolding judged_in
judged_over setting parts turn past [] over = refl
judged_over setting parts turn past (file ∷ files) over = cond-true (is_over_after setting past) _ _ over

pub judged_none : (setting : Setting) (parts : Parts) (turn : Turn) (past : List Event) → judged_in setting parts turn past [] ≡ []
unfolding judged_in
judged_none setting parts turn past = refl

pub judged_next : (setting : Setting) (parts : Parts) (turn : Turn) (past : List Event) (file : ChildFile) (files : List ChildFile) (judged : Judged) → is_over_after setting past ≡ false → judged ≡ judged_of parts (bound_of setting past) file
    → judged_in setting parts turn past (file ∷ files) ≡ judged ∷ judged_in setting parts turn (past ++ offer_of turn judged ∷ []) files
unfolding judged_in
judged_next setting parts turn past file files judged going is =
    cond-false (is_over_after setting past) _ _ going
    ∙ ap (λ j. j ∷ judged_in setting parts turn (past ++ offer_of turn j ∷ []) files) (sym is)
