-- Printed lines are read by formats that are put together.
use Rattle.std.proofs.Common.{◌≡◌, ◌∙◌, sym, ap, subst, refl, ℕ, suc, ◌+◌, ◌++◌, ◌∷◌, [], List, length, length-append, append_assoc, map, true, Result, Ok, Err, Some, arith}
use Rattle.std.specs.Prelude.{slice_get}
use Rattle.std.specs.List.{list_all, flat_map}
use Rattle.std.proofs.lemmas.List.Folds.{list_all-append}
use Rattle.lama_num.specs.Gives.{◌>>=◌}
use Rattle.sas_task.proofs.TestLaws.{and_true}
use Rattle.text_lines.specs.Lines.{Place}
use Rattle.text_lines.specs.Texts.{is_line}
use Rattle.sas_reader.specs.Formats.{Format, Done, Line, Kind, Value, value_of, line, times}
use Rattle.sas_reader.specs.Formats as formats
use Rattle.sas_reader.specs.Walks.{walk, next, next_by}
use Rattle.sas_reader.specs.declared.faults.SasFault.{SasFault}
use Rattle.sas_reader.proofs.FormatWalks.{walk_on as walk-bind, bind_bind, bind_same}

-- Whatever stands behind these lines, the format reads them as this, and no line more. None of them has anything that reading drops.
pub record Reads {A : Type 0} (format : Format A) (lines : List (List ℕ)) (x : A) : Type 0 where
  pub bare : list_all is_line lines ≡ true
  pub reads : (more : List (List ℕ)) (n : ℕ) → walk format (record { left = lines ++ more; line = n }) ≡ Ok (x, record { left = more; line = n + length lines })

pub reads_done : {A : Type 0} (x : A) → Reads (Done x) [] x
reads_done x = record { bare = refl; reads = λ more n. ap (λ (k : ℕ). Ok (x, record { left = more; line = k })) (let e : n ≡ n + 0 = omega arith in e) }

-- what a line says, with whatever number
pub record Says (kind : Kind) (text : List ℕ) (v : Value kind) : Type 0 where
  pub bare : is_line text ≡ true
  pub says : (n : ℕ) → value_of kind n text ≡ Ok v

-- a line, and what follows it
pub reads_line : {A : Type 0} (kind : Kind) (onward : Value kind → Format A) (text : List ℕ) (v : Value kind) (lines : List (List ℕ)) (x : A) →
    Says kind text v → Reads (onward v) lines x → Reads (Line kind onward) (text ∷ lines) x
unfolding next_by
reads_line kind onward text v lines x is after = record {
  bare = and_true (is_line text) (list_all is_line lines) is.bare after.bare;
  reads = λ more n. rw (is.says n) (after.reads more (n + 1) ∙ ap (λ (k : ℕ). Ok (x, record { left = more; line = k })) (let e : n + 1 + length lines ≡ n + suc (length lines) = omega arith in e));
}

-- one format after another
pub reads_bind : {A B : Type 0} (f : Format A) (g : A → Format B) (ls ms : List (List ℕ)) (x : A) (y : B) → Reads f ls x → Reads (g x) ms y → Reads (formats.◌>>=◌ f g) (ls ++ ms) y
reads_bind f g ls ms x y first second = record {
  bare = list_all-append is_line ls ms ∙ and_true (list_all is_line ls) (list_all is_line ms) first.bare second.bare;
  reads = λ more n.
      let split : (ls ++ ms) ++ more ≡ ls ++ (ms ++ more) = append_assoc ls ms more in
      let one : walk f (record { left = (ls ++ ms) ++ more; line = n }) ≡ Ok (x, record { left = ms ++ more; line = n + length ls }) = rw split (first.reads (ms ++ more) n) in
      let sum : n + length ls + length ms ≡ n + length (ls ++ ms) = omega (arith, length-append ls ms) in
      walk-bind f g (record { left = (ls ++ ms) ++ more; line = n }) ∙ rw one (second.reads more (n + length ls) ∙ ap (λ (k : ℕ). Ok (y, record { left = more; line = k })) sum);
}

-- the same, where the first line of the second stands with the lines of the first
pub reads_bind_line : {A B : Type 0} (f : Format A) (g : A → Format B) (ls : List (List ℕ)) (text : List ℕ) (ms : List (List ℕ)) (x : A) (y : B) → Reads f ls x → Reads (g x) (text ∷ ms) y → Reads (formats.◌>>=◌ f g) ((ls ++ text ∷ []) ++ ms) y
reads_bind_line f g ls text ms x y first second =
    subst (λ lines. Reads (formats.◌>>=◌ f g) lines y) (sym (append_assoc ls (text ∷ []) ms)) (reads_bind f g ls (text ∷ ms) x y first second)

-- a format whose value is changed
pub reads_map : {A B : Type 0} (f : Format A) (g : A → B) (ls : List (List ℕ)) (x : A) → Reads f ls x → Reads (formats.◌>>=◌ f (λ a. Done (g a))) ls (g x)
reads_map f g ls x first = record { bare = first.bare; reads = λ more n. walk-bind f (λ a. Done (g a)) (record { left = ls ++ more; line = n }) ∙ rw (first.reads more n) refl }

-- so many times, each in its lines
pub reads_times : {X A : Type 0} (format : Format A) (lines : X → List (List ℕ)) (g : X → A) (xs : List X) →
    ((i : ℕ) (x : X) → slice_get xs i ≡ Some x → Reads format (lines x) (g x)) → Reads (times (length xs) format) (flat_map lines xs) (map g xs)
unfolding times
reads_times format lines g [] each = reads_done []
reads_times format lines g (x ∷ xs) each =
    reads_bind format _ (lines x) (flat_map lines xs) (g x) (g x ∷ map g xs) (each 0 x refl)
    (reads_map (times (length xs) format) (λ ys. g x ∷ ys) (flat_map lines xs) (map g xs) (reads_times format lines g xs (λ i. each (suc i))))

-- so many lines
pub reads_lines : {X : Type 0} (kind : Kind) (text : X → List ℕ) (g : X → Value kind) (xs : List X) →
    ((i : ℕ) (x : X) → slice_get xs i ≡ Some x → Says kind (text x) (g x)) → Reads (times (length xs) (line kind)) (map text xs) (map g xs)
unfolding times
reads_lines kind text g [] each = reads_done []
reads_lines kind text g (x ∷ xs) each =
    reads_line kind _ (text x) (g x) (map text xs) (g x ∷ map g xs) (each 0 x refl)
    (reads_map (times (length xs) (line kind)) (λ ys. g x ∷ ys) (map text xs) (map g xs) (reads_lines kind text g xs (λ i. each (suc i))))
