-- Bytes that are compared with a file's.
use Rattle.std.proofs.Common.{◌≡◌, ◌≢◌, ◌∙◌, sym, ap, refl, ℕ, ◌+◌, ◌-◌, ◌<◌, ◌≤◌, min, List, [], ◌++◌, length, take, drop, Option, Some, None, IsSome, arith, inl, inr, append_assoc, append-nil, length-append, length-drop, take-append-drop, Result, Ok, Err, IfOk, Bool, IsTrue, ◌↔◌}
use Rattle.std.proofs.lemmas.List.{take-append-le, take-take, take_all, drop_all, drop-drop, length-take-le, append_cancel_left}
use Rattle.std.proofs.Math.Seq.{drop-append_seam}
use Rattle.lama_host.specs.declared.files.Piece.TheVariants as piece
use Rattle.lama_host.specs.Pieces.{Shows, Reads}
use Rattle.plan_manager.specs.Comparing.{HasAt, EndsAt}

-- The bytes up to the rest are there, from the start to the place.
pub record Found (held : Option (List ℕ)) (start : ℕ) (bytes : List ℕ) (at : ℕ) (rest : List ℕ) : Type 0 where
  pub done : List ℕ
  pub all : done ++ rest ≡ bytes
  pub place : at ≡ start + length done
  pub there : 0 < length done → IsSome held
  pub same : (file : List ℕ) → held ≡ Some file → drop start file ≡ done ++ drop at file

front_there : (file bytes buf : List ℕ) (start n count : ℕ) → Shows file start buf n → count ≡ min n (length bytes) → take count (drop start file) ≡ take count buf
front_there file bytes buf start n count shows is =
    let short : count ≤ n = omega arith in
    let of_file : take count (take n (drop start file)) ≡ take count (drop start file) = take-take count n (drop start file) short in
    let of_buf : take count (take n buf) ≡ take count buf = take-take count n buf short in
    sym of_file ∙ ap (take count) (sym shows.front) ∙ of_buf

-- a piece is the same as the front of the bytes
pub front_is : (held : Option (List ℕ)) (start n count : ℕ) (bytes buf : List ℕ) → Reads held start buf (piece.Bytes n) → count ≡ min n (length bytes) → take count buf ≡ take count bytes → HasAt held start (take count bytes)
front_is held start n count bytes buf read is same =
    let file = read.0 in
    (file, read.1, (drop count (drop start file), sym (take-append-drop count (drop start file)) ∙ ap (λ t. t ++ drop count (drop start file)) (front_there file bytes buf start n count read.2 is ∙ same)))

-- or differs from it
pub front_isnt : (held : Option (List ℕ)) (start n count : ℕ) (bytes buf : List ℕ) → Reads held start buf (piece.Bytes n) → count ≡ min n (length bytes) → take count buf ≢ take count bytes → HasAt held start bytes → ⊥
front_isnt held start n count bytes buf read is apart has =
    let k : Some read.0 ≡ Some has.0 = sym read.1 ∙ has.1 in
    let file : read.0 ≡ has.0 = cc in
    let within : count ≤ length bytes = omega arith in
    let front : take count (bytes ++ has.2.0) ≡ take count bytes = take-append-le count bytes has.2.0 within in
    apart (sym (front_there read.0 bytes buf start n count read.2 is) ∙ ap (λ f. take count (drop start f)) file ∙ ap (take count) has.2.1 ∙ front)

-- or there is none
pub front_ends : (held : Option (List ℕ)) (start : ℕ) (bytes buf : List ℕ) → Reads held start buf (piece.Bytes 0) → 0 < length buf → 0 < length bytes → HasAt held start bytes → ⊥
front_ends held start bytes buf read room some has =
    let k : Some read.0 ≡ Some has.0 = sym read.1 ∙ has.1 in
    let file : read.0 ≡ has.0 = cc in
    let at_end : length read.0 ≤ start = elim (read.2.none refl) [ inl h ↦ absurd (omega arith) | inr h ↦ h ] in
    let rest : bytes ++ has.2.0 ≡ [] = sym has.2.1 ∙ ap (drop start) (sym file) ∙ drop_all start read.0 at_end in
    omega (arith, ap length rest, length-append bytes has.2.0)

there_is : (held : Option (List ℕ)) → IsSome held → (file : List ℕ) × (held ≡ Some file)
there_is None some = let k : IsSome {T = List ℕ} None = some in cc
there_is (Some file) some = (file, refl)

is_there : (held : Option (List ℕ)) (file : List ℕ) → held ≡ Some file → IsSome held
is_there held file is = rw is refl

same_file : (held : Option (List ℕ)) (a b : List ℕ) → held ≡ Some a → held ≡ Some b → a ≡ b
same_file held a b first second = let k : Some a ≡ Some b = sym first ∙ second in cc

pub found_none : (held : Option (List ℕ)) (start : ℕ) (bytes : List ℕ) → Found held start bytes start bytes
found_none held start bytes = record {
  done = [];
  all = refl;
  place = omega arith;
  there = λ some. absurd (omega (arith, some));
  same = λ file is. refl;
}

-- more of the bytes are there
pub found_more : (held : Option (List ℕ)) (start at n : ℕ) (bytes rest : List ℕ) → Found held start bytes at rest → HasAt held at (take n rest) → n ≤ length rest → Found held start bytes (at + n) (take (length rest - n) (drop n rest))
found_more held start at n bytes rest found has fits =
    let len : length (take n rest) ≡ n = length-take-le n rest fits in
    let all_left : take (length rest - n) (drop n rest) ≡ drop n rest = take_all (length rest - n) (drop n rest) (omega (arith, length-drop n rest)) in
    record {
      done = found.done ++ take n rest;
      all = ap (λ r. (found.done ++ take n rest) ++ r) all_left ∙ append_assoc found.done (take n rest) (drop n rest) ∙ ap (λ r. found.done ++ r) (take-append-drop n rest) ∙ found.all;
      place = omega (arith, found.place, length-append found.done (take n rest), len);
      there = λ _. is_there held has.0 has.1;
      same = λ file is.
          let here : drop at file ≡ take n rest ++ has.2.0 = ap (drop at) (same_file held file has.0 is has.1) ∙ has.2.1 in
          let after : drop (at + n) file ≡ has.2.0 = sym (drop-drop n at file) ∙ ap (drop n) here ∙ ap (λ k. drop k (take n rest ++ has.2.0)) (sym len) ∙ drop-append_seam (take n rest) has.2.0 in
          found.same file is ∙ ap (λ r. found.done ++ r) (here ∙ ap (λ r. take n rest ++ r) (sym after)) ∙ sym (append_assoc found.done (take n rest) (drop (at + n) file));
    }

-- where all are there the rest is
pub found_rest : (held : Option (List ℕ)) (start at : ℕ) (bytes rest : List ℕ) → Found held start bytes at rest → HasAt held start bytes → HasAt held at rest
found_rest held start at bytes rest found has =
    let split : found.done ++ drop at has.0 ≡ found.done ++ (rest ++ has.2.0) = sym (found.same has.0 has.1) ∙ has.2.1 ∙ ap (λ b. b ++ has.2.0) (sym found.all) ∙ append_assoc found.done rest has.2.0 in
    (has.0, has.1, (has.2.0, append_cancel_left found.done (drop at has.0) (rest ++ has.2.0) split))

-- where nothing is left all are
pub found_all : (held : Option (List ℕ)) (start at : ℕ) (bytes rest : List ℕ) → Found held start bytes at rest → rest ≡ [] → 0 < length bytes → HasAt held start bytes
found_all held start at bytes rest found none some =
    let whole : found.done ≡ bytes = sym (append-nil found.done) ∙ ap (λ r. found.done ++ r) (sym none) ∙ found.all in
    let file = there_is held (found.there (omega (arith, ap length whole))) in
    (file.0, file.1, (drop at file.0, found.same file.0 file.1 ∙ ap (λ b. b ++ drop at file.0) whole))

-- The text is there up to a place, and this is left of it.
pub record Matched (held : Option (List ℕ)) (text left : List ℕ) (at : ℕ) : Type 0 where
  pub done : List ℕ
  pub all : done ++ left ≡ text
  pub place : at ≡ length done
  pub same : (file : List ℕ) → held ≡ Some file → file ≡ done ++ drop at file

pub matched_none : (held : Option (List ℕ)) (text left : List ℕ) → left ≡ text → Matched held text left 0
matched_none held text left is = record { done = []; all = is; place = refl; same = λ file there. refl }

pub matched_more : (held : Option (List ℕ)) (text bytes left after : List ℕ) (at n : ℕ) → Matched held text (bytes ++ left) at → HasAt held at bytes → n ≡ length bytes → after ≡ left → Matched held text after (at + n)
matched_more held text bytes left after at n matched has long is = record {
  done = matched.done ++ bytes;
  all = append_assoc matched.done bytes after ∙ ap (λ l. matched.done ++ (bytes ++ l)) is ∙ matched.all;
  place = omega (arith, matched.place, long, length-append matched.done bytes);
  same = λ file there.
      let here : drop at file ≡ bytes ++ has.2.0 = ap (drop at) (same_file held file has.0 there has.1) ∙ has.2.1 in
      let behind : drop (at + n) file ≡ has.2.0 = sym (drop-drop n at file) ∙ ap (drop n) here ∙ ap (λ k. drop k (bytes ++ has.2.0)) long ∙ drop-append_seam bytes has.2.0 in
      matched.same file there ∙ ap (λ r. matched.done ++ r) (here ∙ ap (λ r. bytes ++ r) (sym behind)) ∙ sym (append_assoc matched.done bytes (drop (at + n) file));
}

-- other bytes, another text
pub matched_not : (held : Option (List ℕ)) (text bytes left : List ℕ) (at : ℕ) → Matched held text (bytes ++ left) at → (HasAt held at bytes → ⊥) → held ≡ Some text → ⊥
matched_not held text bytes left at matched others is =
    let split : matched.done ++ drop at text ≡ matched.done ++ (bytes ++ left) = sym (matched.same text is) ∙ sym matched.all in
    others (text, is, (left, append_cancel_left matched.done (drop at text) (bytes ++ left) split))

-- where nothing is left the file is the text, just where it ends
pub matched_all : (held : Option (List ℕ)) (text left : List ℕ) (at : ℕ) → Matched held text left at → left ≡ [] → EndsAt held at → held ≡ Some text
matched_all held text left at matched none ends =
    let whole : matched.done ≡ text = sym (append-nil matched.done) ∙ ap (λ l. matched.done ++ l) (sym none) ∙ matched.all in
    ends.1 ∙ ap Some (matched.same ends.0 ends.1 ∙ ap (λ r. matched.done ++ r) (drop_all at ends.0 ends.2) ∙ append-nil matched.done ∙ whole)

pub matched_ends : (held : Option (List ℕ)) (text left : List ℕ) (at : ℕ) → Matched held text left at → left ≡ [] → held ≡ Some text → EndsAt held at
matched_ends held text left at matched none is =
    let whole : matched.done ≡ text = sym (append-nil matched.done) ∙ ap (λ l. matched.done ++ l) (sym none) ∙ matched.all in
    (text, is, omega (arith, matched.place, ap length whole))

-- an answer on one fact is one on another that is the same
pub answer_as : {E : Type 0} (result : Result Bool E) (P Q : Type 0) → (P → Q) → (Q → P) → IfOk result (λ is. IsTrue is ↔ P) → IfOk result (λ is. IsTrue is ↔ Q)
answer_as (Ok is) P Q to from answer = (λ t. to (answer.0 t), λ q. answer.1 (from q))
answer_as (Err e) P Q to from answer = tt
