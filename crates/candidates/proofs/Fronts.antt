-- The bytes that were read so far as a front of the file's.
use Rattle.std.proofs.Common.{◌≡◌, ◌∙◌, sym, ap, refl, subst, ◌<◌, ◌≤◌, ◌+◌, ◌++◌, ℕ, List, [], length, take, drop, Option, Some, None, IsSome, arith, append_assoc, inl, inr, length-append}
use Rattle.std.proofs.lemmas.List.{drop-drop, take-append-drop, length-take-le, drop_all}
use Rattle.std.proofs.lemmas.Grind.{common_steps}
use Rattle.std.proofs.lemmas.Bool.Decides.{nat_tests}
use Rattle.lama_host.specs.Pieces.{Shows, Reads}
use Rattle.candidates.specs.Whole.{whole_of, IsFrontOf}
use Rattle.lama_host.specs.declared.files.Piece.TheVariants as piece
use Rattle.candidates.specs.declared.reading.Whole.TheVariants.{TooLong}

goes : (file bytes buf : List ℕ) (n : ℕ) → bytes ++ drop (length bytes) file ≡ file → Shows file (length bytes) buf n → n ≤ length buf →
    (bytes ++ take n buf) ++ drop (length (bytes ++ take n buf)) file ≡ file
goes file bytes buf n front shows fits =
    let len : length (bytes ++ take n buf) ≡ length bytes + n = length-append bytes (take n buf) ∙ ap (λ k. length bytes + k) (length-take-le n buf fits) in
    rw (len, append_assoc, shows.front, ← drop-drop n (length bytes) file, take-append-drop) front

-- one more piece
pub front_goes : (held : Option (List ℕ)) (bytes buf : List ℕ) (n : ℕ) → IsFrontOf held bytes → Reads held (length bytes) buf (piece.Bytes n) → n ≤ length buf → IsFrontOf held (bytes ++ take n buf)
front_goes held bytes buf n front read fits = record {
  there = λ _. rw read.1 refl;
  front = λ file is. goes file bytes buf n (front.front file is) (subst (λ f. Shows f (length bytes) buf n) (same_file read.0 file (sym read.1 ∙ is)) read.2) fits;
}
  where
    same_file : (x y : List ℕ) → Some x ≡ Some y → x ≡ y
    same_file x y e = cc

-- at the end they are all of the file's
pub front_ends : (held : Option (List ℕ)) (bytes buf : List ℕ) → IsFrontOf held bytes → Reads held (length bytes) buf (piece.Bytes 0) → 0 < length buf → held ≡ Some bytes
front_ends held bytes buf front read room =
    let at_end : length read.0 ≤ length bytes = elim (read.2.none refl) [ inl h ↦ absurd (omega arith) | inr h ↦ h ] in
    let rest : drop (length bytes) read.0 ≡ [] = drop_all (length bytes) read.0 at_end in
    let whole : bytes ++ drop (length bytes) read.0 ≡ read.0 = front.front read.0 read.1 in
    read.1 ∙ ap Some (grind (arith, common_steps, rest, whole))

too_long : (file : List ℕ) (most : ℕ) → most < length file → TooLong ≡ whole_of (Some file) most
too_long file most lt = grind (arith, nat_tests, lt)

-- more than so many are there
pub front_long : (held : Option (List ℕ)) (bytes : List ℕ) (most : ℕ) → IsFrontOf held bytes → most < length bytes → TooLong ≡ whole_of held most
front_long None bytes most front lt = let h : IsSome {T = List ℕ} None = front.there (omega arith) in cc
front_long (Some file) bytes most front lt =
    too_long file most (omega (arith, ap length (front.front file refl), length-append bytes (drop (length bytes) file)))
