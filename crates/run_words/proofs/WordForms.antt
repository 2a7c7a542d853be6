-- What words look like, to clap and in the grammar.
use Rattle.std.proofs.Common.{◌≡◌, refl, ℕ, [], ◌∷◌, Bool, true, false, Option, Some, None, nat_eq, inl, inr, codes}
use Rattle.std.specs.Prelude.{◌⊎◌}
use Rattle.std.specs.List.{before_first}
use Rattle.std.specs.Str.{bytes_eq}
use Rattle.clap.specs.Lexer.{long_of, short_of}
use Rattle.run_words.specs.Command.{is_stray}
use Rattle.run_words.specs.Grammar.{Text, Whole, begins_with_dash, behind_equals, gives, is_equals_sign, named, word_of}

-- a word that begins with no dash
pub record IsPlain (word : Text) : Type 0 where
  pub dashes : bytes_eq word (45 ∷ 45 ∷ []) ≡ false
  pub long : long_of word ≡ None
  pub short : short_of word ≡ None
  pub begins : begins_with_dash word ≡ false
  pub is : word_of word ≡ Whole (gives (codes "TASK") word)

-- a word with a name behind two dashes, and perhaps a value behind that
pub record IsLong (word name : Text) (value : Option Text) : Type 0 where
  pub dashes : bytes_eq word (45 ∷ 45 ∷ []) ≡ false
  pub long : long_of word ≡ Some (name, value)
  pub begins : begins_with_dash word ≡ true
  pub is : word_of word ≡ named name value

abbrev pub HasForm : Text → Type 0
HasForm word = IsPlain word ⊎ ((name : Text) × (value : Option Text) × IsLong word name value)

no_dash : (b : ℕ) (rest : Text) → nat_eq b 45 ≡ false → IsPlain (b ∷ rest)
no_dash b rest e = record { dashes = rw e refl; long = rw e refl; short = rw e refl; begins = rw e refl; is = rw e refl }

two_dashes : (b c d : ℕ) (rest : Text) → nat_eq b 45 ≡ true → nat_eq c 45 ≡ true → IsLong (b ∷ (c ∷ (d ∷ rest))) (before_first is_equals_sign (d ∷ rest)) (behind_equals (d ∷ rest))
two_dashes b c d rest e f = record { dashes = rw (e, f) refl; long = rw (e, f) refl; begins = rw e refl; is = rw (e, f) refl }

behind_one : (b : ℕ) (rest : Text) → nat_eq b 45 ≡ true → is_stray (b ∷ rest) ≡ false → HasForm (b ∷ rest)
behind_one b [] e fits = let k : true ≡ false = rw e at fits in cc
behind_one b (c ∷ []) e fits = by_second (nat_eq c 45) refl
  where
    by_second : (t : Bool) → nat_eq c 45 ≡ t → HasForm (b ∷ (c ∷ []))
    by_second true f = let k : true ≡ false = rw (e, f) at fits in cc
    by_second false f = let k : true ≡ false = rw (e, f) at fits in cc
behind_one b (c ∷ (d ∷ rest)) e fits = by_second (nat_eq c 45) refl
  where
    by_second : (t : Bool) → nat_eq c 45 ≡ t → HasForm (b ∷ (c ∷ (d ∷ rest)))
    by_second true f = inr (_, _, two_dashes b c d rest e f)
    by_second false f = let k : true ≡ false = rw (e, f) at fits in cc

-- a word is plain or long, unless it is stray
pub form_of : (word : Text) → is_stray word ≡ false → HasForm word
form_of [] fits = inl (record { dashes = refl; long = refl; short = refl; begins = refl; is = refl })
form_of (b ∷ rest) fits = by_first (nat_eq b 45) refl
  where
    by_first : (t : Bool) → nat_eq b 45 ≡ t → HasForm (b ∷ rest)
    by_first true e = behind_one b rest e fits
    by_first false e = inl (no_dash b rest e)
