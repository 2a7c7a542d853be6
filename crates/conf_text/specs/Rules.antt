-- Rules of a grammar, and how they are put together.
use Rattle.std.specs.Prelude.{ℕ, zero, suc, List, [], ◌∷◌, Bool, true, false, if◌then◌else◌, codes, Option, Some, None, Result, Ok, Err}
use Rattle.std.specs.Str.{bytes_eq}
use Rattle.conf_text.specs.Tokens.{Spot, Token, next}
use Rattle.conf_text.specs.declared.faults.ConfBad.{ConfBad}
use Rattle.conf_text.specs.declared.faults.ConfError.{ConfError}
use Rattle.conf_text.specs.declared.faults.ConfError.TheVariants.{Bad, NoMemory}
use Rattle.conf_text.specs.declared.faults.ConfKind.{ConfKind}
use Rattle.conf_text.specs.declared.faults.ConfKind.TheVariants.{CutShort, Unexpected}

-- What the text gives from a place on, and the place behind it; or the first token that can't stand where it stands.
abbrev pub Rule : Type 0 → Type 0
Rule A = Spot → Result (A × Spot) ConfBad

abbrev pub onward : {A B : Type 0} → (A → Rule B) → Result (A × Spot) ConfBad → Result (B × Spot) ConfBad
onward more (Ok r) = more r.0 r.1
onward more (Err bad) = Err bad

-- one rule after another
infixl 10 ◌>>=◌
abbrev pub ◌>>=◌ : {A B : Type 0} → Rule A → (A → Rule B) → Rule B
(rule >>= more) s = onward more (rule s)

-- a value, without any token
abbrev pub gives : {A : Type 0} → A → Rule A
gives x s = Ok (x, s)

-- what was made of a token, behind it
abbrev pub judged : {A : Type 0} → Result A ConfBad → Rule A
judged (Ok x) s = Ok (x, s)
judged (Err bad) s = Err bad

-- a rule that depends on the next token
abbrev pub behind : {A : Type 0} → (Token → Rule A) → Rule A
behind by s = by (next s).0 (next s).1

-- one token, by what may be made of it
abbrev pub token : {A : Type 0} → (Token → Result A ConfBad) → Rule A
token may = behind (λ t. judged (may t))

-- at the end of the text it is always a cut
abbrev pub kind_at : List ℕ → ConfKind → ConfKind
kind_at [] kind = CutShort
kind_at (b ∷ bs) kind = kind

abbrev pub bad_at : Token → ConfKind → ConfBad
bad_at t kind = record { place = t.place; kind = kind_at t.text kind }

-- a token that can't stand here
abbrev pub refused : {A : Type 0} → Token → ConfKind → Result A ConfBad
refused t kind = Err (bad_at t kind)

abbrev pub is_text : Token → List ℕ → Bool
is_text t text = bytes_eq t.text text

abbrev pub only : List ℕ → Token → Result (Unit {0}) ConfBad
only text t = if is_text t text then Ok tt else refused t Unexpected

-- a sign or a word that is fixed
abbrev pub fixed : List ℕ → Rule (Unit {0})
fixed text = token (only text)

abbrev pub comma_or : List ℕ → Token → Result Bool ConfBad
comma_or close t = if is_text t (codes ",") then Ok true else (if is_text t close then Ok false else refused t Unexpected)

-- whether a comma follows, or what closes a list
abbrev pub another : List ℕ → Rule Bool
another close = token (comma_or close)

-- a member of a list behind those in front, and whether another follows
abbrev pub member_and_more : {A : Type 0} → List ℕ → (A → Rule A) → A → Rule (A × Bool)
member_and_more close member front = do
  all ← member front
  more ← another close
  gives (all, more)

-- Members with commas between them, up to what closes the list. There are at most so many: the rule refuses a member beyond its own limit.
unfoldable pub members : {A : Type 0} → List ℕ → (A → Rule A) → ℕ → A → Rule A
members close member zero front = gives front
members close member (suc n) front = do
  r ← member_and_more close member front
  if r.1 then members close member n r.0 else gives r.0

-- what is refused by an error; want of memory is no refusal
abbrev pub refusal : ConfError → Option ConfBad
refusal (Bad bad) = Some bad
refusal NoMemory = None
