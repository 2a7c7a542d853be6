-- Formats of lines: what the next line must be after those before it, and what all of them give.
use Rattle.std.specs.Prelude.{ℕ, zero, suc, List, [], ◌∷◌, Bool, Option, Result}
use Rattle.sas_reader.specs.Reading.{begin_line, end_line, version_line, metric_line, name_line, count_line, layer_line, range_line, value_line, fact_line, effect_line, head_line}
use Rattle.sas_task.specs.declared.contents.Fact.{Fact}
use Rattle.sas_task.specs.declared.contents.Effect.{Effect}
use Rattle.sas_task.specs.declared.contents.Rule.{Rule}
use Rattle.sas_task.specs.declared.contents.Variable.{Variable}
use Rattle.sas_reader.specs.declared.faults.SasFault.{SasFault}
use Rattle.sas_reader.specs.declared.sections.Section.{Section}
use Rattle.sas_task.specs.declared.refusals.What.{What}

-- what a line must be
pub data Kind : Type 0 where
  -- the words that begin and end a part
  Begin : Section → Kind
  End : Section → Kind
  Version : Kind
  ZeroOrOne : Kind
  Name : Kind
  -- a count or a cost, up to a limit
  Count : What → ℕ → Kind
  Layer : Kind
  -- the number of values of the variable with that number and that layer, behind so many facts
  Range : ℕ → Option ℕ → ℕ → Kind
  -- a value below a range
  Below : ℕ → Kind
  FactIn : List Variable → Kind
  EffectIn : List Variable → Kind
  -- the head of a rule with those conditions, behind those initial values
  HeadIn : List Variable → List ℕ → List Fact → Kind

-- what such a line gives
abbrev pub Value : Kind → Type 0
Value (Begin section) = Unit {0}
Value (End section) = Unit {0}
Value Version = Unit {0}
Value ZeroOrOne = Bool
Value Name = List ℕ
Value (Count what most) = ℕ
Value Layer = Option ℕ
Value (Range var layer facts) = ℕ
Value (Below range) = ℕ
Value (FactIn variables) = Fact
Value (EffectIn variables) = Option Fact × Effect
Value (HeadIn variables init conds) = Rule

-- what the line with that number gives, or its fault
abbrev pub value_of : (kind : Kind) → ℕ → List ℕ → Result (Value kind) SasFault
value_of (Begin section) = begin_line section
value_of (End section) = end_line section
value_of Version = version_line
value_of ZeroOrOne = metric_line
value_of Name = name_line
value_of (Count what most) = count_line what most
value_of Layer = layer_line
value_of (Range var layer facts) = range_line var layer facts
value_of (Below range) = value_line range
value_of (FactIn variables) = fact_line variables
value_of (EffectIn variables) = effect_line variables
value_of (HeadIn variables init conds) = head_line variables init conds

-- A format: it gives something, or it wants a line of a kind, and what it wants then depends on what that line gives.
pub data Format (A : Type 0) : Type 0 where
  Done : A → Format A
  Line : (kind : Kind) → (Value kind → Format A) → Format A

-- one format after another
infixl 10 ◌>>=◌
abbrev pub ◌>>=◌ : {A B : Type 0} → Format A → (A → Format B) → Format B
(Done x) >>= f = f x
(Line kind next) >>= f = Line kind (λ value. next value >>= f)

-- one line
abbrev pub line : (kind : Kind) → Format (Value kind)
line kind = Line kind (λ value. Done value)

-- so many times
unfoldable pub times : {A : Type 0} → ℕ → Format A → Format (List A)
times zero format = Done []
times (suc n) format = do
  x ← format
  xs ← times n format
  Done (x ∷ xs)

-- once for each member
unfoldable pub each : {X A : Type 0} → (X → Format A) → List X → Format (List A)
each format [] = Done []
each format (x ∷ xs) = do
  y ← format x
  ys ← each format xs
  Done (y ∷ ys)
