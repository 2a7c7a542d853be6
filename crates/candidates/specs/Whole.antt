-- What a read of a whole file gives.
use Rattle.std.specs.Prelude.{◌≡◌, ℕ, ◌<◌, ◌++◌, List, length, drop, nat_le, if◌then◌else◌, Option, Some, None, IsSome}
use Rattle.candidates.specs.declared.reading.Whole.{Whole}
use Rattle.candidates.specs.declared.reading.Whole.TheVariants as whole
use Rattle.candidates.specs.declared.reading.Turn.{Turn}
use Rattle.candidates.specs.declared.reading.Turn.TheVariants as turn

-- the file's bytes, if they are there and not more than that many
abbrev pub whole_of : Option (List ℕ) → ℕ → Whole
whole_of None most = whole.Missing
whole_of (Some bytes) most = if nat_le (length bytes) most then whole.Bytes bytes else whole.TooLong

-- the bytes so far are a front of what the name holds
pub record IsFrontOf (held : Option (List ℕ)) (bytes : List ℕ) : Type 0 where
  pub there : 0 < length bytes → IsSome held
  pub front : (file : List ℕ) → held ≡ Some file → bytes ++ drop (length bytes) file ≡ file

-- what one turn of reading tells
abbrev pub Turns : Option (List ℕ) → List ℕ → List ℕ → Turn → Type 0
Turns held old new turn.Missing = held ≡ None
Turns held old new turn.End = held ≡ Some old
Turns held old new turn.More = IsFrontOf held new
