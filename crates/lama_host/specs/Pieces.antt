-- What a read of a piece gives.
use Rattle.std.specs.Prelude.{◌≡◌, ℕ, ◌-◌, ◌≤◌, List, length, take, drop, Option, Some, None, ◌⊎◌}
use Rattle.lama_host.specs.declared.files.Piece.{Piece}
use Rattle.lama_host.specs.declared.files.Piece.TheVariants.{Missing, Bytes}

-- the n bytes of a file from start are in front of the buffer
pub record Shows (bytes : List ℕ) (start : ℕ) (buf : List ℕ) (n : ℕ) : Type 0 where
  pub front : take n buf ≡ take n (drop start bytes)
  pub within : n ≤ length bytes - start
  -- there are none only at or past the end, or where there is no room
  pub none : n ≡ 0 → (length buf ≡ 0) ⊎ (length bytes ≤ start)

-- what a read says of what a name holds
abbrev pub Reads : Option (List ℕ) → ℕ → List ℕ → Piece → Type 0
Reads held start buf Missing = held ≡ None
Reads held start buf (Bytes n) = (bytes : List ℕ) × (held ≡ Some bytes) × Shows bytes start buf n

-- no more than the buffer has room for
abbrev pub Fits : Piece → List ℕ → Type 0
Fits Missing buf = Unit {0}
Fits (Bytes n) buf = n ≤ length buf
