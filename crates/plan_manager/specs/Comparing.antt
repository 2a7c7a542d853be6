-- What a file holds, seen from a place on.
use Rattle.std.specs.Prelude.{◌≡◌, ℕ, ◌≤◌, List, ◌++◌, length, take, drop, Option, Some, None}

-- from the place on it has the bytes, and maybe more
abbrev pub HasAt : Option (List ℕ) → ℕ → List ℕ → Type 0
HasAt held start bytes = (file : List ℕ) × (held ≡ Some file) × ((more : List ℕ) × (drop start file ≡ bytes ++ more))

-- so many of the bytes are there; or it has other ones, or ends
abbrev pub TellsFront : Option (List ℕ) → ℕ → List ℕ → Option ℕ → Type 0
TellsFront held start bytes None = HasAt held start bytes → ⊥
TellsFront held start bytes (Some n) = HasAt held start (take n bytes)

-- it is there, and has no byte from the place on
abbrev pub EndsAt : Option (List ℕ) → ℕ → Type 0
EndsAt held start = (file : List ℕ) × (held ≡ Some file) × (length file ≤ start)
