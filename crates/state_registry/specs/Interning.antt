-- What becomes of a state that is looked for.
use Rattle.std.specs.Prelude.{◌≡◌, ◌≢◌, ℕ, ◌<◌, List, [], ◌∷◌, ◌++◌, length, slice_get, Some, map, Vec}
use Rattle.std.specs.declared.alloc.Global.{Global}
use Rattle.state_registry.specs.declared.interned.Interned.{Interned}
use Rattle.state_registry.specs.declared.interned.Interned.TheVariants.{New, Known, Full}

-- the words of states that are kept in vectors
abbrev pub words_of : List (Vec ℕ Global) → List (List ℕ)
words_of keys = map (λ (v : Vec ℕ Global). v.items) keys

-- the state isn't in the list
abbrev pub IsAbsent : List (List ℕ) → List ℕ → Type 0
IsAbsent states packed = (id : ℕ) → slice_get states id ≢ Some packed

-- no state stands twice
abbrev pub IsOnce : List (List ℕ) → Type 0
IsOnce states = (i j : ℕ) (packed : List ℕ) → slice_get states i ≡ Some packed → slice_get states j ≡ Some packed → i ≡ j

-- A state that is in the list is known by its place. Another goes to the end where fewer than so many
-- are there, and else there is no room for it.
abbrev pub Interns : List (List ℕ) → ℕ → List ℕ → Interned → List (List ℕ) → Type 0
Interns old most packed (New id) new = (id ≡ length old) × (length old < most) × IsAbsent old packed × (new ≡ old ++ packed ∷ [])
Interns old most packed (Known id) new = (slice_get old id ≡ Some packed) × (new ≡ old)
Interns old most packed Full new = (length old ≡ most) × IsAbsent old packed × (new ≡ old)
