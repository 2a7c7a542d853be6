-- How visits came about.
use Rattle.std.specs.Prelude.{◌≡◌, ℕ, ◌<◌, List, [], ◌∷◌, ◌++◌, slice_get, Some}
use Rattle.lazy_search.specs.declared.paths.Origin.{Origin}

-- each visit but the first came from an earlier one
pub record AreEarlier (origins : List Origin) : Type 0 where
  pub earlier : (j : ℕ) (came : Origin) → 0 < j → slice_get origins j ≡ Some came → came.origin < j

-- These operators led to the visit of this number: none to the first, and to a later one those that led to its origin and its own.
pub data Traced (origins : List Origin) : ℕ → List ℕ → Type 0 where
  first : Traced origins 0 []
  later : (j : ℕ) (came : Origin) (path : List ℕ) → 0 < j → slice_get origins j ≡ Some came → Traced origins came.origin path → Traced origins j (path ++ came.op ∷ [])
