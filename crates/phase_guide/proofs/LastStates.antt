-- Laws of Fits.
use Rattle.std.specs.Prelude.{◌≡◌, ℕ, List, [], ◌∷◌, ◌++◌}
use Rattle.std.proofs.Common.{refl}
use Rattle.phase_guide.specs.Fits.{last_of}

pub last_more : (states : List (List ℕ)) (state : List ℕ) → last_of (states ++ state ∷ []) ≡ state
last_more [] state = refl
last_more (one ∷ []) state = refl
last_more (one ∷ other ∷ states) state = last_more (other ∷ states) state
