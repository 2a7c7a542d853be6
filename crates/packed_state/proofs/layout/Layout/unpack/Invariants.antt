use Rattle.std.proofs.Common.{◌≡◌, ℕ, ◌<◌, List, slice_index}
use Rattle.packed_state.specs.Packing.{CanHold, packed}
use Rattle.packed_state.proofs.layout.Layout.unpack.Given as goal

abbrev pub invariant-loop-i : goal.invariant-loop-i
invariant-loop-i l = (state : List ℕ) → CanHold l.self state → l.packed_words ≡ packed l.self state → (var : ℕ) → var < l.i → slice_index l.out var ≡ slice_index state var
