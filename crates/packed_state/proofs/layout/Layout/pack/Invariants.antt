use Rattle.packed_state.proofs.FieldReads.{PackedTo}
use Rattle.packed_state.proofs.layout.Layout.pack.Given as goal

abbrev pub invariant-loop-i : goal.invariant-loop-i
invariant-loop-i l = PackedTo l.self l.values l.i l.out
