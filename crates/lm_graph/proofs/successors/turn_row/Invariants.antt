use Rattle.std.proofs.Common.{take}
use Rattle.lm_graph.specs.Turned.{TurnsRow}
use Rattle.lm_graph.proofs.successors.turn_row.Given as goal

abbrev pub invariant-loop-edge : goal.invariant-loop-edge
invariant-loop-edge l = TurnsRow l.initial.rows.items l.rows.items (take l.edge-index l.row) l.after
