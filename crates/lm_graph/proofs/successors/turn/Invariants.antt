use Rattle.lm_graph.proofs.TurnedRows.{TurnedBelow}
use Rattle.lm_graph.proofs.successors.turn.Given as goal

abbrev pub invariant-loop-after : goal.invariant-loop-after
invariant-loop-after l = TurnedBelow l.rows l.turned.items l.after
