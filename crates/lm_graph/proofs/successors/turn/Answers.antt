use Rattle.std.proofs.Common.{◌≡◌, arith, length}
use Rattle.lm_graph.proofs.MarkLaws.{row_within}
use Rattle.lm_graph.proofs.TurnedRows.{turned_all}
use Rattle.lm_graph.proofs.successors.turn.Goals as goal

pub turn_row-requires-clause-within : goal.turn_row-requires-clause-within
turn_row-requires-clause-within c place edge at =
    omega (arith, c.loop-after.invariant.long, row_within c.args.rows.now c.loop-after.after place _ edge c.requires.within c.edges_at.ensures.edges c.edges_at.ensures.ascending at)

pub returns : goal.returns
returns c =
    let all : c.loop-after.after ≡ length c.args.rows.now = omega arith in
    turned_all c.args.rows.now c.loop-after.turned.items c.loop-after.after all c.loop-after.invariant
