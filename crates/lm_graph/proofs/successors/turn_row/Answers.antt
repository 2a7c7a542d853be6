use Rattle.std.proofs.Common.{refl, get_or}
use Rattle.std.proofs.lemmas.Option.{slice_get-get_or}
use Rattle.lm_graph.specs.Rows.{past_end}
use Rattle.lm_graph.proofs.TurnedRows.{turn_more}
use Rattle.lm_graph.proofs.successors.turn_row.Goals as goal

pub loop-edge-preserved : goal.loop-edge-preserved
loop-edge-preserved c =
    let row = c.args.row.now in
    let k = c.loop-edge.edge-index in
    let edge = get_or row k past_end in
    let within = c.requires.within k edge (slice_get-get_or row k past_end c.loop-edge-test.true) in
    turn_more _ _ _ row k c.args.after edge c.requires.ascending c.loop-edge-test.true refl within c.loop-edge.invariant c.in_ok-raise_at.ensures.ok
