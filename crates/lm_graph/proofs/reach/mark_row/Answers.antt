use Rattle.std.proofs.Common.{◌∙◌, sym, refl, get_or}
use Rattle.lm_graph.specs.Rows.{past_end}
use Rattle.lm_graph.proofs.MarkLaws.{row_yes, row_no}
use Rattle.lm_graph.proofs.reach.mark_row.Goals as goal
use Rattle.lm_graph.proofs.reach.mark_row.Goals.{then-is_as_strong+in_ok-mark, else-is_as_strong}

pub loop-edge-preserved : goal.loop-edge-preserved
loop-edge-preserved c =
    let row = c.args.row.now in
    let k = c.loop-edge.edge-index in
    elim c.if-is_as_strong.branch [
      | then-is_as_strong+in_ok-mark w ↦ rw (w.seen-is, w.queue-is) (row_yes _ _ _ _ _ _ row k (get_or row k past_end) c.args.weakest c.loop-edge-test.true refl (sym c.is_as_strong.ensures ∙ w.if-is_as_strong.true) c.loop-edge.invariant w.in_ok-mark.ensures)
      | else-is_as_strong w ↦ rw (w.seen-is, w.queue-is) (row_no _ _ _ _ row k (get_or row k past_end) c.args.weakest c.loop-edge-test.true refl (sym c.is_as_strong.ensures ∙ w.if-is_as_strong.false) c.loop-edge.invariant)
    ]
