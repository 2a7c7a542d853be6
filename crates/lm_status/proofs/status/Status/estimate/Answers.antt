use Rattle.std.proofs.Common.{◌≡◌, ◌∙◌, ◌+◌, min, sym, ap, true, false, slice_index}
use Rattle.lm_status.specs.Estimates.{is_open}
use Rattle.bit_rows.specs.Rows.{has}
use Rattle.lm_status.proofs.Sums.{capped_more, capped_same}
use Rattle.lm_status.proofs.status.Status.estimate.Goals as goal
use Rattle.lm_status.proofs.status.Status.estimate.Goals.{then-is_open, else-is_open}

pub loop-node-preserved : goal.loop-node-preserved
loop-node-preserved c =
    let open_now = is_open c.args.self.now.graph (has c.args.row.now) c.args.state.now in
    elim c.if-is_open.branch [
      | then-is_open w ↦
          let passes : open_now c.loop-node.node ≡ true = sym c.is_open.ensures ∙ w.if-is_open.true in
          let weight : w.weight.result ≡ slice_index c.args.self.now.weights c.loop-node.node = w.weight.ensures in
          w.sum-is ∙ (w.add_capped-sum.ensures ∙ (ap (λ n. min (c.loop-node.sum + n) 1000000000) weight ∙ capped_more (slice_index c.args.self.now.weights) open_now c.loop-node.node c.loop-node.sum passes c.loop-node.invariant))
      | else-is_open w ↦
          let fails : open_now c.loop-node.node ≡ false = sym c.is_open.ensures ∙ w.if-is_open.false in
          w.sum-is ∙ capped_same (slice_index c.args.self.now.weights) open_now c.loop-node.node c.loop-node.sum fails c.loop-node.invariant
    ]
