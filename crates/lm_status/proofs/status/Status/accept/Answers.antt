use Rattle.std.proofs.Common.{◌≡◌, ◌∙◌, sym, subst, ℕ, ◌+◌, length, ◌&&◌, not, true, false, arith}
use Rattle.lm_status.specs.Accepted.{opens}
use Rattle.bit_rows.specs.Rows.{has}
use Rattle.lm_status.specs.Rows.{words_of}
use Rattle.lm_status.proofs.Loops.{AddedBelow, added_more, kept_more, all_added}
use Rattle.lm_status.proofs.status.Status.accept.Goals as goal
use Rattle.lm_status.proofs.status.Status.accept.Goals.{then-is_new, else-is_new}

pub loop-node-preserved : goal.loop-node-preserved
loop-node-preserved c =
    elim c.if-is_new.branch [
      | then-is_new w ↦
          let passes : (not (has c.args.parent.now c.loop-node.node) && opens c.args.self.now.graph (has c.args.parent.now) c.args.state.now c.loop-node.node) ≡ true = sym c.is_new.ensures ∙ w.if-is_new.true in
          let added : AddedBelow (c.loop-node.node + 1) w.put.new.row (has c.args.parent.now) (opens c.args.self.now.graph (has c.args.parent.now) c.args.state.now) = added_more c.loop-node.node c.loop-node.out w.put.new.row _ _ c.loop-node.invariant.1 passes w.put.ensures in
          let long : length c.if-is_new.out ≡ words_of c.args.self.now.graph = omega (arith, c.if-is_new.auto.out) in
          (long, rw w.out-is added)
      | else-is_new w ↦
          let fails : (not (has c.args.parent.now c.loop-node.node) && opens c.args.self.now.graph (has c.args.parent.now) c.args.state.now c.loop-node.node) ≡ false = sym c.is_new.ensures ∙ w.if-is_new.false in
          let kept : AddedBelow (c.loop-node.node + 1) c.loop-node.out (has c.args.parent.now) (opens c.args.self.now.graph (has c.args.parent.now) c.args.state.now) = kept_more c.loop-node.node c.loop-node.out _ _ c.loop-node.invariant.1 fails in
          let long : length c.if-is_new.out ≡ words_of c.args.self.now.graph = omega (arith, c.if-is_new.auto.out) in
          (long, rw w.out-is kept)
    ]

pub returns : goal.returns
returns c =
    let same : c.loop-node.node ≡ length c.args.self.now.graph.nodes = omega arith in
    let all : AddedBelow (length c.args.self.now.graph.nodes) c.loop-node.out (has c.args.parent.now) (opens c.args.self.now.graph (has c.args.parent.now) c.args.state.now) =
    subst (λ (n : ℕ). AddedBelow n c.loop-node.out (has c.args.parent.now) (opens c.args.self.now.graph (has c.args.parent.now) c.args.state.now)) same c.loop-node.invariant.1 in
    all_added c.args.self.now.graph c.loop-node.out (has c.args.parent.now) c.args.state.now all
