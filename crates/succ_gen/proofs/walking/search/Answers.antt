use Rattle.std.proofs.Common.{◌+◌, ◌-◌, ◌/◌, ◌<◌, ℕ, arith}
use Rattle.succ_gen.specs.Trees.{node_at}
use Rattle.succ_gen.proofs.TreeWalk.{searched_left, searched_right}
use Rattle.succ_gen.proofs.walking.search.Goals as goal

pub loop-start-preserved-then-here-value-2 : goal.loop-start-preserved-then-here-value-2
loop-start-preserved-then-here-value-2 c =
    let middle : ℕ = c.loop-start.start + (c.loop-start.end - c.loop-start.start) / 2 in
    searched_right c.args.nodes.now c.args.from c.args.to c.args.value c.loop-start.start c.loop-start.end middle c.requires (omega arith) (omega arith) c.if-here-value-2.true c.loop-start.invariant

pub loop-start-preserved : goal.loop-start-preserved
loop-start-preserved c =
    let middle : ℕ = c.loop-start.start + (c.loop-start.end - c.loop-start.start) / 2 in
    let above : c.args.value < (node_at c.args.nodes.now middle).fact.val = (let differs = c.if-here-value.false in let le = c.if-here-value-2.false in omega arith) in
    searched_left c.args.nodes.now c.args.from c.args.to c.args.value c.loop-start.start c.loop-start.end middle c.requires (omega arith) (omega arith) above c.loop-start.invariant
