use Rattle.std.proofs.Common.{◌≡◌, ◌+◌, ◌-◌, ◌<◌, ℕ, arith}
use Rattle.succ_gen.specs.Trees.{node_at}
use Rattle.succ_gen.proofs.TreeWalk.{none_below, sought_nearer}
use Rattle.succ_gen.proofs.walking.find.Goals.{else-farthest-end-via-then-farthest-end+else-nodes-farthest, else-farthest-end-via-else-farthest-end}
use Rattle.succ_gen.proofs.walking.find.Goals as goal

pub returns-then-value-first : goal.returns-then-value-first
returns-then-value-first c = none_below c.args.nodes.now c.args.start c.args.end c.args.value c.requires.rises c.requires.some c.if-value-first.true

pub returns : goal.returns
returns c =
    let first = (node_at c.args.nodes.now c.args.start).fact.val in
    let farthest : ℕ = c.args.start + (c.args.value - first) in
    let not_there : farthest < c.args.end → (node_at c.args.nodes.now farthest).fact.val ≡ c.args.value → ⊥ =
    elim c.else-farthest-end.branch [
      | else-farthest-end-via-then-farthest-end+else-nodes-farthest w ↦ λ lt same. w.if-nodes-farthest.false same
      | else-farthest-end-via-else-farthest-end w ↦ λ lt same. (let ge = w.if-farthest-end.false in absurd (omega arith))
    ] in
    sought_nearer c.args.nodes.now c.args.start c.args.end c.min.result farthest c.args.value c.search.result c.requires.rises c.requires.some (let le = c.if-value-first.false in omega arith) not_there c.min.ensures c.search.ensures
