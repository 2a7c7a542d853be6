use Rattle.std.proofs.Common.{◌≤◌, ◌∙◌, ap, sym, subst, length, arith, List}
use Rattle.lm_graph.specs.declared.nodes.Node.{Node}
use Rattle.lm_graph.specs.Nodes.{AreDistinct}
use Rattle.lm_backchain.proofs.Strong.{row_next, kept_stay, single_stays}
use Rattle.lm_backchain.proofs.natural.order_row.Goals as goal

pub order_pair-requires-clause-before : goal.order_pair-requires-clause-before
order_pair-requires-clause-before c = let l = ap length c.loop-after.invariant.nodes in omega (arith, l, c.requires.before)

pub order_pair-requires-clause-after : goal.order_pair-requires-clause-after
order_pair-requires-clause-after c = let l = ap length c.loop-after.invariant.nodes in let n = ap length c.nodes.ensures.nodes in omega (arith, l, n)

pub order_pair-requires-clause-long : goal.order_pair-requires-clause-long
order_pair-requires-clause-long c = c.requires.long ∙ sym (ap length c.loop-after.invariant.nodes)

pub order_pair-requires-clause-distinct : goal.order_pair-requires-clause-distinct
order_pair-requires-clause-distinct c = subst (λ (ns : List Node). AreDistinct ns) (sym c.loop-after.invariant.nodes) c.requires.distinct

pub loop-after-preserved : goal.loop-after-preserved
loop-after-preserved c = record {
  nodes = c.in_ok-order_pair.ensures.nodes ∙ c.loop-after.invariant.nodes;
  so_far = λ parts single kept begun. c.in_ok-order_pair.ensures.so_far parts
      (single_stays parts c.args.graph.now c.loop-after.graph c.args.before c.args.single.now c.loop-after.invariant.nodes single)
      (kept_stay parts c.args.graph.now c.loop-after.graph c.args.singles.now c.loop-after.invariant.nodes kept)
      (c.loop-after.invariant.so_far parts single kept begun);
}

pub returns-clause-so_far : goal.returns-clause-so_far
returns-clause-so_far c parts single kept begun =
    let l = ap length c.loop-after.invariant.nodes in
    let n = ap length c.nodes.ensures.nodes in
    let all : length c.loop-after.graph.nodes ≤ c.loop-after.after = omega (arith, l, n) in
    row_next parts c.loop-after.graph c.args.before c.loop-after.after all (c.loop-after.invariant.so_far parts single kept begun)
