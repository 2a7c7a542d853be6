use Rattle.std.proofs.Common.{◌≡◌, ◌∙◌, sym, ap, subst, ℕ, length, arith, List}
use Rattle.lm_graph.specs.declared.nodes.Node.{Node}
use Rattle.lm_graph.specs.Nodes.{AreDistinct}
use Rattle.lm_backchain.specs.Strengths.{IsUpTo}
use Rattle.lm_backchain.proofs.Strong.{kept_stay}
use Rattle.lm_backchain.proofs.natural.add_natural.Goals as goal

pub order_from-requires-clause-before : goal.order_from-requires-clause-before
order_from-requires-clause-before c = let l = ap length c.loop-before.invariant.nodes in let n = ap length c.nodes.ensures.nodes in omega (arith, l, n)

pub order_from-requires-clause-long : goal.order_from-requires-clause-long
order_from-requires-clause-long c = c.requires.long ∙ sym (ap length c.loop-before.invariant.nodes)

pub order_from-requires-clause-distinct : goal.order_from-requires-clause-distinct
order_from-requires-clause-distinct c = subst (λ (ns : List Node). AreDistinct ns) (sym c.loop-before.invariant.nodes) c.nodes.ensures.graph.distinct

pub loop-before-preserved : goal.loop-before-preserved
loop-before-preserved c = record {
  nodes = c.in_ok-order_from.ensures.nodes ∙ c.loop-before.invariant.nodes;
  so_far = λ parts kept begun. c.in_ok-order_from.ensures.so_far parts
      (kept_stay parts c.args.graph.now c.loop-before.graph c.args.singles.now c.loop-before.invariant.nodes kept)
      (c.loop-before.invariant.so_far parts kept begun);
}

pub returns-clause-orders : goal.returns-clause-orders
returns-clause-orders c parts kept begun =
    let l = ap length c.loop-before.invariant.nodes in
    let n = ap length c.nodes.ensures.nodes in
    let all : c.loop-before.before ≡ length c.loop-before.graph.nodes = omega (arith, l, n) in
    subst (λ (k : ℕ). IsUpTo parts c.loop-before.graph k 0) all (c.loop-before.invariant.so_far parts kept begun)
