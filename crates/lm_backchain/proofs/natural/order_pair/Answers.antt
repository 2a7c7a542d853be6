use Rattle.std.proofs.Common.{◌<◌, refl, length, arith}
use Rattle.std.proofs.lemmas.Bool.{both_ways}
use Rattle.lm_backchain.proofs.ListLaws.{item}
use Rattle.lm_backchain.proofs.Strong.{pair_itself, pair_natural, pair_same, pair_test}
use Rattle.lm_backchain.proofs.natural.order_pair.Goals as goal

pub returns-then-before-after-clause-so_far : goal.returns-then-before-after-clause-so_far
returns-then-before-after-clause-so_far c parts single kept u = pair_itself parts c.args.graph.now c.args.before c.args.after c.if-before-after.true u

pub returns-in_ok-order-clause-so_far : goal.returns-in_ok-order-clause-so_far
returns-in_ok-order-clause-so_far c parts single kept u =
    let lt : c.args.after < length c.args.singles.now = omega (arith, c.requires.long, c.requires.after) in
    let there = item c.args.singles.now c.args.after c.index-singles-after.result c.index-singles-after.result lt c.index-singles-after.is refl in
    pair_natural parts c.args.graph.now _ c.args.before c.args.after u c.in_ok-order.ensures.ok (λ a b at_a at_b.
    (pair_test parts c.args.graph.now c.args.before c.args.after c.args.single.now c.args.singles.now c.index-singles-after.result c.is_late.result c.requires.distinct c.if-before-after.false single kept there c.is_late.ensures a b at_a at_b).0 c.if-is_late.true)

pub returns-else-is_late-clause-so_far : goal.returns-else-is_late-clause-so_far
returns-else-is_late-clause-so_far c parts single kept u =
    let lt : c.args.after < length c.args.singles.now = omega (arith, c.requires.long, c.requires.after) in
    let there = item c.args.singles.now c.args.after c.index-singles-after.result c.index-singles-after.result lt c.index-singles-after.is refl in
    pair_same parts c.args.graph.now c.args.before c.args.after u (λ a b at_a at_b g.
    both_ways _ c.if-is_late.false ((pair_test parts c.args.graph.now c.args.before c.args.after c.args.single.now c.args.singles.now c.index-singles-after.result c.is_late.result c.requires.distinct c.if-before-after.false single kept there c.is_late.ensures a b at_a at_b).1 g))
