use Rattle.std.proofs.Common.{◌≡◌, ◌<◌, sym, Some, None, slice_get, length, arith}
use Rattle.lm_backchain.proofs.NewNodes.{facts_within}
use Rattle.lm_backchain.proofs.ListLaws.{item}
use Rattle.lm_backchain.proofs.Strong.{row_without}
use Rattle.lm_backchain.proofs.natural.order_from.Goals as goal

pub returns-in_ok-order_row-in-Some-clause-so_far : goal.returns-in_ok-order_row-in-Some-clause-so_far
returns-in_ok-order_row-in-Some-clause-so_far c parts kept u =
    let lt : c.args.before < length c.args.singles.now = omega (arith, c.requires.long, c.requires.before) in
    let there : slice_get c.args.singles.now c.args.before ≡ Some (Some c.in-Some.single) = item c.args.singles.now c.args.before _ _ lt c.index-singles-before.is (sym c.in-Some.is) in
    let node = facts_within c.args.graph.now c.args.before c.requires.before in
    c.in_ok-order_row-in-Some.ensures.so_far parts (record { node = node.0; at = node.1; is = kept.each c.args.before node.0 (Some c.in-Some.single) node.1 there }) kept u

pub returns-in-None-clause-so_far : goal.returns-in-None-clause-so_far
returns-in-None-clause-so_far c parts kept u =
    let lt : c.args.before < length c.args.singles.now = omega (arith, c.requires.long, c.requires.before) in
    let there : slice_get c.args.singles.now c.args.before ≡ Some None = item c.args.singles.now c.args.before _ _ lt c.index-singles-before.is (sym c.in-None.is) in
    let node = facts_within c.args.graph.now c.args.before c.requires.before in
    row_without parts c.args.graph.now c.args.before node.0 node.1 (kept.each c.args.before node.0 None node.1 there) u
