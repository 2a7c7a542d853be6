use Rattle.std.proofs.Common.{◌∙◌, ◌+◌, ◌≤◌, ap, length, vec_capacity, arith}
use Rattle.sas_task.specs.declared.contents.Parts.{Parts}
use Rattle.succ_gen.proofs.Trees.{tree_for, homes_long}
use Rattle.succ_gen.proofs.tree.Tree.new.Goals as goal

pub nodes_of-requires-clause-few_homes : goal.nodes_of-requires-clause-few_homes
nodes_of-requires-clause-few_homes c =
    let long = homes_long c.in_ok-conditions.conditions c.in_ok-grown.grown.branches.items c.in_ok-grown.grown.homes.items c.in_ok-grown.ensures in
    let rows = c.in_ok-conditions.ensures.long in
    let same = ap (λ (p : Parts). length p.operators) c.parts.ensures.parts in
    let few = c.parts.ensures.well_formed.few_operators in
    omega (arith, ap length c.deref-3.ensures.value, ap length c.deref.ensures)

pub returns : goal.returns
returns c =
    let enough : length c.in_ok-nodes.nodes.items ≤ vec_capacity c.in_ok-reached.reached + 1 = omega (arith, c.in_ok-nodes.nodes.ok.0, c.in_ok-reached.ensures.exact, c.len.ensures) in
    tree_for c.args.task.now c.deref.result.now c.in_ok-conditions.conditions c.in_ok-grown.grown.branches.items c.deref-2.result.now c.in_ok-grown.grown.homes.items c.deref-3.result.now c.deref-4.result.now c.in_ok-nodes.nodes.items c.from.result c.in_ok-operators.operators.items c.from-2.result (vec_capacity c.in_ok-reached.reached)
    c.parts.ensures.well_formed (c.deref.ensures ∙ ap (λ (p : Parts). p.operators) c.parts.ensures.parts) c.in_ok-conditions.ensures c.in_ok-grown.ensures c.deref-2.ensures.value c.deref-3.ensures.value c.in_ok-nodes.ensures c.deref-4.ensures.value c.in_ok-operators.ensures
    c.from.ensures c.from-2.ensures enough
