use Rattle.std.proofs.Common.{◌∙◌, ap, length, arith}
use Rattle.lm_backchain.proofs.Costs.{given_node}
use Rattle.lm_backchain.proofs.GivingOperators.{given_within}
use Rattle.lm_backchain.proofs.nodes.add_node.Goals as goal

pub least_cost-least-requires : goal.least_cost-least-requires
least_cost-least-requires c place op at =
    let same = c.deref.ensures ∙ ap (λ p. p.operators) c.parts.ensures.parts in
    let are = c.in_ok-ops.ensures c.args.task.now c.requires.givers in
    let there = given_within c.args.task.now c.args.facts.now c.in_ok-ops.ops.items place op are (rw c.deref-2.ensures.value at at) in
    let long = ap length same in
    omega (arith, long, there)

pub returns-clause-ok : goal.returns-clause-ok
returns-clause-ok c =
    let same = c.deref.ensures ∙ ap (λ p. p.operators) c.parts.ensures.parts in
    let are = c.in_ok-ops.ensures c.args.task.now c.requires.givers in
    let node = given_node c.args.task.now c.args.facts.now c.in_ok-ops.ops.items c.least_cost-least.result c.is_goal_fact.result are (rw (same, c.deref-2.ensures.value) at c.least_cost-least.ensures) c.is_goal_fact.ensures in
    rw node at c.add.ensures.ok
