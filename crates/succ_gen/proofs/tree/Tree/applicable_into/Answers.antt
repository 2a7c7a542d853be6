use Rattle.std.proofs.Common.{◌∙◌, ap, subst, List, ℕ, eqb}
use Rattle.std.proofs.lemmas.List.Filters.{dedup_is}
use Rattle.succ_gen.specs.declared.nodes.Node.{Node}
use Rattle.succ_gen.specs.Trees.{Stored}
use Rattle.succ_gen.specs.Walks.{AreFound}
use Rattle.succ_gen.proofs.AscendingLists.{applicable_from}
use Rattle.succ_gen.proofs.tree.Tree.applicable_into.Goals as goal

pub returns-clause-operators : goal.returns-clause-operators
returns-clause-operators c =
    let nodes = c.deref.ensures ∙ ap (λ (t : Stored). t.nodes) c.self.view_is in
    let operators = c.deref-2.ensures ∙ ap (λ (t : Stored). t.operators) c.self.view_is in
    let found = subst (λ (xs : List Node). AreFound xs c.args.self.now.operators c.args.state.now c.walk.new.out.items) nodes (subst (λ (ys : List ℕ). AreFound c.deref.result.now ys c.args.state.now c.walk.new.out.items) operators c.walk.ensures.operators) in
    applicable_from c.args.self.now c.args.task.now c.args.state.now c.walk.new.out.items c.sort_unstable.new.self.items c.dedup.new.self.items c.requires.same_task found c.sort_unstable.ensures.permutation c.sort_unstable.ensures.sorted (dedup_is eqb _ _ c.dedup.ensures.filtered)
