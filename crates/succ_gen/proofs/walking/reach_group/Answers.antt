use Rattle.std.proofs.Common.{◌∙◌, ◌++◌, sym, ap, refl, append-nil, Some, None}
use Rattle.succ_gen.proofs.TreeWalk.{group_rises, group_opened}
use Rattle.succ_gen.proofs.walking.reach_group.Goals as goal

pub find-requires-clause-rises : goal.find-requires-clause-rises
find-requires-clause-rises c = group_rises c.args.nodes.now c.args.start c.requires.tree c.requires.some c.requires.inside c.requires.end

pub returns-in-Some-clause-reached : goal.returns-in-Some-clause-reached
returns-in-Some-clause-reached c =
    let found = group_opened c.args.nodes.now c.args.state.now c.args.start _ (Some c.in-Some.node) c.requires.tree c.requires.some c.requires.inside refl c.in-Some.ensures in
    c.push_reserved.ensures.items ∙ ap (λ xs. c.args.reached.now.items ++ xs) (sym found)

pub returns-in_default-clause-reached : goal.returns-in_default-clause-reached
returns-in_default-clause-reached c =
    let found = group_opened c.args.nodes.now c.args.state.now c.args.start _ None c.requires.tree c.requires.some c.requires.inside refl c.in_default.ensures in
    sym (append-nil c.args.reached.now.items) ∙ ap (λ xs. c.args.reached.now.items ++ xs) (sym found)
