use Rattle.std.proofs.Common.{◌≡◌, ◌<◌, ◌∙◌, ap, arith, length, get_or, List, Bool, false}
use Rattle.std.proofs.lemmas.List.{length-map, get_or_default}
use Rattle.lm_status.proofs.status.Status.is_goal.Goals as goal

pub index-requires : goal.index-requires
index-requires c =
    let within : c.args.node < length c.self.inside.graph.nodes = rw (← c.self.view_is) at c.requires in
    let long : length c.self.inside.goals.items ≡ length c.self.inside.graph.nodes = ap length c.self.invariant.goals_are ∙ length-map c.self.inside.graph.nodes (λ n. n.goal) in
    omega arith

pub returns : goal.returns
returns c =
    let within : c.args.node < length c.self.inside.graph.nodes = rw (← c.self.view_is) at c.requires in
    let long : length c.self.inside.goals.items ≡ length c.self.inside.graph.nodes = ap length c.self.invariant.goals_are ∙ length-map c.self.inside.graph.nodes (λ n. n.goal) in
    let read = get_or_default c.self.inside.goals.items c.args.node c.index.result.now false (omega arith) in
    rw (← c.self.view_is) (c.index.ensures ∙ (read ∙ ap (λ (goals : List Bool). get_or goals c.args.node false) c.self.invariant.goals_are))
