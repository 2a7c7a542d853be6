use Rattle.std.proofs.Common.{◌≡◌, ◌∙◌, sym, ap, inl, inr, false, List}
use Rattle.std.proofs.lemmas.Bool.{both_ways}
use Rattle.lm_graph.specs.declared.nodes.Node.{Node}
use Rattle.lm_orders.specs.Reasonable.{is_goal_at}
use Rattle.lm_orders.proofs.OrderTests.{past_from, past_to}
use Rattle.lm_orders.proofs.sources.Source.is_wanted.Goals as goal

pub returns : goal.returns
returns c same fits =
    let row = c.orders_from.result.now in
    let none : is_goal_at c.args.graph.now.nodes c.args.after ≡ false = ap (λ (nodes : List Node). is_goal_at nodes c.args.after) (sym c.nodes.ensures.nodes) ∙ (sym c.is_goal.ensures ∙ c.if-is_goal.false) in (
      λ h. inr (past_from c.args.graph.now c.args.tables.now.successors c.args.self.now c.args.after row same fits c.orders_from.ensures.each (sym c.leads_past.ensures ∙ h)),
      λ w. elim w [
        | inl goal ↦ absurd (both_ways _ none goal)
        | inr past ↦ c.leads_past.ensures ∙ past_to c.args.graph.now c.args.tables.now.successors c.args.self.now c.args.after row same fits c.orders_from.ensures.orders past
      ],
    )
