use Rattle.std.proofs.Common.{sym, ap, ◌∙◌, is_some}
use Rattle.lm_graph.proofs.FactLookUps.{found, absent}
use Rattle.lm_graph.proofs.graph.Graph.number.Goals as goal

pub returns-in-Some-clause-found : goal.returns-in-Some-clause-found
returns-in-Some-clause-found c =
    rw (← c.self.view_is) (found c.self.inside.sets.keys c.self.inside.nodes.items c.args.facts.now c.in-Some.place c.self.invariant.1 (sym c.get_index_of.ensures.index ∙ c.in-Some.is))

pub returns-in-None-clause-absent : goal.returns-in-None-clause-absent
returns-in-None-clause-absent c =
    rw (← c.self.view_is) (absent c.self.inside.sets.keys c.self.inside.nodes.items c.args.facts.now c.self.invariant.1 (sym c.get_index_of.ensures.found ∙ ap is_some c.in-None.is))
