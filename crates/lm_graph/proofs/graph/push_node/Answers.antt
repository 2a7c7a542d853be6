use Rattle.lm_graph.proofs.FactLookUps.{key_added}
use Rattle.lm_graph.proofs.graph.push_node.Goals as goal

pub returns-clause-keys : goal.returns-clause-keys
returns-clause-keys c = rw (c.push_reserved.ensures.items, c.reserve.ensures.items) (key_added c.args.sets.now.keys c.insert.new.self.keys c.args.nodes.now.items c.args.node c.in_ok-facts.facts c.requires.keys c.requires.absent (rw c.deref.ensures at c.in_ok-facts.ensures.items) c.in_ok-insert.ensures.keys)
