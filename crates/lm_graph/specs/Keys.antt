-- The table by which nodes are looked up.
use Rattle.std.specs.Prelude.{◌≡◌, List, map, Vec}
use Rattle.std.specs.declared.alloc.Global.{Global}
use Rattle.sas_task.specs.declared.contents.Fact.{Fact}
use Rattle.lm_graph.specs.declared.nodes.Node.{Node}
use Rattle.lm_graph.specs.Nodes.{sets_of}

-- the keys are the facts of the nodes, in the same order
pub record AreKeys (keys : List (Vec Fact Global)) (nodes : List Node) : Type 0 where
  pub same : map (λ (v : Vec Fact Global). v.items) keys ≡ sets_of nodes
