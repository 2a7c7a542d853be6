use Rattle.std.proofs.Common.{◌≡◌, ◌&&◌, take, IsTrue}
use Rattle.sas_task.specs.declared.contents.Fact.{Fact}
use Rattle.lm_graph.specs.Nodes.{is_ascending}
use Rattle.lm_backchain.specs.Asked.{all_have}
use Rattle.lm_backchain.specs.Backchain.{has}
use Rattle.lm_backchain.proofs.taking_back.shared.Given as goal

abbrev pub invariant-loop-fact : goal.invariant-loop-fact
invariant-loop-fact l = record {
  ascending : IsTrue (is_ascending l.facts.items);
  has : (fact : Fact) → has l.facts.items fact ≡ (has (take l.fact-index l.front) fact && all_have l.lists fact);
}
