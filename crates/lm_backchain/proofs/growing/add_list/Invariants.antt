use Rattle.std.proofs.Common.{take}
use Rattle.lm_backchain.specs.Growth.{StayNodes, Works}
use Rattle.lm_backchain.proofs.growing.add_list.Given as goal

abbrev pub invariant-loop-at : goal.invariant-loop-at
invariant-loop-at l = record {
  works : Works l.task l.graph l.place (take l.at l.list);
  nodes : StayNodes l.initial.graph l.graph;
}
