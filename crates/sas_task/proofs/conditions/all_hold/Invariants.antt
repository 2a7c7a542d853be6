use Rattle.std.proofs.Common.{◌≡◌, drop}
use Rattle.sas_task.specs.States.{all_hold as facts_hold}
use Rattle.sas_task.proofs.conditions.all_hold.Given as goal

abbrev pub invariant-loop-fact : goal.invariant-loop-fact
invariant-loop-fact l = facts_hold l.state (drop l.fact-index l.facts) ≡ facts_hold l.state l.facts
