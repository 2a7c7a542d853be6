use Rattle.std.proofs.Common.{◌≡◌, ◌≤◌, ◌-◌}
use Rattle.sas_task.specs.Limits.{most_facts}
use Rattle.sas_reader.specs.TaskText.{variables_from}
use Rattle.sas_reader.specs.Walks.{walk}
use Rattle.sas_reader.proofs.FormatWalks.{behind}
use Rattle.sas_reader.proofs.variables.read_so_many_variables.Given as goal

abbrev pub invariant-loop-i : goal.invariant-loop-i
invariant-loop-i l = record {
  few : l.facts ≤ most_facts;
  read : behind l.variables.items (walk (variables_from (l.count - l.i) l.i l.facts) l.cursor) ≡ walk (variables_from l.count 0 0) l.fn.cursor;
}
