use Rattle.std.proofs.Common.{◌≡◌, ◌-◌}
use Rattle.sas_reader.specs.Formats.{times}
use Rattle.sas_reader.specs.TaskText.{operator}
use Rattle.sas_reader.specs.Walks.{walk}
use Rattle.sas_reader.proofs.FormatWalks.{behind}
use Rattle.sas_reader.proofs.operators.read_so_many_operators.Given as goal

abbrev pub invariant-loop-i : goal.invariant-loop-i
invariant-loop-i l = behind l.operators.items (walk (times (l.count - l._i) (operator l.metric l.variables)) l.cursor) ≡ walk (times l.count (operator l.metric l.variables)) l.fn.cursor
