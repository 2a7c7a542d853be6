use Rattle.std.proofs.Common.{◌≡◌, ◌-◌}
use Rattle.sas_reader.specs.Formats.{times}
use Rattle.sas_reader.specs.TaskText.{rule}
use Rattle.sas_reader.specs.Walks.{walk}
use Rattle.sas_reader.proofs.FormatWalks.{behind}
use Rattle.sas_reader.proofs.operators.read_so_many_rules.Given as goal

abbrev pub invariant-loop-i : goal.invariant-loop-i
invariant-loop-i l = behind l.rules.items (walk (times (l.count - l._i) (rule l.variables l.init)) l.cursor) ≡ walk (times l.count (rule l.variables l.init)) l.fn.cursor
