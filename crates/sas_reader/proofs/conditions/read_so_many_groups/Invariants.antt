use Rattle.std.proofs.Common.{◌≡◌, ◌-◌}
use Rattle.sas_reader.specs.Formats.{times}
use Rattle.sas_reader.specs.TaskText.{group}
use Rattle.sas_reader.specs.Walks.{walk}
use Rattle.sas_reader.proofs.FormatWalks.{behind}
use Rattle.sas_reader.proofs.conditions.read_so_many_groups.Given as goal

abbrev pub invariant-loop-i : goal.invariant-loop-i
invariant-loop-i l = behind l.groups.items (walk (times (l.count - l._i) (group l.variables)) l.cursor) ≡ walk (times l.count (group l.variables)) l.fn.cursor
