use Rattle.std.proofs.Common.{◌≡◌, ◌-◌, length}
use Rattle.sas_reader.specs.Formats.{Name, line, times}
use Rattle.sas_reader.specs.Walks.{walk}
use Rattle.sas_reader.proofs.FormatWalks.{behind}
use Rattle.sas_reader.proofs.variables.read_names.Given as goal

abbrev pub invariant-loop-i : goal.invariant-loop-i
invariant-loop-i l = record {
  so_many : length l.names.items ≡ l._i;
  read : behind l.names.items (walk (times (l.count - l._i) (line Name)) l.cursor) ≡ walk (times l.count (line Name)) l.fn.cursor;
}
