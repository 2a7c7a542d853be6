use Rattle.std.proofs.Common.{◌≡◌, ◌-◌}
use Rattle.sas_reader.specs.Formats.{FactIn, line, times}
use Rattle.sas_reader.specs.Walks.{walk}
use Rattle.sas_reader.proofs.FormatWalks.{behind}
use Rattle.sas_reader.proofs.conditions.read_so_many_facts.Given as goal

abbrev pub invariant-loop-i : goal.invariant-loop-i
invariant-loop-i l = behind l.facts.items (walk (times (l.count - l._i) (line (FactIn l.variables))) l.cursor) ≡ walk (times l.count (line (FactIn l.variables))) l.fn.cursor
