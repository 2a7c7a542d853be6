use Rattle.std.proofs.Common.{◌≡◌, drop}
use Rattle.sas_reader.specs.Formats.{each}
use Rattle.sas_reader.specs.TaskText.{initial}
use Rattle.sas_reader.specs.Walks.{walk}
use Rattle.sas_reader.proofs.FormatWalks.{behind}
use Rattle.sas_reader.proofs.variables.read_values.Given as goal

abbrev pub invariant-loop-variable : goal.invariant-loop-variable
invariant-loop-variable l = behind l.values.items (walk (each initial (drop l.variable-index l.variables)) l.cursor) ≡ walk (each initial l.variables) l.fn.cursor
