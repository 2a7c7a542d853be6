use Rattle.std.proofs.Common.{◌≡◌, length}
use Rattle.sas_reader.specs.Walks.{trailing}
use Rattle.sas_reader.proofs.reader.read_trailing.Given as goal

abbrev pub invariant-loop-text : goal.invariant-loop-text
invariant-loop-text l = trailing l.cursor.line l.cursor.left ≡ trailing l.fn.cursor.line l.fn.cursor.left

abbrev pub decreases-loop-text : goal.decreases-loop-text
decreases-loop-text l = length l.cursor.left
