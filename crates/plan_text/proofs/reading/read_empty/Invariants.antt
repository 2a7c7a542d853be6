use Rattle.std.proofs.Common.{◌≡◌, length}
use Rattle.plan_text.specs.PlanLines.{only_empty}
use Rattle.plan_text.proofs.reading.read_empty.Given as goal

abbrev pub invariant-loop-text : goal.invariant-loop-text
invariant-loop-text l = only_empty l.cursor.line l.cursor.left ≡ only_empty l.fn.cursor.line l.fn.cursor.left

abbrev pub decreases-loop-text : goal.decreases-loop-text
decreases-loop-text l = length l.cursor.left
