use Rattle.std.proofs.Common.{◌≡◌, length}
use Rattle.text_lines.specs.Lines.{without_left}
use Rattle.text_lines.proofs.cursor.without_left.Given as goal

abbrev pub invariant-loop-b : goal.invariant-loop-b
invariant-loop-b l = without_left l.rest ≡ without_left l.line

abbrev pub decreases-loop-b : goal.decreases-loop-b
decreases-loop-b l = length l.rest
