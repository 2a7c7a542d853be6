-- What is left of a plan's text, as it is taken piece by piece.
use Rattle.std.specs.Prelude.{ℕ, ◌+◌, List, ◌++◌, length}
use Rattle.std.specs.List.{flat_map}
use Rattle.sas_task.specs.declared.contents.Parts.{Parts}
use Rattle.plan_text.specs.PlanText.{name_at, step_line}
use Rattle.plan_manager.specs.declared.text.TextRest.{TextRest}

-- a line for each step
abbrev pub steps_text : Parts → List ℕ → List ℕ
steps_text parts ops = flat_map (λ op. step_line (name_at parts op)) ops

-- of the line at hand
unfoldable pub line_left : TextRest → List ℕ
line_left rest = rest.first.now ++ rest.second.now ++ rest.third.now

-- of the lines after it
unfoldable pub later_left : TextRest → List ℕ
later_left rest = steps_text rest.parts.now rest.ops.now ++ rest.cost.now

-- the most lines after it, counting each byte of the last as one
unfoldable pub lines_left : TextRest → ℕ
lines_left rest = length rest.ops.now + length rest.cost.now

unfoldable pub text_left : TextRest → List ℕ
text_left rest = line_left rest ++ later_left rest
