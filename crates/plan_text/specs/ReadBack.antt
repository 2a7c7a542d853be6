-- What is written is read back.
use Rattle.std.specs.Prelude.{◌≡◌, ℕ, ◌≤◌, ◌<◌, ◌^◌, List, length, Bool, nat_eq, not, ◌&&◌, map, IsTrue, Ok}
use Rattle.std.specs.List.{list_all}
use Rattle.std.specs.Str.{bytes_eq}
use Rattle.text_lines.specs.Lines.{trimmed}
use Rattle.sas_task.specs.declared.contents.Parts.{Parts}
use Rattle.sas_task.specs.Costs.{is_unit_cost}
use Rattle.sas_task.specs.Runs.{cost_of}
use Rattle.plan_text.specs.PlanText.{name_at, plan_text}
use Rattle.plan_text.specs.PlanLines.{plan_lines_of}
use Rattle.plan_text.specs.declared.reading.TheConstants.{MOST_PLAN_BYTES}

-- a name that a line can hold: it has no line feed, and nothing at its ends that would be dropped
abbrev pub fits_line : List ℕ → Bool
fits_line name = list_all (λ b. not (nat_eq b 10)) name && bytes_eq (trimmed name) name

-- Where lines can hold the names, and the text is within the limit: the text of operators gives their names, their cost, and the kind of cost.
abbrev pub IsReadBack : Parts → List ℕ → Type 0
IsReadBack parts ops =
    IsTrue (list_all (λ op. fits_line (name_at parts op)) ops) → length (plan_text parts ops) ≤ MOST_PLAN_BYTES → cost_of parts ops < 2 ^ 64 →
    plan_lines_of (plan_text parts ops) ≡ Ok (record { names = map (name_at parts) ops; cost = cost_of parts ops; unit = is_unit_cost parts })
