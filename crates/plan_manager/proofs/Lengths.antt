-- How long a plan's text may be.
use Rattle.std.proofs.Common.{◌≡◌, ℕ, ◌+◌, ◌*◌, ◌^◌, ◌<◌, ◌≤◌, List, [], ◌∷◌, ◌++◌, length, true, Some, None, nat_le, ◌&&◌, arith, refl, length-append}
use Rattle.std.specs.Prelude.{slice_get}
use Rattle.std.specs.List.{list_all}
use Rattle.std.proofs.lemmas.Bool.Decides.{nat_tests}
use Rattle.lama_num.proofs.ListLaws.{both, list_all_get}
use Rattle.sas_task.specs.declared.contents.Operator.{Operator}
use Rattle.sas_task.specs.declared.contents.Parts.{Parts}
use Rattle.sas_task.specs.WellFormed.{IsWellFormed, is_operator, is_short, has_few_conditions, is_fact, is_few, is_effect}
use Rattle.plan_text.specs.PlanText.{name_at, step_line}
use Rattle.plan_manager.specs.TextRests.{steps_text}

name_fits : (parts : Parts) (operator : Operator) → is_operator parts.variables operator ≡ true → length operator.name ≤ 4096
name_fits parts operator is =
    let short : is_short operator.name ≡ true = (both (is_short operator.name) (has_few_conditions operator && (list_all (is_fact parts.variables) operator.pre && (is_few operator.effects && (list_all (is_effect parts.variables) operator.effects && nat_le operator.cost 2147483647)))) is).0 in
    grind (arith, nat_tests, short)

short_name : (parts : Parts) (op : ℕ) → IsWellFormed parts → length (name_at parts op) ≤ 4096
short_name parts op formed = elim (slice_get parts.operators op) as (λ o. slice_get parts.operators op ≡ o → length (name_at parts op) ≤ 4096) [
  | None ↦ λ at. rw at (omega arith)
  | Some operator ↦ λ at. rw at (name_fits parts operator (list_all_get (is_operator parts.variables) parts.operators op operator formed.operators at))
] refl

short_steps : (parts : Parts) (ops : List ℕ) → IsWellFormed parts → length (steps_text parts ops) ≤ 4099 * length ops
short_steps parts [] formed = omega arith
short_steps parts (op ∷ ops) formed =
    let line = step_line (name_at parts op) in
    let rest = steps_text parts ops in
    let own : length line ≡ length (name_at parts op) + 3 = omega (arith, length-append (40 ∷ name_at parts op) (41 ∷ 10 ∷ [])) in
    omega (arith, length-append line rest, own, short_name parts op formed, short_steps parts ops formed)

pub short_text : (parts : Parts) (ops cost : List ℕ) → IsWellFormed parts → length ops < 2 ^ 32 → length cost ≤ 64 → length (steps_text parts ops ++ cost) < 2 ^ 63
short_text parts ops cost formed few last = omega (arith, length-append (steps_text parts ops) cost, short_steps parts ops formed)
