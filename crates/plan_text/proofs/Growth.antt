-- How the text of a plan grows, step by step.
use Rattle.std.proofs.Common.{◌≡◌, ◌∙◌, sym, ap, ℕ, ◌+◌, ◌<◌, List, [], ◌∷◌, ◌++◌, length, take, get_or, Some, arith}
use Rattle.std.proofs.lemmas.List.{take_more, append-nil}
use Rattle.std.proofs.lemmas.Grind.{flat_map-append}
use Rattle.std.specs.List.{flat_map}
use Rattle.std.specs.Prelude.{slice_get}
use Rattle.sas_task.specs.declared.contents.Operator.{Operator}
use Rattle.sas_task.specs.declared.contents.Parts.{Parts}
use Rattle.sas_task.specs.Runs.{cost_at, cost_of}
use Rattle.sas_task.proofs.RunLaws.{cost_of-append}
use Rattle.plan_text.specs.PlanText.{step_line, name_at}

abbrev pub steps_text : Parts → List ℕ → List ℕ
steps_text parts ops = flat_map (λ op. step_line (name_at parts op)) ops

-- one more step
pub steps_text-more : (parts : Parts) (ops text name : List ℕ) (i : ℕ) (operator : Operator) → i < length ops → slice_get parts.operators (get_or ops i 0) ≡ Some operator → name ≡ operator.name →
    text ≡ steps_text parts (take i ops) → text ++ step_line name ≡ steps_text parts (take (i + 1) ops)
steps_text-more parts ops text name i operator lt at is so =
    let f : ℕ → List ℕ = λ op. step_line (name_at parts op) in
    let own : name_at parts (get_or ops i 0) ≡ name = rw at (sym is) in
    let split : flat_map f (take i ops ++ get_or ops i 0 ∷ []) ≡ flat_map f (take i ops) ++ flat_map f (get_or ops i 0 ∷ []) = flat_map-append f (take i ops) (get_or ops i 0 ∷ []) in
    let one : flat_map f (get_or ops i 0 ∷ []) ≡ step_line name = append-nil (f (get_or ops i 0)) ∙ ap step_line own in
    rw (take_more ops i 0 lt) (ap (λ t. t ++ step_line name) so ∙ ap (λ t. flat_map f (take i ops) ++ t) (sym one) ∙ sym split)

-- and its cost
pub cost-more : (parts : Parts) (ops : List ℕ) (i cost own : ℕ) → i < length ops → own ≡ cost_at parts (get_or ops i 0) → cost ≡ cost_of parts (take i ops) → cost + own ≡ cost_of parts (take (i + 1) ops)
cost-more parts ops i cost own lt at is =
    let split = cost_of-append parts (take i ops) (get_or ops i 0 ∷ []) in
    rw (take_more ops i 0 lt) (omega (arith, split, at, is))
