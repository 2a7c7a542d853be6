-- Laws of RunEnds.
use Rattle.std.specs.Prelude.{◌≡◌, ℕ, suc, ◌-◌, ◌<◌, List, ◌∷◌, ◌++◌, length, take, drop, true, false, slice_index, Option, Some, None}
use Rattle.std.proofs.Common.{arith, refl, sym, ap, ◌∙◌}
use Rattle.std.proofs.Math.Seq.{drop-cons}
use Rattle.std.proofs.lemmas.List.{take-append-drop}
use Rattle.sas_task.specs.declared.contents.Parts.{Parts}
use Rattle.sas_task.specs.Runs.{IsPlan, start_of, end_of, is_goal}
use Rattle.sas_task.proofs.RunLaws.{end_of-join, step-none}
use Rattle.state_step.specs.RunEnds.{MissesGoal, StopsAt}

-- operators that don't reach the goal are no plan
pub misses-plan : (parts : Parts) (ops : List ℕ) → MissesGoal parts ops → IsPlan parts ops → ⊥
misses-plan parts ops misses plan =
    let same : Some misses.last ≡ Some plan.last = sym misses.leads ∙ plan.leads in
    let last : misses.last ≡ plan.last = cc in
    let goal : is_goal parts misses.last ≡ true = rw last plan.goal in
    let clash : false ≡ true = sym misses.no_goal ∙ goal in
    cc

-- Operators that stop lead nowhere.
pub stops-end_of : (parts : Parts) (ops : List ℕ) (at : ℕ) → StopsAt parts ops at → end_of parts (start_of parts) ops ≡ None
stops-end_of parts ops at stops =
    let lt : at - 1 < length ops = omega (arith, stops.from_one, stops.within) in
    let split : take (at - 1) ops ++ drop (at - 1) ops ≡ ops = take-append-drop (at - 1) ops in
    let rest : drop (at - 1) ops ≡ slice_index ops (at - 1) ∷ drop (suc (at - 1)) ops = drop-cons ops (at - 1) 0 lt in
    let join = end_of-join parts (start_of parts) (take (at - 1) ops) (drop (at - 1) ops) stops.last stops.leads in
    let none = step-none parts stops.last (slice_index ops (at - 1)) stops.stops in
    let stuck : end_of parts stops.last (drop (at - 1) ops) ≡ None = rw (rest, none) refl in
    sym (ap (end_of parts (start_of parts)) split) ∙ join ∙ stuck

-- and are no plan
pub stops-plan : (parts : Parts) (ops : List ℕ) (at : ℕ) → StopsAt parts ops at → IsPlan parts ops → ⊥
stops-plan parts ops at stops plan =
    let clash : ◌≡◌ {A = Option (List ℕ)} None (Some plan.last) = sym (stops-end_of parts ops at stops) ∙ plan.leads in
    cc
