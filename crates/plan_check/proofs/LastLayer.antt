-- What the last layer tells of all choices.
use Rattle.std.proofs.Common.{◌≡◌, ◌∙◌, sym, ap, subst, ℕ, ◌+◌, ◌<◌, List, length, take, map, Option, Some, None, arith}
use Rattle.std.specs.Prelude.{slice_get, filter, option_and_then, IfSome}
use Rattle.std.specs.List.{find}
use Rattle.std.proofs.lemmas.List.{length-map, take_all}
use Rattle.sas_task.specs.declared.contents.Parts.{Parts}
use Rattle.sas_task.specs.Runs.{cost_of}
use Rattle.packed_state.specs.Packing.{Places}
use Rattle.plan_check.specs.Verdicts.{reaches_goal, least, is_plan_at, ends, least_cost, first_plan}
use Rattle.plan_check.specs.Layers.{end_words, Leads, AreEnds, IsAfter}
use Rattle.plan_check.specs.declared.tracing.Link.{Link}
use Rattle.plan_check.proofs.LinkPaths.{leads_one}
use Rattle.plan_check.proofs.GoalChoices.{item_at, first_plan-ends}

module _ (parts : Parts) (layout : Places) (names : List (List ℕ)) (links : List Link) (first : ℕ) (pairs : List (List ℕ)) (end : IsAfter parts layout names links first (length names) pairs) where
  all_names : take (length names) names ≡ names
  all_names = take_all (length names) names (omega arith)

  -- the choice at a place
  record IsAt (place : ℕ) : Type 0 where
    ops : List ℕ
    there : slice_get (ends parts (take (length names) names)) place ≡ Some ops
    leads : Leads links (length names) (first + place) ops

  is_at : (place : ℕ) → place < length pairs → IsAt place
  is_at place lt =
      let as_many : length pairs ≡ length (ends parts (take (length names) names)) = ap length end.layer.words ∙ length-map (ends parts (take (length names) names)) (end_words parts layout) in
      let item = item_at (ends parts (take (length names) names)) place (omega (arith, lt, as_many)) in
      record { ops = item.0; there = item.1; leads = end.layer.leads place item.0 item.1 }

  within_is : (found : Option ℕ) (place : ℕ) → found ≡ Some place → IfSome found (λ p. p < length pairs) → place < length pairs
  within_is found place is within = subst (λ o. IfSome o (λ p. p < length pairs)) is within

  pub leads_at : (found : Option ℕ) (place : ℕ) → found ≡ Some place → IfSome found (λ p. p < length pairs) → (ops : List ℕ) × Leads links (length names) (first + place) ops
  leads_at found place is within = let at = is_at place (within_is found place is within) in (at.ops, at.leads)

  pub least_is : (lowest : Option ℕ) → ((choices : List (List ℕ)) → AreEnds parts layout pairs choices → lowest ≡ least (map (cost_of parts) (filter (reaches_goal parts) choices))) → lowest ≡ least_cost parts names
  least_is lowest told = told (ends parts (take (length names) names)) end.layer.words ∙ ap (least_cost parts) all_names

  module _ (wanted : ℕ) (found : Option ℕ) (told : (choices : List (List ℕ)) → AreEnds parts layout pairs choices → option_and_then (slice_get choices) found ≡ find (is_plan_at parts wanted) choices) where
    plan_is : option_and_then (slice_get (ends parts (take (length names) names))) found ≡ first_plan parts names wanted
    plan_is = told (ends parts (take (length names) names)) end.layer.words ∙ first_plan-ends parts (take (length names) names) wanted ∙ ap (λ (ns : List (List ℕ)). first_plan parts ns wanted) all_names

    pub plan_some : (place : ℕ) → found ≡ Some place → IfSome found (λ p. p < length pairs) → (ops : List ℕ) → Leads links (length names) (first + place) ops → Some ops ≡ first_plan parts names wanted
    plan_some place is within ops leads =
        let at = is_at place (within_is found place is within) in
        let same : at.ops ≡ ops = leads_one links (length names) (first + place) at.ops ops at.leads leads in
        ap (λ (os : List ℕ). Some os) (sym same) ∙ sym at.there ∙ ap (option_and_then (slice_get (ends parts (take (length names) names)))) (sym is) ∙ plan_is

    pub plan_none : found ≡ None → None ≡ first_plan parts names wanted
    plan_none is = ap (option_and_then (slice_get (ends parts (take (length names) names)))) (sym is) ∙ plan_is
