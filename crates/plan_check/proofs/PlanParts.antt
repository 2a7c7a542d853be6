-- The plan that lines tell, part by part.
use Rattle.std.proofs.Common.{◌≡◌, ◌∙◌, sym, ap, ℕ, List, length, Bool, Option, Some, None, Ok, Err}
use Rattle.std.specs.Prelude.{IfSome}
use Rattle.lama_num.specs.Gives.{◌>>=◌, Fails}
use Rattle.sas_task.specs.declared.contents.Parts.{Parts}
use Rattle.sas_task.specs.Costs.{is_unit_cost}
use Rattle.plan_text.specs.declared.reading.PlanLines.{PlanLines}
use Rattle.plan_check.specs.Verdicts.{unless, first_fault, first_plan, least_cost, compared, plan_in}
use Rattle.plan_check.specs.declared.verdicts.PlanFault.{PlanFault}

module _ (parts : Parts) (bound : Option ℕ) (lines : PlanLines) where
  -- something is wrong with a step
  pub step_refused : (fault : Option PlanFault) → IfSome fault (λ f. first_fault parts lines.names (length lines.names) ≡ Some f) → Fails fault (plan_in parts bound lines)
  unfolding plan_in
  step_refused None is = tt
  step_refused (Some fault) is = ap (λ o. unless o >>= λ each. compared (is_unit_cost parts) (least_cost parts lines.names) (first_plan parts lines.names lines.cost) bound lines >>= λ ops. Ok (ops, lines.cost)) is

  module _ (unit : Bool) (real : Option ℕ) (plan : Option (List ℕ)) (none : first_fault parts lines.names (length lines.names) ≡ None) (unit_is : unit ≡ is_unit_cost parts) (real_is : real ≡ least_cost parts lines.names)
      (plan_is : plan ≡ first_plan parts lines.names lines.cost) where
    plan_in-is : plan_in parts bound lines ≡ (compared unit real plan bound lines >>= λ ops. Ok (ops, lines.cost))
    unfolding plan_in
    plan_in-is =
        ap (λ o. unless o >>= λ each. compared (is_unit_cost parts) (least_cost parts lines.names) (first_plan parts lines.names lines.cost) bound lines >>= λ ops. Ok (ops, lines.cost)) none
        ∙ ap (λ u. compared u (least_cost parts lines.names) (first_plan parts lines.names lines.cost) bound lines >>= λ ops. Ok (ops, lines.cost)) (sym unit_is)
        ∙ ap (λ r. compared unit r (first_plan parts lines.names lines.cost) bound lines >>= λ ops. Ok (ops, lines.cost)) (sym real_is)
        ∙ ap (λ p. compared unit real p bound lines >>= λ ops. Ok (ops, lines.cost)) (sym plan_is)

    pub end_refused : (fault : PlanFault) → compared unit real plan bound lines ≡ Err fault → plan_in parts bound lines ≡ Err fault
    end_refused fault is = plan_in-is ∙ ap (λ r. r >>= λ ops. Ok (ops, lines.cost)) is

    pub plan_told : (ops : List ℕ) → compared unit real plan bound lines ≡ Ok ops → plan_in parts bound lines ≡ Ok (ops, lines.cost)
    plan_told ops is = plan_in-is ∙ ap (λ r. r >>= λ ops. Ok (ops, lines.cost)) is
