use Rattle.std.proofs.Common.{◌≡◌, ◌∙◌, ap, arith, subst, length, Err, Some, None, List, ℕ}
use Rattle.std.specs.Prelude.{IfSome}
use Rattle.std.proofs.lemmas.Grind.{common_steps}
use Rattle.lama_num.specs.Gives.{Fails}
use Rattle.plan_check.specs.Refusals.{fault_of}
use Rattle.plan_check.specs.Verdicts.{first_fault, first_plan, least_cost, plan_in}
use Rattle.plan_check.proofs.Good.{plan_in-long}
use Rattle.plan_check.proofs.PlanParts.{step_refused, end_refused, plan_told}
use Rattle.plan_check.proofs.judging.plan_in.Goals as goal

pub returns-in_err-chosen-clause-plan : goal.returns-in_err-chosen-clause-plan
returns-in_err-chosen-clause-plan c =
    let task = c.args.task.now in
    let fails : Fails (fault_of c.in_err-chosen.field-0.0) (plan_in c.args.task.now c.args.bound c.args.lines.now) =
    step_refused task c.args.bound c.args.lines.now (fault_of c.in_err-chosen.field-0.0)
    (subst (λ (names : List (List ℕ)). IfSome (fault_of c.in_err-chosen.field-0.0) (λ f. first_fault task names (length names) ≡ Some f)) c.deref.ensures c.in_err-chosen.ensures.fault) in
    let h = c.from_residual.ensures in
    grind (arith, common_steps, fails)

pub returns-in_err-ops-clause-plan : goal.returns-in_err-ops-clause-plan
returns-in_err-ops-clause-plan c =
    let task = c.args.task.now in
    let none = subst (λ (names : List (List ℕ)). first_fault task names (length names) ≡ None) c.deref.ensures c.in_ok-chosen.ensures.no_fault in
    let real = c.in_ok-chosen.ensures.least ∙ ap (least_cost task) c.deref.ensures in
    let plan = c.in_ok-chosen.ensures.plan ∙ ap (λ (names : List (List ℕ)). first_plan task names c.args.lines.now.cost) c.deref.ensures in
    let fault : plan_in c.args.task.now c.args.bound c.args.lines.now ≡ Err c.in_err-ops.field-0.0 =
    end_refused task c.args.bound c.args.lines.now c.is_unit_cost.result c.in_ok-chosen.chosen.least _ none c.is_unit_cost.ensures real plan c.in_err-ops.field-0.0 c.in_err-ops.ensures in
    let h = c.from_residual-in_err-ops.ensures in
    grind (arith, common_steps, fault)

pub returns-clause-plan : goal.returns-clause-plan
returns-clause-plan c =
    let task = c.args.task.now in
    let none = subst (λ (names : List (List ℕ)). first_fault task names (length names) ≡ None) c.deref.ensures c.in_ok-chosen.ensures.no_fault in
    let real = c.in_ok-chosen.ensures.least ∙ ap (least_cost task) c.deref.ensures in
    let plan = c.in_ok-chosen.ensures.plan ∙ ap (λ (names : List (List ℕ)). first_plan task names c.args.lines.now.cost) c.deref.ensures in
    plan_told task c.args.bound c.args.lines.now c.is_unit_cost.result c.in_ok-chosen.chosen.least _ none c.is_unit_cost.ensures real plan c.in_ok-ops.ops.items c.in_ok-ops.ensures

pub returns-clause-few : goal.returns-clause-few
returns-clause-few c =
    let task = c.args.task.now in
    let none = subst (λ (names : List (List ℕ)). first_fault task names (length names) ≡ None) c.deref.ensures c.in_ok-chosen.ensures.no_fault in
    let real = c.in_ok-chosen.ensures.least ∙ ap (least_cost task) c.deref.ensures in
    let plan = c.in_ok-chosen.ensures.plan ∙ ap (λ (names : List (List ℕ)). first_plan task names c.args.lines.now.cost) c.deref.ensures in
    let told = plan_told task c.args.bound c.args.lines.now c.is_unit_cost.result c.in_ok-chosen.chosen.least _ none c.is_unit_cost.ensures real plan c.in_ok-ops.ops.items c.in_ok-ops.ensures in
    let long = plan_in-long task c.args.bound c.args.lines.now c.in_ok-ops.ops.items c.args.lines.now.cost told in
    omega (arith, long, c.requires)
