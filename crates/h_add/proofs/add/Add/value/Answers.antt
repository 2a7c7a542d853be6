use Rattle.std.proofs.Common.{◌≡◌, ◌+◌, ◌∙◌, sym, ap, subst, get_or, ℕ, List, true}
use Rattle.lama_num.specs.declared.estimates.Estimate.{Estimate}
use Rattle.relaxed_task.proofs.NumberLaws.{number_by-is}
use Rattle.relaxed_task.specs.Numbers.{number_of}
use Rattle.relaxed_task.specs.AdditiveCosts.{IsAdditiveCost}
use Rattle.relaxed_task.specs.Relaxations.{IsRelaxed}
use Rattle.relaxed_task.proofs.ReachLaws.{finite_exactly}
use Rattle.sas_task.specs.WellFormed.{is_fact}
use Rattle.sas_task.specs.declared.contents.CostKind.{CostKind}
use Rattle.sas_task.specs.declared.contents.Fact.{Fact}
use Rattle.sas_task.specs.declared.contents.Parts.{Parts}
use Rattle.h_add.specs.Values.{value_at, Evaluator, IsEvaluated}
use Rattle.h_add.proofs.add.Add.value.Goals as goal

-- what the answer is
costs_so : (c : goal.After-value_of) (parts : Parts) (kind : CostKind) (state : List ℕ) (without : List Fact) → IsRelaxed parts kind c.args.self.now.relaxed → IsEvaluated parts kind state without c.args.self.now.costs →
    is_fact parts.variables c.args.fact ≡ true → IsAdditiveCost parts kind state without c.args.fact c.value_of.result
costs_so c parts kind state without is evaluated there =
    let costs : c.costs.result.now ≡ c.args.self.now.costs = c.costs.ensures ∙ ap (λ (e : Evaluator). e.costs) c.self.view_is in
    let number : c.number-number.result ≡ number_of parts.variables c.args.fact =
    (rw c.relaxed.ensures at c.number-number.ensures)
    ∙ (ap (λ (e : Evaluator). get_or e.relaxed.offsets c.args.fact.var 0 + c.args.fact.val) c.self.view_is ∙ number_by-is parts.variables c.args.self.now.relaxed.offsets c.args.fact is.offsets there) in
    let value : c.value_of.result ≡ value_at c.args.self.now.costs (number_of parts.variables c.args.fact) =
    c.value_of.ensures ∙ (ap (λ (xs : List ℕ). value_at xs c.number-number.result) costs ∙ ap (λ (n : ℕ). value_at c.args.self.now.costs n) number) in
    subst (λ (e : Estimate). IsAdditiveCost parts kind state without c.args.fact e) (sym value) (evaluated.each c.args.fact there)

pub returns-clause-cost : goal.returns-clause-cost
returns-clause-cost c = costs_so c

pub returns-clause-finite : goal.returns-clause-finite
returns-clause-finite c parts kind state without is evaluated there =
    finite_exactly parts kind state without c.args.fact c.value_of.result (costs_so c parts kind state without is evaluated there)
