use Rattle.std.proofs.Common.{◌≡◌, ◌∙◌, sym, ap, subst, List, ℕ, IsTrue}
use Rattle.std.specs.Prelude.{◌↔◌}
use Rattle.relaxed_task.specs.Estimates.{is_finite}
use Rattle.relaxed_task.specs.Numbers.{number_of}
use Rattle.relaxed_task.specs.Reached.{IsReached}
use Rattle.relaxed_task.proofs.ReachLaws.{finite_exactly}
use Rattle.h_add.specs.Values.{value_at, Evaluator}
use Rattle.h_add.proofs.add.Add.costs.Goals as goal

pub returns-clause-reached : goal.returns-clause-reached
returns-clause-reached c parts kind state without is evaluated fact there =
    let costs : c.costs.result.now ≡ c.args.self.now.costs = c.costs.ensures ∙ ap (λ (e : Evaluator). e.costs) c.self.view_is in
    subst (λ (xs : List ℕ). IsTrue (is_finite (value_at xs (number_of parts.variables fact))) ↔ IsReached parts state without fact) (sym costs)
    (finite_exactly parts kind state without fact (value_at c.args.self.now.costs (number_of parts.variables fact)) (evaluated.each fact there))
