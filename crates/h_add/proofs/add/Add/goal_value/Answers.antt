use Rattle.std.proofs.Common.{◌∙◌, ap}
use Rattle.relaxed_task.proofs.NumberLaws.{sum_by_number}
use Rattle.relaxed_task.specs.Numbers.{costs_by}
use Rattle.relaxed_task.specs.Relaxing.{sum_of}
use Rattle.relaxed_task.specs.Facts.{distinct_facts}
use Rattle.h_add.proofs.EvaluatedLaws.{dead_of_all}
use Rattle.h_add.specs.Values.{value_at}
use Rattle.h_add.proofs.add.Add.goal_value.Goals as goal

pub returns-clause-value : goal.returns-clause-value
returns-clause-value c parts kind state without is evaluated = record {
  costs = costs_by parts.variables (value_at c.args.self.now.costs);
  each = evaluated.each;
  sum = c.goal_sum.ensures ∙ (ap (sum_of (value_at c.args.self.now.costs)) is.goals ∙ sum_by_number parts.variables (value_at c.args.self.now.costs) (distinct_facts parts.goal));
}

pub returns-clause-dead : goal.returns-clause-dead
returns-clause-dead c parts kind state is evaluated = dead_of_all parts kind _ state _ _ is evaluated c.goal_sum.ensures
