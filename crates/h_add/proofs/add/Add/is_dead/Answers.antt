use Rattle.std.proofs.Common.{◌≡◌}
use Rattle.lama_num.specs.declared.estimates.Estimate.TheVariants.{Infinite}
use Rattle.relaxed_task.proofs.ReachLaws.{no_operators_reach_the_goal}
use Rattle.h_add.proofs.EvaluatedLaws.{dead_of_all}
use Rattle.h_add.proofs.add.Add.is_dead.Goals as goal

pub returns-in-Infinite-clause-safe : goal.returns-in-Infinite-clause-safe
returns-in-Infinite-clause-safe c parts kind state ops last is evaluated yes_dead reached =
    no_operators_reach_the_goal parts state ops last is.well_formed evaluated.of_task ((dead_of_all parts kind _ state _ _ is evaluated c.goal_sum.ensures).0 c.in-Infinite.is) reached

pub returns-in-Finite-clause-exact : goal.returns-in-Finite-clause-exact
returns-in-Finite-clause-exact c parts kind state is evaluated =
    (λ yes_dead. absurd cc, λ dead. absurd (let k : c.goal_sum.result ≡ Infinite = (dead_of_all parts kind _ state _ _ is evaluated c.goal_sum.ensures).1 dead in cc))
