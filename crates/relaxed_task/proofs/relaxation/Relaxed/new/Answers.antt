use Rattle.std.proofs.Common.{rules}
use Rattle.relaxed_task.specs.Relaxations.{IsRelaxed}
use Rattle.relaxed_task.proofs.TaskNumbers.{relaxed_sound}
use Rattle.relaxed_task.proofs.ReachLaws.{no_operators_reach_the_goal}
use Rattle.relaxed_task.proofs.relaxation.Relaxed.new.Goals as goal

pub from_lists-requires : goal.from_lists-requires
from_lists-requires c =
    let is : IsRelaxed c.args.task.now c.args.kind (record { offsets = c.from.result; facts = c.count_facts-facts.result; unaries = c.from-2.result; defaults = c.from-3.result; goals = c.in_ok-goals.goals }) = search rules in
    relaxed_sound c.args.task.now c.args.kind _ is

pub returns-clause-dead_ends : goal.returns-clause-dead_ends
returns-clause-dead_ends c = λ state ops last. no_operators_reach_the_goal c.args.task.now state ops last c.parts-parts.ensures.well_formed
