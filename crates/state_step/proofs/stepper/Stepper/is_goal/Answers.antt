use Rattle.state_step.proofs.RunLaws.{goal_within}
use Rattle.state_step.proofs.stepper.Stepper.is_goal.Goals as goal

pub all_hold-requires : goal.all_hold-requires
all_hold-requires c = rw (c.deref.ensures, c.parts.ensures.parts) (goal_within c.args.task.now _ c.parts.ensures.well_formed c.requires.long)
