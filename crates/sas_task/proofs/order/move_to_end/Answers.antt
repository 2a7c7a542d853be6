use Rattle.sas_task.proofs.MovedPreconditions.{rotated}
use Rattle.sas_task.proofs.order.move_to_end.Goals as goal

pub returns : goal.returns
returns c = rotated c.args.facts.now c.rotate_left.new.self c.args.place c.requires c.rotate_left.ensures.after
