use Rattle.std.proofs.Common.{rules}
use Rattle.sas_task.proofs.MadeWellFormed.{accepted_forms}
use Rattle.sas_task.proofs.checking.accepted.Goals as goal

pub new-requires : goal.new-requires
new-requires c = accepted_forms c.args.parts c.from.result c.from-2.result c.requires (search rules) (search rules)
