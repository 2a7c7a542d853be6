use Rattle.std.proofs.Common.{◌≡◌, ◌∙◌, Some}
use Rattle.lama_host.proofs.StepLaws.{stays_then}
use Rattle.driver_run.proofs.Leaving.{plans_after}
use Rattle.driver_run.proofs.Telling.{left_ended, left_stopped}
use Rattle.driver_run.proofs.Placing.{outside_then}
use Rattle.driver_run.proofs.running.run_on.Goals as goal

pub returns-in-Ok-clause-stays : goal.returns-in-Ok-clause-stays
returns-in-Ok-clause-stays g c = stays_then (g.F.Folder.told c.args.folder.now) (g.F.Folder.told c.run_entry.new.folder) (g.F.Folder.told c.finish.new.folder) c.in-Ok.ensures.stays c.finish.ensures.stays

pub returns-in-Ok-clause-leaves : goal.returns-in-Ok-clause-leaves
returns-in-Ok-clause-leaves g c some =
    plans_after (g.F.Folder.told c.args.folder.now) (g.F.Folder.told c.run_entry.new.folder) (g.F.Folder.told c.finish.new.folder) (Some c.args.task.now) c.args.many c.finish.result.kept
    (c.in-Ok.ensures.stays.busy ∙ c.requires.idle) c.in-Ok.ensures.outside (c.finish.ensures.leaves some)

pub returns-in-Ok-clause-left : goal.returns-in-Ok-clause-left
returns-in-Ok-clause-left g c =
    let ran = c.in-Ok.ensures.ran in
    left_ended c.args.task.now c.args.config.now c.args.progress.core.setting c.run_entry.new.progress.core.setting c.args.many c.run_entry.new.progress ran.0 c.finish.result
    (g.C.Clock.last c.args.clock.now) (g.C.Clock.last c.run_entry.new.clock) (g.C.Clock.answers c.args.clock.now) (g.C.Clock.answers c.run_entry.new.clock) c.in-Ok.ensures.setting ran.1 ran.2 (c.finish.ensures.left c.args.config.now ran.0)

pub returns-in-Err-Fault-clause-left : goal.returns-in-Err-Fault-clause-left
returns-in-Err-Fault-clause-left g c =
    let ran = rw c.in-Err-Fault.field-0-is at c.in-Err-Fault.ensures.ran in
    left_stopped c.args.task.now c.args.config.now c.args.progress.core.setting c.args.many c.run_entry.new.progress c.leave.result ran.0
    (g.C.Clock.last c.args.clock.now) (g.C.Clock.last c.run_entry.new.clock) (g.C.Clock.answers c.args.clock.now) (g.C.Clock.answers c.run_entry.new.clock) c.leave.ensures ran.1 ran.2 ran.3 c.a_run_is_told.ensures.fault

pub returns-in-Ok-clause-outside : goal.returns-in-Ok-clause-outside
returns-in-Ok-clause-outside g c =
    outside_then (g.F.Folder.told c.args.folder.now) (g.F.Folder.told c.run_entry.new.folder) (g.F.Folder.told c.finish.new.folder)
    (c.in-Ok.ensures.stays.busy ∙ c.requires.idle) c.in-Ok.ensures.outside c.finish.ensures.outside
