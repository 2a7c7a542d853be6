use Rattle.driver_run.proofs.Reporting.{told_on_task}
use Rattle.driver_run.proofs.running.run_on_task.Goals as goal

pub returns-in-Ok-clause-leaves : goal.returns-in-Ok-clause-leaves
returns-in-Ok-clause-leaves g c = rw (c.report_of.ensures, c.is_many-many.ensures) c.in-Ok.ensures.leaves

pub returns-in-Ok-clause-told : goal.returns-in-Ok-clause-told
returns-in-Ok-clause-told g c =
    told_on_task c.args.aim c.args.start _ _ _ _ c.args.task c.is_many-many.result c.in-Ok.left c.report_of.result c.report_of.ensures c.is_many-many.ensures
    c.a_run_with_room_is_complete.ensures c.requires.start c.in-Ok.ensures.left
