use Rattle.std.proofs.Common.{◌≡◌, ◌≢◌, ◌∙◌, ap, refl, [], Some}
use Rattle.std.specs.FinMap.{get}
use Rattle.lama_host.specs.Steps.{Leaves}
use Rattle.run_report.specs.declared.report.Report.{Report}
use Rattle.run_report.specs.declared.report.Why.TheVariants as why
use Rattle.run_report.specs.Events.{IsRunToEnd}
use Rattle.driver_run.specs.Leaves.{LeavesPlans}
use Rattle.driver_run.specs.Reports.{TellsTask}
use Rattle.driver_run.proofs.Leaving.{plans_untouched, still_cleared}
use Rattle.driver_run.proofs.Reporting.{told_nothing}
use Rattle.driver_run.proofs.Tells.{if_ok_weaker, if_ok_from_both, told_when_solved}
use Rattle.driver_run.proofs.Placing.{outside_then, same_outside}
use Rattle.driver_run.proofs.running.run_file.Goals as goal

pub returns-in-Ok-Task-clause-leaves : goal.returns-in-Ok-Task-clause-leaves
returns-in-Ok-Task-clause-leaves g c =
    let told = g.F.Folder.told in
    if_ok_weaker (λ (report : Report). report.why ≢ why.Fault → Leaves (told c.read_task.new.folder) (told c.run_on_task.new.folder) (LeavesPlans report.task report.many report.kept))
    (λ (report : Report). report.why ≢ why.Fault → Leaves (told c.args.folder.now) (told c.run_on_task.new.folder) (LeavesPlans report.task report.many report.kept))
    c.run_on_task.result
    (λ report leaves fine. plans_untouched (told c.args.folder.now) (told c.read_task.new.folder) (told c.run_on_task.new.folder) report.task report.many report.kept c.in-Ok-Task.ensures.untouched (leaves fine))
    c.run_on_task.ensures.leaves

pub returns-in-Ok-Task-clause-task : goal.returns-in-Ok-Task-clause-task
returns-in-Ok-Task-clause-task g c files idle held =
    let tells = rw c.in-Ok-Task.field-0-is at (c.in-Ok-Task.ensures.tells files idle held) in
    if_ok_from_both (λ (report : Report). report.task ≡ Some c.in-Ok-Task.task) (λ (report : Report). report.why ≢ why.Fault → IsRunToEnd report.why)
    (λ (report : Report). TellsTask (get files c.args.name.now) report.task report.why) c.run_on_task.result
    (λ report is ends. told_when_solved (get files c.args.name.now) c.in-Ok-Task.task report.task report.why tells is ends)
    c.run_on_task.ensures.task c.run_on_task.ensures.end

pub returns-in-Ok-Missing-clause-leaves : goal.returns-in-Ok-Missing-clause-leaves
returns-in-Ok-Missing-clause-leaves g c =
    let told = g.F.Folder.told in
    rw c.stopped.ensures (λ fine. still_cleared (told c.args.folder.now) (told c.read_task.new.folder) c.is_many-many.result [] c.in-Ok-Missing.ensures.untouched c.requires.cleared)

pub returns-in-Ok-Missing-clause-told : goal.returns-in-Ok-Missing-clause-told
returns-in-Ok-Missing-clause-told g c =
    told_nothing c.args.aim c.args.start _ _ c.is_many-many.result _ _ c.stopped.result c.stopped.ensures c.is_many-many.ensures tt (λ ends. ends) refl c.requires.start

pub returns-in-Ok-Refused-clause-leaves : goal.returns-in-Ok-Refused-clause-leaves
returns-in-Ok-Refused-clause-leaves g c =
    let told = g.F.Folder.told in
    rw c.stopped-in-Ok-Refused.ensures (λ fine. still_cleared (told c.args.folder.now) (told c.read_task.new.folder) c.is_many-many.result [] c.in-Ok-Refused.ensures.untouched c.requires.cleared)

pub returns-in-Ok-Refused-clause-told : goal.returns-in-Ok-Refused-clause-told
returns-in-Ok-Refused-clause-told g c =
    told_nothing c.args.aim c.args.start _ _ c.is_many-many.result _ _ c.stopped-in-Ok-Refused.result c.stopped-in-Ok-Refused.ensures c.is_many-many.ensures tt (λ ends. ends) c.task_code-code.ensures c.requires.start

pub returns-in-Ok-Failed-clause-told : goal.returns-in-Ok-Failed-clause-told
returns-in-Ok-Failed-clause-told g c =
    told_nothing c.args.aim c.args.start _ _ c.is_many-many.result _ _ c.stopped-in-Ok-Failed.result c.stopped-in-Ok-Failed.ensures c.is_many-many.ensures tt (λ ends. ends) refl c.requires.start

pub returns-in-Ok-Task-clause-outside : goal.returns-in-Ok-Task-clause-outside
returns-in-Ok-Task-clause-outside g c =
    let told = g.F.Folder.told in
    outside_then (told c.args.folder.now) (told c.read_task.new.folder) (told c.run_on_task.new.folder)
    (ap (λ t. t.busy) c.read_task.ensures.untouched ∙ c.requires.idle)
    (same_outside (told c.args.folder.now) (told c.read_task.new.folder) c.read_task.ensures.untouched) c.run_on_task.ensures.outside

pub returns-in-Err-clause-outside : goal.returns-in-Err-clause-outside
returns-in-Err-clause-outside g c = same_outside (g.F.Folder.told c.args.folder.now) (g.F.Folder.told c.read_task.new.folder) c.read_task.ensures.untouched

pub returns-in-Ok-Missing-clause-outside : goal.returns-in-Ok-Missing-clause-outside
returns-in-Ok-Missing-clause-outside g c = same_outside (g.F.Folder.told c.args.folder.now) (g.F.Folder.told c.read_task.new.folder) c.read_task.ensures.untouched

pub returns-in-Ok-Refused-clause-outside : goal.returns-in-Ok-Refused-clause-outside
returns-in-Ok-Refused-clause-outside g c = same_outside (g.F.Folder.told c.args.folder.now) (g.F.Folder.told c.read_task.new.folder) c.read_task.ensures.untouched

pub returns-in-Ok-Failed-clause-outside : goal.returns-in-Ok-Failed-clause-outside
returns-in-Ok-Failed-clause-outside g c = same_outside (g.F.Folder.told c.args.folder.now) (g.F.Folder.told c.read_task.new.folder) c.read_task.ensures.untouched
