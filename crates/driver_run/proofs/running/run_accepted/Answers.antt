use Rattle.std.proofs.Common.{◌≢◌, ◌∙◌, refl, IfOk, ◌≤◌, arith}
use Rattle.lama_host.specs.Steps.{Leaves}
use Rattle.run_report.specs.declared.report.Report.{Report}
use Rattle.run_report.specs.declared.report.Why.TheVariants as why
use Rattle.run_report.specs.Clocks.{AsksClock}
use Rattle.run_report.specs.Tells.{Turns}
use Rattle.driver_run.specs.Ending.{AsksAfter}
use Rattle.driver_run.specs.Leaves.{LeavesPlans}
use Rattle.driver_run.specs.Reports.{IsRunReport, TellsTask}
use Rattle.driver_run.proofs.Leaving.{cleared_now, plans_cleared, held_after_clearing}
use Rattle.driver_run.proofs.Reporting.{told_nothing, told_from_start}
use Rattle.driver_run.proofs.Tells.{if_ok_weaker}
use Rattle.driver_run.proofs.Placing.{outside_then, cleared_outside}
use Rattle.driver_run.proofs.running.run_accepted.Goals as goal

pub run_file-requires-clause-cleared : goal.run_file-requires-clause-cleared
run_file-requires-clause-cleared g c =
    let told = g.F.Folder.told in
    cleared_now (told c.args.folder.now) (told c.clear.new.folder) c.base-base.result c.base-base.ensures c.requires.idle c.in-Ok.ensures.keeps.content c.in-Ok.ensures.changes

pub returns-in-Ok-clause-files : goal.returns-in-Ok-clause-files
returns-in-Ok-clause-files g c =
    let told = g.F.Folder.told in
    if_ok_weaker (λ (report : Report). report.why ≢ why.Fault → Leaves (told c.clear.new.folder) (told c.run_file.new.folder) (LeavesPlans report.task report.many report.kept))
    (λ (report : Report). report.why ≢ why.Fault → Leaves (told c.args.folder.now) (told c.run_file.new.folder) (LeavesPlans report.task report.many report.kept))
    c.run_file.result
    (λ report leaves fine.
    plans_cleared (told c.args.folder.now) (told c.clear.new.folder) (told c.run_file.new.folder) report.task report.many report.kept c.base-base.result c.base-base.ensures
    (c.in-Ok.ensures.keeps.busy ∙ c.requires.idle) c.in-Ok.ensures.changes (leaves fine))
    c.run_file.ensures.leaves

pub returns-in-Ok-clause-task : goal.returns-in-Ok-clause-task
returns-in-Ok-clause-task g c =
    let told = g.F.Folder.told in
    held_after_clearing (told c.args.folder.now) (told c.clear.new.folder) c.base-base.result c.args.name.now
    (λ held. IfOk c.run_file.result (λ report. TellsTask held report.task report.why)) c.base-base.ensures c.requires.name
    (c.in-Ok.ensures.keeps.busy ∙ c.requires.idle) c.in-Ok.ensures.changes c.run_file.ensures.task

pub returns-in-Ok-clause-told : goal.returns-in-Ok-clause-told
returns-in-Ok-clause-told g c =
    let last = g.C.Clock.last in
    let answers = g.C.Clock.answers in
    if_ok_weaker (λ (report : Report). (turns : Turns) × IsRunReport c.args.aim c.now-start.result report turns × AsksAfter c.now-start.result (last c.run_file.new.clock) (answers c.now-start.new.self) (answers c.run_file.new.clock) turns)
    (λ (report : Report). (turns : Turns) × IsRunReport c.args.aim report.start report turns × AsksClock (last c.args.clock.now) (last c.run_file.new.clock) (answers c.args.clock.now) (answers c.run_file.new.clock) report turns)
    c.run_file.result
    (λ report is.
    told_from_start c.args.aim (last c.args.clock.now) (last c.run_file.new.clock) c.now-start.result (answers c.args.clock.now) (answers c.now-start.new.self) (answers c.run_file.new.clock) report
    c.now-start.ensures.later c.now-start.ensures.answers is)
    c.run_file.ensures.told

pub returns-in-Err-clause-told : goal.returns-in-Err-clause-told
returns-in-Err-clause-told g c =
    let last = g.C.Clock.last in
    let answers = g.C.Clock.answers in
    let start = c.now-start.result in
    let asked : start ≤ last c.now-start.new.self = omega (arith, c.now-start.ensures.last) in
    told_from_start c.args.aim (last c.args.clock.now) (last c.now-start.new.self) start (answers c.args.clock.now) (answers c.now-start.new.self) (answers c.now-start.new.self) c.stopped.result
    c.now-start.ensures.later c.now-start.ensures.answers
    (told_nothing c.args.aim start (last c.now-start.new.self) (answers c.now-start.new.self) c.is_many-many.result _ _ c.stopped.result c.stopped.ensures c.is_many-many.ensures tt (λ ends. ends) refl asked)

pub returns-in-Ok-clause-outside : goal.returns-in-Ok-clause-outside
returns-in-Ok-clause-outside g c =
    let told = g.F.Folder.told in
    outside_then (told c.args.folder.now) (told c.clear.new.folder) (told c.run_file.new.folder) (c.clear.ensures.keeps.busy ∙ c.requires.idle)
    (cleared_outside c.clear.result (told c.args.folder.now) (told c.clear.new.folder) c.base-base.result c.base-base.ensures c.clear.ensures.changes) c.run_file.ensures.outside

pub returns-in-Err-clause-outside : goal.returns-in-Err-clause-outside
returns-in-Err-clause-outside g c =
    let told = g.F.Folder.told in
    cleared_outside c.clear.result (told c.args.folder.now) (told c.clear.new.folder) c.base-base.result c.base-base.ensures c.clear.ensures.changes
