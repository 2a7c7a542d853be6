use Rattle.std.proofs.Common.{refl, [], ◌∷◌}
use Rattle.run_report.specs.Searches.{Run}
use Rattle.driver_run.specs.declared.running.Left.{Left}
use Rattle.driver_run.specs.Ending.{report_by}
use Rattle.driver_run.specs.Searching.{run_by}
use Rattle.driver_run.proofs.Leaving.{sealed_plans}
use Rattle.driver_run.proofs.Telling.{few_steps, left_over}
use Rattle.driver_run.proofs.Placing.{sealed_outside}
use Rattle.driver_run.proofs.running.finish.Goals as goal

pub seal-requires-clause-steps : goal.seal-requires-clause-steps
seal-requires-clause-steps g c = rw c.deref.ensures.value (few_steps c.args.task.now c.args.progress.kept.items c.requires.ran.2.under_way.plans.plans)

pub returns-in-Ok-clause-leaves : goal.returns-in-Ok-clause-leaves
returns-in-Ok-clause-leaves g c some = rw c.leave-in-Ok.ensures (rw c.deref.ensures.value at (sealed_plans (g.F.Folder.told c.args.folder.now) (g.F.Folder.told c.seal.new.folder) c.args.task.now c.args.many c.deref.result.now c.args.base.now c.requires.base c.in-Ok.ensures.changes))

pub returns-in-Ok-clause-left : goal.returns-in-Ok-clause-left
returns-in-Ok-clause-left g c config turn is =
    let progress = c.args.progress in
    let run : Run = run_by c.args.task.now config progress.core.setting in
    let left : Left = record { kept = progress.kept.items; candidates = progress.candidates.items; ends = progress.ends.items; why = c.why_of-why.result; code = c.code-code.result } in
    let over = c.the_only_turn_ends_the_run.ensures run progress.core turn left.kept left.candidates left.ends is.under_way (rw is.shares refl) is.rounds in
    left_over run c.args.many progress turn c.leave-in-Ok.result left.why left.code c.leave-in-Ok.ensures c.why_of-why.ensures
    (c.a_run_is_told.ensures.end run progress.core (turn ∷ []) (report_by run.parts c.args.many run.setting.start left) is.under_way refl over c.why_of-why.ensures (c.code-code.ensures _ is.under_way.stands))

pub returns-in-Ok-clause-outside : goal.returns-in-Ok-clause-outside
returns-in-Ok-clause-outside g c = sealed_outside _ (g.F.Folder.told c.args.folder.now) (g.F.Folder.told c.seal.new.folder) c.args.task.now c.args.many c.deref.result.now c.args.base.now c.requires.base c.seal.ensures.changes

pub returns-in-Err-clause-outside : goal.returns-in-Err-clause-outside
returns-in-Err-clause-outside g c = sealed_outside _ (g.F.Folder.told c.args.folder.now) (g.F.Folder.told c.seal.new.folder) c.args.task.now c.args.many c.deref.result.now c.args.base.now c.requires.base c.seal.ensures.changes
