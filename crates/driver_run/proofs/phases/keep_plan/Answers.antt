use Rattle.std.proofs.Common.{◌+◌, length, arith}
use Rattle.plan_text.specs.PlanText.{plan_text}
use Rattle.driver_run.proofs.Placing.{kept_outside}
use Rattle.driver_run.proofs.phases.keep_plan.Goals as goal

pub returns-clause-outside : goal.returns-clause-outside
returns-clause-outside g c =
    let told = g.F.Folder.told in
    kept_outside c.keep_candidate.result (told c.args.folder.now) (told c.keep_candidate.new.folder) c.args.base.now c.args.many (length c.args.progress.now.kept.items + 1) (plan_text c.args.task.now c.args.ops) c.requires.base
    (omega (arith, c.requires.room)) c.keep_candidate.ensures.changes
