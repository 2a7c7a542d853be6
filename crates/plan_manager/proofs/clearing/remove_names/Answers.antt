use Rattle.std.proofs.Common.{arith}
use Rattle.lama_host.proofs.StepLaws.{keeps_then, keeps_ok, keeps_none, keeps_failed}
use Rattle.plan_manager.proofs.RemovedNames.{one_more, one_failed, all_taken, none_taken}
use Rattle.plan_manager.proofs.clearing.remove_names.Goals as goal

pub loop-number-init : goal.loop-number-init
loop-number-init g c = record { keeps = keeps_none _ tt; changes = none_taken _ c.args.base.now c.args.from c.args.end }

pub loop-number-preserved : goal.loop-number-preserved
loop-number-preserved g c =
    let told = g.F.Folder.told in
    record {
      keeps = keeps_ok _ _ _ tt (keeps_then _ _ _ _ _ c.loop-number.invariant.keeps c.remove_name.ensures.keeps);
      changes = one_more (told c.args.folder.now) (told c.loop-number.folder) (told c.remove_name.new.folder) c.remove_name.result _ c.args.base.now c.args.from c.loop-number.number c.args.end
          c.in_ok-remove_name.was (omega (arith, c.loop-number.auto.number)) (omega (arith, c.loop-number-test.true)) c.loop-number.invariant.keeps.busy c.loop-number.invariant.changes c.remove_name.ensures.changes;
    }

pub returns-in_err-remove_name-clause-keeps : goal.returns-in_err-remove_name-clause-keeps
returns-in_err-remove_name-clause-keeps g c = keeps_failed _ _ _ c.from_residual.result _ c.from_residual.ensures.0 c.in_err-remove_name.was (keeps_then _ _ _ _ _ c.loop-number.invariant.keeps c.remove_name.ensures.keeps)

pub returns-in_err-remove_name-clause-changes : goal.returns-in_err-remove_name-clause-changes
returns-in_err-remove_name-clause-changes g c =
    let told = g.F.Folder.told in
    one_failed (told c.args.folder.now) (told c.loop-number.folder) (told c.remove_name.new.folder) c.remove_name.result c.from_residual.result c.args.base.now c.args.from c.loop-number.number c.args.end
    c.from_residual.ensures.0 (omega (arith, c.loop-number.auto.number)) (omega (arith, c.loop-number-test.true)) c.loop-number.invariant.keeps.busy c.loop-number.invariant.changes c.remove_name.ensures.changes

pub returns-clause-changes : goal.returns-clause-changes
returns-clause-changes g c = all_taken _ _ c.args.base.now c.args.from c.loop-number.number c.args.end (omega (arith, c.loop-number-test.false)) c.loop-number.invariant.changes
