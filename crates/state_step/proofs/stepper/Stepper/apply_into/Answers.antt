use Rattle.std.proofs.Common.{◌<◌, length, subst, sym}
use Rattle.state_step.specs.Stepper.{Steps}
use Rattle.sas_task.proofs.RunLaws.{applicable-within}
use Rattle.state_step.specs.Tables.{AreEffects, AreTables}
use Rattle.state_step.proofs.OperatorTables.{changes_within, changes_step}
use Rattle.state_step.proofs.stepper.Stepper.apply_into.Goals as goal

pub write_changes-requires-clause-facts : goal.write_changes-requires-clause-facts
write_changes-requires-clause-facts c =
    let op : c.args.op < length c.args.task.now.operators = applicable-within c.args.task.now c.args.state.now c.args.op c.requires.applicable in
    let are : AreEffects c.args.task.now.operators c.self.inside.operators.changes c.self.inside.operators.conds =
    subst (λ (s : Steps). AreEffects c.args.task.now.operators s.operators.changes s.operators.conds) (sym c.self.view_is) c.requires.same_task.operators.effects in
    rw c.row-changes.ensures (changes_within c.args.task.now _ _ _ c.args.op c.requires.same_task.well_formed c.requires.long are op)

pub returns-clause-state : goal.returns-clause-state
returns-clause-state c =
    let op : c.args.op < length c.args.task.now.operators = applicable-within c.args.task.now c.args.state.now c.args.op c.requires.applicable in
    let are : AreEffects c.args.task.now.operators c.self.inside.operators.changes c.self.inside.operators.conds =
    subst (λ (s : Steps). AreEffects c.args.task.now.operators s.operators.changes s.operators.conds) (sym c.self.view_is) c.requires.same_task.operators.effects in
    let wrote = rw c.row-changes.ensures at c.write_changes.ensures in
    changes_step c.args.task.now c.args.state.now _ _ _ _ c.args.op are op c.requires.applicable wrote c.settle.ensures.values

pub returns-clause-same_task : goal.returns-clause-same_task
returns-clause-same_task c =
    let tables : AreTables c.args.task.now.operators c.self.inside.operators = subst (λ (s : Steps). AreTables c.args.task.now.operators s.operators) (sym c.self.view_is) c.requires.same_task.operators in
    record { axioms = c.settle.ensures.same_task; operators = tables; well_formed = c.requires.same_task.well_formed }
