use Rattle.std.proofs.Common.{◌≡◌, ◌∙◌, ap, map}
use Rattle.state_step.proofs.OperatorTables.{pre_row_within, pre_row_holds}
use Rattle.state_step.proofs.stepper.Stepper.applicable.Goals as goal

pub all_hold-requires : goal.all_hold-requires
all_hold-requires c =
    let pre : c.self.inside.operators.pre ≡ map (λ o. o.pre) c.args.task.now.operators = ap (λ s. s.operators.pre) c.self.view_is ∙ c.requires.same_task.operators.pre in
    rw c.row.ensures (pre_row_within c.args.task.now _ _ c.args.op c.requires.same_task.well_formed c.requires.long pre c.requires.op)

pub returns : goal.returns
returns c =
    let pre : c.self.inside.operators.pre ≡ map (λ o. o.pre) c.args.task.now.operators = ap (λ s. s.operators.pre) c.self.view_is ∙ c.requires.same_task.operators.pre in
    c.all_hold.ensures ∙ rw c.row.ensures (pre_row_holds c.args.task.now c.args.state.now _ c.args.op pre c.requires.op)
