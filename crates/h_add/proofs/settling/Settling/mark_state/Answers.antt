use Rattle.std.proofs.Common.{◌∙◌, sym, arith}
use Rattle.relaxed_task.specs.Numbers.{numbers_by}
use Rattle.relaxed_task.proofs.NumberLaws.{long_numbers, number_at}
use Rattle.h_add.proofs.Steps.{taken_marked, all_marked}
use Rattle.h_add.proofs.settling.Settling.mark_state.Goals as goal

pub loop-var-preserved : goal.loop-var-preserved
loop-var-preserved c =
    taken_marked _ (numbers_by c.args.network.now.offsets c.args.state.now) c.loop-var.var _ _ _ _ (omega (arith, long_numbers c.args.network.now.offsets c.args.state.now))
    ((rw c.relaxed.ensures at c.number.ensures) ∙ sym (number_at c.args.network.now.offsets c.args.state.now c.loop-var.var (omega arith))) c.loop-var.invariant c.mark.ensures

pub returns : goal.returns
returns c = all_marked _ (numbers_by c.args.network.now.offsets c.args.state.now) c.loop-var.var _ _ (omega (arith, long_numbers c.args.network.now.offsets c.args.state.now)) c.loop-var.invariant
