use Rattle.lm_backchain.proofs.GivingOperators.{givers_none, givers_more}
use Rattle.lm_backchain.proofs.ListLaws.{read_at}
use Rattle.lm_backchain.proofs.givers.Givers.of.Goals as goal

pub loop-fact-init : goal.loop-fact-init
loop-fact-init c parts finds = rw c.new-ops.ensures.items (givers_none parts)

pub loop-fact-preserved : goal.loop-fact-preserved
loop-fact-preserved c parts finds =
    let at = read_at c.args.facts.now c.loop-fact.fact-index (record { var = 0; val = 0 }) c.loop-fact-test.true in
    givers_more parts c.args.self.now.table c.args.facts.now c.loop-fact.fact-index _ c.loop-fact.ops.items c.extend_from_slice.new.self.items finds at
    (rw c.numbers.ensures at c.in_ok-extend_from_slice.ensures.items) (c.loop-fact.invariant parts finds)
