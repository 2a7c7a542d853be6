use Rattle.host_real.proofs.Slots.{taken_first}
use Rattle.host_real.proofs.running.take_first.Goals as goal

pub returns : goal.returns
returns g c = taken_first (λ child. child.slot) c.args.slot _ _ _ c.in_ok-at.at c.remove-child.result c.deref.ensures.value c.in_ok-at.ensures c.remove-child.ensures.items
