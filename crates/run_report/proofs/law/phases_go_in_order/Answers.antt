use Rattle.run_report.proofs.PhaseOrder.{in_order}
use Rattle.run_report.proofs.law.phases_go_in_order.Goals as goal

pub returns : goal.returns
returns c search from to past plans place first some went next = in_order search from to past plans place first some went next
