use Rattle.run_report.proofs.TurnEvents.{begins}
use Rattle.run_report.proofs.law.a_turn_begins.Goals as goal

pub returns : goal.returns
returns c run core next ended kept candidates ends began going low same stands = begins run core next ended kept candidates ends began going low same stands
