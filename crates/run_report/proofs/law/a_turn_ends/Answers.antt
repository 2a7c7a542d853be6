use Rattle.run_report.proofs.TurnEvents.{comes_to_end}
use Rattle.run_report.proofs.law.a_turn_ends.Goals as goal

pub returns : goal.returns
returns c run core next ended turn kept candidates ends going same stands by = comes_to_end run core next ended turn kept candidates ends going same stands by
