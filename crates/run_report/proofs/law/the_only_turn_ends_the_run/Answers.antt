use Rattle.run_report.proofs.EndedTurn.{over_once}
use Rattle.run_report.proofs.law.the_only_turn_ends_the_run.Goals as goal

pub returns : goal.returns
returns c run core turn kept candidates ends going one none = over_once run core turn kept candidates ends going one none
