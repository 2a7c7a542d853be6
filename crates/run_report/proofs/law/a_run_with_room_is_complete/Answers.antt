use Rattle.run_report.proofs.CompleteRuns.{complete}
use Rattle.run_report.proofs.law.a_run_with_room_is_complete.Goals as goal

pub returns : goal.returns
returns c run report turns one unbound many tells = complete run report turns one unbound many tells
