use Rattle.run_report.proofs.Codes.{told_at_end, told_at_fault}
use Rattle.run_report.proofs.law.a_run_is_told.Goals as goal

pub returns-clause-end : goal.returns-clause-end
returns-clause-end c run core ended report going start over by code = told_at_end run core ended report going start over by code

pub returns-clause-fault : goal.returns-clause-fault
returns-clause-fault c run core turns report going start fault code = told_at_fault run core turns report going start fault code
