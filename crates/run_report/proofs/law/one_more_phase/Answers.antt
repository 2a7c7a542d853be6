use Rattle.run_report.proofs.PhaseSteps.{went_plan, went_space}
use Rattle.run_report.proofs.law.one_more_phase.Goals as goal

pub returns-clause-plan : goal.returns-clause-plan
returns-clause-plan c search at mid past plans log plan went finds = went_plan search at past plans mid log plan went finds

pub returns-clause-space : goal.returns-clause-space
returns-clause-space c search at mid past plans log space bound went is ends = went_space search at past plans mid log space bound went is ends
