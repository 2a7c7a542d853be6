use Rattle.log_laws.proofs.ClockLaws.{late_exactly, answers_few, no_answers}
use Rattle.log_laws.proofs.theorems.late_answers_end_logs.Goals as goal

pub returns-clause-late : goal.returns-clause-late
returns-clause-late c phase pops moment answers stop a is = late_exactly phase pops moment answers stop a is

pub returns-clause-few : goal.returns-clause-few
returns-clause-few c phase pops moment answers a = answers_few phase pops moment answers a

pub returns-clause-never : goal.returns-clause-never
returns-clause-never c phase pops moment answers a none = no_answers phase pops moment answers a none
