use Rattle.sas_reader.proofs.Known.{if_given}
use Rattle.sas_reader.proofs.Sound.{are_variables}
use Rattle.sas_reader.specs.Reading.{AreVariables}
use Rattle.sas_reader.proofs.variables.read_variables.Goals as goal

pub returns-clause-known : goal.returns-clause-known
returns-clause-known c =
    if_given (λ r. AreVariables r.0) _ c.read_so_many_variables.result _ c.read_so_many_variables.ensures
    (λ r is. are_variables c.in_ok-count.count c.read_count.new.cursor r c.in_ok-count.ensures.few is)
