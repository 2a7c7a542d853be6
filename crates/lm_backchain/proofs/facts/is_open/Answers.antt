use Rattle.std.proofs.Common.{arith}
use Rattle.lama_num.proofs.ListLaws.{list_all_get}
use Rattle.relaxed_task.proofs.NumberLaws.{fact_within}
use Rattle.sas_task.specs.WellFormed.{is_fact}
use Rattle.lm_backchain.proofs.ListLaws.{read_at}
use Rattle.lm_backchain.proofs.facts.is_open.Goals as goal

pub is_open_fact-requires-clause-fact : goal.is_open_fact-requires-clause-fact
is_open_fact-requires-clause-fact c =
    let at = read_at c.args.facts.now c.loop-fact.fact-index (record { var = 0; val = 0 }) c.loop-fact-test.true in
    let lt = fact_within c.args.task.now.variables _ (list_all_get (is_fact c.args.task.now.variables) c.args.facts.now c.loop-fact.fact-index _ c.requires.facts at) in
    omega (arith, lt, c.requires.long)
