use Rattle.program.proofs.plan.Goals as goal

pub returns-in-Ok-clause-run : goal.returns-in-Ok-clause-run
returns-in-Ok-clause-run g c = rw c.in-Ok.is (c.run-ended.result, c.exit.ensures, rw (c.behind_name.ensures, c.deref.ensures.value) at c.run-ended.ensures.run)
