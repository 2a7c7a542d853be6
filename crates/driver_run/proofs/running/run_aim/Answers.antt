use Rattle.driver_run.proofs.running.run_aim.Goals as goal

pub returns-in-Ok-clause-leaves : goal.returns-in-Ok-clause-leaves
returns-in-Ok-clause-leaves g c = rw c.is_many-many.ensures at c.run_config.ensures.leaves

pub returns-in-Ok-clause-left : goal.returns-in-Ok-clause-left
returns-in-Ok-clause-left g c = rw (c.in-Ok.ensures.exact, c.is_unit_cost.ensures, c.is_many-many.ensures) at c.run_config.ensures.left
