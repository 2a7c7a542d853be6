use Rattle.std.proofs.Common.{ap, ◌∙◌}
use Rattle.std.specs.Prelude.{is_some}
use Rattle.lazy_search.specs.Phases.{phase_of}
use Rattle.lazy_search.proofs.PlanAndSpace.{ends_in_space}
use Rattle.lazy_search.proofs.searching.exhausted_end.Goals as goal

pub returns-in-None-clause-ends : goal.returns-in-None-clause-ends
returns-in-None-clause-ends c =
    let phase = phase_of c.args.phase.now.task.now c.args.phase.now.setting.now c.args.phase.now.shape in
    (c.take_log-log.ensures, ends_in_space phase c.args.machine.now c.in_ok-space.space c.args.phase.now.is_phase c.requires.rests c.requires.ends c.requires.dead c.in_ok-space.ensures, c.in-None.is)

pub returns-in-Some-clause-ends : goal.returns-in-Some-clause-ends
returns-in-Some-clause-ends c =
    let phase = phase_of c.args.phase.now.task.now c.args.phase.now.setting.now c.args.phase.now.shape in
    (c.take_log-log.ensures, ends_in_space phase c.args.machine.now c.in_ok-space.space c.args.phase.now.is_phase c.requires.rests c.requires.ends c.requires.dead c.in_ok-space.ensures, ap is_some c.in-Some.is)
