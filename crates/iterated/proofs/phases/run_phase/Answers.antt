use Rattle.std.proofs.Common.{◌∙◌}
use Rattle.iterated.proofs.PhaseEndLaws.{run_ends, shows_so, no_memory}
use Rattle.iterated.proofs.phases.run_phase.Goals as goal

pub returns-clause-task : goal.returns-clause-task
returns-clause-task g c = λ some. c.search_by-end.ensures.task (λ is. some (c.by.ensures ∙ no_memory c.args.config.now c.args.place c.search_by-end.result is))

pub returns-clause-ends : goal.returns-clause-ends
returns-clause-ends g c =
    run_ends c.args.task.now c.args.config.now c.args.place c.index-phase.result.now c.args.bound c.args.stop c.search_by-end.result c.by.result c.index-phase.ensures c.search_by-end.ensures.searched c.by.ensures

pub returns-clause-shows : goal.returns-clause-shows
returns-clause-shows g c =
    let parts = c.args.task.now in
    let config = c.args.config.now in
    let ends = run_ends parts config c.args.place c.index-phase.result.now c.args.bound c.args.stop c.search_by-end.result c.by.result c.index-phase.ensures c.search_by-end.ensures.searched c.by.ensures in
    shows_so parts config c.args.place c.args.bound c.args.stop c.by.result c.parts.ensures.well_formed ends
