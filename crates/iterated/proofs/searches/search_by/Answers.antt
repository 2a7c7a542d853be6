use Rattle.iterated.proofs.PhaseSearches.{searched_so}
use Rattle.iterated.proofs.searches.search_by.Goals as goal

pub returns-in-Ok-clause-searched : goal.returns-in-Ok-clause-searched
returns-in-Ok-clause-searched g c =
    let own = c.switch_to_phase.new.self in
    searched_so c.args.task.now own.phase c.args.phase.now c.args.bound c.args.stop c.asked.result own.tracks.status.graph c.search.result c.in-Ok.ensures.phase c.asked.ensures c.search.ensures.end
