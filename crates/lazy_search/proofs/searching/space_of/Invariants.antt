use Rattle.std.proofs.Common.{◌≡◌, length, map, take}
use Rattle.search_log.specs.Places.{latest}
use Rattle.search_log.specs.Spaces.{node_member}
use Rattle.lazy_search.specs.Machines.{past_in}
use Rattle.lazy_search.specs.Phases.{phase_of}
use Rattle.lazy_search.proofs.searching.space_of.Given as goal

abbrev pub invariant-loop-id : goal.invariant-loop-id
invariant-loop-id l =
    let past = past_in (phase_of l.phase.task.now l.phase.setting.now l.phase.shape) l.machine in
    record {
      long : length l.state.items ≡ length l.phase.task.now.variables;
      so_far : l.space ≡ map node_member (take l.id (latest past.nodes));
    }
