use Rattle.std.proofs.Common.{◌≡◌, ◌≤◌, length, true}
use Rattle.lama_host.specs.Steps.{Leaves, Stays}
use Rattle.plan_manager.specs.Family.{SameOutside}
use Rattle.driver_run.specs.Searching.{IsSearching, AsksNoMore}
use Rattle.driver_run.specs.Words.{base_name}
use Rattle.driver_run.proofs.phases.take_phases.Given as goal

abbrev pub invariant-loop-phase : goal.invariant-loop-phase
invariant-loop-phase g l =
    let told = g.F.Folder.told in
    record {
      stays : Stays (told l.fn.folder) (told l.folder);
      outside : Leaves (told l.fn.folder) (told l.folder) (SameOutside base_name);
      later : g.C.Clock.last l.fn.clock ≤ g.C.Clock.last l.clock;
      asks : AsksNoMore true (g.C.Clock.answers l.fn.clock) (g.C.Clock.answers l.clock);
      config : l.phases.config ≡ l.fn.phases.config;
      setting : l.progress.core.setting ≡ l.fn.progress.core.setting;
      ends : l.progress.ends ≡ l.fn.progress.ends;
      began : l.trail.began ≡ l.fn.trail.began;
      searching : IsSearching l.task l.phases l.many l.progress l.trail;
      count : length l.trail.past.items ≡ l._phase;
    }
