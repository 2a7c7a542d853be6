use Rattle.std.proofs.Common.{◌≡◌, List}
use Rattle.lama_host.specs.Steps.{Stays}
use Rattle.driver_core.specs.declared.events.Event.{Event}
use Rattle.driver_core.specs.Turns.{turn_of}
use Rattle.candidates.specs.Collecting.{IsInTurn, standing}
use Rattle.candidates.specs.Judging.{Judged}
use Rattle.candidates.proofs.Loop.{Collected}
use Rattle.candidates.proofs.collecting.collect.Given as goal

abbrev pub invariant-loop-number : goal.invariant-loop-number
invariant-loop-number g l =
    let told = g.F.Folder.told in
    record {
      stays : Stays (told l.fn.folder) (told l.folder);
      setting : l.core.setting ≡ l.fn.core.setting;
      collected : (events : List Event) → IsInTurn l.fn.core events (turn_of l.round l.entry) l.fn.kept.items →
          (judged : List Judged) × Collected l.task l.base l.many (turn_of l.round l.entry) events
          (standing (told l.fn.folder) l.fn.core l.fn.kept.items l.fn.candidates.items) (standing (told l.folder) l.core l.kept.items l.candidates.items) l.number judged;
    }
