use Rattle.std.proofs.Common.{◌≡◌, take}
use Rattle.driver_core.specs.declared.settings.Setting.{Setting}
use Rattle.driver_core.proofs.Steps.{Follows}
use Rattle.driver_core.proofs.runs.actions.Given as goal

abbrev pub invariant-loop-event : goal.invariant-loop-event
invariant-loop-event l =
    let setting : Setting = record { shares = l.shares; start = l.fn.start; limit = l.fn.limit; bound = l.fn.bound; single = l.fn.single; rounds = l.fn.rounds } in
    record {
      set_up : l.core.setting ≡ setting;
      follows : Follows setting l.core l.actions.items (take l.event-index l.events);
    }
