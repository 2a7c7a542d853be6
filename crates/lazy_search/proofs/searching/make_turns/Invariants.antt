use Rattle.std.proofs.Common.{◌≡◌, ◌↔◌, ◌≤◌, ℕ, List, [], Option, None, length}
use Rattle.sas_task.specs.declared.contents.Parts.{Parts}
use Rattle.guide.specs.declared.seen.Seen.{Seen}
use Rattle.search_log.specs.Clocks.{unfinal}
use Rattle.lazy_search.specs.declared.steps.Turned.TheVariants.{Done}
use Rattle.lazy_search.specs.Machines.{AfterTurn}
use Rattle.lazy_search.specs.Phases.{phase_of}
use Rattle.lazy_search.specs.Ends.{IsAnswered, TellsOn}
use Rattle.lazy_search.proofs.searching.make_turns.Given as goal

abbrev pub invariant-loop-turn : goal.invariant-loop-turn
invariant-loop-turn g l =
    let phase = phase_of l.phase.task.now l.phase.setting.now l.phase.shape in
    record {
      stands : AfterTurn phase (g.G.Guide.keeps l.guide) (g.G.Guide.fits l.guide l.phase.task.now) l.machine Done;
      same_task : g.G.Guide.is_for l.guide l.phase.task.now;
      meaning : (parts : Parts) (states : List (List ℕ)) (seen : Seen) → g.G.Guide.fits l.guide parts states seen ↔ g.G.Guide.fits l.fn.guide parts states seen;
      count : length l.machine.log.pops ≡ l.turn;
      unfinal_all : unfinal l.machine.log.pops ≡ length l.machine.log.pops;
      answers : (before : Option (List ℕ)) → IsAnswered phase [] None before (g.C.Clock.answers l.fn.clock) → IsAnswered phase l.machine.log.pops None before (g.C.Clock.answers l.clock);
      later : g.C.Clock.last l.fn.clock ≤ g.C.Clock.last l.clock;
      tells : TellsOn (g.C.Clock.answers l.fn.clock) (g.C.Clock.answers l.clock);
    }
