use Rattle.std.proofs.Common.{◌≡◌, ◌<◌, ℕ, List, take}
use Rattle.std.specs.Prelude.{slice_get, option_and_then, IfSome}
use Rattle.std.specs.List.{find}
use Rattle.plan_check.specs.Verdicts.{is_plan_at}
use Rattle.plan_check.specs.Layers.{AreEnds}
use Rattle.plan_check.specs.Walking.{IsWalker}
use Rattle.plan_check.proofs.GoalChoices.{least_so_far}
use Rattle.plan_check.proofs.picking.pick.Given as goal

abbrev pub invariant-loop-place : goal.invariant-loop-place
invariant-loop-place l = record {
  ready : IsWalker l.walker l.setup.task.now;
  least : (choices : List (List ℕ)) → AreEnds l.setup.task.now l.setup.layout l.layer choices → l.goals.least ≡ least_so_far l.setup.task.now choices l.place;
  first : (choices : List (List ℕ)) → AreEnds l.setup.task.now l.setup.layout l.layer choices → option_and_then (slice_get choices) l.goals.place ≡ find (is_plan_at l.setup.task.now l.wanted) (take l.place choices);
  within : IfSome l.goals.place (λ place. place < l.place);
}
