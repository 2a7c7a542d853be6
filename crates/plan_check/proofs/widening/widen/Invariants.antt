use Rattle.std.proofs.Common.{◌≡◌, ◌≤◌, ◌++◌, ℕ, suc, List, length, take}
use Rattle.plan_check.specs.Layers.{LeadOn, IsGrowing, EndsAt, longer}
use Rattle.plan_check.specs.Walking.{IsWalker}
use Rattle.plan_check.proofs.widening.widen.Given as goal

abbrev pub invariant-loop-i : goal.invariant-loop-i
invariant-loop-i l = record {
  ready : IsWalker l.walker l.setup.task.now;
  here : l.walker.here ≡ l.initial.walker.here;
  candidates : l.walker.candidates ≡ l.initial.walker.candidates;
  few : length l.layer ≤ 65536;
  kept : LeadOn l.initial.links.items l.links.items;
  grown : (choice : List ℕ) (done : List (List ℕ)) (first steps : ℕ) → EndsAt l.setup.task.now l.initial.links.items steps l.from choice l.initial.walker.here.items l.cost →
      IsGrowing l.setup.task.now l.setup.layout l.initial.links.items first (suc steps) l.initial.layer done →
      IsGrowing l.setup.task.now l.setup.layout l.links.items first (suc steps) l.layer (done ++ longer choice (take l.i l.initial.walker.candidates.items));
}
