-- The first turn begins, and nothing is kept yet.
use Rattle.std.proofs.Common.{◌≡◌, ℕ, ◌≤◌, List, [], ◌∷◌, ◌++◌, Option, None, Bool, false, take, refl, ap, sym, ◌∙◌, subst, arith, rules}
use Rattle.std.specs.Prelude.{All}
use Rattle.std.proofs.Math.Seq.{take-nil}
use Rattle.std.proofs.lemmas.List.Elements.{All-nil, All-cons}
use Rattle.driver_core.specs.declared.events.Event.{Event}
use Rattle.driver_core.specs.Keeping.{kept_costs}
use Rattle.driver_core.proofs.OneMoreEvent.{none_before_first}
use Rattle.driver_core.specs.Legal.{IsAllowed, MayBegin}
use Rattle.driver_core.specs.Settings.{most_plans}
use Rattle.driver_core.specs.Standing.{StandsFor}
use Rattle.driver_core.specs.States.{CoreState}
use Rattle.driver_core.specs.Turns.{turn_of, begins_at}
use Rattle.candidates.specs.Collecting.{IsInTurn}
use Rattle.plan_tests.proofs.collecting.begun.Goals as goal

first : (core next : CoreState) → core.setting ≡ record { shares = 1 ∷ []; start = 0; limit = None; bound = None; single = false; rounds = false } → next.setting ≡ core.setting → StandsFor core []
    → (StandsFor core [] → IsAllowed core.setting [] (begins_at (turn_of 1 1) 0) → StandsFor next (begins_at (turn_of 1 1) 0 ∷ []))
    → IsInTurn next (begins_at (turn_of 1 1) 0 ∷ []) (turn_of 1 1) []
first core next is same stands step = record {
  stands = step stands (subst (λ s. MayBegin s [] (turn_of 1 1) 0) (sym is) (record {
    runs = refl;
    earlier = λ round low. none_before_first (record { shares = 1 ∷ []; start = 0; limit = None; bound = None; single = false; rounds = false }) [] round low;
    new = refl;
    timely = All-nil (λ earlier. earlier ≤ 0);
    going = refl;
  }));
  on = record { begun = refl; unended = refl };
  costs = take-nil (most_plans next.setting.single);
}

pub returns : goal.returns
returns c = (begins_at (turn_of 1 1) 0 ∷ [], first c.in_ok-core.core c.step.new.self c.in_ok-core.ensures.setting c.step.ensures.setting c.in_ok-core.ensures.stands (c.step.ensures.stands []))
