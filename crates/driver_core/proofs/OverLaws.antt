-- A run that isn't over goes on, and keeps a plan that costs less than the bound.
use Rattle.std.proofs.Common.{◌≡◌, ℕ, ◌<◌, Bool, true, false, ◌&&◌, ◌||◌, nat_le, List, length, refl, sym, ◌∙◌}
use Rattle.std.proofs.lemmas.Bool.{lt-ltb, leb-false, or_parts, false≢true, false_from_ne_true}
use Rattle.std.specs.List.{list_any}
use Rattle.driver_core.specs.declared.events.Event.{Event}
use Rattle.driver_core.specs.declared.settings.Setting.{Setting}
use Rattle.driver_core.specs.Settings.{most_plans}
use Rattle.driver_core.specs.Keeping.{kept_costs, is_kept, bound_of}
use Rattle.lama_num.specs.Bounds.{is_below}
use Rattle.driver_core.specs.Rounds.{has_last_round}
use Rattle.driver_core.specs.Running.{is_over_after, is_out_of_time, is_last_end, has_stopped}
use Rattle.driver_core.specs.States.{CoreState}
use Rattle.driver_core.specs.Standing.{StandsFor}
use Rattle.driver_core.proofs.Bounds.{is_below-bound_of}

-- a run that isn't over hasn't been told to stop
pub goes_on : (core : CoreState) (events : List Event) → StandsFor core events → is_over_after core.setting events ≡ false → has_stopped core.setting events ≡ false
goes_on core events stands open_ = false_from_ne_true _ (λ stopped. false≢true (sym open_ ∙ stands.stopped stopped))

-- there is room for a plan more where the run isn't over
pub room_left : (setting : Setting) (events : List Event) → is_over_after setting events ≡ false → length (kept_costs setting events) < most_plans setting.single
room_left setting events open_ =
    let full = nat_le (most_plans setting.single) (length (kept_costs setting events)) in
    let after_time = (or_parts (list_any is_out_of_time events) (list_any is_last_end events || (full || has_last_round setting events)) open_).1 in
    let after_last = (or_parts (list_any is_last_end events) (full || has_last_round setting events) after_time).1 in
    leb-false (most_plans setting.single) (length (kept_costs setting events)) (or_parts full (has_last_round setting events) after_last).0

and_true : (a b : Bool) → b ≡ true → (a && b) ≡ a
and_true true b e = e
and_true false b e = refl

-- and a plan is kept just where it costs less than the bound
pub kept_where_below : (setting : Setting) (events : List Event) (cost : ℕ) → is_over_after setting events ≡ false → is_kept setting events cost ≡ is_below (bound_of setting events) cost
kept_where_below setting events cost open_ =
    let few = room_left setting events open_ in
    and_true _ _ (lt-ltb _ _ few) ∙ sym (is_below-bound_of setting events few cost)
