-- A run under way: its turn begins, one plan more is kept, its turn ends, and its report tells it.
use Rattle.std.proofs.Common.{◌≡◌, ◌≢◌, ◌∙◌, sym, ap, subst, refl, ℕ, ◌+◌, ◌<◌, ◌≤◌, zero, suc, List, [], ◌∷◌, ◌++◌, length, map, take, Bool, true, false, not, ◌||◌, ◌&&◌, nat_le, nat_lt, nat_eq, if◌then◌else◌, Option, Some, None, arith, append-nil, length-append}
use Rattle.std.specs.List.{filter_map, list_any, last_or}
use Rattle.std.proofs.lemmas.List.{map-append, length-map}
use Rattle.std.proofs.lemmas.List.Elements.{filter_map-append, All-cons, All-nil, All-push}
use Rattle.std.proofs.lemmas.Bool.Decides.{nat_tests}
use Rattle.sas_task.specs.declared.contents.Parts.{Parts}
use Rattle.sas_task.specs.declared.plans.Kept.{Kept}
use Rattle.sas_task.specs.Runs.{IsPlanOf}
use Rattle.candidates.specs.declared.offers.Candidate.{Candidate}
use Rattle.candidates.specs.Collecting.{IsInTurn}
use Rattle.exit_codes.specs.declared.parts.Part.{Part}
use Rattle.driver_core.specs.declared.events.Event.{Event}
use Rattle.driver_core.specs.declared.settings.Setting.{Setting}
use Rattle.driver_core.specs.Keeping.{kept_costs, bound_of}
use Rattle.lama_num.specs.Bounds.{is_below}
use Rattle.driver_core.specs.Settings.{most_plans, entries}
use Rattle.driver_core.specs.Standing.{StandsFor}
use Rattle.driver_core.specs.States.{CoreState}
use Rattle.driver_core.specs.Turns.{Turn, turn_of, begins_at, offers, is_end_of, IsOn}
use Rattle.driver_core.proofs.OneMoreEvent.{kept_costs-push_other}
use Rattle.run_report.specs.Turns.{Offered, BegunTurn, candidate_of}
use Rattle.run_report.specs.Tells.{events_of, all_begun, AreOfTurns}
use Rattle.run_report.specs.Plans.{AreCheaper, ArePlans}
use Rattle.run_report.specs.Events.{AreInOrder}
use Rattle.run_report.specs.Runs.{IsUnderWay}
use Rattle.run_report.specs.Searches.{Run}
use Rattle.driver_run.specs.Searching.{turns_on, begun_with}
use Rattle.driver_run.proofs.Turning.{own_offer, the_turn, none_offered, offered_more, events_more}
use Rattle.run_report.proofs.OneMorePlan.{cheaper-push as cheaper_more}

pub take_none : (single : Bool) → ◌≡◌ {A = List ℕ} (take (most_plans single) []) []
take_none true = refl
take_none false = refl

-- nothing is kept as the turn begins
pub none_kept : (setting : Setting) (began : ℕ) → kept_costs setting (begins_at the_turn began ∷ []) ≡ []
none_kept setting began = take_none setting.single

pub in_order : (setting : Setting) (began : ℕ) (offered : List Offered) → setting.shares ≡ 1 ∷ [] → AreInOrder setting (begun_with began offered ∷ [])
in_order setting began offered one = rw one (refl, refl)

pub begun : (run : Run) (core : CoreState) (began : ℕ) → core.setting ≡ run.setting → run.setting.shares ≡ 1 ∷ [] → StandsFor core (begins_at the_turn began ∷ []) →
    IsUnderWay run core (turns_on began []) [] [] []
begun run core began same one stands = record {
  setting = same;
  stands = stands;
  lists = record { plans_are = refl; candidates_are = sym (none_offered began); ends_are = refl };
  costs = none_kept run.setting began;
  order = in_order run.setting began [] one;
  ended = tt;
  plans = record { plans = All-nil (λ (plan : Kept). IsPlanOf run.parts plan.ops plan.cost); cheaper = tt };
}

pub more_plans : (parts : Parts) (bound : Option ℕ) (kept : List Kept) (plan : Kept) → ArePlans parts bound kept → IsPlanOf parts plan.ops plan.cost →
    is_below (last_or bound (map (λ (other : Kept). other.cost) kept)) plan.cost ≡ true → ArePlans parts bound (kept ++ plan ∷ [])
more_plans parts bound kept plan are is below = record {
  plans = All-push (λ (p : Kept). IsPlanOf parts p.ops p.cost) kept plan are.plans is;
  cheaper = cheaper_more bound kept plan are.cheaper below;
}

abbrev pub own_plan : List ℕ → ℕ → Kept
own_plan ops cost = record { entry = 1; ops = ops; cost = cost }

-- one plan more is kept
pub kept_more : (run : Run) (core next : CoreState) (began : ℕ) (offered : List Offered) (kept : List Kept) (candidates : List Candidate) (ops : List ℕ) (cost : ℕ) →
    IsUnderWay run core (turns_on began offered) kept candidates [] → next.setting ≡ core.setting →
    IsInTurn next (events_of (turns_on began offered) ++ offers the_turn (Some cost) ∷ []) the_turn (kept ++ own_plan ops cost ∷ []) →
    IsPlanOf run.parts ops cost → is_below (bound_of run.setting (events_of (turns_on began offered))) cost ≡ true →
    IsUnderWay run next (turns_on began (offered ++ own_offer ops cost ∷ [])) (kept ++ own_plan ops cost ∷ []) (candidates ++ candidate_of the_turn (length kept) (own_offer ops cost) ∷ []) []
kept_more run core next began offered kept candidates ops cost is same turn plan below =
    let events = sym (events_more began offered (own_offer ops cost)) in
    let set = same ∙ is.setting in
    record {
      setting = set;
      stands = subst (StandsFor next) events turn.stands;
      lists = offered_more began offered kept candidates ops cost is.lists;
      costs = subst (λ (es : List Event). kept_costs run.setting es ≡ map (λ (plan : Kept). plan.cost) (kept ++ own_plan ops cost ∷ [])) events
          (subst (λ s. kept_costs s (events_of (turns_on began offered) ++ offers the_turn (Some cost) ∷ []) ≡ map (λ (plan : Kept). plan.cost) (kept ++ own_plan ops cost ∷ [])) set turn.costs);
      order = is.order;
      ended = tt;
      plans = more_plans run.parts run.setting.bound kept (own_plan ops cost) is.plans plan
          (subst (λ (costs : List ℕ). is_below (last_or run.setting.bound costs) cost ≡ true) is.costs below);
    }
