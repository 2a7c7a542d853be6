-- What a core holds, and how an event changes it. Callers need none of this: see `Standing`.
use Rattle.std.specs.Prelude.{ℕ, ◌+◌, ◌-◌, Bool, true, false, not, ◌&&◌, ◌||◌, ◌==◌, nat_lt, nat_le, if◌then◌else◌, List, [], ◌∷◌, length, replicate, slice_get, slice_set, count_by, Option, Some, None, unwrap_or, refl}
use Rattle.std.specs.Coded.{Coded, code_by, coded×, coded_ℕ, coded_bool, coded_option, coded_list}
use Rattle.std.specs.FinSet as set
use Rattle.std.specs.List.{list_any}
use Rattle.exit_codes.specs.declared.parts.Part.TheVariants.{OutOfTime as RanOut, PlanLimit}
use Rattle.exit_codes.specs.Sets.{CodeSet}
use Rattle.exit_codes.specs.Parts.{norm_of}
use Rattle.driver_core.specs.declared.events.Event.{Event}
use Rattle.driver_core.specs.declared.events.Event.TheVariants.{Began, Candidate, Ended, OutOfTime}
use Rattle.driver_core.specs.declared.events.Action.{Action}
use Rattle.driver_core.specs.declared.events.Action.TheVariants.{Go, Keep, Drop, Stop}
use Rattle.driver_core.specs.declared.settings.Setting.{Setting}
use Rattle.driver_core.specs.Settings.{most_plans}
use Rattle.lama_num.specs.Bounds.{is_below}
use Rattle.driver_core.specs.Running.{stop_or}
use Rattle.lama_num.specs.declared.names.TheConstants.{MOST_PLANS}

pub record CoreState : Type 0 where
  pub setting : Setting
  pub round : ℕ  -- the present round
  pub running : List Bool  -- of each entry, whether it runs in that round
  pub keepers : List Bool  -- and whether it kept a plan in it
  pub unended : ℕ  -- how many turns of that round haven't ended
  pub bound : Option ℕ  -- the present bound
  pub kept : ℕ  -- how many plans are kept
  pub last : Bool  -- whether a turn ended as the last
  pub out_of_time : Bool
  pub codes : CodeSet  -- those of the ends, and of having run out of time

abbrev setting_code : Coded Setting
setting_code =
    code_by (List ℕ × (ℕ × (Option ℕ × (Option ℕ × (Bool × Bool)))))
    (coded× (coded_list coded_ℕ) (coded× coded_ℕ (coded× (coded_option coded_ℕ) (coded× (coded_option coded_ℕ) (coded× coded_bool coded_bool)))))
    (λ s. (s.shares, (s.start, (s.limit, (s.bound, (s.single, s.rounds))))))
    (λ p. record { shares = p.0; start = p.1.0; limit = p.1.1.0; bound = p.1.1.1.0; single = p.1.1.1.1.0; rounds = p.1.1.1.1.1 })
    (λ _. refl)

abbrev rounds_code : Coded (ℕ × (List Bool × (List Bool × ℕ)))
rounds_code = coded× coded_ℕ (coded× (coded_list coded_bool) (coded× (coded_list coded_bool) coded_ℕ))

abbrev pub state_code : Coded CoreState
state_code =
    code_by (Setting × ((ℕ × (List Bool × (List Bool × ℕ))) × (Option ℕ × (ℕ × (Bool × (Bool × CodeSet))))))
    (coded× setting_code (coded× rounds_code (coded× (coded_option coded_ℕ) (coded× coded_ℕ (coded× coded_bool (coded× coded_bool (set.code coded_ℕ)))))))
    (λ s. (s.setting, ((s.round, (s.running, (s.keepers, s.unended))), (s.bound, (s.kept, (s.last, (s.out_of_time, s.codes)))))))
    (λ p. record {
      setting = p.0;
      round = p.1.0.0;
      running = p.1.0.1.0;
      keepers = p.1.0.1.1.0;
      unended = p.1.0.1.1.1;
      bound = p.1.1.0;
      kept = p.1.1.1.0;
      last = p.1.1.1.1.0;
      out_of_time = p.1.1.1.1.1.0;
      codes = p.1.1.1.1.1.1;
    })
    (λ _. refl)

abbrev pub is_marked : Bool → Bool
is_marked mark = mark

abbrev pub has_mark_of : List Bool → ℕ → Bool
has_mark_of marks entry = nat_le 1 entry && unwrap_or (slice_get marks (entry - 1)) false

-- another round follows the present one
abbrev pub has_next : CoreState → Bool
has_next core = core.setting.rounds && list_any is_marked core.keepers

abbrev pub is_at_end : CoreState → Bool
is_at_end core = (core.unended == 0) && not (has_next core)

abbrev pub is_done : CoreState → Bool
is_done core = core.out_of_time || (core.last || (nat_le (most_plans core.setting.single) core.kept || is_at_end core))

-- the codes of all parts, that of the limit on plans among them
abbrev pub all_codes : CoreState → CodeSet
all_codes core = if core.kept == MOST_PLANS then set.union core.codes (norm_of PlanLimit) else core.codes

abbrev pub accepts : CoreState → ℕ → Bool
accepts core cost = is_below core.bound cost && nat_lt core.kept (most_plans core.setting.single)

-- as a later round begins, its entries are those that kept a plan
abbrev pub next_round : CoreState → ℕ → CoreState
next_round core round =
    record core {
      round = round;
      running = core.keepers;
      keepers = replicate (length core.keepers) false;
      unended = count_by is_marked core.keepers;
    }

abbrev pub in_round : CoreState → ℕ → CoreState
in_round core round = if nat_lt core.round round then next_round core round else core

-- a plan of an entry is kept
abbrev pub with_plan : CoreState → ℕ → ℕ → CoreState
with_plan core entry cost = record core { bound = Some cost; kept = core.kept + 1; keepers = slice_set core.keepers (entry - 1) true }

abbrev pub after_plan : CoreState → ℕ → ℕ → CoreState
after_plan core entry cost = if accepts core cost then with_plan core entry cost else core

abbrev pub after_candidate : CoreState → ℕ → Option ℕ → CoreState
after_candidate core entry None = core
after_candidate core entry (Some cost) = after_plan core entry cost

-- what a core holds after an event
abbrev pub state_after : CoreState → Event → CoreState
state_after core (Began round entry moment) = in_round core round
state_after core (Candidate round entry cost) = after_candidate core entry cost
state_after core (Ended round entry part last) =
    record core { unended = core.unended - 1; last = core.last || last; codes = set.union core.codes (norm_of part) }
state_after core (OutOfTime moment) = record core { out_of_time = true; codes = set.union core.codes (norm_of RanOut) }

abbrev pub plan_answer : CoreState → ℕ → Action
plan_answer core cost = if accepts core cost then Keep core.kept else stop_or Drop (is_done core)

abbrev pub candidate_answer : CoreState → Option ℕ → Action
candidate_answer core None = stop_or Drop (is_done core)
candidate_answer core (Some cost) = plan_answer core cost

-- what a core answers to an event
abbrev pub answer_of : CoreState → Event → Action
answer_of core (Began round entry moment) = stop_or Go (is_done core)
answer_of core (Candidate round entry cost) = candidate_answer core cost
answer_of core (Ended round entry part last) = stop_or Go (is_done (state_after core (Ended round entry part last)))
answer_of core (OutOfTime moment) = Stop

-- the relative times of the marked entries together
abbrev pub marked_time : List ℕ → List Bool → ℕ
marked_time [] marks = 0
marked_time (time ∷ times) [] = 0
marked_time (time ∷ times) (mark ∷ marks) = (if mark then time else 0) + marked_time times marks

-- of each entry, whether it runs in a round, where that is the present one or the next
abbrev pub marks_in : CoreState → ℕ → Option (List Bool)
marks_in core round =
    if round == core.round then Some core.running
    else (if core.setting.rounds && (round == core.round + 1) then Some core.keepers else None)
