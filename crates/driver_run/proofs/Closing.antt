-- The search of the turn ends.
use Rattle.std.proofs.Common.{◌≡◌, ◌≢◌, ◌∙◌, sym, ap, subst, refl, ℕ, ◌+◌, ◌<◌, zero, suc, List, [], length, Bool, true, false, sum_by, nat_lt, if◌then◌else◌, Option, Some, None, IfSome, Result, Ok, Err, IfOk, arith, inl, inr}
use Rattle.sas_task.specs.declared.contents.Parts.{Parts}
use Rattle.sas_task.specs.declared.plans.Kept.{Kept}
use Rattle.driver_core.specs.Keeping.{bound_of, kept_costs}
use Rattle.driver_core.specs.Running.{is_over_after}
use Rattle.driver_core.specs.Settings.{most_plans}
use Rattle.std.proofs.lemmas.List.{length-map}
use Rattle.std.proofs.lemmas.Bool.Decides.{nat_tests}
use Rattle.driver_run.proofs.Turning.{over_full}
use Rattle.driver_run.proofs.Stepping.{at_phase}
use Rattle.iterated.specs.Following.{begun}
use Rattle.search_log.specs.Logs.{Content}
use Rattle.search_log.specs.Members.{Member}
use Rattle.iterated.specs.declared.ends.PhaseEnd.{PhaseEnd}
use Rattle.iterated.specs.declared.ends.PhaseEnd.TheVariants as ended
use Rattle.iterated.specs.Ends.{EndsFrom, no_log}
use Rattle.iterated.specs.Iterating.{Iterating}
use Rattle.run_report.specs.declared.report.Outcome.{Outcome}
use Rattle.run_report.specs.declared.report.Outcome.TheVariants.{Best, Unsolvable, Unsolved, Over, Limit, NoMemory}
use Rattle.run_report.specs.Tells.{events_of}
use Rattle.run_report.specs.Searches.{EndsBy, CountsPhases, search_of, past_pops, last_pops, HasNoPlan, HasNoCheaperPlan}
use Rattle.driver_run.specs.declared.progress.Progress.{Progress}
use Rattle.driver_run.specs.declared.progress.Stop.{Stop}
use Rattle.driver_run.specs.declared.progress.Trail.{Trail}
use Rattle.driver_run.specs.Searching.{run_by, turns_on, standing_at, CameTo, IsSearching, HasEnded, HasCounted}

-- with an outcome at which the search ends where it stands
pub ends_by : (parts : Parts) (phases : Iterating) (many : Bool) (progress : Progress) (trail more : Trail) (outcome : Outcome) → (is : IsSearching parts phases many progress trail) →
    more.began ≡ trail.began → more.past.items ≡ trail.past.items →
    EndsBy (search_of (run_by parts phases.config progress.core.setting) 1) (standing_at (run_by parts phases.config progress.core.setting) phases progress trail is.offered is.found) outcome →
    CountsPhases outcome (length trail.past.items) more.phases → more.pops ≡ sum_by past_pops trail.past.items + last_pops outcome →
    HasEnded (run_by parts phases.config progress.core.setting) progress more outcome
ends_by parts phases many progress trail more outcome is began past ends counts pops = record {
  offered = is.offered;
  to = standing_at (run_by parts phases.config progress.core.setting) phases progress trail is.offered is.found;
  under_way = rw began is.under_way;
  came = record { own = is.came.own; went = rw past is.came.went };
  ends = ends;
  phases = rw past counts;
  pops = rw past pops;
}

-- no phase is next
pub over_next : (parts : Parts) (phases : Iterating) (next bound : Option ℕ) → EndsFrom parts phases.config bound None (begun next bound) ended.Over → next ≡ None
over_next parts phases None bound is = refl
over_next parts phases (Some place) None is = absurd is.concludes
over_next parts phases (Some place) (Some zero) is = cc
over_next parts phases (Some place) (Some (suc n)) is = absurd is.concludes

-- one phase more was counted
pub counted_pops : (parts : Parts) (phases : Iterating) (many : Bool) (progress : Progress) (trail more : Trail) (log : Content) → IsSearching parts phases many progress trail → HasCounted trail more log →
    more.pops ≡ sum_by past_pops trail.past.items + length log.pops
counted_pops parts phases many progress trail more log is counted = counted.pops ∙ ap (λ n. n + length log.pops) is.pops_are

pub counted_phases : (parts : Parts) (phases : Iterating) (many : Bool) (progress : Progress) (trail more : Trail) (log : Content) → IsSearching parts phases many progress trail → HasCounted trail more log →
    more.phases ≡ length trail.past.items + 1
counted_phases parts phases many progress trail more log is counted = counted.phases ∙ ap (λ n. n + 1) is.phases_are

-- the ends of a phase, by the bound that the core says
pub ends_at : (parts : Parts) (phases : Iterating) (bound present : Option ℕ) (end : PhaseEnd) → bound ≡ present → EndsFrom parts phases.config bound None (begun phases.next bound) end →
    EndsFrom parts phases.config present None (begun phases.next present) end
ends_at parts phases bound present end same is = subst (λ b. EndsFrom parts phases.config b None (begun phases.next b) end) same is

pub best_phases : (bound past phases more : ℕ) → phases ≡ past → (0 < bound → more ≡ phases + 1) → (bound ≡ 0 → more ≡ phases) → more ≡ past + (if nat_lt 0 bound then 1 else 0)
best_phases zero past phases more is some none = none refl ∙ is ∙ alone past
  where
    alone : (n : ℕ) → n ≡ n + 0
    alone n = omega arith
best_phases (suc n) past phases more is some none =
    let below : nat_lt 0 (suc n) ≡ true = grind (arith, nat_tests) in
    rw below (some (omega arith) ∙ ap (λ m. m + 1) is)

-- as many plans are kept as a run keeps
pub full_count : (parts : Parts) (phases : Iterating) (many : Bool) (progress : Progress) (trail : Trail) → (is : IsSearching parts phases many progress trail) →
    is_over_after progress.core.setting (events_of (turns_on trail.began is.offered)) ≡ true → length progress.kept.items ≡ 9999
full_count parts phases many progress trail is over =
    sym (length-map progress.kept.items (λ (plan : Kept). plan.cost)) ∙ ap length (sym is.under_way.costs) ∙ over_full progress.core.setting trail.began is.offered is.single_run over

pub over_ended : (parts : Parts) (phases : Iterating) (many : Bool) (progress : Progress) (trail : Trail) → (is : IsSearching parts phases many progress trail) →
    is_over_after progress.core.setting (events_of (turns_on trail.began is.offered)) ≡ true → HasEnded (run_by parts phases.config progress.core.setting) progress trail Over
over_ended parts phases many progress trail is over =
    let count = full_count parts phases many progress trail is over in
    ends_by parts phases many progress trail trail Over is refl refl (is.full count, inr (count ∙ ap most_plans (sym is.single_run))) is.phases_are (is.pops_are ∙ alone (sum_by past_pops trail.past.items))
  where
    alone : (n : ℕ) → n ≡ n + 0
    alone n = omega arith

-- no plan exists
pub unsolvable_ended : (parts : Parts) (phases : Iterating) (many : Bool) (progress : Progress) (trail more : Trail) (space : List Member) (log : Content) (bound : Option ℕ) → (is : IsSearching parts phases many progress trail) →
    bound ≡ bound_of progress.core.setting (events_of (turns_on trail.began is.offered)) → EndsFrom parts phases.config bound None (begun phases.next bound) (ended.Unsolvable space log) → HasNoPlan parts → HasCounted trail more log →
    HasEnded (run_by parts phases.config progress.core.setting) progress more (Unsolvable space log)
unsolvable_ended parts phases many progress trail more space log bound is present ends none counted =
    ends_by parts phases many progress trail more (Unsolvable space log) is counted.began counted.past
    (sym present ∙ no_bound bound ends, ends_at parts phases bound _ (ended.Unsolvable space log) present ends, none)
    (counted_phases parts phases many progress trail more log is counted) (counted_pops parts phases many progress trail more log is counted)
  where
    no_bound : (b : Option ℕ) → EndsFrom parts phases.config b None (begun phases.next b) (ended.Unsolvable space log) → b ≡ None
    no_bound b is_end = let at = at_phase parts phases.config phases.next b (ended.Unsolvable space log) is_end (λ e. cc) (λ e. cc) in at.ends.searched.holds.2

-- no plan is cheaper than the bound
pub best_ended : (parts : Parts) (phases : Iterating) (many : Bool) (progress : Progress) (trail more : Trail) (space : List Member) (least : ℕ) (log : Content) (bound : Option ℕ) → (is : IsSearching parts phases many progress trail) →
    bound ≡ bound_of progress.core.setting (events_of (turns_on trail.began is.offered)) → bound ≡ Some least → EndsFrom parts phases.config bound None (begun phases.next bound) (ended.Best space log) →
    ((n : ℕ) → bound ≡ Some n → HasNoCheaperPlan parts n) → (0 < least → HasCounted trail more log) → (least ≡ 0 → more ≡ trail) →
    HasEnded (run_by parts phases.config progress.core.setting) progress more (Best space least log)
best_ended parts phases many progress trail more space zero log bound is present some ends cheaper counted none =
    let same = none refl in
    let empty : length log.pops ≡ 0 = no_pops bound some ends in
    rw same (ends_by parts phases many progress trail trail (Best space zero log) is refl refl
    (sym present ∙ some, ends_at parts phases bound _ (ended.Best space log) present ends, cheaper zero some)
    (is.phases_are ∙ alone (length trail.past.items)) (is.pops_are ∙ alone (sum_by past_pops trail.past.items) ∙ ap (λ n. sum_by past_pops trail.past.items + n) (sym empty)))
  where
    alone : (n : ℕ) → n ≡ n + 0
    alone n = omega arith

    at_none : (next : Option ℕ) → EndsFrom parts phases.config (Some zero) None (begun next (Some zero)) (ended.Best space log) → length log.pops ≡ 0
    at_none None is_end = cc
    at_none (Some place) is_end = let e : ended.Best space log ≡ ended.Best [] no_log = is_end in let l : log ≡ no_log = cc in ap (λ (c : Content). length c.pops) l

    no_pops : (b : Option ℕ) → b ≡ Some zero → EndsFrom parts phases.config b None (begun phases.next b) (ended.Best space log) → length log.pops ≡ 0
    no_pops b is_zero is_end = at_none phases.next (rw is_zero at is_end)
best_ended parts phases many progress trail more space (suc n) log bound is present some ends cheaper counted none =
    let has = counted (omega arith) in
    ends_by parts phases many progress trail more (Best space (suc n) log) is has.began has.past
    (sym present ∙ some, ends_at parts phases bound _ (ended.Best space log) present ends, cheaper (suc n) some)
    (best_phases (suc n) (length trail.past.items) trail.phases more.phases is.phases_are (λ below. has.phases) (λ zero_is. let k : suc n ≡ 0 = zero_is in absurd (omega (arith, k))))
    (counted_pops parts phases many progress trail more log is has)

-- that is left open by the last phase
pub unsolved_ended : (parts : Parts) (phases : Iterating) (many : Bool) (progress : Progress) (trail more : Trail) (space : List Member) (least : ℕ) (log : Content) (bound : Option ℕ) → (is : IsSearching parts phases many progress trail) →
    bound ≡ bound_of progress.core.setting (events_of (turns_on trail.began is.offered)) → bound ≡ Some least → EndsFrom parts phases.config bound None (begun phases.next bound) (ended.Unsolved space log true) → HasCounted trail more log →
    HasEnded (run_by parts phases.config progress.core.setting) progress more (Unsolved space least log)
unsolved_ended parts phases many progress trail more space least log bound is present some ends counted =
    ends_by parts phases many progress trail more (Unsolved space least log) is counted.began counted.past
    (sym present ∙ some, ends_at parts phases bound _ (ended.Unsolved space log true) present ends)
    (counted_phases parts phases many progress trail more log is counted) (counted_pops parts phases many progress trail more log is counted)

-- there is room for a plan more
pub room_left : (parts : Parts) (phases : Iterating) (many : Bool) (progress : Progress) (trail : Trail) → (is : IsSearching parts phases many progress trail) →
    length (kept_costs progress.core.setting (events_of (turns_on trail.began is.offered))) < most_plans progress.core.setting.single → length progress.kept.items ≡ 9999 → ⊥
room_left parts phases many progress trail is room full =
    by_single progress.core.setting.single (length (kept_costs progress.core.setting (events_of (turns_on trail.began is.offered)))) is.single_run room
    (ap length is.under_way.costs ∙ length-map progress.kept.items (λ (plan : Kept). plan.cost) ∙ full)
  where
    by_single : (single : Bool) (n : ℕ) → single ≡ false → n < most_plans single → n ≡ 9999 → ⊥
    by_single true n many_ less most = let k : true ≡ false = many_ in cc
    by_single false n many_ less most = omega (arith, less, most)

-- what a phase without a plan came to, by whether it was the last

pub space_goes : {C P : Type 0} (last : Bool) (result : Result (Option Outcome) Stop) (outcome : Outcome) → (last ≡ true → (result ≡ Ok (Some outcome)) × C) → (last ≡ false → IfOk result (λ o. (o ≡ None) × P)) →
    result ≡ Ok None → (last ≡ false) × P
space_goes true result outcome final passed so = let k = sym (final refl).0 ∙ so in cc
space_goes false result outcome final passed so = let p = rw so at (passed refl) in (refl, p.1)

pub space_ends : {C : Type 0} (P : Type 0) (H : Outcome → Type 0) (last : Bool) (result : Result (Option Outcome) Stop) (outcome : Outcome) → (last ≡ true → (result ≡ Ok (Some outcome)) × C) → (last ≡ false → IfOk result (λ o. (o ≡ None) × P)) →
    (last ≡ true → C → H outcome) → IfOk result (λ o. IfSome o H)
space_ends P H true result outcome final passed so = let f = final refl in rw f.0 (so refl f.1)
space_ends P H false (Ok None) outcome final passed so = tt
space_ends P H false (Ok (Some o)) outcome final passed so = let p = passed refl in let k = p.0 in cc
space_ends P H false (Err stop) outcome final passed so = tt
