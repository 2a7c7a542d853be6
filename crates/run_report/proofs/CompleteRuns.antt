-- A run of one entry, without a bound, that had room and memory.
use Rattle.std.proofs.Common.{if◌then◌else◌, ◌+◌, nat_eq, unwrap_or, ◌≡◌, ◌≢◌, ◌∙◌, sym, ap, subst, refl, ℕ, zero, suc, ◌<◌, ◌≤◌, nat_lt, Bool, true, false, List, [], ◌∷◌, ◌++◌, length, map, take, slice_get, All, arith, inl, inr, ◌⊎◌, Option, Some, None}
use Rattle.std.specs.List.{range_with_len, last_or, list_any, filter}
use Rattle.std.proofs.lemmas.List.{append-nil}
use Rattle.sas_task.specs.declared.contents.Parts.{Parts}
use Rattle.sas_task.specs.declared.plans.Kept.{Kept}
use Rattle.sas_task.specs.Runs.{IsPlan, IsPlanOf}
use Rattle.conf_text.specs.declared.config.Phase.{Phase}
use Rattle.exit_codes.specs.declared.parts.Part.{Part}
use Rattle.exit_codes.specs.declared.parts.Part.TheVariants as part
use Rattle.std.specs.FinSet as set
use Rattle.std.specs.FinSet.{contains-from_list_nat}
use Rattle.std.proofs.lemmas.List.Elements.{All-head}
use Rattle.std.proofs.lemmas.Bool.Decides.{Decides-ltb}
use Rattle.exit_codes.specs.Parts.{codes_of, part_codes}
use Rattle.exit_codes.proofs.PartLaws.{contains-codes_of}
use Rattle.exit_codes.specs.Combined.{combine_of, codes_between, single_critical, code_of_limits}
use Rattle.driver_core.specs.declared.settings.Setting.{Setting}
use Rattle.driver_core.specs.Settings.{most_plans}
use Rattle.driver_core.specs.Keeping.{bound_of}
use Rattle.driver_core.specs.Running.{is_over_after}
use Rattle.search_log.specs.declared.setting.LimitHit.{LimitHit}
use Rattle.search_log.specs.declared.setting.LimitHit.TheVariants.{Time, Pops, States}
use Rattle.search_log.specs.Ends.{EndsAtLimit}
use Rattle.search_log.specs.Logs.{Content}
use Rattle.search_log.specs.Places.{Past as Before, past_of}
use Rattle.search_log.specs.Rooms.{room, assignments}
use Rattle.iterated.specs.Following.{begun}
use Rattle.iterated.specs.declared.ends.PhaseEnd.TheVariants as ended
use Rattle.iterated.specs.Searches.{search_phase}
use Rattle.iterated.specs.Ends.{EndsFrom, PhaseEnds}
use Rattle.run_report.specs.declared.report.EntryEnd.{EntryEnd}
use Rattle.run_report.specs.declared.report.Past.{Past}
use Rattle.run_report.specs.declared.report.Past.TheVariants as item
use Rattle.run_report.specs.declared.report.Outcome.{Outcome}
use Rattle.run_report.specs.declared.report.Outcome.TheVariants.{Best, Unsolvable, Unsolved, Over, Limit, NoMemory}
use Rattle.run_report.specs.declared.report.Report.{Report}
use Rattle.run_report.specs.declared.report.Why.{Why}
use Rattle.run_report.specs.declared.report.Why.TheVariants as why
use Rattle.run_report.specs.Turns.{BegunTurn, ToldTurn, begun_of, part_of, plans_in, plans_of, ends_of, EachTurn}
use Rattle.run_report.specs.Tells.{Turns, events_of, all_begun, present_of}
use Rattle.run_report.specs.Plans.{ArePlans}
use Rattle.run_report.specs.Clocks.{has_memory}
use Rattle.run_report.specs.Complete.{HasRoom, IsComplete}
use Rattle.run_report.specs.Events.{AreInOrder, IsRunToEnd, code_of}
use Rattle.run_report.specs.Searches.{Run, Search, Standing, Went, EndsBy, EndsAs, HadRoom, HasNoPlan, search_of, standing_after}
use Rattle.run_report.specs.Runs.{TellsRun}

-- a limit that is hit had room, but no more than the phase may use
no_room : (parts : Parts) (phase : Phase) (past : Before) (hit : LimitHit) → EndsAtLimit (search_phase parts phase None None) past hit → HadRoom (search_phase parts phase None None) hit →
    phase.reopen ≡ false → room (search_phase parts phase None None) ≤ phase.most_pops → assignments parts.variables ≤ phase.most_states → ⊥
no_room parts phase past (Time start limit moment) at had once pops states = let k = at.stop in cc
no_room parts phase past (Pops n) at had once pops states = above n phase.most_pops (room (search_phase parts phase None None)) at.0 (had once) pops
  where
    above : (n most all : ℕ) → n ≡ most → n < all → all ≤ most → ⊥
    above n most all is low high = omega (arith, is, low, high)
no_room parts phase past (States n) at had once pops states = above n phase.most_states (assignments parts.variables) at.0 had states
  where
    above : (n most all : ℕ) → n ≡ most → n < all → all ≤ most → ⊥
    above n most all is low high = omega (arith, is, low, high)

same_some : {A : Type 0} (x y : A) → Some x ≡ Some y → x ≡ y
same_some x y is = cc

none_some : {A : Type 0} (x : A) → None ≡ Some x → ⊥
none_some x is = cc

false_true : false ≡ true → ⊥
false_true is = cc

abbrev has_room : Search → Type 0
has_room entry = HasRoom entry.parts entry.config

-- no limit ends the first phase
no_limit_in : (entry : Search) (first : Phase) (hit : LimitHit) (log : Content) → has_room entry → slice_get entry.config.phases 0 ≡ Some first → HadRoom (search_phase entry.parts first None None) hit →
    PhaseEnds entry.parts entry.config 0 None None (ended.Limit hit log) → ⊥
no_limit_in entry first hit log space at had ends =
    let one : first ≡ space.phase = same_some first space.phase (sym at ∙ space.first) in
    let same : ends.phase ≡ space.phase = same_some ends.phase space.phase (sym ends.at ∙ space.first) in
    let asked = search_phase entry.parts space.phase None None in
    no_room entry.parts space.phase (past_of asked log.visits log.pops) hit
    (subst (λ (p : Phase). EndsAtLimit (search_phase entry.parts p None None) (past_of (search_phase entry.parts p None None) log.visits log.pops) hit) same ends.searched.holds.1)
    (subst (λ (p : Phase). HadRoom (search_phase entry.parts p None None) hit) one had) space.once space.pops space.states

no_limit_by : (entry : Search) (next bound : Option ℕ) (place : ℕ) (first : Phase) (hit : LimitHit) (log : Content) → has_room entry → next ≡ Some 0 → bound ≡ None → next ≡ Some place →
    slice_get entry.config.phases place ≡ Some first → HadRoom (search_phase entry.parts first bound None) hit →
    EndsFrom entry.parts entry.config bound None (begun next bound) (ended.Limit hit log) → ⊥
no_limit_by entry next bound place first hit log space zero_is none place_is at had ends =
    let zeroth : place ≡ 0 = same_some place 0 (sym place_is ∙ zero_is) in
    no_limit_in entry first hit log space (subst (λ (n : ℕ). slice_get entry.config.phases n ≡ Some first) zeroth at)
    (subst (λ (b : Option ℕ). HadRoom (search_phase entry.parts first b None) hit) none had)
    (subst (λ (n : Option ℕ). EndsFrom entry.parts entry.config None None (begun n None) (ended.Limit hit log)) zero_is
    (subst (λ (b : Option ℕ). EndsFrom entry.parts entry.config b None (begun next b) (ended.Limit hit log)) none ends))

-- Without a plan and a bound the search is where it began,
stayed : (entry : Search) (at : Standing) (past : List Past) (to : Standing) → at.bound ≡ None → Went entry at past [] to → at ≡ to
stayed entry at [] to none went = went
stayed entry at (item.Plan index log ∷ past) to none went = absurd went
stayed entry at (item.Unsolved space bound log ∷ past) to none went = absurd (none_some bound (sym none ∙ went.0))

-- and shows that no plan exists.
refuted : (entry : Search) (at : Standing) (outcome : Outcome) → at.bound ≡ None → at.found ≡ false → at.next ≡ Some 0 → has_room entry → has_memory outcome ≡ true → EndsBy entry at outcome →
    (part_of outcome ≡ part.Unsolvable) × HasNoPlan entry.parts
refuted entry at (Best space bound log) none unfound first fits memory ends = absurd (none_some bound (sym none ∙ ends.0))
refuted entry at (Unsolvable space log) none unfound first fits memory ends = (refl, ends.2)
refuted entry at (Unsolved space bound log) none unfound first fits memory ends = absurd (none_some bound (sym none ∙ ends.0))
refuted entry at Over none unfound first fits memory ends = absurd (false_true (sym unfound ∙ ends.0))
refuted entry at (Limit hit log) none unfound first fits memory ends =
    absurd (no_limit_by entry at.next at.bound ends.place ends.phase hit log fits first none ends.next ends.at_place ends.had_room ends.ends)
refuted entry at NoMemory none unfound first fits memory ends = absurd (false_true memory)

-- the one turn
pub taken : (n x : ℕ) → x ∷ [] ≡ take n (1 ∷ []) → x ≡ 1
taken zero x is = let k : x ∷ [] ≡ [] = is in cc
taken (suc zero) x is = let k : x ∷ [] ≡ 1 ∷ [] = is in cc
taken (suc (suc n)) x is = let k : x ∷ [] ≡ 1 ∷ [] = is in cc

not_two : (n x y : ℕ) (more : List ℕ) → x ∷ (y ∷ more) ≡ take n (1 ∷ []) → ⊥
not_two zero x y more is = let k : x ∷ (y ∷ more) ≡ [] = is in cc
not_two (suc zero) x y more is = let k : x ∷ (y ∷ more) ≡ 1 ∷ [] = is in cc
not_two (suc (suc n)) x y more is = let k : x ∷ (y ∷ more) ≡ 1 ∷ [] = is in cc

abbrev IsOne : List ToldTurn → Type 0
IsOne turns = (turn : ToldTurn) × (turns ≡ turn ∷ []) × (turn.end.entry ≡ 1)

one_turn : (shares : ℕ) (turns : List ToldTurn) → shares ≡ 1 →
    map (λ (turn : BegunTurn). turn.turn.entry) (map begun_of turns ++ []) ≡ take (length (map begun_of turns ++ [])) (range_with_len 1 shares) → (turns ≡ []) ⊎ IsOne turns
one_turn shares [] one order = inl refl
one_turn shares (turn ∷ []) one order = inr (turn, refl, taken (length (map begun_of (turn ∷ []) ++ [])) turn.end.entry (subst (λ n. turn.end.entry ∷ [] ≡ take (length (map begun_of (turn ∷ []) ++ [])) (range_with_len 1 n)) one order))
one_turn shares (turn ∷ (other ∷ turns)) one order =
    absurd (not_two (length (map begun_of (turn ∷ (other ∷ turns)) ++ [])) turn.end.entry other.end.entry (map (λ (t : BegunTurn). t.turn.entry) (map begun_of turns ++ []))
    (subst (λ n. turn.end.entry ∷ (other.end.entry ∷ map (λ (t : BegunTurn). t.turn.entry) (map begun_of turns ++ [])) ≡ take (length (map begun_of (turn ∷ (other ∷ turns)) ++ [])) (range_with_len 1 n)) one order))

not_over : (setting : Setting) → setting.single ≡ false → is_over_after setting [] ≡ false
not_over setting many = none setting.single many
  where
    none : (single : Bool) → single ≡ false → is_over_after (record { shares = setting.shares; start = setting.start; limit = setting.limit; bound = setting.bound; single = single; rounds = setting.rounds }) [] ≡ false
    none false is = refl
    none true is = absurd (false_true (sym is))

none_full : ◌≡◌ {A = ℕ} 0 9999 → ⊥
none_full e = omega (arith, e)

-- a run with no turn doesn't come to its end
no_run : (run : Run) (report : Report) (turns : Turns) → run.setting.single ≡ false → turns.ended ≡ [] → turns.present ≡ None → (w : Why) → report.why ≡ w → IsRunToEnd w → TellsRun run report turns → ⊥
no_run run report turns many none off why.Finished is end tells =
    let events : events_of turns ≡ [] = ap (λ (ts : List ToldTurn). events_of (record { ended = ts; present = turns.present })) none ∙ ap (λ (p : Option BegunTurn). events_of (record { ended = []; present = p })) off in
    false_true (sym (ap (is_over_after run.setting) events ∙ not_over run.setting many) ∙ tells.events.over is)
no_run run report turns many none off why.PlanLimit is end tells =
    let begun : all_begun turns ≡ [] = ap (λ (ts : List ToldTurn). all_begun (record { ended = ts; present = turns.present })) none ∙ ap (λ (p : Option BegunTurn). all_begun (record { ended = []; present = p })) off in
    none_full (sym (ap length (tells.lists.plans_are ∙ ap plans_of begun)) ∙ tells.events.full is)
no_run run report turns many none off (why.Words fault) is end tells = end
no_run run report turns many none off (why.Config bad) is end tells = end
no_run run report turns many none off (why.NoFile input) is end tells = end
no_run run report turns many none off (why.Task fault) is end tells = end
no_run run report turns many none off why.Fault is end tells = end

no_fault : (w : Why) → IsRunToEnd w → w ≢ why.Fault
no_fault w end is = subst IsRunToEnd is end

-- its codes
abbrev has_code : List Part → ℕ → Bool
has_code parts code = list_any (λ p. list_any (λ y. nat_eq y code) (part_codes p)) parts

held : (parts : List Part) (code : ℕ) → set.contains (codes_of parts) code ≡ has_code parts code
held parts code = contains-codes_of parts code ∙ (λ i. list_any (λ p. contains-from_list_nat (part_codes p) code i) parts)

abbrev by_codes : (ℕ → Bool) → Bool → ℕ
by_codes f kept =
    unwrap_or (single_critical (filter f (range_with_len 30 10)))
    (if kept then (if f 22 then 1 else 0) + (if f 23 then 2 else 0) else (if f 11 then 11 else (if f 12 then 12 else code_of_limits (f 22) (f 23))))

combined : (parts : List Part) (kept : Bool) → combine_of (codes_of parts) kept ≡ by_codes (has_code parts) kept
unfolding codes_between
combined parts kept = λ i. by_codes (λ code. held parts code i) kept

code_with : (limits : Bool) (outcome : Outcome) → has_memory outcome ≡ true →
    (combine_of (codes_of (part_of outcome ∷ (if limits then part.PlanLimit ∷ [] else []))) true ≡ 0) ⊎ (combine_of (codes_of (part_of outcome ∷ (if limits then part.PlanLimit ∷ [] else []))) true ≡ 2)
code_with false (Best space bound log) memory = inl (combined (part.Exhausted ∷ ([])) true)
code_with false (Unsolvable space log) memory = inl (combined (part.Unsolvable ∷ ([])) true)
code_with false (Unsolved space bound log) memory = inl (combined (part.Exhausted ∷ ([])) true)
code_with false Over memory = inl (combined (part.Over ∷ ([])) true)
code_with false (Limit hit log) memory = inr (combined (part.Limit ∷ ([])) true)
code_with false NoMemory memory = absurd (false_true memory)
code_with true (Best space bound log) memory = inr (combined (part.Exhausted ∷ (part.PlanLimit ∷ [])) true)
code_with true (Unsolvable space log) memory = inr (combined (part.Unsolvable ∷ (part.PlanLimit ∷ [])) true)
code_with true (Unsolved space bound log) memory = inr (combined (part.Exhausted ∷ (part.PlanLimit ∷ [])) true)
code_with true Over memory = inr (combined (part.Over ∷ (part.PlanLimit ∷ [])) true)
code_with true (Limit hit log) memory = inr (combined (part.Limit ∷ (part.PlanLimit ∷ [])) true)
code_with true NoMemory memory = absurd (false_true memory)

abbrev IsGood : ℕ → Type 0
IsGood code = (code ≡ 0) ⊎ (code ≡ 2)

code_of_kept : (w : Why) (kept : List Kept) (end : EntryEnd) → IsRunToEnd w → nat_lt 0 (length kept) ≡ true → has_memory end.outcome ≡ true → IsGood (code_of w kept (end ∷ []))
code_of_kept why.Finished kept end to some memory = subst (λ (b : Bool). IsGood (combine_of (codes_of (part_of end.outcome ∷ [])) b)) (sym some) (code_with false end.outcome memory)
code_of_kept why.PlanLimit kept end to some memory = subst (λ (b : Bool). IsGood (combine_of (codes_of (part_of end.outcome ∷ (part.PlanLimit ∷ []))) b)) (sym some) (code_with true end.outcome memory)
code_of_kept (why.Words fault) kept end to some memory = absurd to
code_of_kept (why.Config bad) kept end to some memory = absurd to
code_of_kept (why.NoFile input) kept end to some memory = absurd to
code_of_kept (why.Task fault) kept end to some memory = absurd to
code_of_kept why.Fault kept end to some memory = absurd to

code_of_none : (w : Why) (end : EntryEnd) → IsRunToEnd w → (w ≡ why.PlanLimit → ◌≡◌ {A = ℕ} 0 9999) → part_of end.outcome ≡ part.Unsolvable → code_of w [] (end ∷ []) ≡ 11
code_of_none why.Finished end to full is = ap (λ (p : Part). combine_of (codes_of (p ∷ [])) false) is ∙ combined (part.Unsolvable ∷ []) false
code_of_none why.PlanLimit end to full is = absurd (none_full (full refl))
code_of_none (why.Words fault) end to full is = absurd to
code_of_none (why.Config bad) end to full is = absurd to
code_of_none (why.NoFile input) end to full is = absurd to
code_of_none (why.Task fault) end to full is = absurd to
code_of_none why.Fault end to full is = absurd to

first_memory : (ends : List EntryEnd) (end : EntryEnd) → ends ≡ end ∷ [] → All (λ (e : EntryEnd). has_memory e.outcome ≡ true) ends → has_memory end.outcome ≡ true
first_memory ends end is memory = All-head (λ (e : EntryEnd). has_memory e.outcome ≡ true) end [] (subst (All (λ (e : EntryEnd). has_memory e.outcome ≡ true)) is memory)

-- what a run of one turn shows, where it kept nothing
nothing_kept : (run : Run) (turn : ToldTurn) → turn.end.entry ≡ 1 → run.setting.bound ≡ None → run.setting.single ≡ false → HasRoom run.parts (run.config_of 1) → has_memory turn.end.outcome ≡ true →
    EndsAs run [] turn → plans_in (begun_of turn) ≡ [] → (part_of turn.end.outcome ≡ part.Unsolvable) × HasNoPlan run.parts
nothing_kept run turn first unbound many fits memory ends none =
    let entry = search_of run turn.end.entry in
    let from = standing_after run.setting [] in
    let bound : from.bound ≡ None = no_bound run.setting unbound many in
    let there : from ≡ ends.to = stayed entry from turn.end.past ends.to bound (subst (λ (plans : List Kept). Went entry from turn.end.past plans ends.to) none ends.went) in
    refuted entry from turn.end.outcome bound refl refl (subst (λ (n : ℕ). HasRoom run.parts (run.config_of n)) (sym first) fits) memory
    (subst (λ (at : Standing). EndsBy entry at turn.end.outcome) (sym there) ends.ends)
  where
    none_taken : (single : Bool) → ◌≡◌ {A = List ℕ} (take (most_plans single) []) []
    none_taken true = refl
    none_taken false = refl

    no_bound : (setting : Setting) → setting.bound ≡ None → setting.single ≡ false → bound_of setting [] ≡ None
    no_bound setting is many = ap (λ (costs : List ℕ). last_or setting.bound costs) (none_taken setting.single) ∙ is

-- The run's one turn, and what stands in the report of it.
record OneTurn (run : Run) (report : Report) : Type 0 where
  turn : ToldTurn
  entry : turn.end.entry ≡ 1
  kept : report.kept ≡ plans_in (begun_of turn)
  ends : report.ends ≡ turn.end ∷ []
  by : EndsAs run [] turn

with_one : (run : Run) (report : Report) (turns : Turns) (turn : ToldTurn) → turns.ended ≡ turn ∷ [] → turns.present ≡ None → turn.end.entry ≡ 1 → TellsRun run report turns → OneTurn run report
with_one run report turns turn is off first tells =
    let begun : all_begun turns ≡ begun_of turn ∷ [] =
    ap (λ (ts : List ToldTurn). all_begun (record { ended = ts; present = turns.present })) is ∙ ap (λ (p : Option BegunTurn). all_begun (record { ended = turn ∷ []; present = p })) off in
    let each : EachTurn (EndsAs run) [] (turn ∷ []) = subst (EachTurn (EndsAs run) []) is tells.ends in
    record {
      turn = turn;
      entry = first;
      kept = tells.lists.plans_are ∙ (ap plans_of begun ∙ append-nil (plans_in (begun_of turn)));
      ends = tells.lists.ends_are ∙ ap ends_of is;
      by = each.0;
    }

one_of : (run : Run) (report : Report) (turns : Turns) → length run.setting.shares ≡ 1 → run.setting.single ≡ false → IsRunToEnd report.why → TellsRun run report turns → OneTurn run report
one_of run report turns one many end tells =
    let off : turns.present ≡ None = tells.events.ended (no_fault report.why end) in
    let order = subst (λ (p : Option BegunTurn). AreInOrder run.setting (map begun_of turns.ended ++ present_of p)) off tells.events.order in
    elim (one_turn (length run.setting.shares) turns.ended one order.0) [
      | inl none ↦ absurd (no_run run report turns many none off report.why refl end tells)
      | inr some ↦ with_one run report turns some.0 some.1 off some.2 tells
    ]

above_zero : (plan : Kept) (kept : List Kept) → nat_lt 0 (length (plan ∷ kept)) ≡ true
above_zero plan kept = (Decides-ltb 0 (length (plan ∷ kept))).1 (omega arith)

not_none : (kept : List Kept) → (nat_lt 0 (length kept) ≡ true) ⊎ (kept ≡ [])
not_none [] = inr refl
not_none (plan ∷ kept) = inl (above_zero plan kept)

never_empty : (kept : List Kept) → nat_lt 0 (length kept) ≡ true → kept ≢ []
never_empty [] some is = false_true some
never_empty (plan ∷ kept) some is = let k : plan ∷ kept ≡ [] = is in cc

found : (run : Run) (report : Report) → run.setting.bound ≡ None → run.setting.single ≡ false → IsRunToEnd report.why → HasRoom run.parts (run.config_of 1) →
    All (λ (e : EntryEnd). has_memory e.outcome ≡ true) report.ends → report.code ≡ code_of report.why report.kept report.ends → (ops : List ℕ) → IsPlan run.parts ops → OneTurn run report →
    (report.kept ≢ []) × IsGood report.code
found run report unbound many end fits memory code ops plan one =
    let fine = first_memory report.ends one.turn.end one.ends memory in
    elim (not_none report.kept) [
      | inl some ↦ (
        never_empty report.kept some,
        subst IsGood (sym (code ∙ ap (λ (es : List EntryEnd). code_of report.why report.kept es) one.ends)) (code_of_kept report.why report.kept one.turn.end end some fine),
      )
      | inr none ↦ absurd ((nothing_kept run one.turn one.entry unbound many fits fine one.by (sym one.kept ∙ none)).1 ops plan)
    ]

none_of : (run : Run) (kept : List Kept) → ArePlans run.parts run.setting.bound kept → HasNoPlan run.parts → kept ≡ []
none_of run [] plans none = refl
none_of run (plan ∷ kept) plans none = absurd (none plan.ops (All-head (λ (p : Kept). IsPlanOf run.parts p.ops p.cost) plan kept plans.plans).plan)

unfound : (run : Run) (report : Report) (turns : Turns) → run.setting.bound ≡ None → run.setting.single ≡ false → IsRunToEnd report.why → HasRoom run.parts (run.config_of 1) →
    All (λ (e : EntryEnd). has_memory e.outcome ≡ true) report.ends → HasNoPlan run.parts → TellsRun run report turns → OneTurn run report → report.code ≡ 11
unfound run report turns unbound many end fits memory unsolvable tells one =
    let fine = first_memory report.ends one.turn.end one.ends memory in
    let none : report.kept ≡ [] = none_of run report.kept tells.plans unsolvable in
    tells.events.code
    ∙ (ap (λ (es : List EntryEnd). code_of report.why report.kept es) one.ends
    ∙ (ap (λ (ks : List Kept). code_of report.why ks (one.turn.end ∷ [])) none
    ∙ code_of_none report.why one.turn.end end (λ is. sym (ap length none) ∙ tells.events.full is) (nothing_kept run one.turn one.entry unbound many fits fine one.by (sym one.kept ∙ none)).0))

pub complete : (run : Run) (report : Report) (turns : Turns) → length run.setting.shares ≡ 1 → run.setting.bound ≡ None → run.setting.single ≡ false → TellsRun run report turns →
    IsComplete run.parts (run.config_of 1) report
complete run report turns one unbound many tells = record {
  finds = λ end fits memory ops plan. found run report unbound many end fits memory tells.events.code ops plan (one_of run report turns one many end tells);
  refutes = λ end fits memory unsolvable. unfound run report turns unbound many end fits memory unsolvable tells (one_of run report turns one many end tells);
}
