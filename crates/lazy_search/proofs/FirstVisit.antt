-- The machine that has visited the initial state.
use Rattle.std.proofs.Common.{◌≡◌, ◌≢◌, ℕ, zero, suc, ◌-◌, ◌*◌, ◌<◌, ◌≤◌, ◌^◌, Bool, true, false, not, List, [], ◌∷◌, ◌++◌, map, length, slice_get, slice_index, Option, Some, None, refl, ap, sym, ◌∙◌, subst, arith, pos}
use Rattle.std.specs.Prelude.{◌&&◌, if◌then◌else◌, ◌-ℤ◌, negsuc, ◌+ℤ◌, ◌≤ℤ◌, nat_lt}
use Rattle.std.specs.List.{range_with_len}
use Rattle.std.proofs.lemmas.Int.{ints}
use Rattle.std.proofs.lemmas.Bool.{lt-ltb, or_from}
use Rattle.std.proofs.lemmas.List.FromFn.{get_or-map-range_with_len}
use Rattle.std.proofs.Common.{get_or}
use Rattle.sas_task.specs.declared.contents.Parts.{Parts}
use Rattle.sas_task.specs.Runs.{start_of, is_goal}
use Rattle.packed_state.specs.Packing.{packed}
use Rattle.state_registry.specs.Registries.{Visited as Visits}
use Rattle.state_registry.specs.declared.interned.Interned.{Interned}
use Rattle.state_registry.specs.declared.interned.Interned.TheVariants.{New, Known, Full}
use Rattle.state_registry.specs.Interning.{Interns}
use Rattle.open_lists.specs.declared.lists.OpenLists.{OpenLists}
use Rattle.open_lists.specs.Lists.{is_preferred, is_set, boost_of, counter as counter_now}
use Rattle.guide.specs.declared.seen.Seen.{Seen}
use Rattle.relaxed_task.specs.Reached.{IsDead}
use Rattle.search_log.specs.declared.setting.Setting.{Setting}
use Rattle.search_log.specs.declared.turns.Pop.{Pop}
use Rattle.search_log.specs.Logs.{Visit, Content}
use Rattle.std.specs.Prelude.{Vec}
use Rattle.std.specs.declared.alloc.Global.{Global}
use Rattle.search_log.specs.Phases.{Phase, IsPhase, is_for_preferred}
use Rattle.search_log.specs.Places.{Node, start_place, start_past}
use Rattle.search_log.specs.Pending.{counter}
use Rattle.search_log.specs.Lawful.{Logged}
use Rattle.log_laws.proofs.Elements.{one_at}
use Rattle.search_log.specs.Counters.{LeastStand}
use Rattle.log_laws.proofs.CounterLaws.{least_visited}
use Rattle.log_laws.proofs.TurnLaws.{past_with}
use Rattle.log_laws.proofs.LogLaws.{logged_start}
use Rattle.log_laws.proofs.SoundLaws.{first_node}
use Rattle.lazy_search.specs.declared.rows.LatestVisit.{LatestVisit}
use Rattle.lazy_search.specs.declared.paths.Origin.{Origin}
use Rattle.lazy_search.specs.declared.shape.Shape.{Shape}
use Rattle.lazy_search.specs.declared.steps.Arrival.{Arrival}
use Rattle.lazy_search.specs.declared.machine.Machine.{Machine}
use Rattle.lazy_search.specs.declared.steps.Turned.TheVariants.{Empty}
use Rattle.lazy_search.specs.Rows.{row_put}
use Rattle.lazy_search.specs.Shapes.{lists_by}
use Rattle.lazy_search.specs.Outcomes.{outcome_of, turned_by}
use Rattle.lazy_search.specs.Visits.{IsBlank, row_for}
use Rattle.lazy_search.specs.Machines.{row_of, OriginsStand, ListsStand, Rests, IsGuided, TurnEnds}
use Rattle.lazy_search.specs.Phases.{phase_of}
use Rattle.lazy_search.proofs.Expansions.{Grown, lists_visited}
use Rattle.lazy_search.proofs.VisitLaws.{Noted, noted_grows, counters_low}

-- empty lists stand for what came before the first visit
counter_zero : (phase : Phase) (k : ℕ) → counter phase (past_with [] []) k ≡ pos 0
counter_zero phase k = by_sort (is_for_preferred phase k)
  where
    by_sort : (b : Bool) → (pos 0 -ℤ pos (if b then phase.setting.boost * 0 else 0)) ≡ pos 0
    by_sort true = omega (arith, ints)
    by_sort false = omega (arith, ints)

lists_blank : (parts : Parts) (setting : Setting) (shape : Shape) (m : Machine) → IsBlank parts setting shape m → ListsStand (phase_of parts setting shape) m.lists (past_with [] [])
lists_blank parts setting shape m b = record {
  count = b.count;
  sorts = b.sorts;
  boost = b.boost;
  holds = λ k l. b.empty k;
  counters = λ k l. b.counters k ∙ sym (counter_zero (phase_of parts setting shape) k);
}

-- no counter is too small for a boost
pub counters_first : (parts : Parts) (setting : Setting) (shape : Shape) (m : Machine) → IsPhase (phase_of parts setting shape) → IsBlank parts setting shape m → (k : ℕ) → is_preferred m.lists k ≡ true → (negsuc (2 ^ 63 - 1) +ℤ pos (boost_of m.lists)) ≤ℤ counter_now m.lists k
counters_first parts setting shape m is b = counters_low (phase_of parts setting shape) m.lists (past_with [] []) is (record { visits = omega arith; pops = omega arith }) (lists_blank parts setting shape m b)

-- which lists are for preferred operators alone
pub sorts_first : (f : ℕ → Bool) (n : ℕ) (sorts : List Bool) (k : ℕ) → sorts ≡ map f (range_with_len 0 n) → k < n → is_set sorts k ≡ f k
sorts_first f n sorts k is l = ap (λ (xs : List Bool). get_or xs k false) is ∙ get_or-map-range_with_len f 0 n k k false l (omega arith)

pub few_sorts : (shape : Shape) → shape.guides ≤ 3 → lists_by shape ≤ 6
few_sorts shape few = elim (shape.preferring) as (λ b. (if b then 2 * shape.guides else shape.guides) ≤ 6) [ true ↦ omega arith | false ↦ omega arith ]

least_blank : (phase : Phase) (least : List ℕ) → IsPhase phase → least ≡ 4294967296 ∷ 4294967296 ∷ 4294967296 ∷ [] → LeastStand phase least []
least_blank phase least is are j e l small = ap (λ (ls : List ℕ). nat_lt e (slice_index ls j)) are ∙ lt-ltb e (slice_index (4294967296 ∷ 4294967296 ∷ 4294967296 ∷ []) j) (rw (at j (omega (arith, l, is.few_guides))) (omega (arith, small)))
  where
    at : (i : ℕ) → i < 3 → slice_index (4294967296 ∷ 4294967296 ∷ 4294967296 ∷ []) i ≡ 4294967296
    at zero h = refl
    at (suc zero) h = refl
    at (suc (suc zero)) h = refl
    at (suc (suc (suc i))) h = absurd (omega (arith, h))

-- the words of the initial state
pub first_words : (old new : List (List ℕ)) (most : ℕ) (words : List ℕ) (found : Interned) → old ≡ [] → 0 < most → Interns old most words found new → new ≡ words ∷ []
first_words old new most words (New id) none some h = h.3 ∙ ap (λ (ws : List (List ℕ)). ws ++ words ∷ []) none
first_words old new most words (Known id) none some h = let e : slice_get [] id ≡ Some words = ap (λ (ws : List (List ℕ)). slice_get ws id) (sym none) ∙ h.0 in let k : ◌≡◌ {A = Option (List ℕ)} None (Some words) = e in cc
first_words old new most words Full none some h = absurd (omega (arith, h.0, ap length none, some))

abbrev pub arrival_first : Bool → Arrival
arrival_first goal = record { id = 0; g = 0; real = 0; came = record { origin = 0; op = 0 }; is_goal = goal }

abbrev pub visit_first : Seen → Visit
visit_first seen = record { id = 0; g = 0; seen = seen }

pub rests_first : (parts : Parts) (setting : Setting) (shape : Shape) (blank m new : Machine) (goal : Bool) (seen : Seen) → IsPhase (phase_of parts setting shape) → IsBlank parts setting shape blank
    → m.log ≡ blank.log → m.rows ≡ blank.rows → m.origins ≡ blank.origins → m.lists ≡ blank.lists → m.least ≡ blank.least
    → m.states.next.items ≡ start_of parts → m.states.registry.states ≡ packed m.states.registry.layout (start_of parts) ∷ [] → m.states.registry.most ≡ setting.most_states
    → Noted parts setting shape m (arrival_first goal) seen [] new
    → Rests (phase_of parts setting shape) new (start_past (phase_of parts setting shape) (visit_first seen))
rests_first parts setting shape blank m new goal seen is b log rows origins lists least next words most noted =
    record {
      kept = record {
        logged = subst (λ (vs : List Visit). Logged phase vs new.log.pops (start_past phase v)) (sym visits) (subst (λ (ps : List Pop). Logged phase (v ∷ []) ps (start_past phase v)) (sym noted.pops_are) (logged_start phase v refl refl));
        visits = visits;
        pops = noted.pops_are;
        ready = noted.ready;
        most = ap (λ (g : Visits). g.most) noted.registry ∙ most;
        stored = ap (λ (g : Visits). g.states) noted.registry ∙ words ∙ ap (λ (g : Visits). packed g.layout (start_of parts) ∷ []) (sym noted.registry);
        rows = noted.rows ∙ ap (λ (rs : List LatestVisit). row_put rs 0 (row_for m (arrival_first goal) seen.dead)) (ap (λ (x : Vec LatestVisit Global). x.items) rows ∙ b.rows) ∙ ap (λ (r : LatestVisit). r ∷ []) row;
        origins = subst (OriginsStand (n ∷ [])) (sym (noted.origins ∙ ap (λ (cs : List Origin). cs ++ came ∷ []) (ap (λ (x : Vec Origin Global). x.items) origins ∙ b.origins))) origins_first;
        least = least_visited phase m.least new.least [] n blank_least grown.kept;
      };
      lists = lists_visited phase m.lists new.lists m.least new.least [] [] n refl refl (subst (λ (ls : OpenLists). ListsStand phase ls (past_with [] [])) (sym lists) (lists_blank parts setting shape blank b)) grown;
    }
  where
    phase : Phase
    phase = phase_of parts setting shape

    v : Visit
    v = visit_first seen

    n : Node
    n = first_node phase v

    came : Origin
    came = record { origin = 0; op = 0 }

    visits : new.log.visits ≡ v ∷ []
    visits = noted.visits ∙ ap (λ (vs : List Visit). vs ++ v ∷ []) (ap (λ (l : Content). l.visits) log ∙ b.visits)

    row : row_for m (arrival_first goal) seen.dead ≡ row_of n
    row = ap (λ (j : ℕ). let r : LatestVisit = record { g = 0; real = 0; number = j; dead = seen.dead } in r) (ap (λ (x : Vec Origin Global). length x.items) origins ∙ ap length b.origins)

    blank_least : LeastStand phase m.least []
    blank_least = least_blank phase m.least is (least ∙ b.least)

    grown : Grown phase m.lists m.least n new.lists new.least
    grown = noted_grows parts setting shape m new (arrival_first goal) seen [] [] (start_place phase) noted next blank_least row

    origins_first : OriginsStand (n ∷ []) (came ∷ [])
    origins_first = record {
      count = refl;
      first = λ q e. let same : n ≡ q = cc in ap (λ (x : Node). x.place.path) (sym same);
      later = λ j q l e. absurd (let o = one_at n q j e in omega (arith, l, o.0));
    }

-- what the guide says of it
pub guided_first : (phase : Phase) (K : ℕ → List (List ℕ) → Type 0) (F : List (List ℕ) → Seen → Type 0) (seen : Seen) → K 0 (start_of phase.parts ∷ []) → F (start_of phase.parts ∷ []) seen → (seen.dead ≡ true → IsDead phase.parts (start_of phase.parts))
    → IsGuided phase K F (start_past phase (visit_first seen))
guided_first phase K F seen kept fits dead =
    record {
      keeps = λ i q at. let o = one_at n q i at in subst (λ (x : Node). K i x.place.states) o.1 (subst (λ (j : ℕ). K j n.place.states) (sym o.0) kept);
      fits = λ j q at. subst (λ (x : Node). F x.place.states x.visit.seen) (one_at n q j at).1 fits;
      dead = λ j q at d. let o = one_at n q j at in subst (λ (x : Node). IsDead phase.parts x.place.state) o.1 (dead (ap (λ (x : Node). x.visit.seen.dead) o.1 ∙ d));
    }
  where
    n : Node
    n = first_node phase (visit_first seen)

-- how the log stands after it
pub first_ends : (phase : Phase) (seen : Seen) (dead goal : Bool) → dead ≡ seen.dead → goal ≡ is_goal phase.parts (start_of phase.parts) → TurnEnds phase (start_past phase (visit_first seen)) (turned_by (outcome_of false dead goal))
first_ends phase seen true goal dead_is goal_is = record { no_goal = or_from _ _ (ap (λ (b : Bool). not b && is_goal phase.parts (start_of phase.parts)) (sym dead_is)) refl; not_full = refl }
first_ends phase seen false true dead_is goal_is =
    (first_node phase (visit_first seen), record { last = refl; goal = ap (λ (b : Bool). not b && is_goal phase.parts (start_of phase.parts)) (sym dead_is) ∙ sym goal_is })
first_ends phase seen false false dead_is goal_is =
    record { no_goal = or_from _ _ (ap (λ (b : Bool). not b && is_goal phase.parts (start_of phase.parts)) (sym dead_is) ∙ sym goal_is) refl; not_full = refl }

pub not_empty_first : (dead goal : Bool) → turned_by (outcome_of false dead goal) ≢ Empty
not_empty_first true goal = λ e. cc
not_empty_first false true = λ e. cc
not_empty_first false false = λ e. cc
