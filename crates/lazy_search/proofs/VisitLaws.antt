-- What a machine stands for after a visit.
use Rattle.std.proofs.Common.{◌≡◌, ◌≢◌, ℕ, ◌-◌, ◌<◌, ◌≤◌, ◌^◌, Bool, true, false, not, List, [], ◌∷◌, ◌++◌, map, length, slice_get, slice_index, Some, refl, ap, sym, ◌∙◌, subst, arith, inl, inr, pos, negsuc, ◌+ℤ◌, ◌≤ℤ◌}
use Rattle.std.specs.Prelude.{filter, ◌&&◌, ◌-ℤ◌, ℤ}
use Rattle.std.proofs.lemmas.Int.{ints}
use Rattle.std.proofs.lemmas.List.{length-append, map-append}
use Rattle.std.proofs.lemmas.List.Folds.{list_any-append}
use Rattle.std.proofs.lemmas.Bool.{cases_lt, or_from}
use Rattle.std.proofs.lemmas.Option.{slice_get_within, slice_get_past}
use Rattle.sas_task.specs.declared.contents.Parts.{Parts}
use Rattle.sas_task.specs.Runs.{is_goal}
use Rattle.guide.specs.declared.seen.Seen.{Seen}
use Rattle.guide.specs.Operators.{applicable_operators, is_among}
use Rattle.open_lists.specs.declared.lists.OpenLists.{OpenLists}
use Rattle.open_lists.specs.Lists.{counter as counter_now, is_preferred, preferred_in, boost_of}
use Rattle.search_log.specs.declared.setting.Setting.{Setting}
use Rattle.search_log.specs.declared.turns.Pop.{Pop}
use Rattle.search_log.specs.Logs.{Visit}
use Rattle.search_log.specs.Phases.{Phase, IsPhase, lists_of}
use Rattle.search_log.specs.Places.{Place, Node, Past, latest, node_at, is_expanded, is_goal_node, makes_visit}
use Rattle.search_log.specs.Pending.{counter}
use Rattle.search_log.specs.Lawful.{Logged, GoesOn, is_full, result_of}
use Rattle.log_laws.proofs.Sound.{Sound}
use Rattle.log_laws.proofs.Elements.{push_cases, none-at}
use Rattle.lama_num.proofs.ListLaws.{slice_get-append_last as slice_get-push_at}
use Rattle.log_laws.proofs.TableLaws.{latest-push, put_latest-cases}
use Rattle.search_log.specs.Counters.{LeastStand}
use Rattle.log_laws.proofs.CounterLaws.{progress_by_least, least_visited}
use Rattle.log_laws.proofs.NumberLaws.{counters_fit}
use Rattle.log_laws.proofs.TurnLaws.{past_with, extend_made}
use Rattle.log_laws.proofs.LogLaws.{Numbers, logged_made}
use Rattle.log_laws.proofs.SoundLaws.{sound_pop}
use Rattle.lazy_search.specs.declared.rows.LatestVisit.{LatestVisit}
use Rattle.lazy_search.specs.declared.shape.Shape.{Shape}
use Rattle.lazy_search.specs.declared.steps.Arrival.{Arrival}
use Rattle.lazy_search.specs.declared.machine.Machine.{Machine}
use Rattle.lazy_search.specs.declared.steps.Reached.{Reached}
use Rattle.lazy_search.specs.States.{AreFor}
use Rattle.lazy_search.specs.Rows.{row_put}
use Rattle.lazy_search.specs.Entries.{is_less}
use Rattle.state_registry.specs.Registries.{Visited as Visits}
use Rattle.relaxed_task.specs.Reached.{IsDead}
use Rattle.open_lists.specs.declared.entry.Entry.{Entry}
use Rattle.lazy_search.specs.Outcomes.{pop_by, outcome_of, turned_by}
use Rattle.lazy_search.specs.Visits.{row_for, Grows}
use Rattle.lazy_search.specs.Machines.{row_of, packed_at, visit_at, OriginsStand, ListsStand, Keeps, Rests, GoesFrom, place_there, Reaches, IsVisited, IsGuided, TurnEnds}
use Rattle.lazy_search.specs.Phases.{phase_of}
use Rattle.lazy_search.proofs.TakenEntries.{sound_of}
use Rattle.lazy_search.proofs.Expansions.{Grown, grown_expanded, grown_still, lists_visited, origins_visited, rows_visited}
use Rattle.lazy_search.proofs.NextPops.{goes_reached, next_turn, lists_popped}
use Rattle.lama_num.proofs.BoolLaws.{and-false}

-- what a machine notes of a visit, of which the guides have spoken
pub record Noted (parts : Parts) (setting : Setting) (shape : Shape) (m : Machine) (arrival : Arrival) (seen : Seen) (pops : List Pop) (new : Machine) : Type 0 where
  pub small : (j : ℕ) → slice_index seen.estimates j < 2 ^ 32
  pub preferred : seen.preferred ≡ filter (is_among seen.preferred) (applicable_operators parts m.states.next.items)
  pub goal : arrival.is_goal ≡ is_goal parts m.states.next.items
  pub visits : new.log.visits ≡ m.log.visits ++ record { id = arrival.id; g = arrival.g; seen = seen } ∷ []
  pub pops_are : new.log.pops ≡ pops
  pub ready : AreFor new.states parts
  pub registry : new.states.registry ≡ m.states.registry
  pub rows : new.rows.items ≡ row_put m.rows.items arrival.id (row_for m arrival seen.dead)
  pub origins : new.origins.items ≡ m.origins.items ++ arrival.came ∷ []
  pub grows : Grows parts setting shape (row_for m arrival seen.dead) seen (applicable_operators parts m.states.next.items) m.lists m.least (not seen.dead && not arrival.is_goal) new.lists new.least

pub makes_outcome : (again dead goal : Bool) → makes_visit (outcome_of again dead goal) ≡ true
makes_outcome again true goal = refl
makes_outcome true false goal = refl
makes_outcome false false true = refl
makes_outcome false false false = refl

not_full_outcome : (again dead goal : Bool) → is_full (outcome_of again dead goal) ≡ false
not_full_outcome again true goal = refl
not_full_outcome true false goal = refl
not_full_outcome false false true = refl
not_full_outcome false false false = refl

same_row : (g g2 x x2 n n2 : ℕ) (d : Bool) → g ≡ g2 → x ≡ x2 → n ≡ n2 → record { g = g; real = x; number = n; dead = d } ≡ (let r : LatestVisit = record { g = g2; real = x2; number = n2; dead = d } in r)
same_row g g2 x x2 n n2 d a b c =
    ap (λ (y : ℕ). let r : LatestVisit = record { g = y; real = x; number = n; dead = d } in r) a
    ∙ ap (λ (y : ℕ). let r : LatestVisit = record { g = g2; real = y; number = n; dead = d } in r) b
    ∙ ap (λ (y : ℕ). let r : LatestVisit = record { g = g2; real = x2; number = y; dead = d } in r) c

grown_by : (parts : Parts) (setting : Setting) (shape : Shape) (old new : OpenLists) (least new_least operators : List ℕ) (n : Node) (b : Bool) → is_expanded (phase_of parts setting shape) n.visit n.place ≡ b
    → operators ≡ applicable_operators parts n.place.state → n.visit.seen.preferred ≡ filter (is_among n.visit.seen.preferred) operators
    → n.progress ≡ (is_expanded (phase_of parts setting shape) n.visit n.place && is_less shape.guides least n.visit.seen.estimates)
    → Grows parts setting shape (row_of n) n.visit.seen operators old least b new new_least → Grown (phase_of parts setting shape) old least n new new_least
grown_by parts setting shape old new least new_least operators n true e are preferred progress x =
    grown_expanded parts setting shape old new least new_least operators n e are preferred (progress ∙ ap (λ (b : Bool). b && is_less shape.guides least n.visit.seen.estimates) e) x
grown_by parts setting shape old new least new_least operators n false e are preferred progress x =
    grown_still (phase_of parts setting shape) old new least new_least n e (progress ∙ ap (λ (b : Bool). b && is_less shape.guides least n.visit.seen.estimates) e) x.0 x.1

-- how the lists grow by the visit that was noted
pub noted_grows : (parts : Parts) (setting : Setting) (shape : Shape) (m new : Machine) (arrival : Arrival) (seen : Seen) (pops : List Pop) (nodes : List Node) (to : Place) → Noted parts setting shape m arrival seen pops new
    → m.states.next.items ≡ to.state → LeastStand (phase_of parts setting shape) m.least nodes → row_for m arrival seen.dead ≡ row_of (node_at (phase_of parts setting shape) nodes to (record { id = arrival.id; g = arrival.g; seen = seen }))
    → Grown (phase_of parts setting shape) m.lists m.least (node_at (phase_of parts setting shape) nodes to (record { id = arrival.id; g = arrival.g; seen = seen })) new.lists new.least
noted_grows parts setting shape m new arrival seen pops nodes to noted next least row =
    grown_by parts setting shape m.lists new.lists m.least new.least (applicable_operators parts m.states.next.items) n (not seen.dead && not arrival.is_goal)
    (ap (λ (b : Bool). not seen.dead && not b) (sym (noted.goal ∙ ap (is_goal parts) next)))
    (ap (applicable_operators parts) next)
    noted.preferred
    (progress_by_least phase m.least nodes v to least noted.small)
    (subst (λ (r : LatestVisit). Grows parts setting shape r seen (applicable_operators parts m.states.next.items) m.lists m.least (not seen.dead && not arrival.is_goal) new.lists new.least) row noted.grows)
  where
    phase : Phase
    phase = phase_of parts setting shape

    v : Visit
    v = record { id = arrival.id; g = arrival.g; seen = seen }

    n : Node
    n = node_at phase nodes to v

-- the visit of the state to which an entry leads
abbrev pub arrival_of : Reached → ℕ → Bool → Arrival
arrival_of r id goal = record { id = id; g = r.g; real = r.real; came = record { origin = r.origin; op = r.popped.entry.op }; is_goal = goal }

abbrev pub visit_of : Reached → ℕ → Seen → Visit
visit_of r id seen = record { id = id; g = r.g; seen = seen }

abbrev pub pop_of : Reached → Bool → Bool → Bool → Pop
pop_of r again dead goal = pop_by r.popped (outcome_of again dead goal)

abbrev pub past_made : Phase → Past → Place → Visit → Pop → Past
past_made phase past to v pop = past_with (past.nodes ++ node_at phase past.nodes to v ∷ []) (past.pops ++ pop ∷ [])

pub rests_visited : (parts : Parts) (setting : Setting) (shape : Shape) (m new : Machine) (words : List (List ℕ)) (past : Past) (r : Reached) (id : ℕ) (again goal : Bool) (seen : Seen) → IsPhase (phase_of parts setting shape)
    → (R : Reaches (phase_of parts setting shape) m words past r) → IsVisited (phase_of parts setting shape) m past (place_there (phase_of parts setting shape) past r.popped.entry R.goes) id again
    → GoesOn (phase_of parts setting shape) past → length past.pops < setting.most_pops
    → Noted parts setting shape m (arrival_of r id goal) seen (m.log.pops ++ pop_of r again seen.dead goal ∷ []) new
    → Rests (phase_of parts setting shape) new (past_made (phase_of parts setting shape) past (place_there (phase_of parts setting shape) past r.popped.entry R.goes) (visit_of r id seen) (pop_of r again seen.dead goal))
rests_visited parts setting shape m new words past r id again goal seen is R V on allowed noted =
    record {
      kept = record {
        logged = subst (λ (vs : List Visit). Logged phase vs new.log.pops after) (sym noted.visits) (subst (λ (ps : List Pop). Logged phase (m.log.visits ++ v ∷ []) ps after) (sym noted.pops_are) logged);
        visits = noted.visits ∙ ap (λ (vs : List Visit). vs ++ v ∷ []) k.visits ∙ sym (map-append visit_at past.nodes (n ∷ []));
        pops = noted.pops_are ∙ ap (λ (ps : List Pop). ps ++ pop ∷ []) k.pops;
        ready = noted.ready;
        most = ap (λ (g : Visits). g.most) noted.registry ∙ k.most;
        stored =
            ap (λ (g : Visits). g.states) noted.registry ∙ V.stored n refl refl
            ∙ ap (map (packed_at m.states.registry.layout)) (sym (latest-push past.nodes n))
            ∙ ap (λ (g : Visits). map (packed_at g.layout) (latest (past.nodes ++ n ∷ []))) (sym noted.registry);
        rows =
            noted.rows ∙ ap (λ (rs : List LatestVisit). row_put rs id (row_for m arrival seen.dead)) k.rows ∙ ap (row_put (map row_of (latest past.nodes)) id) row
            ∙ sym (rows_visited (latest past.nodes) n) ∙ ap (map row_of) (sym (latest-push past.nodes n));
        origins = subst (OriginsStand (past.nodes ++ n ∷ [])) (sym noted.origins)
            (origins_visited past.nodes m.origins.items n (record { origin = r.origin; op = r.popped.entry.op }) R.goes.from k.origins sound.begun
            (ap (slice_get past.nodes) R.origin ∙ sound.visits R.goes.parent.visit.id R.goes.from R.goes.at_from) refl);
        least = least_visited phase m.least new.least past.nodes n k.least grown.kept;
      };
      lists = lists_visited phase m.lists new.lists m.least new.least past.nodes (past.pops ++ pop ∷ []) n refl
          (sound_pop phase past.nodes past.pops pop sound (slice_get_within past.nodes r.popped.entry.parent R.goes.parent R.goes.at)).taken
          (lists_popped phase R.lists m.lists past.nodes past.pops r.popped (outcome_of again seen.dead goal) sound.numbered R.stood R.pops) grown;
    }
  where
    phase : Phase
    phase = phase_of parts setting shape

    arrival : Arrival
    arrival = arrival_of r id goal

    to : Place
    to = place_there phase past r.popped.entry R.goes

    v : Visit
    v = visit_of r id seen

    n : Node
    n = node_at phase past.nodes to v

    pop : Pop
    pop = pop_of r again seen.dead goal

    after : Past
    after = past_made phase past to v pop

    k : Keeps phase m words past
    k = R.kept

    sound : Sound phase past
    sound = sound_of phase m.log.visits m.log.pops past is k.logged

    row : row_for m arrival seen.dead ≡ row_of n
    row = same_row r.g to.g r.real to.real (length m.origins.items) (length past.nodes) seen.dead R.g R.real k.origins.count

    grown : Grown phase m.lists m.least n new.lists new.least
    grown = noted_grows parts setting shape m new arrival seen (m.log.pops ++ pop ∷ []) past.nodes to noted V.next k.least row

    result : outcome_of again seen.dead goal ≡ result_of phase past to (Some v)
    result = ap (outcome_of again seen.dead) (noted.goal ∙ ap (is_goal parts) V.next) ∙ sym (V.result (Some v))

    logged : Logged phase (m.log.visits ++ v ∷ []) (m.log.pops ++ pop ∷ []) after
    logged = subst (Logged phase (m.log.visits ++ v ∷ []) (m.log.pops ++ pop ∷ [])) (extend_made phase past pop v to (goes_reached phase past r.popped (outcome_of again seen.dead goal) R.goes))
        (logged_made phase m.log.visits m.log.pops past pop v k.logged (makes_outcome again seen.dead goal) (next_turn phase m words past r (outcome_of again seen.dead goal) (Some v) R on allowed result V.id_is R.g))

-- The guide after a visit: what it kept for the parent's state, with the state, is kept for this one.
pub guided_visited : (phase : Phase) (K L : ℕ → List (List ℕ) → Type 0) (F H : List (List ℕ) → Seen → Type 0) (past : Past) (pops : List Pop) (entry : Entry) (v : Visit) → (g : GoesFrom phase past entry) → Sound phase past → IsGuided phase K F past → v.id ≤ length (latest past.nodes)
    → ((states : List (List ℕ)) → K g.parent.visit.id states → L v.id (states ++ g.next ∷ []))
    → ((states : List (List ℕ)) → K g.parent.visit.id states → H (states ++ g.next ∷ []) v.seen)
    → ((i : ℕ) (states : List (List ℕ)) → i ≢ v.id → K i states → L i states)
    → ((states : List (List ℕ)) (seen : Seen) → F states seen → H states seen)
    → (v.seen.dead ≡ true → IsDead phase.parts g.next)
    → IsGuided phase L H (past_with (past.nodes ++ node_at phase past.nodes (place_there phase past entry g) v ∷ []) pops)
guided_visited phase K L F H past pops entry v g sound guided within kept fits others stay dead =
    record {
      keeps = λ i q at. elim (put_latest-cases (latest past.nodes) n i q within (sym (ap (λ t. slice_get t i) (latest-push past.nodes n)) ∙ at)) [
        | inl here ↦ subst (λ (x : Node). L i x.place.states) (sym here.1) (subst (λ (j : ℕ). L j n.place.states) (sym here.0) (kept g.from.place.states before))
        | inr there ↦ others i q.place.states there.0 (guided.keeps i q there.1)
      ];
      fits = λ j q at. elim (push_cases past.nodes n j q at) [
        | inl here ↦ subst (λ (x : Node). H x.place.states x.visit.seen) (sym here.1) (fits g.from.place.states before)
        | inr there ↦ stay q.place.states q.visit.seen (guided.fits j q there)
      ];
      dead = λ j q at d. elim (push_cases past.nodes n j q at) [
        | inl here ↦ subst (λ (x : Node). IsDead phase.parts x.place.state) (sym here.1) (dead (ap (λ (x : Node). x.visit.seen.dead) (sym here.1) ∙ d))
        | inr there ↦ guided.dead j q there d
      ];
    }
  where
    n : Node
    n = node_at phase past.nodes (place_there phase past entry g) v

    before : K g.parent.visit.id g.from.place.states
    before = guided.keeps g.parent.visit.id g.from g.at_from

-- How the log stands after a visit.
goal_by : (phase : Phase) (past : Past) (to : Place) (id : ℕ) (m : Machine) → GoesOn phase past → IsVisited phase m past to id true → is_goal phase.parts to.state ≡ false
goal_by phase past to id m on V =
    let w = V.before refl in
    let no_goal : is_goal_node phase w.node ≡ false = none-at (is_goal_node phase) past.nodes w.number w.node on.no_goal w.at in
    let alive : is_goal_node phase w.node ≡ is_goal phase.parts w.node.place.state = ap (λ (b : Bool). not b && is_goal phase.parts w.node.place.state) w.alive in
    ap (is_goal phase.parts) (sym w.state_is) ∙ sym alive ∙ no_goal

still_none : (phase : Phase) (past : Past) (n : Node) (pop : Pop) → GoesOn phase past → is_goal_node phase n ≡ false → is_full pop.result ≡ false → GoesOn phase (past_with (past.nodes ++ n ∷ []) (past.pops ++ pop ∷ []))
still_none phase past n pop on none not_full = record {
  no_goal = list_any-append (is_goal_node phase) past.nodes (n ∷ []) ∙ or_from _ _ on.no_goal (or_from _ _ none refl);
  not_full = list_any-append (λ (p : Pop). is_full p.result) past.pops (pop ∷ []) ∙ or_from _ _ on.not_full (or_from _ _ not_full refl);
}

last_there : {X : Type 0} (xs : List X) (x : X) → slice_get (xs ++ x ∷ []) (length (xs ++ x ∷ []) - 1) ≡ Some x
last_there xs x = let last : length (xs ++ x ∷ []) - 1 ≡ length xs = omega (arith, length-append xs (x ∷ [])) in ap (slice_get (xs ++ x ∷ [])) last ∙ slice_get-push_at xs x

pub turn_ends : (phase : Phase) (m : Machine) (past : Past) (r : Reached) (to : Place) (id : ℕ) (again dead goal : Bool) (v : Visit) → GoesOn phase past → IsVisited phase m past to id again → dead ≡ v.seen.dead → goal ≡ is_goal phase.parts to.state
    → TurnEnds phase (past_made phase past to v (pop_of r again dead goal)) (turned_by (outcome_of again dead goal))
turn_ends phase m past r to id again true goal v on V dead_is goal_is =
    still_none phase past (node_at phase past.nodes to v) (pop_of r again true goal) on (ap (λ (b : Bool). not b && is_goal phase.parts to.state) (sym dead_is)) refl
turn_ends phase m past r to id true false goal v on V dead_is goal_is =
    still_none phase past (node_at phase past.nodes to v) (pop_of r true false goal) on
    (ap (λ (b : Bool). not v.seen.dead && b) (goal_by phase past to id m on V) ∙ and-false (not v.seen.dead)) refl
turn_ends phase m past r to id false false true v on V dead_is goal_is =
    let n = node_at phase past.nodes to v in
    (n, record { last = last_there past.nodes n; goal = ap (λ (b : Bool). not b && is_goal phase.parts to.state) (sym dead_is) ∙ sym goal_is })
turn_ends phase m past r to id false false false v on V dead_is goal_is =
    still_none phase past (node_at phase past.nodes to v) (pop_of r false false false) on
    (ap (λ (b : Bool). not v.seen.dead && b) (sym goal_is) ∙ and-false (not v.seen.dead)) refl

-- no counter is too small for a boost
low : (b n : ℕ) (c : ℤ) → n ≡ 2 ^ 63 - 1 → b ≤ 1000000 → (pos 0 -ℤ pos 1099511628776000000) ≤ℤ c → (negsuc n +ℤ pos b) ≤ℤ c
low b n c e h l = omega (arith, ints)

pub counters_low : (phase : Phase) (lists : OpenLists) (past : Past) → IsPhase phase → Numbers phase past → ListsStand phase lists past → (k : ℕ) → is_preferred lists k ≡ true → (negsuc (2 ^ 63 - 1) +ℤ pos (boost_of lists)) ≤ℤ counter_now lists k
counters_low phase lists past is n s k preferred =
    elim (cases_lt k (lists_of phase)) [
      | inl l ↦ rw (s.counters k l, s.boost) (low phase.setting.boost (2 ^ 63 - 1) (counter phase past k) refl is.setting.boost (counters_fit phase past k is n).1)
      | inr over ↦ absurd (let none : is_preferred lists k ≡ false = ap preferred_in (slice_get_past lists.lists.items k (omega (arith, over, s.count))) in let e : true ≡ false = sym preferred ∙ none in cc)
    ]
