-- What is read of a machine when an entry is taken.
use Rattle.std.proofs.Common.{◌≡◌, ℕ, ◌+◌, ◌-◌, ◌^◌, ◌<◌, true, List, [], ◌∷◌, length, slice_get, get_or, Option, Some, None, refl, ap, sym, ◌∙◌, subst, arith, inl, inr, pos, ◌<ℤ◌}
use Rattle.std.specs.Prelude.{option_map}
use Rattle.std.proofs.lemmas.Int.{ints}
use Rattle.std.proofs.lemmas.Bool.Decides.{nat_tests}
use Rattle.std.proofs.lemmas.Bool.{cases_lt}
use Rattle.std.proofs.lemmas.Option.{slice_get-map, slice_get_within, slice_get_past, get_or_from_slice_get}
use Rattle.sas_task.specs.States.{step}
use Rattle.sas_task.specs.Runs.{cost_at}
use Rattle.sas_task.proofs.RunLaws.{taken-within}
use Rattle.open_lists.specs.declared.lists.OpenLists.{OpenLists}
use Rattle.open_lists.specs.declared.entry.Popped.{Popped}
use Rattle.open_lists.specs.declared.entry.Entry.{Entry}
use Rattle.open_lists.specs.Items.{Item, popped_item, entries_under, has_key}
use Rattle.open_lists.specs.Lists.{Pops, Holds, counter as counter_now, counter_in}
use Rattle.search_log.specs.declared.turns.Pop.{Pop}
use Rattle.search_log.specs.Logs.{Visit}
use Rattle.search_log.specs.Phases.{Phase, IsPhase, lists_of, adjusted_cost}
use Rattle.search_log.specs.Places.{Place, Node, Past, latest, place_by}
use Rattle.search_log.specs.Pending.{pending}
use Rattle.search_log.specs.Lawful.{Logged}
use Rattle.log_laws.proofs.Sound.{Sound, LeadsOn}
use Rattle.log_laws.proofs.LogLaws.{Numbers, lawful_sound, lawful_numbers}
use Rattle.log_laws.proofs.NumberLaws.{counters_fit, costs_fit}
use Rattle.log_laws.proofs.WaitingLaws.{waiting_leads}
use Rattle.lazy_search.specs.declared.rows.LatestVisit.{LatestVisit}
use Rattle.lazy_search.specs.declared.machine.Machine.{Machine}
use Rattle.lazy_search.specs.Machines.{row_of, visit_at, ListsStand, Keeps, Rests, GoesFrom, Reaches}

pub sound_of : (phase : Phase) (visits : List Visit) (pops : List Pop) (past : Past) → IsPhase phase → Logged phase visits pops past → Sound phase past
sound_of phase visits pops past is l = subst (Sound phase) l.past_is (lawful_sound phase visits pops is l.lawful l.begun)

pub numbers_of : (phase : Phase) (visits : List Visit) (pops : List Pop) (past : Past) → Logged phase visits pops past → Numbers phase past
numbers_of phase visits pops past l = subst (Numbers phase) l.past_is (lawful_numbers phase visits pops l.lawful)

-- an entry that waits goes on from the latest visit of its state
goes_on : (phase : Phase) (past : Past) (entry : Entry) → LeadsOn phase past entry → GoesFrom phase past entry
goes_on phase past entry l = by_step (step phase.parts l.from.place.state entry.op) refl l.there
  where
    by_step : (o : Option (List ℕ)) → step phase.parts l.from.place.state entry.op ≡ o → option_map (place_by phase l.from.place entry.op) o ≡ Some l.to → GoesFrom phase past entry
    by_step None e h = let k : ◌≡◌ {A = Option Place} None (Some l.to) = h in cc
    by_step (Some next) e h = record { parent = l.parent; at = l.at; from = l.from; at_from = l.at_from; next = next; steps = e }

pub entry_goes : (phase : Phase) (past : Past) (lists new : OpenLists) (popped : Popped) → Sound phase past → ListsStand phase lists past → Pops lists popped new → GoesFrom phase past popped.entry
entry_goes phase past lists new popped sound stood pops =
    let lt : popped.list < lists_of phase = omega (arith, pops.exists, stood.count) in
    let t = pops.taken (pending phase past popped.list) (stood.holds popped.list lt) in
    goes_on phase past popped.entry (waiting_leads phase past popped.list t.0 (popped_item popped) sound t.1.here)

-- no counter is too large for a pop
pub counters_high : (phase : Phase) (lists : OpenLists) (past : Past) → IsPhase phase → Numbers phase past → ListsStand phase lists past → (k : ℕ) → counter_now lists k <ℤ pos (2 ^ 63 - 1)
counters_high phase lists past is n s k =
    elim (cases_lt k (lists_of phase)) [
      | inl l ↦
          let c = (counters_fit phase past k is n).0 in
          rw (s.counters k l) (omega (arith, ints, c))
      | inr over ↦
          let none : counter_now lists k ≡ pos 0 = ap counter_in (slice_get_past lists.lists.items k (omega (arith, over, s.count))) in
          rw none (omega (arith, ints))
    ]

-- what a visit and a row of a machine are
pub visit_there : (phase : Phase) (m : Machine) (words : List (List ℕ)) (past : Past) (entry : Entry) → Keeps phase m words past → (g : GoesFrom phase past entry) → slice_get m.log.visits entry.parent ≡ Some g.parent.visit
visit_there phase m words past entry kept g =
    ap (λ (vs : List Visit). slice_get vs entry.parent) kept.visits ∙ slice_get-map visit_at past.nodes entry.parent ∙ ap (option_map visit_at) g.at

pub row_there : (phase : Phase) (m : Machine) (words : List (List ℕ)) (past : Past) (id : ℕ) (n : Node) → Keeps phase m words past → slice_get (latest past.nodes) id ≡ Some n → slice_get m.rows.items id ≡ Some (row_of n)
row_there phase m words past id n kept at =
    ap (λ (rs : List LatestVisit). slice_get rs id) kept.rows ∙ slice_get-map row_of (latest past.nodes) id ∙ ap (option_map row_of) at

pub visit_within : (phase : Phase) (m : Machine) (words : List (List ℕ)) (past : Past) (entry : Entry) → Keeps phase m words past → GoesFrom phase past entry → entry.parent < length m.log.visits
visit_within phase m words past entry kept g = slice_get_within m.log.visits entry.parent g.parent.visit (visit_there phase m words past entry kept g)

-- the number of the parent's state
pub parent_read : (phase : Phase) (m : Machine) (words : List (List ℕ)) (past : Past) (entry : Entry) (v : Visit) → Keeps phase m words past → (g : GoesFrom phase past entry) → slice_get m.log.visits entry.parent ≡ Some v → v.id ≡ g.parent.visit.id
parent_read phase m words past entry v kept g read =
    let e : Some v ≡ Some g.parent.visit = sym read ∙ visit_there phase m words past entry kept g in
    let same : v ≡ g.parent.visit = cc in
    ap (λ (w : Visit). w.id) same

pub row_within : (phase : Phase) (m : Machine) (words : List (List ℕ)) (past : Past) (entry : Entry) (id : ℕ) → Keeps phase m words past → (g : GoesFrom phase past entry) → id ≡ g.parent.visit.id → id < length m.rows.items
row_within phase m words past entry id kept g is =
    omega (arith, is, slice_get_within m.rows.items g.parent.visit.id (row_of g.from) (row_there phase m words past g.parent.visit.id g.from kept g.at_from))

pub row_read : (phase : Phase) (m : Machine) (words : List (List ℕ)) (past : Past) (entry : Entry) (id : ℕ) (row : LatestVisit) → Keeps phase m words past → (g : GoesFrom phase past entry) → id ≡ g.parent.visit.id → row ≡ get_or m.rows.items id row → row ≡ row_of g.from
row_read phase m words past entry id row kept g is read =
    read ∙ ap (λ i. get_or m.rows.items i row) is ∙ get_or_from_slice_get m.rows.items g.parent.visit.id (row_of g.from) row (row_there phase m words past g.parent.visit.id g.from kept g.at_from)

-- costs so far leave room for one operator more
pub costs_small : (phase : Phase) (past : Past) (entry : Entry) → IsPhase phase → Sound phase past → (g : GoesFrom phase past entry) → (g.from.place.g < 2 ^ 62) × (g.from.place.real < 2 ^ 62)
costs_small phase past entry is sound g = costs_fit phase past g.from.number g.from is sound (sound.visits g.parent.visit.id g.from g.at_from)

-- the operator is one of the task
pub op_within : (phase : Phase) (past : Past) (entry : Entry) → (g : GoesFrom phase past entry) → entry.op < length phase.parts.operators
op_within phase past entry g = taken-within phase.parts g.from.place.state entry.op g.next g.steps

-- a list that holds nothing
no_entries_none : (items : List Item) → ((key : ℕ) → entries_under items key ≡ []) → items ≡ []
no_entries_none [] none = refl
no_entries_none (x ∷ xs) none = absurd (let n = none x.key in first x n)
  where
    first : (y : Item) → entries_under (y ∷ xs) y.key ≡ [] → ⊥
    first y e = let own : has_key y.key y ≡ true = grind (arith, nat_tests) in
        let is : entries_under (y ∷ xs) y.key ≡ y.entry ∷ entries_under xs y.key = rw own refl in
        let k : y.entry ∷ entries_under xs y.key ≡ [] = sym is ∙ e in cc

pub nothing_held : (lists : OpenLists) (k : ℕ) (items : List Item) → Holds lists k items → Holds lists k [] → items ≡ []
nothing_held lists k items h none = no_entries_none items (λ key. sym (h.queues key) ∙ none.queues key)

-- the machine whose lists a pop has changed
abbrev pub with_lists : Machine → OpenLists → Machine
with_lists m lists = record { log = m.log; states = m.states; rows = m.rows; origins = m.origins; lists = lists; least = m.least; chosen = m.chosen; seen = m.seen }

pub reaches : (phase : Phase) (m : Machine) (past : Past) (popped : Popped) (lists : OpenLists) (v : Visit) (row : LatestVisit) (adjusted cost : ℕ) → IsPhase phase → Rests phase m past → Pops m.lists popped lists
    → slice_get m.log.visits popped.entry.parent ≡ Some v → row ≡ get_or m.rows.items v.id row → adjusted ≡ adjusted_cost phase popped.entry.op → cost ≡ cost_at phase.parts popped.entry.op → adjusted < 2 ^ 32 → cost < 2 ^ 32
    → Reaches phase (with_lists m lists) m.states.registry.states past (record { popped = popped; parent = v.id; origin = row.number; g = row.g + adjusted; real = row.real + cost })
reaches phase m past popped lists v row adjusted cost is rests pops read_visit read_row read_adjusted read_cost small_adjusted small_cost =
    let k = rests.kept in
    let sound = sound_of phase m.log.visits m.log.pops past is k.logged in
    let g = entry_goes phase past m.lists lists popped sound rests.lists pops in
    let id = parent_read phase m m.states.registry.states past popped.entry v k g read_visit in
    let r = row_read phase m m.states.registry.states past popped.entry v.id row k g id read_row in
    let c = costs_small phase past popped.entry is sound g in
    let gg : row.g ≡ g.from.place.g = ap (λ (x : LatestVisit). x.g) r in
    let real : row.real ≡ g.from.place.real = ap (λ (x : LatestVisit). x.real) r in
    record {
      kept = record { logged = k.logged; visits = k.visits; pops = k.pops; ready = k.ready; most = k.most; stored = k.stored; rows = k.rows; origins = k.origins; least = k.least };
      lists = m.lists;
      stood = rests.lists;
      pops = pops;
      goes = g;
      parent = id;
      origin = ap (λ (x : LatestVisit). x.number) r;
      g = omega (arith, gg, read_adjusted);
      real = omega (arith, real, read_cost);
      small = (omega (arith, c.0, gg, small_adjusted), omega (arith, c.1, real, small_cost));
    }
