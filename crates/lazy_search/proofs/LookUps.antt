-- What a look-up of the reached state says of the pop.
use Rattle.std.proofs.Common.{◌≡◌, ℕ, zero, suc, ◌<◌, Bool, true, false, not, List, [], ◌∷◌, ◌++◌, map, length, slice_get, get_or, Some, None, refl, ap, sym, ◌∙◌, arith}
use Rattle.std.specs.Prelude.{option_map, slice_set, ◌&&◌, nat_lt, if◌then◌else◌}
use Rattle.std.proofs.lemmas.List.{length-map, map-append}
use Rattle.std.proofs.lemmas.Bool.{lt-ltb, le-ltb, false≢true, and_parts, not-true}
use Rattle.std.proofs.lemmas.Option.{slice_get-map, slice_get_within, slice_get_past, get_or_from_slice_get}
use Rattle.sas_task.specs.States.{IsState, step}
use Rattle.sas_task.proofs.RunLaws.{step-state, is_some-step}
use Rattle.packed_state.specs.Packing.{Places, packed}
use Rattle.state_registry.specs.Interning.{IsAbsent}
use Rattle.search_log.specs.declared.turns.PopResult.TheVariants.{Known, Full}
use Rattle.search_log.specs.Phases.{Phase, IsPhase}
use Rattle.lama_num.specs.Bounds.{is_below}
use Rattle.search_log.specs.Places.{Place, Node, Past, latest, put_latest, id_of}
use Rattle.search_log.specs.Lawful.{result_of, is_reopened}
use Rattle.log_laws.proofs.Sound.{Sound}
use Rattle.log_laws.proofs.Elements.{from-map}
use Rattle.log_laws.proofs.SoundLaws.{id_known, id_new}
use Rattle.log_laws.proofs.TurnLaws.{result_full, result_new, result_again, result_stays}
use Rattle.lazy_search.specs.declared.rows.LatestVisit.{LatestVisit}
use Rattle.lazy_search.specs.declared.machine.Machine.{Machine}
use Rattle.open_lists.specs.declared.entry.Entry.{Entry}
use Rattle.lazy_search.specs.States.{Opens}
use Rattle.lazy_search.specs.Machines.{packed_at, row_of, Keeps, GoesFrom, IsVisited}

-- the state that an entry goes on from, and that it leads to
pub from_state : (phase : Phase) (past : Past) (entry : Entry) → Sound phase past → (g : GoesFrom phase past entry) → IsState phase.parts.variables g.from.place.state
from_state phase past entry sound g = (sound.paths g.from.number g.from (sound.visits g.parent.visit.id g.from g.at_from)).settled.values

pub to_state : (phase : Phase) (past : Past) (entry : Entry) → IsPhase phase → Sound phase past → (g : GoesFrom phase past entry) → IsState phase.parts.variables g.next
to_state phase past entry is sound g = step-state phase.parts g.from.place.state entry.op g.next is.task (from_state phase past entry sound g) g.steps

-- the words of a visited state
pub words_there : (phase : Phase) (m : Machine) (words : List (List ℕ)) (past : Past) (id : ℕ) (n : Node) → Keeps phase m words past → slice_get (latest past.nodes) id ≡ Some n → slice_get words id ≡ Some (packed_at m.states.registry.layout n)
words_there phase m words past id n kept at =
    ap (λ (ws : List (List ℕ)). slice_get ws id) kept.stored ∙ slice_get-map (packed_at m.states.registry.layout) (latest past.nodes) id ∙ ap (option_map (packed_at m.states.registry.layout)) at

pub opens : (phase : Phase) (m : Machine) (past : Past) (entry : Entry) (id : ℕ) → Sound phase past → Keeps phase m m.states.registry.states past → (g : GoesFrom phase past entry) → id ≡ g.parent.visit.id → Opens m.states phase.parts id entry.op
opens phase m past entry id sound kept g is = record {
  state = g.from.place.state;
  is_state = from_state phase past entry sound g;
  stored = ap (slice_get m.states.registry.states) is ∙ words_there phase m m.states.registry.states past g.parent.visit.id g.from kept g.at_from;
  applicable = sym (is_some-step phase.parts g.from.place.state entry.op) ∙ (rw g.steps refl);
}

-- the state that was made is the one that the entry leads to
pub next_is : (phase : Phase) (m : Machine) (past : Past) (entry : Entry) (id : ℕ) (next : List ℕ) → Sound phase past → Keeps phase m m.states.registry.states past → (g : GoesFrom phase past entry) → id ≡ g.parent.visit.id
    → ((state : List ℕ) → IsState phase.parts.variables state → slice_get m.states.registry.states id ≡ Some (packed m.states.registry.layout state) → step phase.parts state entry.op ≡ Some next) → next ≡ g.next
unfolding opens
next_is phase m past entry id next sound kept g is made =
    let o = opens phase m past entry id sound kept g is in
    let e : Some next ≡ Some g.next = sym (made g.from.place.state o.is_state o.stored) ∙ g.steps in
    cc

-- A state that isn't among the words is new.
pub new_id : (phase : Phase) (m : Machine) (words : List (List ℕ)) (past : Past) (state : List ℕ) → Keeps phase m words past → IsAbsent words (packed m.states.registry.layout state) → id_of past.nodes state ≡ length (latest past.nodes)
new_id phase m words past state kept absent =
    id_new past state (λ i n at same. absent i (words_there phase m words past i n kept at ∙ ap (λ (s : List ℕ). Some (packed m.states.registry.layout s)) same))

pub no_row : (phase : Phase) (m : Machine) (words : List (List ℕ)) (past : Past) (state : List ℕ) → Keeps phase m words past → IsAbsent words (packed m.states.registry.layout state) → slice_get (latest past.nodes) (id_of past.nodes state) ≡ None
no_row phase m words past state kept absent =
    slice_get_past (latest past.nodes) (id_of past.nodes state) (omega (arith, new_id phase m words past state kept absent))

-- One that is among them has its latest visit there.
pub record IsThere (phase : Phase) (past : Past) (state : List ℕ) (id : ℕ) : Type 0 where
  pub node : Node
  pub at : slice_get (latest past.nodes) id ≡ Some node
  pub state_is : node.place.state ≡ state
  pub id_is : id ≡ id_of past.nodes state

pub known_there : (phase : Phase) (m : Machine) (words : List (List ℕ)) (past : Past) (state : List ℕ) (id : ℕ) → Sound phase past → Keeps phase m words past → IsState phase.parts.variables state
    → slice_get words id ≡ Some (packed m.states.registry.layout state) → IsThere phase past state id
known_there phase m words past state id sound kept is at =
    let l = m.states.registry.layout in
    let f = from-map (packed_at l) (latest past.nodes) id (packed l state) (ap (λ (ws : List (List ℕ)). slice_get ws id) (sym kept.stored) ∙ at) in
    let n = f.0 in
    let own = (sound.paths n.number n (sound.visits id n f.1)).settled.values in
    let same : n.place.state ≡ state = kept.ready.layout.apart n.place.state state (kept.ready.layout.holds n.place.state own) (kept.ready.layout.holds state is) f.2 in
    record { node = n; at = f.1; state_is = same; id_is = sym (id_known phase past state id n sound f.1 same) }

pub words_count : (phase : Phase) (m : Machine) (words : List (List ℕ)) (past : Past) → Keeps phase m words past → length words ≡ length (latest past.nodes)
words_count phase m words past kept = ap length kept.stored ∙ length-map (latest past.nodes) (packed_at m.states.registry.layout)

pub rows_count : (phase : Phase) (m : Machine) (words : List (List ℕ)) (past : Past) → Keeps phase m words past → length m.rows.items ≡ length (latest past.nodes)
rows_count phase m words past kept = ap length kept.rows ∙ length-map (latest past.nodes) row_of

-- words after a visit of a new state, and of a known one
pub words_new : (l : Places) (table : List Node) (n : Node) → n.visit.id ≡ length table → map (packed_at l) (put_latest table n) ≡ map (packed_at l) table ++ packed l n.place.state ∷ []
words_new l table n is =
    ap (λ b. map (packed_at l) (if b then slice_set table n.visit.id n else table ++ n ∷ [])) (le-ltb n.visit.id (length table) (omega (arith, is))) ∙ map-append (packed_at l) table (n ∷ [])

map-set_same : {X Y : Type 0} (f : X → Y) (xs : List X) (i : ℕ) (x y : X) → slice_get xs i ≡ Some y → f x ≡ f y → map f (slice_set xs i x) ≡ map f xs
map-set_same f [] i x y at same = refl
map-set_same f (z ∷ zs) zero x y at same = let e : z ≡ y = cc in ap (λ w. w ∷ map f zs) (same ∙ ap f (sym e))
map-set_same f (z ∷ zs) (suc i) x y at same = ap (λ ws. f z ∷ ws) (map-set_same f zs i x y at same)

pub words_again : (l : Places) (table : List Node) (n m : Node) (id : ℕ) → n.visit.id ≡ id → slice_get table id ≡ Some m → n.place.state ≡ m.place.state → map (packed_at l) (put_latest table n) ≡ map (packed_at l) table
words_again l table n m id is at same =
    let at_n : slice_get table n.visit.id ≡ Some m = ap (slice_get table) is ∙ at in
    ap (λ b. map (packed_at l) (if b then slice_set table n.visit.id n else table ++ n ∷ [])) (lt-ltb n.visit.id (length table) (slice_get_within table n.visit.id m at_n))
    ∙ map-set_same (packed_at l) table n.visit.id n m at_n (ap (packed l) same)

-- A new state is visited where there is room.
pub visits_new : (phase : Phase) (m new : Machine) (words : List (List ℕ)) (past : Past) (to : Place) (id : ℕ) → Keeps phase m words past → is_below phase.setting.bound to.real ≡ true
    → id ≡ length words → length words < m.states.registry.most → IsAbsent words (packed m.states.registry.layout to.state)
    → new.states.registry.states ≡ words ++ packed m.states.registry.layout to.state ∷ [] → new.states.registry.layout ≡ m.states.registry.layout → new.states.next.items ≡ to.state → IsVisited phase new past to id false
visits_new phase m new words past to id kept below is room absent stored same_layout next =
    let count = words_count phase m words past kept in
    let new_is = new_id phase m words past to.state kept absent in
    record {
      next = next;
      id_is = omega (arith, is, count, new_is);
      before = λ never. absurd (false≢true never);
      result = λ made. result_new phase past to made below (no_row phase m words past to.state kept absent) (omega (arith, room, count, kept.most));
      stored = λ n n_id n_state.
          let place : n.visit.id ≡ length (latest past.nodes) = omega (arith, n_id, is, count) in
          stored ∙ ap (λ (ws : List (List ℕ)). ws ++ packed m.states.registry.layout to.state ∷ []) kept.stored
          ∙ ap (λ (s : List ℕ). map (packed_at m.states.registry.layout) (latest past.nodes) ++ packed m.states.registry.layout s ∷ []) (sym n_state)
          ∙ sym (words_new m.states.registry.layout (latest past.nodes) n place)
          ∙ ap (λ (l : Places). map (packed_at l) (put_latest (latest past.nodes) n)) (sym same_layout);
    }

-- where there is none, it isn't
pub finds_full : (phase : Phase) (m : Machine) (words : List (List ℕ)) (past : Past) (to : Place) → Keeps phase m words past → is_below phase.setting.bound to.real ≡ true
    → length words ≡ m.states.registry.most → IsAbsent words (packed m.states.registry.layout to.state) → result_of phase past to None ≡ Full
finds_full phase m words past to kept below full absent =
    let count = words_count phase m words past kept in
    result_full phase past to None below (no_row phase m words past to.state kept absent) (omega (arith, full, count, kept.most))

-- A known state is visited again where its row says so.
known_at : (phase : Phase) (past : Past) (to : Place) (id : ℕ) → (t : IsThere phase past to.state id) → slice_get (latest past.nodes) (id_of past.nodes to.state) ≡ Some t.node
known_at phase past to id t = ap (slice_get (latest past.nodes)) (sym t.id_is) ∙ t.at

reopens_by : (phase : Phase) (m : Machine) (words : List (List ℕ)) (past : Past) (to : Place) (id g : ℕ) (row : LatestVisit) (b : Bool) → Keeps phase m words past → (t : IsThere phase past to.state id) → row ≡ get_or m.rows.items id row → g ≡ to.g
    → b ≡ (phase.setting.reopen && (not row.dead && nat_lt g row.g)) → is_reopened phase to t.node ≡ b
reopens_by phase m words past to id g row b kept t read g_is test =
    let there : slice_get m.rows.items id ≡ Some (row_of t.node) = ap (λ (rs : List LatestVisit). slice_get rs id) kept.rows ∙ slice_get-map row_of (latest past.nodes) id ∙ ap (option_map row_of) t.at in
    let is : row ≡ row_of t.node = read ∙ get_or_from_slice_get m.rows.items id (row_of t.node) row there in
    sym (test ∙ ap (λ (x : ℕ). phase.setting.reopen && (not row.dead && nat_lt x row.g)) g_is ∙ ap (λ (r : LatestVisit). phase.setting.reopen && (not r.dead && nat_lt to.g r.g)) is)

pub stays_known : (phase : Phase) (m : Machine) (words : List (List ℕ)) (past : Past) (to : Place) (id g : ℕ) (row : LatestVisit) → Keeps phase m words past → (t : IsThere phase past to.state id) → row ≡ get_or m.rows.items id row → g ≡ to.g
    → false ≡ (phase.setting.reopen && (not row.dead && nat_lt g row.g)) → is_below phase.setting.bound to.real ≡ true → result_of phase past to None ≡ Known
stays_known phase m words past to id g row kept t read g_is test below =
    result_stays phase past to t.node None below (known_at phase past to id t) (reopens_by phase m words past to id g row false kept t read g_is test)

pub visits_again : (phase : Phase) (m new : Machine) (words : List (List ℕ)) (past : Past) (to : Place) (id g : ℕ) (row : LatestVisit) → Sound phase past → Keeps phase m words past → (t : IsThere phase past to.state id) → row ≡ get_or m.rows.items id row → g ≡ to.g
    → true ≡ (phase.setting.reopen && (not row.dead && nat_lt g row.g)) → is_below phase.setting.bound to.real ≡ true
    → new.states.registry.states ≡ words → new.states.registry.layout ≡ m.states.registry.layout → new.states.next.items ≡ to.state → IsVisited phase new past to id true
visits_again phase m new words past to id g row sound kept t read g_is test below stored same_layout next =
    record {
      next = next;
      id_is = t.id_is;
      result = λ made. result_again phase past to t.node made below (known_at phase past to id t) (reopens_by phase m words past to id g row true kept t read g_is test);
      before = λ _.
          let parts = and_parts phase.setting.reopen (not t.node.visit.seen.dead && nat_lt to.g t.node.place.g) (reopens_by phase m words past to id g row true kept t read g_is test) in
          let alive = and_parts (not t.node.visit.seen.dead) (nat_lt to.g t.node.place.g) parts.1 in
          record { node = t.node; number = t.node.number; at = sound.visits id t.node t.at; state_is = t.state_is; alive = not-true _ alive.0 };
      stored = λ n n_id n_state.
          stored ∙ kept.stored
          ∙ sym (words_again m.states.registry.layout (latest past.nodes) n t.node id n_id t.at (n_state ∙ sym t.state_is))
          ∙ ap (λ (l : Places). map (packed_at l) (put_latest (latest past.nodes) n)) (sym same_layout);
    }
