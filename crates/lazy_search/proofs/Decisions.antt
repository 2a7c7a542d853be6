-- What a decision says of the state that an entry leads to.
use Rattle.std.proofs.Common.{◌≡◌, ℕ, ◌<◌, Bool, true, false, not, List, map, length, get_or, slice_get, Some, None, refl, ap, sym, ◌∙◌, subst, arith}
use Rattle.std.specs.Prelude.{◌&&◌, nat_lt, Vec}
use Rattle.std.specs.declared.alloc.Global.{Global}
use Rattle.std.proofs.lemmas.Option.{slice_get_within}
use Rattle.sas_task.specs.States.{IsState, step}
use Rattle.packed_state.specs.Packing.{Places, packed}
use Rattle.state_registry.specs.Registries.{Visited as Visits}
use Rattle.state_registry.specs.Interning.{Interns}
use Rattle.state_registry.specs.declared.interned.Interned.{Interned}
use Rattle.state_registry.specs.declared.interned.Interned.TheVariants as found
use Rattle.search_log.specs.Phases.{Phase, IsPhase}
use Rattle.lama_num.specs.Bounds.{is_below}
use Rattle.search_log.specs.Places.{Past, latest}
use Rattle.log_laws.proofs.TurnLaws.{result_over}
use Rattle.lazy_search.specs.declared.rows.LatestVisit.{LatestVisit}
use Rattle.lazy_search.specs.declared.states.States.{States}
use Rattle.lazy_search.specs.declared.machine.Machine.{Machine}
use Rattle.lazy_search.specs.declared.steps.Reached.{Reached}
use Rattle.lazy_search.specs.declared.steps.Decision.TheVariants.{Known, Full, New, Again}
use Rattle.lazy_search.specs.States.{AreFor}
use Rattle.lazy_search.specs.Machines.{packed_at, place_there, Reaches, Arrives}
use Rattle.lazy_search.proofs.TakenEntries.{sound_of}
use Rattle.lazy_search.proofs.LookUps.{IsThere, next_is, to_state, known_there, rows_count, visits_new, finds_full, stays_known, visits_again}

-- the machine with other states
abbrev pub with_states : Machine → States → Machine
with_states m s = record { log = m.log; states = s; rows = m.rows; origins = m.origins; lists = m.lists; least = m.least; chosen = m.chosen; seen = m.seen }

-- States that were looked for: the registry was as before, and then has what was found.
pub record Looked (phase : Phase) (m : Machine) (past : Past) (r : Reached) (R : Reaches phase m m.states.registry.states past r) (between s : States) (found : Interned) : Type 0 where
  pub kept : between.registry ≡ m.states.registry
  pub next : between.next.items ≡ R.goes.next
  pub ready : AreFor s phase.parts
  pub same_next : s.next ≡ between.next
  pub most : s.registry.most ≡ between.registry.most
  pub layout : s.registry.layout ≡ between.registry.layout
  pub interns : Interns between.registry.states between.registry.most (packed between.registry.layout between.next.items) found s.registry.states

-- The calls that look for it say so.
pub looked : (phase : Phase) (m : Machine) (past : Past) (r : Reached) (R : Reaches phase m m.states.registry.states past r) (between s : States) (value found : Interned) → IsPhase phase → between.registry ≡ m.states.registry
    → ((state : List ℕ) → IsState phase.parts.variables state → slice_get m.states.registry.states r.parent ≡ Some (packed m.states.registry.layout state) → step phase.parts state r.popped.entry.op ≡ Some between.next.items)
    → AreFor s phase.parts → s.next ≡ between.next → s.registry.most ≡ between.registry.most → s.registry.layout ≡ between.registry.layout
    → Interns between.registry.states between.registry.most (packed between.registry.layout between.next.items) value s.registry.states → value ≡ found → Looked phase m past r R between s found
looked phase m past r R between s value found is kept next ready same_next most layout interns same = record {
  kept = kept;
  next = next_is phase m past r.popped.entry r.parent between.next.items (sound_of phase m.log.visits m.log.pops past is R.kept.logged) R.kept R.goes R.parent next;
  ready = ready;
  same_next = same_next;
  most = most;
  layout = layout;
  interns = subst (λ (i : Interned). Interns between.registry.states between.registry.most (packed between.registry.layout between.next.items) i s.registry.states) same interns;
}

over_real : (phase : Phase) (m : Machine) (words : List (List ℕ)) (past : Past) (r : Reached) (b : Bool) (R : Reaches phase m words past r) → is_below phase.setting.bound r.real ≡ b → is_below phase.setting.bound (place_there phase past r.popped.entry R.goes).real ≡ b
over_real phase m words past r b R e = ap (is_below phase.setting.bound) (sym R.real) ∙ e

pub decided_over : (phase : Phase) (m : Machine) (past : Past) (r : Reached) → Reaches phase m m.states.registry.states past r → is_below phase.setting.bound r.real ≡ false → Arrives phase m past r Known
decided_over phase m past r R over = record {
  words = m.states.registry.states;
  reaches = R;
  decides = (result_over phase past (place_there phase past r.popped.entry R.goes) None (over_real phase m m.states.registry.states past r false R over), refl);
}

most_now : (phase : Phase) (m : Machine) (past : Past) (r : Reached) (R : Reaches phase m m.states.registry.states past r) (between s : States) (found : Interned) → Looked phase m past r R between s found → s.registry.most ≡ m.states.registry.most
most_now phase m past r R between s found k = k.most ∙ ap (λ (g : Visits). g.most) k.kept

layout_now : (phase : Phase) (m : Machine) (past : Past) (r : Reached) (R : Reaches phase m m.states.registry.states past r) (between s : States) (found : Interned) → Looked phase m past r R between s found → s.registry.layout ≡ m.states.registry.layout
layout_now phase m past r R between s found k = k.layout ∙ ap (λ (g : Visits). g.layout) k.kept

next_now : (phase : Phase) (m : Machine) (past : Past) (r : Reached) (R : Reaches phase m m.states.registry.states past r) (between s : States) (found : Interned) → Looked phase m past r R between s found → s.next.items ≡ R.goes.next
next_now phase m past r R between s found k = ap (λ (v : Vec ℕ Global). v.items) k.same_next ∙ k.next

-- what is known of the entry stays
pub still_reaches : (phase : Phase) (m : Machine) (past : Past) (r : Reached) (R : Reaches phase m m.states.registry.states past r) (between s : States) (found : Interned) → Looked phase m past r R between s found
    → Reaches phase (with_states m s) m.states.registry.states past r
still_reaches phase m past r R between s found l =
    let k = R.kept in
    record {
      kept = record {
        logged = k.logged;
        visits = k.visits;
        pops = k.pops;
        ready = l.ready;
        most = most_now phase m past r R between s found l ∙ k.most;
        stored = k.stored ∙ ap (λ (y : Places). map (packed_at y) (latest past.nodes)) (sym (layout_now phase m past r R between s found l));
        rows = k.rows;
        origins = k.origins;
        least = k.least;
      };
      lists = R.lists;
      stood = R.stood;
      pops = R.pops;
      goes = R.goes;
      parent = R.parent;
      origin = R.origin;
      g = R.g;
      real = R.real;
      small = R.small;
    }

-- what was found, by the registry before
found_now : (phase : Phase) (m : Machine) (past : Past) (r : Reached) (R : Reaches phase m m.states.registry.states past r) (between s : States) (found : Interned) → Looked phase m past r R between s found
    → Interns m.states.registry.states m.states.registry.most (packed m.states.registry.layout R.goes.next) found s.registry.states
found_now phase m past r R between s found l =
    subst (λ (g : Visits). Interns g.states g.most (packed g.layout R.goes.next) found s.registry.states) l.kept
    (subst (λ (x : List ℕ). Interns between.registry.states between.registry.most (packed between.registry.layout x) found s.registry.states) l.next l.interns)

pub decided_new : (phase : Phase) (m : Machine) (past : Past) (r : Reached) (id : ℕ) (R : Reaches phase m m.states.registry.states past r) (between s : States) → is_below phase.setting.bound r.real ≡ true → Looked phase m past r R between s (found.New id)
    → Arrives phase (with_states m s) past r (New id)
unfolding still_reaches
decided_new phase m past r id R between s below l =
    let i = found_now phase m past r R between s (found.New id) l in
    record {
      words = m.states.registry.states;
      reaches = still_reaches phase m past r R between s (found.New id) l;
      decides = visits_new phase m (with_states m s) m.states.registry.states past (place_there phase past r.popped.entry R.goes) id R.kept (over_real phase m m.states.registry.states past r true R below)
          i.0 i.1 i.2 i.3 (layout_now phase m past r R between s (found.New id) l) (next_now phase m past r R between s (found.New id) l);
    }

pub decided_full : (phase : Phase) (m : Machine) (past : Past) (r : Reached) (R : Reaches phase m m.states.registry.states past r) (between s : States) → is_below phase.setting.bound r.real ≡ true → Looked phase m past r R between s found.Full
    → Arrives phase (with_states m s) past r Full
unfolding still_reaches
decided_full phase m past r R between s below l =
    let i = found_now phase m past r R between s found.Full l in
    record {
      words = m.states.registry.states;
      reaches = still_reaches phase m past r R between s found.Full l;
      decides = (
        finds_full phase m m.states.registry.states past (place_there phase past r.popped.entry R.goes) R.kept (over_real phase m m.states.registry.states past r true R below) i.0 i.1,
        i.2,
      );
    }

there : (phase : Phase) (m : Machine) (past : Past) (r : Reached) (id : ℕ) (R : Reaches phase m m.states.registry.states past r) (between s : States) → IsPhase phase → Looked phase m past r R between s (found.Known id) → IsThere phase past R.goes.next id
there phase m past r id R between s is l =
    let sound = sound_of phase m.log.visits m.log.pops past is R.kept.logged in
    known_there phase m m.states.registry.states past R.goes.next id sound R.kept (to_state phase past r.popped.entry is sound R.goes) (found_now phase m past r R between s (found.Known id) l).0

pub known_within : (phase : Phase) (m : Machine) (past : Past) (r : Reached) (id : ℕ) (R : Reaches phase m m.states.registry.states past r) (between s : States) → IsPhase phase → Looked phase m past r R between s (found.Known id) → id < length m.rows.items
known_within phase m past r id R between s is l =
    omega (arith, slice_get_within (latest past.nodes) id (there phase m past r id R between s is l).node (there phase m past r id R between s is l).at, rows_count phase m m.states.registry.states past R.kept)

pub decided_known : (phase : Phase) (m : Machine) (past : Past) (r : Reached) (id : ℕ) (row : LatestVisit) (R : Reaches phase m m.states.registry.states past r) (between s : States) → IsPhase phase → is_below phase.setting.bound r.real ≡ true → Looked phase m past r R between s (found.Known id)
    → row ≡ get_or m.rows.items id row → false ≡ (phase.setting.reopen && (not row.dead && nat_lt r.g row.g)) → Arrives phase (with_states m s) past r Known
unfolding still_reaches
decided_known phase m past r id row R between s is below l read test =
    record {
      words = m.states.registry.states;
      reaches = still_reaches phase m past r R between s (found.Known id) l;
      decides = (
        stays_known phase m m.states.registry.states past (place_there phase past r.popped.entry R.goes) id r.g row R.kept (there phase m past r id R between s is l) read R.g test (over_real phase m m.states.registry.states past r true R below),
        (found_now phase m past r R between s (found.Known id) l).1,
      );
    }

pub decided_again : (phase : Phase) (m : Machine) (past : Past) (r : Reached) (id : ℕ) (row : LatestVisit) (R : Reaches phase m m.states.registry.states past r) (between s : States) → IsPhase phase → is_below phase.setting.bound r.real ≡ true → Looked phase m past r R between s (found.Known id)
    → row ≡ get_or m.rows.items id row → true ≡ (phase.setting.reopen && (not row.dead && nat_lt r.g row.g)) → Arrives phase (with_states m s) past r (Again id)
unfolding still_reaches
decided_again phase m past r id row R between s is below l read test =
    record {
      words = m.states.registry.states;
      reaches = still_reaches phase m past r R between s (found.Known id) l;
      decides = visits_again phase m (with_states m s) m.states.registry.states past (place_there phase past r.popped.entry R.goes) id r.g row (sound_of phase m.log.visits m.log.pops past is R.kept.logged) R.kept (there phase m past r id R between s is l) read R.g test
          (over_real phase m m.states.registry.states past r true R below) (found_now phase m past r R between s (found.Known id) l).1 (layout_now phase m past r R between s (found.Known id) l) (next_now phase m past r R between s (found.Known id) l);
    }
