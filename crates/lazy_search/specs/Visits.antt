-- What is kept of a visit.
use Rattle.std.specs.Prelude.{◌≡◌, ℕ, ◌<◌, ◌^◌, Bool, true, false, not, ◌&&◌, List, [], ◌∷◌, ◌++◌, length, slice_index, pos}
use Rattle.open_lists.specs.Lists.{list_count, is_preferred, boost_of, counter as counter_now, Holds}
use Rattle.sas_task.specs.declared.contents.Parts.{Parts}
use Rattle.open_lists.specs.declared.lists.OpenLists.{OpenLists}
use Rattle.guide.specs.declared.seen.Seen.{Seen}
use Rattle.search_log.specs.declared.setting.Setting.{Setting}
use Rattle.lazy_search.specs.declared.shape.Shape.{Shape}
use Rattle.lazy_search.specs.declared.rows.LatestVisit.{LatestVisit}
use Rattle.lazy_search.specs.declared.steps.Arrival.{Arrival}
use Rattle.lazy_search.specs.declared.machine.Machine.{Machine}
use Rattle.lazy_search.specs.Rows.{row_put}
use Rattle.lazy_search.specs.Entries.{Expands}
use Rattle.lazy_search.specs.States.{AreFor}
use Rattle.lazy_search.specs.Shapes.{lists_by, is_preferred_by}

-- the row of a visit, which is the next
abbrev pub row_for : Machine → Arrival → Bool → LatestVisit
row_for m arrival dead = record { g = arrival.g; real = arrival.real; number = length m.origins.items; dead = dead }

-- what becomes of the lists and of the least estimates, where the visit is expanded and where it isn't
abbrev pub Grows : Parts → Setting → Shape → LatestVisit → Seen → List ℕ → OpenLists → List ℕ → Bool → OpenLists → List ℕ → Type 0
Grows parts setting shape row seen operators old least true new new_least = Expands parts setting shape row seen operators old least new new_least
Grows parts setting shape row seen operators old least false new new_least = (new ≡ old) × (new_least ≡ least)

-- A visit was kept, of which the guides have spoken.
pub record KeepsVisit (parts : Parts) (setting : Setting) (shape : Shape) (old : Machine) (arrival : Arrival) (new : Machine) : Type 0 where
  pub small : (j : ℕ) → slice_index old.seen.estimates j < 2 ^ 32
  pub rows : new.rows.items ≡ row_put old.rows.items arrival.id (row_for old arrival old.seen.dead)
  pub origins : new.origins.items ≡ old.origins.items ++ arrival.came ∷ []
  pub few : length old.origins.items < 2 ^ 32
  pub visits : new.log.visits ≡ old.log.visits ++ record { id = arrival.id; g = arrival.g; seen = old.seen } ∷ []
  pub pops : new.log.pops ≡ old.log.pops
  pub states : new.states ≡ old.states
  pub grows : Grows parts setting shape (row_for old arrival old.seen.dead) old.seen old.states.applicable.items old.lists old.least (not old.seen.dead && not arrival.is_goal) new.lists new.least

-- A machine that has visited nothing.
pub record IsBlank (parts : Parts) (setting : Setting) (shape : Shape) (m : Machine) : Type 0 where
  pub visits : m.log.visits ≡ []
  pub pops : m.log.pops ≡ []
  pub ready : AreFor m.states parts
  pub words : m.states.registry.states ≡ []
  pub most : m.states.registry.most ≡ setting.most_states
  pub rows : m.rows.items ≡ []
  pub origins : m.origins.items ≡ []
  pub count : list_count m.lists ≡ lists_by shape
  pub empty : (k : ℕ) → Holds m.lists k []
  pub counters : (k : ℕ) → counter_now m.lists k ≡ pos 0
  pub sorts : (k : ℕ) → k < lists_by shape → is_preferred m.lists k ≡ is_preferred_by shape k
  pub boost : boost_of m.lists ≡ setting.boost
  pub least : m.least ≡ 4294967296 ∷ 4294967296 ∷ 4294967296 ∷ []
