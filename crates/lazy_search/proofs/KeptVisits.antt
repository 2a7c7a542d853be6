-- A visit that is kept.
use Rattle.std.proofs.Common.{◌≡◌, ℕ, ◌<◌, ◌^◌, Bool, true, false, not, [], ◌∷◌, ◌++◌, length, refl, ap, ◌∙◌, subst, arith, OnOk}
use Rattle.std.specs.Prelude.{Result, Ok, Err, ◌&&◌, slice_index}
use Rattle.sas_task.specs.declared.contents.Parts.{Parts}
use Rattle.search_log.specs.declared.setting.Setting.{Setting}
use Rattle.lazy_search.specs.declared.shape.Shape.{Shape}
use Rattle.lazy_search.specs.declared.rows.LatestVisit.{LatestVisit}
use Rattle.lazy_search.specs.declared.steps.Arrival.{Arrival}
use Rattle.lazy_search.specs.declared.machine.Machine.{Machine}
use Rattle.lazy_search.specs.Rows.{row_put}
use Rattle.lazy_search.specs.Visits.{Grows, KeepsVisit}
use Rattle.lama_num.proofs.BoolLaws.{and-false}

pub on_ok : {T E : Type 0} (P Q : Type 0) (r : Result T E) → (P → Q) → OnOk r P → OnOk r Q
on_ok P Q (Ok x) f p = f p
on_ok P Q (Err e) f p = tt

abbrev pub numbered_row : Machine → Arrival → ℕ → LatestVisit
numbered_row m arrival number = record { g = arrival.g; real = arrival.real; number = number; dead = m.seen.dead }

pub keeps_visit : (parts : Parts) (setting : Setting) (shape : Shape) (old : Machine) (arrival : Arrival) (new : Machine) (number : ℕ) → number ≡ length old.origins.items → number < 2 ^ 32 → ((j : ℕ) → slice_index old.seen.estimates j < 2 ^ 32)
    → new.rows.items ≡ row_put old.rows.items arrival.id (numbered_row old arrival number) → new.origins.items ≡ old.origins.items ++ arrival.came ∷ []
    → new.log.visits ≡ old.log.visits ++ record { id = arrival.id; g = arrival.g; seen = old.seen } ∷ [] → new.log.pops ≡ old.log.pops → new.states ≡ old.states
    → Grows parts setting shape (numbered_row old arrival number) old.seen old.states.applicable.items old.lists old.least (not old.seen.dead && not arrival.is_goal) new.lists new.least
    → KeepsVisit parts setting shape old arrival new
keeps_visit parts setting shape old arrival new number is few small rows origins visits pops states grows =
    record {
      small = small;
      rows = rows ∙ ap (λ (n : ℕ). row_put old.rows.items arrival.id (numbered_row old arrival n)) is;
      origins = origins;
      few = omega (arith, is, few);
      visits = visits;
      pops = pops;
      states = states;
      grows = subst (λ (n : ℕ). Grows parts setting shape (numbered_row old arrival n) old.seen old.states.applicable.items old.lists old.least (not old.seen.dead && not arrival.is_goal) new.lists new.least) is grows;
    }

pub opened : (dead goal : Bool) → dead ≡ false → goal ≡ false → (not dead && not goal) ≡ true
opened dead goal a b = ap (λ (x : Bool). not x && not goal) a ∙ ap not b
