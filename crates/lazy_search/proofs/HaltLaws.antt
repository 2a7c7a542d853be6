-- How a search halts after a turn.
use Rattle.std.proofs.Common.{◌≡◌, ℕ, ◌<◌, ◌%◌, Bool, true, false, List, [], length, Option, Some, None, refl, ap, sym, ◌∙◌, subst, arith, inl, inr, IfOk, OnOk, ◌↔◌, ◌≢◌}
use Rattle.std.specs.Prelude.{if◌then◌else◌, Result, Ok, Err}
use Rattle.std.proofs.lemmas.Bool.{leb-true, cases_eq}
use Rattle.guide.specs.declared.seen.Seen.{Seen}
use Rattle.search_log.specs.declared.setting.Stop.{Stop}
use Rattle.search_log.specs.declared.setting.LimitHit.{LimitHit}
use Rattle.search_log.specs.declared.setting.LimitHit.TheVariants.{Time, Pops, States}
use Rattle.search_log.specs.Phases.{Phase}
use Rattle.search_log.specs.Clocks.{is_late}
use Rattle.search_log.specs.Ends.{EndsExhausted, EndsAtPops, EndsAtLimit}
use Rattle.lazy_search.specs.declared.machine.Machine.{Machine}
use Rattle.lazy_search.specs.declared.steps.Turned.{Turned}
use Rattle.lazy_search.specs.declared.steps.Turned.TheVariants.{Empty, Done, AtGoal, AtFull}
use Rattle.lazy_search.specs.declared.searching.Halt.TheVariants as halt
use Rattle.search_log.specs.declared.turns.Pop.{Pop}
use Rattle.lazy_search.specs.Outcomes.{PopsMore}
use Rattle.lazy_search.specs.Machines.{AfterTurn}
use Rattle.lazy_search.specs.Halts.{Halts, Asks}

pub halts_empty : (phase : Phase) (K : ℕ → List (List ℕ) → Type 0) (F : List (List ℕ) → Seen → Type 0) (m : Machine) → AfterTurn phase K F m Empty → Halts phase K F m halt.Exhausted
halts_empty phase K F m a = record { past = a.past; rests = a.rests; guided = a.guided; ends = a.ends }

pub halts_goal : (phase : Phase) (K : ℕ → List (List ℕ) → Type 0) (F : List (List ℕ) → Seen → Type 0) (m : Machine) → AfterTurn phase K F m AtGoal → Halts phase K F m halt.AtGoal
halts_goal phase K F m a = record { past = a.past; rests = a.rests; guided = a.guided; ends = a.ends }

pub halts_full : (phase : Phase) (K : ℕ → List (List ℕ) → Type 0) (F : List (List ℕ) → Seen → Type 0) (m : Machine) → AfterTurn phase K F m AtFull → Halts phase K F m (halt.AtLimit (States phase.setting.most_states))
halts_full phase K F m a = record { past = a.past; rests = a.rests; guided = a.guided; ends = (refl, a.ends) }

-- time is over where the clock says so
pub record IsOver (stop : Option Stop) (hit : LimitHit) : Type 0 where
  pub own : Stop
  pub moment : ℕ
  pub stop_is : stop ≡ Some own
  pub hit_is : hit ≡ Time own.start own.limit moment
  pub late : is_late own moment ≡ true

pub asks_over : (stop : Option Stop) (before after : Option (List ℕ)) (hit : LimitHit) → Asks stop before after (Some hit) → IsOver stop hit
asks_over None before after hit a = let k : ◌≡◌ {A = Option LimitHit} (Some hit) None = a.1 in cc
asks_over (Some s) before after hit a = by_late (is_late s a.0) refl a.2
  where
    by_late : (b : Bool) → is_late s a.0 ≡ b → Some hit ≡ (if b then Some (Time s.start s.limit a.0) else None) → IsOver (Some s) hit
    by_late true late e = let same : hit ≡ Time s.start s.limit a.0 = cc in record { own = s; moment = a.0; stop_is = refl; hit_is = same; late = late }
    by_late false late e = let k : ◌≡◌ {A = Option LimitHit} (Some hit) None = e in cc

pub halts_time : (phase : Phase) (K : ℕ → List (List ℕ) → Type 0) (F : List (List ℕ) → Seen → Type 0) (m : Machine) (hit : LimitHit) → AfterTurn phase K F m Done → IsOver phase.setting.stop hit → 0 < length m.log.pops → length m.log.pops % 256 ≡ 0
    → Halts phase K F m (halt.AtLimit hit)
halts_time phase K F m hit a over some multiple = record {
  past = a.past;
  rests = a.rests;
  guided = a.guided;
  ends = subst (EndsAtLimit phase a.past) (sym over.hit_is) (record {
    goes_on = a.ends;
    asked = inr (omega (arith, ap length a.rests.kept.pops, some), ap (λ (n : ℕ). n % 256) (ap length (sym a.rests.kept.pops)) ∙ multiple);
    stop = over.stop_is;
    over = leb-true _ _ over.late;
  });
}

-- time that is over before the first visit
pub first_over : (phase : Phase) (hit : LimitHit) → IsOver phase.setting.stop hit → EndsAtLimit phase (record { nodes = []; pops = [] }) hit
first_over phase hit over = subst (EndsAtLimit phase (record { nodes = []; pops = [] })) (sym over.hit_is) (record {
  goes_on = record { no_goal = refl; not_full = refl };
  asked = inl (refl, refl);
  stop = over.stop_is;
  over = leb-true _ _ over.late;
})

pub halts_done : (phase : Phase) (K : ℕ → List (List ℕ) → Type 0) (F : List (List ℕ) → Seen → Type 0) (m : Machine) → (a : AfterTurn phase K F m Done) → EndsExhausted phase a.past → Halts phase K F m halt.Exhausted
halts_done phase K F m a ends = record { past = a.past; rests = a.rests; guided = a.guided; ends = ends }

pub halts_pops : (phase : Phase) (K : ℕ → List (List ℕ) → Type 0) (F : List (List ℕ) → Seen → Type 0) (m : Machine) → (a : AfterTurn phase K F m Done) → EndsAtPops phase a.past → Halts phase K F m (halt.AtLimit (Pops phase.setting.most_pops))
halts_pops phase K F m a ends = record { past = a.past; rests = a.rests; guided = a.guided; ends = (refl, ends) }

pub same_both : {A B C : Type 0} → (A ↔ B) → (B ↔ C) → (A ↔ C)
same_both p q = (λ x. q.0 (p.0 x), λ x. p.1 (q.1 x))

-- a turn of which it is known how it went
pub after_is : (phase : Phase) (K : ℕ → List (List ℕ) → Type 0) (F : List (List ℕ) → Seen → Type 0) (m : Machine) (t u : Turned) → t ≡ u → AfterTurn phase K F m t → AfterTurn phase K F m u
after_is phase K F m t u is a = subst (AfterTurn phase K F m) is a

pub pops_are : (old new : List Pop) (t u : Turned) → t ≡ u → PopsMore old new t → PopsMore old new u
pops_are old new t u is p = subst (PopsMore old new) is p

-- time is over only where the clock was asked
pub over_after : (stop : Option Stop) (n : ℕ) (before after : Option (List ℕ)) (hit : LimitHit) → (n % 256 ≢ 0 → ◌≡◌ {A = Option LimitHit} (Some hit) None) → (n % 256 ≡ 0 → Asks stop before after (Some hit)) → (n % 256 ≡ 0) × IsOver stop hit
over_after stop n before after hit none asks =
    elim (cases_eq (n % 256) 0) [
      | inl multiple ↦ (multiple, asks_over stop before after hit (asks multiple))
      | inr other ↦ absurd (let e = none other in cc)
    ]

pub on_ok : {T E A B : Type 0} (r : Result T E) → (A → B) → OnOk r A → OnOk r B
on_ok (Ok x) f a = f a
on_ok (Err e) f a = tt

pub if_all : {T E : Type 0} (r : Result T E) (A : Type 0) → A → OnOk r A
if_all (Ok x) A a = a
if_all (Err e) A a = tt

pub if_both : {T E : Type 0} (r : Result T E) (P Q R : T → Type 0) → ((x : T) → P x → Q x → R x) → IfOk r P → IfOk r Q → IfOk r R
if_both (Ok x) P Q R f p q = f x p q
if_both (Err e) P Q R f p q = tt
