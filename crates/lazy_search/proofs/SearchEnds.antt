-- What the answer of a search says.
use Rattle.std.proofs.Common.{◌≡◌, ℕ, ◌≤◌, Bool, List, [], Option, Some, None, refl, ap, sym, ◌∙◌, subst, ◌∷◌, arith}
use Rattle.sas_task.specs.declared.contents.Parts.{Parts}
use Rattle.guide.specs.declared.seen.Seen.{Seen}
use Rattle.search_log.specs.declared.setting.Setting.{Setting}
use Rattle.search_log.specs.declared.setting.LimitHit.{LimitHit}
use Rattle.search_log.specs.declared.turns.Pop.{Pop}
use Rattle.search_log.specs.Logs.{Content, Visit}
use Rattle.sas_task.specs.WellFormed.{IsWellFormed}
use Rattle.search_log.specs.Phases.{Phase, IsPhase, IsSetting}
use Rattle.search_log.specs.Places.{Node, Past}
use Rattle.search_log.specs.Guided.{AllFit, TellsDead}
use Rattle.search_log.specs.Ends.{EndsAtLimit}
use Rattle.search_log.specs.Clocks.{moment_of}
use Rattle.lazy_search.specs.declared.machine.Machine.{Machine}
use Rattle.lazy_search.specs.declared.end.SearchEnd.{SearchEnd}
use Rattle.lazy_search.specs.declared.end.SearchEnd.TheVariants.{Plan, Unsolvable, Unsolved, Limit, NoMemory}
use Rattle.lazy_search.specs.declared.searching.Halt.{Halt}
use Rattle.lazy_search.specs.declared.shape.Shape.{Shape}
use Rattle.lazy_search.specs.Machines.{past_in, Rests}
use Rattle.lazy_search.specs.Phases.{phase_of}
use Rattle.lazy_search.specs.Ends.{Tells, EndsInPlan, EndsInSpace, EndsSo, EndHolds, ClockHolds, IsAnswered, moment_by, past_by, phase_by}
use Rattle.lazy_search.proofs.HaltLaws.{IsOver, first_over}
use Rattle.lazy_search.specs.Halts.{Halts, HaltEnds}

-- the past of a halt is what the log tells
pub halt_ends : (phase : Phase) (K : ℕ → List (List ℕ) → Type 0) (F : List (List ℕ) → Seen → Type 0) (m : Machine) (h : Halt) → Halts phase K F m h → Rests phase m (past_in phase m) × HaltEnds phase (past_in phase m) h × TellsDead phase (past_in phase m)
halt_ends phase K F m h a =
    let same = sym a.rests.kept.logged.past_is in
    (subst (Rests phase m) same a.rests, subst (λ (q : Past). HaltEnds phase q h) same a.ends, subst (TellsDead phase) same a.guided.dead)

pub tells : (phase : Phase) (K : ℕ → List (List ℕ) → Type 0) (F G : List (List ℕ) → Seen → Type 0) (m : Machine) (h : Halt) → Halts phase K F m h → ((states : List (List ℕ)) (seen : Seen) → F states seen → G states seen) → Tells phase G m.log
tells phase K F G m h a means =
    let same = sym a.rests.kept.logged.past_is in
    record {
      lawful = a.rests.kept.logged.lawful;
      fits = subst (AllFit G) same (λ j n at. means n.place.states n.visit.seen (a.guided.fits j n at));
      dead = subst (TellsDead phase) same a.guided.dead;
    }

pub end_holds : (phase : Phase) (F : List (List ℕ) → Seen → Type 0) (whole : Content) (end : SearchEnd) → Tells phase F whole → EndsSo phase whole end → EndHolds phase F end
end_holds phase F whole (Plan ops cost log) t e = (subst (Tells phase F) (sym e.0) t, subst (EndsInPlan phase ops cost) (sym e.0) e.1)
end_holds phase F whole (Unsolvable space log) t e = (subst (Tells phase F) (sym e.0) t, subst (EndsInSpace phase space) (sym e.0) e.1, e.2)
end_holds phase F whole (Unsolved space log) t e = (subst (Tells phase F) (sym e.0) t, subst (EndsInSpace phase space) (sym e.0) e.1, e.2)
end_holds phase F whole (Limit hit log) t e = (subst (Tells phase F) (sym e.0) t, subst (λ (l : Content). EndsAtLimit phase (past_by phase l) hit) (sym e.0) e.1)
end_holds phase F whole NoMemory t e = tt

answered_by : (phase : Phase) (whole log : Content) (moment own : Option ℕ) (before after : Option (List ℕ)) → log ≡ whole → own ≡ moment → IsAnswered phase whole.pops moment before after → IsAnswered phase log.pops own before after
answered_by phase whole log moment own before after same is a =
    subst (λ (l : Content). IsAnswered phase l.pops own before after) (sym same) (subst (λ (t : Option ℕ). IsAnswered phase whole.pops t before after) (sym is) a)

pub clock_holds : (phase : Phase) (whole : Content) (end : SearchEnd) (moment : Option ℕ) (before after : Option (List ℕ)) → EndsSo phase whole end → moment_by end ≡ moment → IsAnswered phase whole.pops moment before after → ClockHolds phase before after end
clock_holds phase whole (Plan ops cost log) moment before after e is a = answered_by phase whole log moment None before after e.0 is a
clock_holds phase whole (Unsolvable space log) moment before after e is a = answered_by phase whole log moment None before after e.0 is a
clock_holds phase whole (Unsolved space log) moment before after e is a = answered_by phase whole log moment None before after e.0 is a
clock_holds phase whole (Limit hit log) moment before after e is a = answered_by phase whole log moment (moment_of hit) before after e.0 is a
clock_holds phase whole NoMemory moment before after e is a = tt

-- time that is over before the first visit
pub first_limit : (phase : Phase) (F : List (List ℕ) → Seen → Type 0) (log : Content) (hit : LimitHit) → log.visits ≡ [] → log.pops ≡ [] → IsOver phase.setting.stop hit → EndHolds phase F (Limit hit log)
first_limit phase F log hit no_visits no_pops over = nothing log.visits log.pops no_visits no_pops
  where
    nothing : (vs : List Visit) (ps : List Pop) → vs ≡ [] → ps ≡ [] → EndHolds phase F (Limit hit (record { visits = vs; pops = ps }))
    nothing [] [] a b = (
      record {
        lawful = refl;
        fits = λ j n at. absurd (let e : ◌≡◌ {A = Option Node} None (Some n) = at in cc);
        dead = λ j n at _. absurd (let e : ◌≡◌ {A = Option Node} None (Some n) = at in cc);
      },
      first_over phase hit over,
    )
    nothing (v ∷ vs) ps a b = absurd (cc)
    nothing [] (p ∷ ps) a b = absurd (cc)

-- the phase of a guide's shape
pub phase_same : (parts : Parts) (setting : Setting) (shape : Shape) (guides : ℕ) (preferring : Bool) → shape.guides ≡ guides → shape.preferring ≡ preferring → phase_of parts setting shape ≡ phase_by parts setting guides preferring
phase_same parts setting shape guides preferring a b = ap (λ (n : ℕ). phase_by parts setting n shape.preferring) a ∙ ap (phase_by parts setting guides) b

pub is_phase : (parts : Parts) (setting : Setting) (shape : Shape) → IsWellFormed parts → 1 ≤ shape.guides → shape.guides ≤ 3 → IsSetting setting → IsPhase (phase_of parts setting shape)
is_phase parts setting shape formed some few is = record { task = formed; some_guide = omega (arith, some); few_guides = few; setting = is }
