use Rattle.std.proofs.Common.{◌≡◌, ◌≢◌, ◌<◌, ◌≤◌, ℕ, List, [], ◌∷◌, refl, ap, sym, ◌∙◌, subst, arith}
use Rattle.std.specs.Prelude.{Option, IfSome, Vec, filter, not, ◌&&◌}
use Rattle.std.specs.declared.alloc.Global.{Global}
use Rattle.sas_task.specs.Runs.{start_of, is_goal}
use Rattle.sas_task.specs.States.{IsState}
use Rattle.sas_task.proofs.RunLaws.{start-state}
use Rattle.relaxed_task.specs.Reached.{IsDead}
use Rattle.packed_state.specs.Packing.{Places, packed}
use Rattle.state_registry.specs.Registries.{Visited as Visits}
use Rattle.guide.specs.Operators.{applicable_operators, is_among}
use Rattle.search_log.specs.Places.{start_past}
use Rattle.lazy_search.specs.declared.states.States.{States}
use Rattle.lazy_search.specs.declared.machine.Machine.{Machine}
use Rattle.lazy_search.specs.declared.steps.Turned.{Turned}
use Rattle.lazy_search.specs.declared.steps.Turned.TheVariants.{Empty}
use Rattle.lazy_search.specs.States.{AreFor}
use Rattle.lazy_search.specs.Outcomes.{turned_by}
use Rattle.lazy_search.specs.Visits.{row_for, Grows}
use Rattle.lazy_search.specs.Machines.{AfterTurn}
use Rattle.lazy_search.specs.Phases.{phase_of}
use Rattle.lazy_search.proofs.VisitLaws.{Noted}
use Rattle.lazy_search.proofs.FirstVisit.{first_words, arrival_first, visit_first, rests_first, guided_first, first_ends, counters_first, not_empty_first}
use Rattle.lazy_search.proofs.machine.Machine.begin.Goals as goal

pub intern-requires-clause-state : goal.intern-requires-clause-state
intern-requires-clause-state g c = subst (IsState c.args.phase.now.task.now.variables) (sym c.start.ensures.next) (start-state c.args.phase.now.task.now c.args.phase.now.is_phase.task)

pub visit-requires-clause-state : goal.visit-requires-clause-state
visit-requires-clause-state g c =
    let here : c.deref.result.now ≡ start_of c.args.phase.now.task.now =
    c.deref.ensures.value ∙ ap (λ (v : Vec ℕ Global). v.items) c.find_applicable.ensures.next ∙ ap (λ (v : Vec ℕ Global). v.items) c.in_ok-_first.ensures.next ∙ c.start.ensures.next in
    subst (IsState c.args.phase.now.task.now.variables) (sym here) (start-state c.args.phase.now.task.now c.args.phase.now.is_phase.task)

pub visit-requires-clause-applicable : goal.visit-requires-clause-applicable
visit-requires-clause-applicable g c =
    c.deref-2.ensures.value ∙ c.find_applicable.ensures.applicable
    ∙ ap (applicable_operators c.args.phase.now.task.now) (sym (c.deref.ensures.value ∙ ap (λ (v : Vec ℕ Global). v.items) c.find_applicable.ensures.next))

pub keep_visit-requires-clause-counters : goal.keep_visit-requires-clause-counters
keep_visit-requires-clause-counters g c = counters_first c.args.phase.now.task.now c.args.phase.now.setting.now c.args.phase.now.shape c.args.self.now c.args.phase.now.is_phase c.requires.blank

pub returns-clause-pops : goal.returns-clause-pops
returns-clause-pops g c = c.in_ok-keep_visit.ensures.pops ∙ c.requires.blank.pops

pub returns-clause-not_empty : goal.returns-clause-not_empty
returns-clause-not_empty g c =
    subst (λ (t : Turned). t ≢ Empty) (sym (c.turned_by.ensures ∙ ap turned_by c.outcome_of-outcome.ensures)) (not_empty_first c.visit.new.out.dead c.is_goal-is_goal.result)

pub returns-clause-after : goal.returns-clause-after
returns-clause-after g c =
    let parts = c.args.phase.now.task.now in
    let setting = c.args.phase.now.setting.now in
    let shape = c.args.phase.now.shape in
    let phase = phase_of parts setting shape in
    let b = c.args.self.now in
    let B = c.requires.blank in
    let seen = c.visit.new.out in
    let at_goal = c.is_goal-is_goal.result in
    let KV = c.in_ok-keep_visit.ensures in
    let new = c.keep_visit.new.self in
    let s0 = c.start.new.self in
    let s1 = c.intern.new.self in
    let I = c.in_ok-_first.ensures in
    let m : Machine = record { log = b.log; states = s1; rows = b.rows; origins = b.origins; lists = b.lists; least = b.least; chosen = b.chosen; seen = b.seen } in
    let next : s1.next.items ≡ start_of parts = ap (λ (v : Vec ℕ Global). v.items) I.next ∙ c.start.ensures.next in
    let made : s1.registry.states ≡ packed s0.registry.layout s0.next.items ∷ [] =
    first_words s0.registry.states s1.registry.states s0.registry.most (packed s0.registry.layout s0.next.items) c.in_ok-_first._first (ap (λ (x : Visits). x.states) c.start.ensures.kept ∙ B.words)
    (omega (arith, c.args.phase.now.is_phase.setting.some_state, ap (λ (x : Visits). x.most) c.start.ensures.kept, B.most)) I.interns in
    let words : s1.registry.states ≡ packed s1.registry.layout (start_of parts) ∷ [] =
    made ∙ ap (λ (x : List ℕ). packed s0.registry.layout x ∷ []) c.start.ensures.next ∙ ap (λ (l : Places). packed l (start_of parts) ∷ []) (sym I.layout) in
    let most : s1.registry.most ≡ setting.most_states = I.most ∙ ap (λ (x : Visits). x.most) c.start.ensures.kept ∙ B.most in
    let apps : c.deref-2.result.now ≡ applicable_operators parts s1.next.items = c.deref-2.ensures.value ∙ c.find_applicable.ensures.applicable in
    let own : at_goal ≡ is_goal parts s1.next.items = c.is_goal-is_goal.ensures ∙ ap (λ (v : Vec ℕ Global). is_goal parts v.items) c.find_applicable.ensures.next in
    let here : c.deref.result.now ≡ start_of parts = c.deref.ensures.value ∙ ap (λ (v : Vec ℕ Global). v.items) c.find_applicable.ensures.next ∙ next in
    let noted : Noted parts setting shape m (arrival_first at_goal) seen [] new = record {
      small = KV.small;
      preferred = c.in_ok-visit.ensures.preferred ∙ ap (filter (is_among seen.preferred)) apps;
      goal = own;
      visits = KV.visits;
      pops_are = KV.pops ∙ B.pops;
      ready = subst (λ (s : States). AreFor s parts) (sym KV.states) c.find_applicable.ensures.ready;
      registry = ap (λ (s : States). s.registry) KV.states ∙ c.find_applicable.ensures.kept;
      rows = KV.rows;
      origins = KV.origins;
      grows = subst (λ (ops : List ℕ). Grows parts setting shape (row_for m (arrival_first at_goal) seen.dead) seen ops m.lists m.least (not seen.dead && not at_goal) new.lists new.least) c.find_applicable.ensures.applicable KV.grows;
    } in
    let L = g.G.Guide.keeps c.visit.new.self in
    let H = g.G.Guide.fits c.visit.new.self parts in
    subst (AfterTurn phase L H new) (sym (c.turned_by.ensures ∙ ap turned_by c.outcome_of-outcome.ensures))
    (record {
      past = start_past phase (visit_first seen);
      rests = rests_first parts setting shape b m new at_goal seen c.args.phase.now.is_phase B refl refl refl refl refl next words most noted;
      guided = guided_first phase L H seen (subst (λ (s : List ℕ). L 0 (s ∷ [])) here (c.in_ok-visit.ensures.first_kept refl)) (subst (λ (s : List ℕ). H (s ∷ []) seen) here (c.in_ok-visit.ensures.first_fits refl))
          (λ d. subst (IsDead parts) here (c.in_ok-visit.ensures.dead d));
      ends = first_ends phase seen seen.dead at_goal refl (own ∙ ap (is_goal parts) next);
    })
