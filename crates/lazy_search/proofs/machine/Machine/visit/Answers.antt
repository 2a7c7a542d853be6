use Rattle.std.proofs.Common.{◌≡◌, ◌<◌, ◌≤◌, false, ℕ, Bool, true, List, [], ◌∷◌, ◌++◌, Option, refl, ap, sym, ◌∙◌, subst, arith, length}
use Rattle.std.specs.Prelude.{Vec, filter, not, ◌&&◌, IfSome}
use Rattle.std.proofs.lemmas.List.{length-append}
use Rattle.open_lists.specs.declared.entry.Popped.{Popped}
use Rattle.search_log.specs.declared.turns.PopResult.TheVariants.{Known, Dead, Goal, Visited, Again}
use Rattle.log_laws.proofs.TurnLaws.{past_with}
use Rattle.log_laws.proofs.LogLaws.{Numbers}
use Rattle.lazy_search.proofs.LookUps.{to_state, rows_count}
use Rattle.lazy_search.proofs.NextPops.{lists_popped, list_small}
use Rattle.std.specs.declared.alloc.Global.{Global}
use Rattle.sas_task.specs.Runs.{is_goal}
use Rattle.sas_task.specs.States.{IsState}
use Rattle.relaxed_task.specs.Reached.{IsDead}
use Rattle.guide.specs.Operators.{applicable_operators, is_among}
use Rattle.search_log.specs.declared.turns.Pop.{Pop}
use Rattle.log_laws.proofs.TableLaws.{id_within}
use Rattle.lazy_search.specs.declared.states.States.{States}
use Rattle.lazy_search.specs.declared.machine.Machine.{Machine}
use Rattle.lazy_search.specs.States.{AreFor}
use Rattle.lazy_search.specs.Outcomes.{pop_by, outcome_of, turned_by, PopsMore}
use Rattle.lazy_search.specs.Visits.{row_for, Grows}
use Rattle.lazy_search.specs.Machines.{past_in, place_there, AfterTurn}
use Rattle.lazy_search.specs.Phases.{phase_of}
use Rattle.lazy_search.proofs.TakenEntries.{sound_of, numbers_of}
use Rattle.lazy_search.proofs.VisitLaws.{Noted, arrival_of, visit_of, pop_of, past_made, rests_visited, guided_visited, turn_ends, counters_low}
use Rattle.lazy_search.proofs.machine.Machine.visit.Goals as goal

pub returns-clause-after : goal.returns-clause-after
returns-clause-after g c =
    let parts = c.args.phase.now.task.now in
    let setting = c.args.phase.now.setting.now in
    let shape = c.args.phase.now.shape in
    let phase = phase_of parts setting shape in
    let m = c.args.self.now in
    let past = past_in phase m in
    let A = c.requires.arrives in
    let R = A.reaches in
    let V = A.visits in
    let r = c.args.reached in
    let id = c.args.id in
    let again = c.args.again in
    let seen = c.visit.new.out in
    let at_goal = c.is_goal-is_goal.result in
    let KV = c.in_ok-keep_visit.ensures in
    let two = c.keep_visit.new.self in
    let new : Machine = record { log = c.push_pop.new.self; states = two.states; rows = two.rows; origins = two.origins; lists = two.lists; least = two.least; chosen = two.chosen; seen = two.seen } in
    let to = place_there phase past r.popped.entry R.goes in
    let pop = pop_of r again seen.dead at_goal in
    let apps : c.deref-2.result.now ≡ applicable_operators parts m.states.next.items = c.deref-2.ensures.value ∙ c.find_applicable.ensures.applicable in
    let own : at_goal ≡ is_goal parts m.states.next.items = c.is_goal-is_goal.ensures ∙ ap (λ (v : Vec ℕ Global). is_goal parts v.items) c.find_applicable.ensures.next in
    let here : c.deref.result.now ≡ R.goes.next = c.deref.ensures.value ∙ ap (λ (v : Vec ℕ Global). v.items) c.find_applicable.ensures.next ∙ V.next in
    let noted : Noted parts setting shape m (arrival_of r id at_goal) seen (m.log.pops ++ pop ∷ []) new = record {
      small = KV.small;
      preferred = c.in_ok-visit.ensures.preferred ∙ ap (filter (is_among seen.preferred)) apps;
      goal = own;
      visits = c.in_ok-push_pop.ensures.visits ∙ KV.visits;
      pops_are = c.in_ok-push_pop.ensures.pops ∙ ap (λ (ps : List Pop). ps ++ c.pop_by.result ∷ []) KV.pops ∙ ap (λ (p : Pop). m.log.pops ++ p ∷ []) (c.pop_by.ensures ∙ ap (pop_by r.popped) c.outcome_of-outcome.ensures);
      ready = subst (λ (s : States). AreFor s parts) (sym KV.states) c.find_applicable.ensures.ready;
      registry = ap (λ (s : States). s.registry) KV.states ∙ c.find_applicable.ensures.kept;
      rows = KV.rows;
      origins = KV.origins;
      grows = subst (λ (ops : List ℕ). Grows parts setting shape (row_for m (arrival_of r id at_goal) seen.dead) seen ops m.lists m.least (not seen.dead && not at_goal) two.lists two.least) c.find_applicable.ensures.applicable KV.grows;
    } in
    let sound = sound_of phase m.log.visits m.log.pops past c.args.phase.now.is_phase R.kept.logged in
    let K = g.G.Guide.keeps c.args.guide.now in
    let L = g.G.Guide.keeps c.visit.new.self in
    let F = g.G.Guide.fits c.args.guide.now parts in
    let H = g.G.Guide.fits c.visit.new.self parts in
    subst (AfterTurn phase L H new) (sym (c.turned_by.ensures ∙ ap turned_by c.outcome_of-outcome.ensures))
    (record {
      past = past_made phase past to (visit_of r id seen) pop;
      rests = rests_visited parts setting shape m new A.words past r id again at_goal seen c.args.phase.now.is_phase R V c.requires.goes_on (omega (arith, c.requires.allowed, ap length R.kept.pops)) noted;
      guided = guided_visited phase K L F H past (past.pops ++ pop ∷ []) r.popped.entry (visit_of r id seen) R.goes sound c.requires.guided (omega (arith, V.id_is, id_within past.nodes to.state))
          (λ states k. subst (λ (s : List ℕ). L id (states ++ s ∷ [])) here (c.in_ok-visit.ensures.kept r.parent states refl (subst (λ (i : ℕ). K i states) (sym R.parent) k)))
          (λ states k. subst (λ (s : List ℕ). H (states ++ s ∷ []) seen) here (c.in_ok-visit.ensures.answer_fits r.parent states refl (subst (λ (i : ℕ). K i states) (sym R.parent) k)))
          (λ i states ne k. c.in_ok-visit.ensures.others i states ne k)
          (λ states s f. (c.in_ok-visit.ensures.fits_stay parts states s).1 f)
          (λ d. subst (IsDead parts) here (c.in_ok-visit.ensures.dead d));
      ends = turn_ends phase m past r to id again seen.dead at_goal (visit_of r id seen) c.requires.goes_on V refl (own ∙ ap (is_goal parts) V.next);
    })

pub visit-requires-clause-state : goal.visit-requires-clause-state
visit-requires-clause-state g c =
    let m = c.args.self.now in
    let phase = phase_of c.args.phase.now.task.now c.args.phase.now.setting.now c.args.phase.now.shape in
    let past = past_in phase m in
    let R = c.requires.arrives.reaches in
    let sound = sound_of phase m.log.visits m.log.pops past c.args.phase.now.is_phase R.kept.logged in
    let here : c.deref.result.now ≡ R.goes.next = c.deref.ensures.value ∙ ap (λ (v : Vec ℕ Global). v.items) c.find_applicable.ensures.next ∙ c.requires.arrives.visits.next in
    subst (IsState c.args.phase.now.task.now.variables) (sym here) (to_state phase past c.args.reached.popped.entry c.args.phase.now.is_phase sound R.goes)

pub visit-requires-clause-applicable : goal.visit-requires-clause-applicable
visit-requires-clause-applicable g c =
    c.deref-2.ensures.value ∙ c.find_applicable.ensures.applicable
    ∙ ap (applicable_operators c.args.phase.now.task.now) (sym (c.deref.ensures.value ∙ ap (λ (v : Vec ℕ Global). v.items) c.find_applicable.ensures.next))

pub keep_visit-requires-clause-id : goal.keep_visit-requires-clause-id
keep_visit-requires-clause-id g c =
    let m = c.args.self.now in
    let phase = phase_of c.args.phase.now.task.now c.args.phase.now.setting.now c.args.phase.now.shape in
    let A = c.requires.arrives in
    omega (arith, A.visits.id_is, id_within (past_in phase m).nodes (place_there phase (past_in phase m) c.args.reached.popped.entry A.reaches.goes).state, rows_count phase m A.words (past_in phase m) A.reaches.kept)

pub keep_visit-requires-clause-lists : goal.keep_visit-requires-clause-lists
keep_visit-requires-clause-lists g c = c.requires.arrives.reaches.pops.shape.count ∙ c.requires.arrives.reaches.stood.count

pub keep_visit-requires-clause-counters : goal.keep_visit-requires-clause-counters
keep_visit-requires-clause-counters g c =
    let m = c.args.self.now in
    let phase = phase_of c.args.phase.now.task.now c.args.phase.now.setting.now c.args.phase.now.shape in
    let past = past_in phase m in
    let R = c.requires.arrives.reaches in
    let r = c.args.reached in
    let sound = sound_of phase m.log.visits m.log.pops past c.args.phase.now.is_phase R.kept.logged in
    let n = numbers_of phase m.log.visits m.log.pops past R.kept.logged in
    let p = pop_by r.popped Known in
    let more : Numbers phase (past_with past.nodes (past.pops ++ p ∷ [])) = record {
      visits = omega (arith, n.visits, length-append past.pops (p ∷ []));
      pops = omega (arith, c.requires.allowed, ap length R.kept.pops, length-append past.pops (p ∷ []));
    } in
    counters_low phase m.lists (past_with past.nodes (past.pops ++ p ∷ [])) c.args.phase.now.is_phase more (lists_popped phase R.lists m.lists past.nodes past.pops r.popped Known sound.numbered R.stood R.pops)

pub push_pop-requires : goal.push_pop-requires
push_pop-requires g c =
    let phase = phase_of c.args.phase.now.task.now c.args.phase.now.setting.now c.args.phase.now.shape in
    list_small phase _ _ _ c.args.reached c.pop_by.result _ c.args.phase.now.is_phase c.requires.arrives.reaches c.pop_by.ensures

pops_made : (old new : List Pop) (popped : Popped) (again dead goal : Bool) → new ≡ old ++ pop_by popped (outcome_of again dead goal) ∷ [] → PopsMore old new (turned_by (outcome_of again dead goal))
pops_made old new popped again true goal is = record { pop = pop_by popped Dead; is = is; ends = refl }
pops_made old new popped true false goal is = record { pop = pop_by popped Again; is = is; ends = refl }
pops_made old new popped false false true is = record { pop = pop_by popped Goal; is = is; ends = refl }
pops_made old new popped false false false is = record { pop = pop_by popped Visited; is = is; ends = refl }

pub returns-clause-pops : goal.returns-clause-pops
returns-clause-pops g c =
    let m = c.args.self.now in
    let r = c.args.reached in
    let seen = c.visit.new.out in
    let goal_is = c.is_goal-is_goal.result in
    let more : c.push_pop.new.self.pops ≡ m.log.pops ++ pop_by r.popped (outcome_of c.args.again seen.dead goal_is) ∷ [] =
    c.in_ok-push_pop.ensures.pops ∙ ap (λ (ps : List Pop). ps ++ c.pop_by.result ∷ []) c.in_ok-keep_visit.ensures.pops ∙ ap (λ (p : Pop). m.log.pops ++ p ∷ []) (c.pop_by.ensures ∙ ap (pop_by r.popped) c.outcome_of-outcome.ensures) in
    subst (PopsMore m.log.pops c.push_pop.new.self.pops) (sym (c.turned_by.ensures ∙ ap turned_by c.outcome_of-outcome.ensures))
    (pops_made m.log.pops c.push_pop.new.self.pops r.popped c.args.again seen.dead goal_is more)
