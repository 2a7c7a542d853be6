use Rattle.std.proofs.Common.{true, false, List, [], ◌∷◌, ◌++◌, refl, ap, sym, ◌∙◌, subst, arith, length, IfOk}
use Rattle.search_log.specs.declared.turns.Pop.{Pop}
use Rattle.search_log.specs.Logs.{Content}
use Rattle.search_log.specs.Clocks.{is_final}
use Rattle.search_log.specs.Places.{past_of}
use Rattle.lazy_search.specs.declared.machine.Machine.{Machine}
use Rattle.lazy_search.specs.Outcomes.{PopsMore}
use Rattle.lazy_search.specs.Machines.{past_in, Reaches, Arrives, ArrivesAt}
use Rattle.lazy_search.specs.Phases.{phase_of}
use Rattle.lazy_search.proofs.NextPops.{rests_told, on_told, guided_told, after_empty, after_known, after_full, pops_one, list_small}
use Rattle.lazy_search.proofs.machine.Machine.turn.Goals as goal

pub pop_entry-requires-clause-rests : goal.pop_entry-requires-clause-rests
pop_entry-requires-clause-rests g c =
    let phase = phase_of c.args.phase.now.task.now c.args.phase.now.setting.now c.args.phase.now.shape in
    rests_told phase _ _ c.args.self.now c.requires.stands

pub look_up_successor-requires : goal.look_up_successor-requires
look_up_successor-requires g c =
    let phase = phase_of c.args.phase.now.task.now c.args.phase.now.setting.now c.args.phase.now.shape in
    record { reaches = subst (λ (l : Content). Reaches phase c.pop_entry.new.self c.pop_entry.new.self.states.registry.states (past_of phase l.visits l.pops) c.in-Some.reached) (sym c.in-Some.ensures.log) c.in-Some.ensures.reaches }

pub returns-in_default-clause-after : goal.returns-in_default-clause-after
returns-in_default-clause-after g c =
    let phase = phase_of c.args.phase.now.task.now c.args.phase.now.setting.now c.args.phase.now.shape in
    after_empty phase _ _ c.args.self.now c.pop_entry.new.self c.args.phase.now.is_phase c.requires.stands c.in_default.ensures.same c.in_default.ensures.empty

pub returns-in_default-clause-pops : goal.returns-in_default-clause-pops
returns-in_default-clause-pops g c = ap (λ (m : Machine). m.log.pops) c.in_default.ensures.same

pub push_pop-requires : goal.push_pop-requires
push_pop-requires g c =
    let phase = phase_of c.args.phase.now.task.now c.args.phase.now.setting.now c.args.phase.now.shape in
    list_small phase _ _ _ c.in-Some.reached c.pop_by-pop.result _ c.args.phase.now.is_phase c.in-Some.ensures.reaches c.pop_by-pop.ensures

pub returns-in_ok-push_pop-in-Known-clause-after : goal.returns-in_ok-push_pop-in-Known-clause-after
returns-in_ok-push_pop-in-Known-clause-after g c =
    let phase = phase_of c.args.phase.now.task.now c.args.phase.now.setting.now c.args.phase.now.shape in
    let log = c.in_ok-look_up_successor.ensures.log ∙ c.in-Some.ensures.log in
    let m = c.look_up_successor.new.self in
    let arrives = subst (Arrives phase m (past_in phase c.pop_entry.new.self) c.in-Some.reached) c.in-Known.is c.in_ok-look_up_successor.ensures.arrives in
    after_known phase _ _ m _ (past_in phase c.pop_entry.new.self) c.in-Some.reached c.args.phase.now.is_phase arrives
    (on_told phase _ _ c.args.self.now c.pop_entry.new.self c.requires.stands c.in-Some.ensures.log) (guided_told phase _ _ c.args.self.now c.pop_entry.new.self c.requires.stands c.in-Some.ensures.log)
    (omega (arith, c.requires.allowed, ap (λ (l : Content). length l.pops) log))
    (record {
      visits = c.in_ok-push_pop-in-Known.ensures.visits;
      pops = c.in_ok-push_pop-in-Known.ensures.pops ∙ ap (λ (p : Pop). m.log.pops ++ p ∷ []) c.pop_by-pop.ensures;
      states = refl;
      rows = refl;
      origins = refl;
      lists = refl;
      least = refl;
    })

pub returns-in_ok-push_pop-in-Known-clause-pops : goal.returns-in_ok-push_pop-in-Known-clause-pops
returns-in_ok-push_pop-in-Known-clause-pops g c =
    let log = c.in_ok-look_up_successor.ensures.log ∙ c.in-Some.ensures.log in
    pops_one _ _ _ c.pop_by-pop.result _ (ap (λ (l : Content). l.pops) log) c.in_ok-push_pop-in-Known.ensures.pops (ap (λ (p : Pop). is_final p.result) c.pop_by-pop.ensures)

pub push_pop-requires-in-Full : goal.push_pop-requires-in-Full
push_pop-requires-in-Full g c =
    let phase = phase_of c.args.phase.now.task.now c.args.phase.now.setting.now c.args.phase.now.shape in
    list_small phase _ _ _ c.in-Some.reached c.pop_by-pop-in-Full.result _ c.args.phase.now.is_phase c.in-Some.ensures.reaches c.pop_by-pop-in-Full.ensures

pub returns-in_ok-push_pop-in-Full-clause-after : goal.returns-in_ok-push_pop-in-Full-clause-after
returns-in_ok-push_pop-in-Full-clause-after g c =
    let phase = phase_of c.args.phase.now.task.now c.args.phase.now.setting.now c.args.phase.now.shape in
    let log = c.in_ok-look_up_successor.ensures.log ∙ c.in-Some.ensures.log in
    let m = c.look_up_successor.new.self in
    let arrives = subst (Arrives phase m (past_in phase c.pop_entry.new.self) c.in-Some.reached) c.in-Full.is c.in_ok-look_up_successor.ensures.arrives in
    after_full phase _ _ m _ (past_in phase c.pop_entry.new.self) c.in-Some.reached c.args.phase.now.is_phase arrives
    (on_told phase _ _ c.args.self.now c.pop_entry.new.self c.requires.stands c.in-Some.ensures.log) (guided_told phase _ _ c.args.self.now c.pop_entry.new.self c.requires.stands c.in-Some.ensures.log)
    (omega (arith, c.requires.allowed, ap (λ (l : Content). length l.pops) log))
    (record {
      visits = c.in_ok-push_pop-in-Full.ensures.visits;
      pops = c.in_ok-push_pop-in-Full.ensures.pops ∙ ap (λ (p : Pop). m.log.pops ++ p ∷ []) c.pop_by-pop-in-Full.ensures;
      states = refl;
      rows = refl;
      origins = refl;
      lists = refl;
      least = refl;
    })

pub returns-in_ok-push_pop-in-Full-clause-pops : goal.returns-in_ok-push_pop-in-Full-clause-pops
returns-in_ok-push_pop-in-Full-clause-pops g c =
    let log = c.in_ok-look_up_successor.ensures.log ∙ c.in-Some.ensures.log in
    pops_one _ _ _ c.pop_by-pop-in-Full.result _ (ap (λ (l : Content). l.pops) log) c.in_ok-push_pop-in-Full.ensures.pops (ap (λ (p : Pop). is_final p.result) c.pop_by-pop-in-Full.ensures)

pub visit-requires-clause-arrives : goal.visit-requires-clause-arrives
visit-requires-clause-arrives g c =
    let phase = phase_of c.args.phase.now.task.now c.args.phase.now.setting.now c.args.phase.now.shape in
    let m = c.look_up_successor.new.self in
    let r = c.in-Some.reached in
    let a = subst (Arrives phase m (past_in phase c.pop_entry.new.self) r) c.in-New.is c.in_ok-look_up_successor.ensures.arrives in
    subst (λ (l : Content). ArrivesAt phase m (past_of phase l.visits l.pops) r c.in-New.id false) (sym c.in_ok-look_up_successor.ensures.log) (record { words = a.words; reaches = a.reaches; visits = a.decides })

pub visit-requires-clause-allowed : goal.visit-requires-clause-allowed
visit-requires-clause-allowed g c =
    let log = c.in_ok-look_up_successor.ensures.log ∙ c.in-Some.ensures.log in
    omega (arith, c.requires.allowed, ap (λ (l : Content). length l.pops) log)

pub visit-requires-clause-goes_on : goal.visit-requires-clause-goes_on
visit-requires-clause-goes_on g c =
    let phase = phase_of c.args.phase.now.task.now c.args.phase.now.setting.now c.args.phase.now.shape in
    on_told phase _ _ c.args.self.now c.look_up_successor.new.self c.requires.stands (c.in_ok-look_up_successor.ensures.log ∙ c.in-Some.ensures.log)

pub visit-requires-clause-guided : goal.visit-requires-clause-guided
visit-requires-clause-guided g c =
    let phase = phase_of c.args.phase.now.task.now c.args.phase.now.setting.now c.args.phase.now.shape in
    guided_told phase _ _ c.args.self.now c.look_up_successor.new.self c.requires.stands (c.in_ok-look_up_successor.ensures.log ∙ c.in-Some.ensures.log)

pub returns-in-New-clause-pops : goal.returns-in-New-clause-pops
returns-in-New-clause-pops g c =
    subst (λ (ps : List Pop). IfOk c.visit.result (PopsMore ps c.visit.new.self.log.pops)) (ap (λ (l : Content). l.pops) (c.in_ok-look_up_successor.ensures.log ∙ c.in-Some.ensures.log)) c.visit.ensures.pops

pub visit-requires-in-Again-clause-arrives : goal.visit-requires-in-Again-clause-arrives
visit-requires-in-Again-clause-arrives g c =
    let phase = phase_of c.args.phase.now.task.now c.args.phase.now.setting.now c.args.phase.now.shape in
    let m = c.look_up_successor.new.self in
    let r = c.in-Some.reached in
    let a = subst (Arrives phase m (past_in phase c.pop_entry.new.self) r) c.in-Again.is c.in_ok-look_up_successor.ensures.arrives in
    subst (λ (l : Content). ArrivesAt phase m (past_of phase l.visits l.pops) r c.in-Again.id true) (sym c.in_ok-look_up_successor.ensures.log) (record { words = a.words; reaches = a.reaches; visits = a.decides })

pub visit-requires-in-Again-clause-allowed : goal.visit-requires-in-Again-clause-allowed
visit-requires-in-Again-clause-allowed g c =
    let log = c.in_ok-look_up_successor.ensures.log ∙ c.in-Some.ensures.log in
    omega (arith, c.requires.allowed, ap (λ (l : Content). length l.pops) log)

pub visit-requires-in-Again-clause-goes_on : goal.visit-requires-in-Again-clause-goes_on
visit-requires-in-Again-clause-goes_on g c =
    let phase = phase_of c.args.phase.now.task.now c.args.phase.now.setting.now c.args.phase.now.shape in
    on_told phase _ _ c.args.self.now c.look_up_successor.new.self c.requires.stands (c.in_ok-look_up_successor.ensures.log ∙ c.in-Some.ensures.log)

pub visit-requires-in-Again-clause-guided : goal.visit-requires-in-Again-clause-guided
visit-requires-in-Again-clause-guided g c =
    let phase = phase_of c.args.phase.now.task.now c.args.phase.now.setting.now c.args.phase.now.shape in
    guided_told phase _ _ c.args.self.now c.look_up_successor.new.self c.requires.stands (c.in_ok-look_up_successor.ensures.log ∙ c.in-Some.ensures.log)

pub returns-in-Again-clause-pops : goal.returns-in-Again-clause-pops
returns-in-Again-clause-pops g c =
    subst (λ (ps : List Pop). IfOk c.visit-in-Again.result (PopsMore ps c.visit-in-Again.new.self.log.pops)) (ap (λ (l : Content). l.pops) (c.in_ok-look_up_successor.ensures.log ∙ c.in-Some.ensures.log)) c.visit-in-Again.ensures.pops
