use Rattle.std.proofs.Common.{sym, ◌∙◌, subst, arith}
use Rattle.sas_task.specs.States.{IsState}
use Rattle.lazy_search.specs.Machines.{past_in}
use Rattle.lazy_search.specs.Phases.{phase_of}
use Rattle.lazy_search.proofs.TakenEntries.{sound_of}
use Rattle.lazy_search.proofs.Decisions.{looked, decided_over, decided_new, decided_full, decided_known, decided_again, known_within}
use Rattle.lazy_search.proofs.LookUps.{opens, next_is, to_state}
use Rattle.lazy_search.proofs.machine.Machine.look_up_successor.Goals as goal

pub returns-then-not-is_below-clause-arrives : goal.returns-then-not-is_below-clause-arrives
returns-then-not-is_below-clause-arrives c =
    let m = c.args.self.now in
    let phase = phase_of c.args.phase.now.task.now c.args.phase.now.setting.now c.args.phase.now.shape in
    decided_over phase m (past_in phase m) c.args.reached c.requires.reaches (sym c.is_below.ensures ∙ c.if-not-is_below.true)

pub follow-requires-clause-opens : goal.follow-requires-clause-opens
follow-requires-clause-opens c =
    let m = c.args.self.now in
    let phase = phase_of c.args.phase.now.task.now c.args.phase.now.setting.now c.args.phase.now.shape in
    let past = past_in phase m in
    let R = c.requires.reaches in
    opens phase m past c.args.reached.popped.entry c.args.reached.parent (sound_of phase m.log.visits m.log.pops past c.args.phase.now.is_phase R.kept.logged) R.kept R.goes R.parent

pub intern-requires-clause-state : goal.intern-requires-clause-state
intern-requires-clause-state c =
    let m = c.args.self.now in
    let phase = phase_of c.args.phase.now.task.now c.args.phase.now.setting.now c.args.phase.now.shape in
    let past = past_in phase m in
    let R = c.requires.reaches in
    let sound = sound_of phase m.log.visits m.log.pops past c.args.phase.now.is_phase R.kept.logged in
    let next = next_is phase m past c.args.reached.popped.entry c.args.reached.parent c.follow.new.self.next.items sound R.kept R.goes R.parent c.follow.ensures.next in
    subst (IsState c.args.phase.now.task.now.variables) (sym next) (to_state phase past c.args.reached.popped.entry c.args.phase.now.is_phase sound R.goes)

pub index-requires : goal.index-requires
index-requires c =
    let m = c.args.self.now in
    let phase = phase_of c.args.phase.now.task.now c.args.phase.now.setting.now c.args.phase.now.shape in
    let past = past_in phase m in
    let R = c.requires.reaches in
    let l = looked phase m past c.args.reached R c.follow.new.self c.intern.new.self _ _ c.args.phase.now.is_phase c.follow.ensures.kept c.follow.ensures.next
    c.in_ok-id.ensures.ready c.in_ok-id.ensures.next c.in_ok-id.ensures.most c.in_ok-id.ensures.layout c.in_ok-id.ensures.interns c.in-Known.is in
    omega (arith, known_within phase m past c.args.reached c.in-Known.id R c.follow.new.self c.intern.new.self c.args.phase.now.is_phase l, m.rows.ok.0)

pub returns-in-New-clause-arrives : goal.returns-in-New-clause-arrives
returns-in-New-clause-arrives c =
    let m = c.args.self.now in
    let phase = phase_of c.args.phase.now.task.now c.args.phase.now.setting.now c.args.phase.now.shape in
    let past = past_in phase m in
    let R = c.requires.reaches in
    let l = looked phase m past c.args.reached R c.follow.new.self c.intern.new.self _ _ c.args.phase.now.is_phase c.follow.ensures.kept c.follow.ensures.next
    c.in_ok-id.ensures.ready c.in_ok-id.ensures.next c.in_ok-id.ensures.most c.in_ok-id.ensures.layout c.in_ok-id.ensures.interns c.in-New.is in
    decided_new phase m past c.args.reached c.in-New.id R c.follow.new.self c.intern.new.self (sym c.is_below.ensures ∙ c.if-not-is_below.false) l

pub returns-in-Full-clause-arrives : goal.returns-in-Full-clause-arrives
returns-in-Full-clause-arrives c =
    let m = c.args.self.now in
    let phase = phase_of c.args.phase.now.task.now c.args.phase.now.setting.now c.args.phase.now.shape in
    let past = past_in phase m in
    let R = c.requires.reaches in
    let l = looked phase m past c.args.reached R c.follow.new.self c.intern.new.self _ _ c.args.phase.now.is_phase c.follow.ensures.kept c.follow.ensures.next
    c.in_ok-id.ensures.ready c.in_ok-id.ensures.next c.in_ok-id.ensures.most c.in_ok-id.ensures.layout c.in_ok-id.ensures.interns c.in-Full.is in
    decided_full phase m past c.args.reached R c.follow.new.self c.intern.new.self (sym c.is_below.ensures ∙ c.if-not-is_below.false) l

pub returns-then-reopens-clause-arrives : goal.returns-then-reopens-clause-arrives
returns-then-reopens-clause-arrives c =
    let m = c.args.self.now in
    let phase = phase_of c.args.phase.now.task.now c.args.phase.now.setting.now c.args.phase.now.shape in
    let past = past_in phase m in
    let R = c.requires.reaches in
    let l = looked phase m past c.args.reached R c.follow.new.self c.intern.new.self _ _ c.args.phase.now.is_phase c.follow.ensures.kept c.follow.ensures.next
    c.in_ok-id.ensures.ready c.in_ok-id.ensures.next c.in_ok-id.ensures.most c.in_ok-id.ensures.layout c.in_ok-id.ensures.interns c.in-Known.is in
    decided_again phase m past c.args.reached c.in-Known.id c.index.result.now R c.follow.new.self c.intern.new.self c.args.phase.now.is_phase (sym c.is_below.ensures ∙ c.if-not-is_below.false) l c.index.ensures (sym c.if-reopens.true ∙ c.reopens.ensures)

pub returns-else-reopens-clause-arrives : goal.returns-else-reopens-clause-arrives
returns-else-reopens-clause-arrives c =
    let m = c.args.self.now in
    let phase = phase_of c.args.phase.now.task.now c.args.phase.now.setting.now c.args.phase.now.shape in
    let past = past_in phase m in
    let R = c.requires.reaches in
    let l = looked phase m past c.args.reached R c.follow.new.self c.intern.new.self _ _ c.args.phase.now.is_phase c.follow.ensures.kept c.follow.ensures.next
    c.in_ok-id.ensures.ready c.in_ok-id.ensures.next c.in_ok-id.ensures.most c.in_ok-id.ensures.layout c.in_ok-id.ensures.interns c.in-Known.is in
    decided_known phase m past c.args.reached c.in-Known.id c.index.result.now R c.follow.new.self c.intern.new.self c.args.phase.now.is_phase (sym c.is_below.ensures ∙ c.if-not-is_below.false) l c.index.ensures (sym c.if-reopens.false ∙ c.reopens.ensures)
