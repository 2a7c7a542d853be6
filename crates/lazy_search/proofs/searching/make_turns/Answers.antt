use Rattle.std.proofs.Common.{◌≡◌, ◌+◌, ◌%◌, ℕ, false, List, length, None, Some, refl, ap, sym, ◌∙◌, subst, arith}
use Rattle.std.proofs.lemmas.Bool.{both_ways}
use Rattle.search_log.specs.declared.turns.Pop.{Pop}
use Rattle.search_log.specs.Clocks.{unfinal}
use Rattle.lazy_search.specs.declared.steps.Turned.TheVariants.{Empty, Done, AtGoal, AtFull}
use Rattle.lazy_search.specs.Phases.{phase_of}
use Rattle.lazy_search.specs.Ends.{IsAnswered}
use Rattle.lazy_search.proofs.ClockAnswers.{tells_same, tells_then, answered_final, asked_after, between_from, unfinal_one, length_one}
use Rattle.lazy_search.proofs.HaltLaws.{halts_empty, halts_goal, halts_full, halts_time, halts_done, halts_pops, same_both, after_is, pops_are, over_after}
use Rattle.lazy_search.proofs.PlanAndSpace.{lists_empty, exhausted_now, ends_at_pops}
use Rattle.lazy_search.proofs.searching.make_turns.Goals as goal

pub loop-turn-init : goal.loop-turn-init
loop-turn-init g c =
    let phase = phase_of c.args.phase.now.task.now c.args.phase.now.setting.now c.args.phase.now.shape in
    let none = c.requires.pops in
    record {
      stands = c.requires.stands;
      same_task = c.requires.same_task;
      meaning = λ parts states seen. (λ x. x, λ x. x);
      count = ap length none;
      unfinal_all = ap unfinal none ∙ sym (ap length none);
      answers = λ before a. subst (λ (ps : List Pop). IsAnswered phase ps None before (g.C.Clock.answers c.args.clock.now)) (sym none) a;
      later = omega arith;
      tells = tells_same _ _ refl;
    }

pub turn-requires : goal.turn-requires
turn-requires g c = record {
  stands = c.loop-turn.invariant.stands;
  allowed = omega (arith, c.loop-turn.invariant.count, c.loop-turn-test.true);
  same_task = c.loop-turn.invariant.same_task;
}

pub returns-in_err-turn-clause-later : goal.returns-in_err-turn-clause-later
returns-in_err-turn-clause-later g c = c.loop-turn.invariant.later

pub returns-in_err-turn-clause-tells : goal.returns-in_err-turn-clause-tells
returns-in_err-turn-clause-tells g c = c.loop-turn.invariant.tells

pub returns-in-Empty : goal.returns-in-Empty
returns-in-Empty g c =
    let phase = phase_of c.args.phase.now.task.now c.args.phase.now.setting.now c.args.phase.now.shape in
    let K = g.G.Guide.keeps c.turn.new.guide in
    let F = g.G.Guide.fits c.turn.new.guide c.args.phase.now.task.now in
    let i = c.loop-turn.invariant in
    let old = c.loop-turn.machine.log.pops in
    let new = c.turn.new.self.log.pops in
    let pops = pops_are old new c.in_ok-turn.field-0 Empty c.in-Empty.is c.in_ok-turn.ensures.pops in
    record {
      same_task = c.in_ok-turn.ensures.same_task;
      meaning = λ parts states seen. same_both (c.in_ok-turn.ensures.meaning parts states seen) (i.meaning parts states seen);
      halts = halts_empty phase K F c.turn.new.self (after_is phase K F c.turn.new.self c.in_ok-turn.field-0 Empty c.in-Empty.is c.in_ok-turn.ensures.after);
      answers = λ before a. subst (λ (ps : List Pop). IsAnswered phase ps None before (g.C.Clock.answers c.loop-turn.clock)) (sym pops) (i.answers before a);
      moment = tt;
      later = i.later;
      tells = i.tells;
    }

pub returns-in-AtGoal : goal.returns-in-AtGoal
returns-in-AtGoal g c =
    let phase = phase_of c.args.phase.now.task.now c.args.phase.now.setting.now c.args.phase.now.shape in
    let K = g.G.Guide.keeps c.turn.new.guide in
    let F = g.G.Guide.fits c.turn.new.guide c.args.phase.now.task.now in
    let i = c.loop-turn.invariant in
    let old = c.loop-turn.machine.log.pops in
    let new = c.turn.new.self.log.pops in
    let pops = pops_are old new c.in_ok-turn.field-0 AtGoal c.in-AtGoal.is c.in_ok-turn.ensures.pops in
    record {
      same_task = c.in_ok-turn.ensures.same_task;
      meaning = λ parts states seen. same_both (c.in_ok-turn.ensures.meaning parts states seen) (i.meaning parts states seen);
      halts = halts_goal phase K F c.turn.new.self (after_is phase K F c.turn.new.self c.in_ok-turn.field-0 AtGoal c.in-AtGoal.is c.in_ok-turn.ensures.after);
      answers = λ before a. answered_final phase old new before (g.C.Clock.answers c.loop-turn.clock) (i.answers before a) pops;
      moment = tt;
      later = i.later;
      tells = i.tells;
    }

pub returns-in-AtFull : goal.returns-in-AtFull
returns-in-AtFull g c =
    let phase = phase_of c.args.phase.now.task.now c.args.phase.now.setting.now c.args.phase.now.shape in
    let K = g.G.Guide.keeps c.turn.new.guide in
    let F = g.G.Guide.fits c.turn.new.guide c.args.phase.now.task.now in
    let i = c.loop-turn.invariant in
    let old = c.loop-turn.machine.log.pops in
    let new = c.turn.new.self.log.pops in
    let pops = pops_are old new c.in_ok-turn.field-0 AtFull c.in-AtFull.is c.in_ok-turn.ensures.pops in
    record {
      same_task = c.in_ok-turn.ensures.same_task;
      meaning = λ parts states seen. same_both (c.in_ok-turn.ensures.meaning parts states seen) (i.meaning parts states seen);
      halts = halts_full phase K F c.turn.new.self (after_is phase K F c.turn.new.self c.in_ok-turn.field-0 AtFull c.in-AtFull.is c.in_ok-turn.ensures.after);
      answers = λ before a. answered_final phase old new before (g.C.Clock.answers c.loop-turn.clock) (i.answers before a) pops;
      moment = tt;
      later = i.later;
      tells = i.tells;
    }

pub returns-in-Some : goal.returns-in-Some
returns-in-Some g c =
    let phase = phase_of c.args.phase.now.task.now c.args.phase.now.setting.now c.args.phase.now.shape in
    let K = g.G.Guide.keeps c.turn.new.guide in
    let F = g.G.Guide.fits c.turn.new.guide c.args.phase.now.task.now in
    let i = c.loop-turn.invariant in
    let e = c.in-Some.ensures in
    let old = c.loop-turn.machine.log.pops in
    let new = c.turn.new.self.log.pops in
    let n = c.loop-turn.turn + 1 in
    let mid = g.C.Clock.answers c.loop-turn.clock in
    let end = g.C.Clock.answers c.ask_after.new.clock in
    let one = pops_are old new c.in_ok-turn.field-0 Done c.in-Done.is c.in_ok-turn.ensures.pops in
    let count : length new ≡ n = omega (arith, length_one old new false one, i.count) in
    let over = over_after phase.setting.stop n mid end c.in-Some.hit e.between e.asks in
    record {
      same_task = c.in_ok-turn.ensures.same_task;
      meaning = λ parts states seen. same_both (c.in_ok-turn.ensures.meaning parts states seen) (i.meaning parts states seen);
      halts = halts_time phase K F c.turn.new.self c.in-Some.hit (after_is phase K F c.turn.new.self c.in_ok-turn.field-0 Done c.in-Done.is c.in_ok-turn.ensures.after) over.1 (omega (arith, count)) (ap (λ (k : ℕ). k % 256) count ∙ over.0);
      answers = λ before a. asked_after phase old new n before mid end (Some c.in-Some.hit) (i.answers before a) one i.unfinal_all count e.between e.unasked e.asks;
      moment = between_from _ (g.C.Clock.last c.loop-turn.clock) _ _ i.later e.moment;
      later = omega (arith, i.later, e.later);
      tells = tells_then _ mid _ i.tells e.tells;
    }

pub loop-turn-preserved : goal.loop-turn-preserved
loop-turn-preserved g c =
    let phase = phase_of c.args.phase.now.task.now c.args.phase.now.setting.now c.args.phase.now.shape in
    let K = g.G.Guide.keeps c.turn.new.guide in
    let F = g.G.Guide.fits c.turn.new.guide c.args.phase.now.task.now in
    let i = c.loop-turn.invariant in
    let e = c.ask_after.ensures in
    let d = c.in_default.ensures in
    let old = c.loop-turn.machine.log.pops in
    let new = c.turn.new.self.log.pops in
    let n = c.loop-turn.turn + 1 in
    let mid = g.C.Clock.answers c.loop-turn.clock in
    let end = g.C.Clock.answers c.ask_after.new.clock in
    let one = pops_are old new c.in_ok-turn.field-0 Done c.in-Done.is c.in_ok-turn.ensures.pops in
    let count : length new ≡ n = omega (arith, length_one old new false one, i.count) in
    record {
      stands = after_is phase K F c.turn.new.self c.in_ok-turn.field-0 Done c.in-Done.is c.in_ok-turn.ensures.after;
      same_task = c.in_ok-turn.ensures.same_task;
      meaning = λ parts states seen. same_both (c.in_ok-turn.ensures.meaning parts states seen) (i.meaning parts states seen);
      count = count;
      unfinal_all = unfinal_one old new one i.unfinal_all;
      answers = λ before a. asked_after phase old new n before mid end None (i.answers before a) one i.unfinal_all count d.between d.unasked d.asks;
      later = omega (arith, i.later, e.later);
      tells = tells_then _ mid _ i.tells e.tells;
    }

pub returns-then-is_empty : goal.returns-then-is_empty
returns-then-is_empty g c =
    let phase = phase_of c.args.phase.now.task.now c.args.phase.now.setting.now c.args.phase.now.shape in
    let m = c.loop-turn.machine in
    let i = c.loop-turn.invariant in
    let s = i.stands in
    record {
      same_task = i.same_task;
      meaning = i.meaning;
      halts = halts_done phase (g.G.Guide.keeps c.loop-turn.guide) (g.G.Guide.fits c.loop-turn.guide c.args.phase.now.task.now) m s (exhausted_now phase m s.past c.args.phase.now.is_phase s.rests s.ends (lists_empty phase m s.past s.rests (c.is_empty.ensures.0 c.if-is_empty.true)));
      answers = i.answers;
      moment = tt;
      later = i.later;
      tells = i.tells;
    }

pub returns : goal.returns
returns g c =
    let phase = phase_of c.args.phase.now.task.now c.args.phase.now.setting.now c.args.phase.now.shape in
    let m = c.loop-turn.machine in
    let i = c.loop-turn.invariant in
    let s = i.stands in
    record {
      same_task = i.same_task;
      meaning = i.meaning;
      halts = halts_pops phase (g.G.Guide.keeps c.loop-turn.guide) (g.G.Guide.fits c.loop-turn.guide c.args.phase.now.task.now) m s (ends_at_pops phase m s.past s.rests s.ends (λ none. both_ways c.is_empty.result c.if-is_empty.false (c.is_empty.ensures.1 none)) (omega (arith, i.count, c.loop-turn-test.false, c.loop-turn.auto.turn-end)));
      answers = i.answers;
      moment = tt;
      later = i.later;
      tells = i.tells;
    }
