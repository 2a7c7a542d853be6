use Rattle.std.proofs.Common.{List, None, refl, sym, subst, arith}
use Rattle.search_log.specs.declared.turns.Pop.{Pop}
use Rattle.lazy_search.specs.declared.steps.Turned.TheVariants.{Done, AtGoal}
use Rattle.lazy_search.specs.Phases.{phase_of}
use Rattle.lazy_search.specs.Ends.{IsAnswered}
use Rattle.lazy_search.proofs.ClockAnswers.{tells_same}
use Rattle.lazy_search.proofs.HaltLaws.{halts_goal, same_both, after_is, on_ok}
use Rattle.lazy_search.proofs.searching.begin_and_turn.Goals as goal

pub begin-requires : goal.begin-requires
begin-requires g c = record { blank = c.requires.blank; same_task = c.requires.same_task }

pub returns-in_err-begin-clause-later : goal.returns-in_err-begin-clause-later
returns-in_err-begin-clause-later g c = omega arith

pub returns-in_err-begin-clause-tells : goal.returns-in_err-begin-clause-tells
returns-in_err-begin-clause-tells g c = tells_same _ _ refl

pub make_turns-requires : goal.make_turns-requires
make_turns-requires g c =
    let phase = phase_of c.args.phase.now.task.now c.args.phase.now.setting.now c.args.phase.now.shape in
    let e = c.in_ok-begin.ensures in
    record {
      stands = after_is phase (g.G.Guide.keeps c.begin.new.guide) (g.G.Guide.fits c.begin.new.guide c.args.phase.now.task.now) c.begin.new.self c.in_ok-begin.field-0 Done c.in-Done.is e.after;
      pops = e.pops;
      same_task = e.same_task;
    }

pub returns-in-AtGoal : goal.returns-in-AtGoal
returns-in-AtGoal g c =
    let phase = phase_of c.args.phase.now.task.now c.args.phase.now.setting.now c.args.phase.now.shape in
    let K = g.G.Guide.keeps c.begin.new.guide in
    let F = g.G.Guide.fits c.begin.new.guide c.args.phase.now.task.now in
    let e = c.in_ok-begin.ensures in
    record {
      same_task = e.same_task;
      meaning = e.meaning;
      halts = halts_goal phase K F c.begin.new.self (after_is phase K F c.begin.new.self c.in_ok-begin.field-0 AtGoal c.in-AtGoal.is e.after);
      answers = λ before a. subst (λ (ps : List Pop). IsAnswered phase ps None before (g.C.Clock.answers c.args.clock.now)) (sym e.pops) a;
      moment = tt;
      later = omega arith;
      tells = tells_same _ _ refl;
    }

pub returns-in-Done : goal.returns-in-Done
returns-in-Done g c = record {
  same_task = c.make_turns.ensures.same_task;
  meaning = λ parts states seen. on_ok c.make_turns.result (λ x. same_both x (c.in_ok-begin.ensures.meaning parts states seen)) (c.make_turns.ensures.meaning parts states seen);
  halts = c.make_turns.ensures.halts;
  answers = c.make_turns.ensures.answers;
  moment = c.make_turns.ensures.moment;
  later = c.make_turns.ensures.later;
  tells = c.make_turns.ensures.tells;
}

pub returns-in_default-clause-tells : goal.returns-in_default-clause-tells
returns-in_default-clause-tells g c = tells_same _ _ refl
