use Rattle.std.proofs.Common.{◌≡◌, List, None, Some, IfOk, sym, subst, arith}
use Rattle.search_log.specs.declared.turns.Pop.{Pop}
use Rattle.search_log.specs.Phases.{Phase}
use Rattle.search_log.specs.Clocks.{moment_of}
use Rattle.lazy_search.specs.declared.end.SearchEnd.{SearchEnd}
use Rattle.lazy_search.specs.declared.end.SearchEnd.TheVariants.{Limit}
use Rattle.lazy_search.specs.Phases.{phase_of}
use Rattle.lazy_search.specs.Ends.{EndHolds, ClockHolds, IsAnswered, IsBetween, moment_by}
use Rattle.lazy_search.proofs.ClockAnswers.{tells_then, asks_first, between_from}
use Rattle.lazy_search.proofs.HaltLaws.{asks_over, if_both}
use Rattle.lazy_search.proofs.SearchEnds.{first_limit, phase_same, is_phase}
use Rattle.lazy_search.proofs.searching.try_search.Goals as goal

pub returns-in-Some : goal.returns-in-Some
returns-in-Some g c =
    let shape = c.shape_of-shape.result in
    let phase = phase_of c.args.task.now c.args.setting.now shape in
    let same = phase_same c.args.task.now c.args.setting.now shape (g.G.Guide.guides c.args.guide.now) (g.G.Guide.preferring c.args.guide.now) c.shape_of-shape.ensures.guides c.shape_of-shape.ensures.preferring in
    let F = g.G.Guide.fits c.args.guide.now c.args.task.now in
    let before = g.C.Clock.answers c.args.clock.now in
    let after = g.C.Clock.answers c.ask.new.clock in
    let hit = c.in-Some.hit in
    let e = c.in-Some.ensures in
    let log = c.new.result in
    record {
      same_task = c.requires.same_task;
      end = subst (λ (p : Phase). EndHolds p F (Limit hit log)) same (first_limit phase F log hit c.new.ensures.visits c.new.ensures.pops (asks_over phase.setting.stop before after hit e.asks));
      clock = subst (λ (p : Phase). IsAnswered p log.pops (moment_of hit) before after) same (subst (λ (ps : List Pop). IsAnswered phase ps (moment_of hit) before after) (sym c.new.ensures.pops) (asks_first phase before after (Some hit) e.asks));
      moment = e.moment;
      later = e.later;
      tells = e.tells;
    }

pub returns-in_err-machine-clause-later : goal.returns-in_err-machine-clause-later
returns-in_err-machine-clause-later g c = c.ask.ensures.later

pub returns-in_err-machine-clause-tells : goal.returns-in_err-machine-clause-tells
returns-in_err-machine-clause-tells g c = c.ask.ensures.tells

pub search_with-end-requires : goal.search_with-end-requires
search_with-end-requires g c = record { blank = c.in_ok-machine.ensures; same_task = c.requires.same_task }

pub returns : goal.returns
returns g c =
    let shape = c.shape_of-shape.result in
    let same = phase_same c.args.task.now c.args.setting.now shape (g.G.Guide.guides c.args.guide.now) (g.G.Guide.preferring c.args.guide.now) c.shape_of-shape.ensures.guides c.shape_of-shape.ensures.preferring in
    let F = g.G.Guide.fits c.args.guide.now c.args.task.now in
    let before = g.C.Clock.answers c.args.clock.now in
    let mid = g.C.Clock.answers c.ask.new.clock in
    let after = g.C.Clock.answers c.search_with-end.new.clock in
    let r = c.search_with-end.result in
    let e = c.search_with-end.ensures in
    let from = g.C.Clock.last c.args.clock.now in
    let between : (end : SearchEnd) → IsBetween (g.C.Clock.last c.ask.new.clock) (g.C.Clock.last c.search_with-end.new.clock) (moment_by end) → IsBetween from (g.C.Clock.last c.search_with-end.new.clock) (moment_by end) = λ end. between_from from (g.C.Clock.last c.ask.new.clock) (g.C.Clock.last c.search_with-end.new.clock) (moment_by end) c.ask.ensures.later in
    record {
      same_task = e.same_task;
      end = subst (λ (p : Phase). IfOk r (EndHolds p F)) same e.end;
      clock = subst (λ (p : Phase). IfOk r (ClockHolds p before after)) same (e.clock before (asks_first (phase_of c.args.task.now c.args.setting.now shape) before mid None c.in_default.ensures.asks));
      moment = if_both r (λ end. IsBetween (g.C.Clock.last c.ask.new.clock) (g.C.Clock.last c.search_with-end.new.clock) (moment_by end)) (λ end. IsBetween (g.C.Clock.last c.ask.new.clock) (g.C.Clock.last c.search_with-end.new.clock) (moment_by end)) (λ end. IsBetween from (g.C.Clock.last c.search_with-end.new.clock) (moment_by end)) (λ end is _. between end is) e.moment e.moment;
      later = omega (arith, c.ask.ensures.later, e.later);
      tells = tells_then _ mid _ c.ask.ensures.tells e.tells;
    }
