use Rattle.std.proofs.Common.{◌≡◌, List, IfOk, sym, subst}
use Rattle.lazy_search.specs.Phases.{phase_of}
use Rattle.lazy_search.specs.Halts.{moment_at}
use Rattle.lazy_search.specs.Ends.{EndsSo, EndHolds, ClockHolds, IsBetween, moment_by}
use Rattle.lazy_search.proofs.HaltLaws.{if_all, if_both}
use Rattle.lazy_search.proofs.SearchEnds.{halt_ends, tells, end_holds, clock_holds}
use Rattle.lazy_search.proofs.searching.search_with.Goals as goal

pub begin_and_turn-requires : goal.begin_and_turn-requires
begin_and_turn-requires g c = record { blank = c.requires.blank; same_task = c.requires.same_task }

pub end_of-requires : goal.end_of-requires
end_of-requires g c =
    let phase = phase_of c.args.phase.now.task.now c.args.phase.now.setting.now c.args.phase.now.shape in
    let h = halt_ends phase (g.G.Guide.keeps c.begin_and_turn.new.guide) (g.G.Guide.fits c.begin_and_turn.new.guide c.args.phase.now.task.now) c.begin_and_turn.new.machine c.in_ok-halt.halt c.in_ok-halt.ensures.halts in
    record {
      rests = h.0;
      ends = h.1;
      dead = h.2;
    }

pub returns : goal.returns
returns g c =
    let phase = phase_of c.args.phase.now.task.now c.args.phase.now.setting.now c.args.phase.now.shape in
    let K = g.G.Guide.keeps c.begin_and_turn.new.guide in
    let F = g.G.Guide.fits c.begin_and_turn.new.guide c.args.phase.now.task.now in
    let own = g.G.Guide.fits c.args.guide.now c.args.phase.now.task.now in
    let after = g.C.Clock.answers c.begin_and_turn.new.clock in
    let m = c.begin_and_turn.new.machine in
    let halt = c.in_ok-halt.halt in
    let log = m.log in
    let r = c.end_of.result in
    let e = c.in_ok-halt.ensures in
    let told = tells phase K F own m halt e.halts (λ states seen. (e.meaning c.args.phase.now.task.now states seen).0) in
    let so = c.end_of.ensures.ends in
    let moment = c.end_of.ensures.moment in
    record {
      same_task = if_all r (g.G.Guide.is_for c.begin_and_turn.new.guide c.args.phase.now.task.now) e.same_task;
      end = if_both r (EndsSo phase log) (EndsSo phase log) (EndHolds phase own) (λ end s _. end_holds phase own log end told s) so so;
      clock = λ before first. if_both r (EndsSo phase log) (λ end. moment_by end ≡ moment_at halt) (ClockHolds phase before after) (λ end s is. clock_holds phase log end (moment_at halt) before after s is (e.answers before first)) so moment;
      moment = if_both r (EndsSo phase log) (λ end. moment_by end ≡ moment_at halt) (λ end. IsBetween (g.C.Clock.last c.args.clock.now) (g.C.Clock.last c.begin_and_turn.new.clock) (moment_by end)) (λ end _ is. subst (IsBetween (g.C.Clock.last c.args.clock.now) (g.C.Clock.last c.begin_and_turn.new.clock)) (sym is) e.moment) so moment;
      later = e.later;
      tells = e.tells;
    }
