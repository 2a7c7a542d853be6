use Rattle.std.proofs.Common.{◌<◌, ◌+◌, refl, arith}
use Rattle.lazy_search.proofs.ClockAnswers.{tells_same, tells_one, asks_none, asks_early, asks_late}
use Rattle.lazy_search.proofs.searching.ask.Goals.{then-moment-stop-via-then-moment-stop, then-moment-stop-via-else-moment-stop+then-moment-stop-2}
use Rattle.lazy_search.proofs.searching.ask.Goals as goal

pub returns-in_err-stop-clause-asks : goal.returns-in_err-stop-clause-asks
returns-in_err-stop-clause-asks g c = asks_none c.args.setting.now.stop (g.C.Clock.answers c.args.clock.now) c.from_residual.result c.in_err-stop.was c.from_residual.ensures

pub returns-in_err-stop-clause-tells : goal.returns-in_err-stop-clause-tells
returns-in_err-stop-clause-tells g c = tells_same _ _ refl

pub returns-then-moment-stop-clause-asks : goal.returns-then-moment-stop-clause-asks
returns-then-moment-stop-clause-asks g c =
    let early : c.now-moment.result < c.in_ok-stop.stop.start + c.in_ok-stop.stop.limit = elim c.then-moment-stop.branch [ then-moment-stop-via-then-moment-stop w ↦ omega (arith, w.if-moment-stop.true) | then-moment-stop-via-else-moment-stop+then-moment-stop-2 w ↦ omega (arith, w.if-moment-stop.false, w.if-moment-stop-2.true) ] in
    asks_early c.args.setting.now.stop c.in_ok-stop.stop (g.C.Clock.answers c.args.clock.now) (g.C.Clock.answers c.now-moment.new.self) c.now-moment.result (c.in_ok-stop.was) c.now-moment.ensures.answers early

pub returns-then-moment-stop-clause-tells : goal.returns-then-moment-stop-clause-tells
returns-then-moment-stop-clause-tells g c = tells_one _ _ c.now-moment.result c.now-moment.ensures.answers

pub returns : goal.returns
returns g c = record {
  asks = asks_late c.args.setting.now.stop c.in_ok-stop.stop (g.C.Clock.answers c.args.clock.now) (g.C.Clock.answers c.now-moment.new.self) c.now-moment.result (c.in_ok-stop.was) c.now-moment.ensures.answers (omega arith);
  moment = (c.now-moment.ensures.later, omega (arith, c.now-moment.ensures.last));
  later = omega (arith, c.now-moment.ensures.later, c.now-moment.ensures.last);
  tells = tells_one _ _ c.now-moment.result c.now-moment.ensures.answers;
}
