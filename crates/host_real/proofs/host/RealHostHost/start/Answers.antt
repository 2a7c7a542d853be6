use Rattle.host_real.proofs.StartLaws.{starts_untold, on_ok, on_err}
use Rattle.host_real.proofs.host.RealHostHost.start.Goals as goal

pub returns : goal.returns
returns g c = starts_untold _ _ _ _ _ _ _ _ _ c.counted.ensures.later c.counted.ensures.failed
    (on_ok _ _ _ c.counted.ensures.same c.start_in-answer.ensures.started)
    (on_err _ _ _ c.counted.ensures.same c.start_in-answer.ensures.failed)
