use Rattle.std.proofs.Common.{◌≡◌, ◌∙◌, subst, ◌≤◌}
use Rattle.driver_run.proofs.Asking.{turn_told}
use Rattle.driver_run.proofs.entry.run_entry.Goals as goal

pub returns-in-Ok-clause-ran : goal.returns-in-Ok-clause-ran
returns-in-Ok-clause-ran g c =
    turn_told c.args.task.now c.args.config.now c.args.progress.now.core.setting c.begin.new.progress.core.setting c.search.new.progress c.end.new.progress c.search.new.trail c.in-Ok.outcome c.now-began.result
    (g.C.Clock.last c.args.clock.now) (g.C.Clock.last c.search.new.clock) (g.C.Clock.answers c.args.clock.now) (g.C.Clock.answers c.now-began.new.self) (g.C.Clock.answers c.search.new.clock)
    c.begin.ensures.setting c.in-Ok.ensures.setting (c.in-Ok.ensures.began ∙ c.new-trail.ensures.began) c.now-began.ensures.later (subst (λ n. n ≤ g.C.Clock.last c.search.new.clock) c.now-began.ensures.last c.in-Ok.ensures.later) c.now-began.ensures.answers c.in-Ok.ensures.asks c.in-Ok.ensures.ended (c.end.ensures.ended c.args.task.now c.args.config.now)
