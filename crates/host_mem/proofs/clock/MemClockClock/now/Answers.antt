use Rattle.std.proofs.Common.{◌∙◌, ◌+◌, ap, take}
use Rattle.host_mem.specs.Times.{greatest}
use Rattle.host_mem.proofs.Ticks.{later, ticked}
use Rattle.host_mem.proofs.clock.MemClockClock.now.Goals as goal

pub returns-clause-later : goal.returns-clause-later
returns-clause-later c = later _ _ _ _ c.self.view_is (c.answer_at-self-inside.ensures.answer ∙ ap (λ times. greatest (take (c.self.inside.asked + 1) times)) c.deref.ensures.value)

pub returns-clause-answers : goal.returns-clause-answers
returns-clause-answers c = ticked _ _ _ _ _ c.self.view_is c.saturating_add-self-inside.ensures (c.answer_at-self-inside.ensures.answer ∙ ap (λ times. greatest (take (c.self.inside.asked + 1) times)) c.deref.ensures.value)
