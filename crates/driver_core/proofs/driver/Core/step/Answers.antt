use Rattle.std.proofs.Common.{◌∙◌}
use Rattle.driver_core.proofs.Steps.{stands_after, answers}
use Rattle.driver_core.proofs.driver.Core.step.Goals as goal

pub returns-clause-stands : goal.returns-clause-stands
returns-clause-stands c =
    λ events stands allowed. rw c.advance.ensures.state (stands_after c.args.self.now events c.args.event stands allowed)

pub returns-clause-answers : goal.returns-clause-answers
returns-clause-answers c =
    λ events stands allowed. c.advance.ensures.answer ∙ answers c.args.self.now events c.args.event stands.holds allowed
