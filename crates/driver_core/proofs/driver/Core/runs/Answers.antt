use Rattle.std.proofs.Common.{◌∙◌, sym}
use Rattle.driver_core.proofs.Times.{mark-holds, none-runs}
use Rattle.driver_core.proofs.driver.Core.runs.Goals as goal

pub returns-in-Some : goal.returns-in-Some
returns-in-Some c = λ events stands latest. c.has_mark.ensures ∙ mark-holds c.args.self.now events c.args.round c.args.entry _ stands.holds.rounds latest c.in-Some.ensures.value

pub returns-in-None : goal.returns-in-None
returns-in-None c = λ events stands latest. sym (none-runs c.args.self.now events c.args.round c.args.entry stands.holds.rounds latest c.in-None.ensures.value)
