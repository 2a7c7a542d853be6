use Rattle.std.proofs.Common.{◌∙◌, sym}
use Rattle.driver_core.proofs.Steps.{is_done-holds}
use Rattle.driver_core.proofs.OverLaws.{goes_on, room_left}
use Rattle.driver_core.proofs.driver.Core.is_over.Goals as goal

pub returns-clause-over : goal.returns-clause-over
returns-clause-over c = λ events stands. c.is_done.ensures ∙ is_done-holds c.args.self.now events stands.holds

pub returns-clause-going : goal.returns-clause-going
returns-clause-going c = λ events stands closed. goes_on c.args.self.now events stands (sym (c.is_done.ensures ∙ is_done-holds c.args.self.now events stands.holds) ∙ closed)

pub returns-clause-room : goal.returns-clause-room
returns-clause-room c = λ events stands closed. room_left c.args.self.now.setting events (sym (c.is_done.ensures ∙ is_done-holds c.args.self.now events stands.holds) ∙ closed)
