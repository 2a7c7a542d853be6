use Rattle.std.proofs.Common.{◌∙◌, ap, sym}
use Rattle.lama_num.specs.Bounds.{is_below}
use Rattle.driver_core.specs.States.{CoreState}
use Rattle.driver_core.proofs.OverLaws.{kept_where_below}
use Rattle.driver_core.proofs.driver.Core.bound.Goals as goal

pub returns-clause-keeps : goal.returns-clause-keeps
returns-clause-keeps c =
    λ events stands open_ cost.
    kept_where_below c.args.self.now.setting events cost open_
    ∙ sym (ap (λ (s : CoreState). is_below s.bound cost) c.self.view_is ∙ ap (λ b. is_below b cost) stands.holds.bound)
