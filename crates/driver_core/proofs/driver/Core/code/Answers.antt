use Rattle.std.proofs.Common.{◌∙◌, ap, nat_lt}
use Rattle.exit_codes.specs.Combined.{combine_of}
use Rattle.driver_core.specs.States.{CoreState, all_codes}
use Rattle.driver_core.proofs.Steps.{code-stands}
use Rattle.driver_core.proofs.driver.Core.code.Goals as goal

pub returns : goal.returns
returns c =
    let core = c.args.self.now in
    λ events stands.
    c.combine.ensures
    ∙ ap (λ codes. combine_of codes (nat_lt 0 c.self.inside.kept)) c.all_codes.ensures
    ∙ ap (λ (s : CoreState). combine_of (all_codes core) (nat_lt 0 s.kept)) c.self.view_is
    ∙ code-stands core events stands
