use Rattle.std.proofs.Common.{◌∙◌, ap}
use Rattle.std.specs.Prelude.{is_some}
use Rattle.plan_check.proofs.NamedOperators.{next_of-some}
use Rattle.plan_check.proofs.names.ByName.has.Goals as goal

pub returns : goal.returns
returns c = c.contains_key.ensures ∙ ap (λ o. is_some o) (c.requires.first c.args.name.now) ∙ next_of-some c.args.operators.now c.args.name.now
