use Rattle.std.proofs.Common.{rules, not}
use Rattle.std.proofs.lemmas.Fn.{filter_same}
use Rattle.sas_task.specs.WellFormed.{is_default}
use Rattle.sas_task.proofs.checking.keep_rules.Goals as goal

pub returns : goal.returns
returns c = filter_same _ (λ r. not (is_default c.args.init.now r.head)) _ (λ x b f' k. search rules) _ _ c.retain.ensures.filtered
