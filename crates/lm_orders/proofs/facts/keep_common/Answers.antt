use Rattle.std.proofs.Common.{rules}
use Rattle.std.proofs.lemmas.Fn.{filter_same}
use Rattle.sas_task.specs.Facts.{has_fact}
use Rattle.lm_orders.proofs.facts.keep_common.Goals as goal

pub returns : goal.returns
returns c = filter_same _ (has_fact c.args.others.now) _ (λ x b f' k. search rules) _ _ c.retain.ensures.filtered
