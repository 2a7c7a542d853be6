use Rattle.std.proofs.Common.{rules, not}
use Rattle.std.proofs.lemmas.Fn.{filter_same}
use Rattle.std.specs.BTreeSet.{contains}
use Rattle.sas_task.specs.Tables.{pair_cmp}
use Rattle.sas_task.proofs.tables.keep_unknown.Goals as goal

pub returns : goal.returns
returns c = filter_same _ (λ f. not (contains pair_cmp c.args.known.now (f.var, f.val))) _ (λ x b f' k. search rules) _ _ c.retain.ensures.filtered
