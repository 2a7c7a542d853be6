use Rattle.std.proofs.Common.{rules, not, nat_eq}
use Rattle.std.proofs.lemmas.Fn.{filter_same}
use Rattle.host_mem.proofs.children.free.Goals as goal

pub returns : goal.returns
returns c = filter_same _ (λ child. not (nat_eq child.slot c.args.slot)) _ (λ x b f' k. search rules) _ _ c.retain.ensures.filtered
