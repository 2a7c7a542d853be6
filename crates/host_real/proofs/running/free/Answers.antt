use Rattle.std.proofs.Common.{◌∙◌, not, nat_eq, ap, rules}
use Rattle.std.proofs.lemmas.Fn.{filter_same}
use Rattle.host_real.specs.Slots.{slots}
use Rattle.host_real.proofs.Slots.{map-filter}
use Rattle.host_real.proofs.running.free.Goals as goal

pub returns : goal.returns
returns g c = ap slots (filter_same _ (λ child. not (nat_eq child.slot c.args.slot)) _ (λ x b f' k. search rules) _ _ c.retain.ensures.filtered)
    ∙ map-filter (λ child. child.slot) (λ s. not (nat_eq s c.args.slot)) _
