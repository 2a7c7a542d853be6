use Rattle.std.proofs.Common.{rules}
use Rattle.std.proofs.lemmas.List.Sorted.{IsNonDecreasingBy-from_sort_by_key}
use Rattle.axiom_eval.specs.declared.building.Slot.{Slot}
use Rattle.axiom_eval.proofs.building.order_by_layer.Goals as goal

pub returns-clause-order : goal.returns-clause-order
returns-clause-order c = IsNonDecreasingBy-from_sort_by_key (λ (s : Slot). s.layer) _ c.sort_unstable_by_key.ensures.sorted (λ a r q k. search rules)
