use Rattle.std.proofs.Common.{◌∙◌, ◌+◌, length, ap, arith, List, ℕ, []}
use Rattle.std.proofs.lemmas.List.{length-replicate}
use Rattle.h_add.proofs.ListGrowth.{unaries_below}
use Rattle.h_add.proofs.network.needs_of.Goals as goal

pub add_each-requires-clause-facts : goal.add_each-requires-clause-facts
add_each-requires-clause-facts c =
    unaries_below c.args.facts _ c.args.unaries.now (let long = ap length c.deref_mut.ensures.value ∙ (ap length c.in_ok-lists.ensures ∙ length-replicate {A = List ℕ} (c.args.facts + 1) []) in omega (arith, long)) c.requires.facts
