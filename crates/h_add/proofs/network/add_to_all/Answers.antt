use Rattle.std.proofs.Common.{◌<◌, ◌∙◌, ◌++◌, ◌∷◌, [], ap, ℕ, List, length, get_or, slice_set, arith, refl}
use Rattle.std.proofs.lemmas.List.{get_or_default}
use Rattle.h_add.proofs.ListGrowth.{fact_added, below_at}
use Rattle.h_add.proofs.network.add_to_all.Goals as goal

pub loop-fact-preserved : goal.loop-fact-preserved
loop-fact-preserved c =
    let lt : c.loop-fact.fact-index < length c.args.facts.now = omega arith in
    let below = below_at _ _ _ _ c.requires lt refl in
    let within : get_or c.args.facts.now c.loop-fact.fact-index 0 < length c.loop-fact.lists = omega arith in
    let row = c.in_ok-push.ensures.ok ∙ ap (λ (row : List ℕ). row ++ c.args.place ∷ []) (get_or_default c.loop-fact.lists (get_or c.args.facts.now c.loop-fact.fact-index 0) c.index-lists-fact.result [] within) in
    fact_added _ c.loop-fact.lists _ c.args.facts.now c.loop-fact.fact-index _ _ lt refl within (ap (slice_set c.loop-fact.lists (get_or c.args.facts.now c.loop-fact.fact-index 0)) row) c.loop-fact.invariant
