use Rattle.std.proofs.Common.{◌≡◌, true, ◌<◌, ◌∙◌, ap, sym, ℕ, List, length, map, arith}
use Rattle.std.proofs.lemmas.List.{get_or-map, length-map, take_all}
use Rattle.relaxed_task.specs.Numbers.{number_by, is_among}
use Rattle.relaxed_task.proofs.NumberLaws.{numbers_same, numbers_below}
use Rattle.h_add.specs.Networks.{are_below}
use Rattle.h_add.proofs.ListGrowth.{below_at}
use Rattle.h_add.proofs.Steps.{out_more}
use Rattle.h_add.proofs.settling.Settling.leave_all_out.Goals as goal

pub loop-fact-preserved : goal.loop-fact-preserved
loop-fact-preserved c = record {
  fresh = λ unaries f. c.leave_out.ensures.fresh unaries (c.loop-fact.invariant.fresh unaries f);
  out = λ below none.
      (let lt : c.loop-fact.fact-index < length c.args.excluded.now = omega arith in
      let within : c.loop-fact.fact-index < length (map (number_by c.args.network.now.offsets) c.args.excluded.now) = omega (arith, length-map c.args.excluded.now (number_by c.args.network.now.offsets)) in
      let at = (rw c.relaxed.ensures at c.number.ensures) ∙ sym (get_or-map (number_by c.args.network.now.offsets) c.args.excluded.now c.loop-fact.fact-index _ 0 lt) in
      let there = below_at _ _ _ _ below within at in
      out_more (map (number_by c.args.network.now.offsets) c.args.excluded.now) _ _ c.loop-fact.fact-index c.number.result within at (omega (arith, there, c.leave_out.ensures.facts, c.loop-fact.invariant.long))
      (c.leave_out.ensures.out (omega (arith, there, c.loop-fact.invariant.long))) (c.loop-fact.invariant.out below none));
  long = c.leave_out.ensures.long ∙ c.loop-fact.invariant.long;
}

pub returns-clause-out : goal.returns-clause-out
returns-clause-out c parts kind is there none fact =
    let same = numbers_same parts.variables c.args.network.now.offsets c.args.excluded.now is.offsets there in
    let below : are_below (length c.args.self.now.costs) (map (number_by c.args.network.now.offsets) c.args.excluded.now) ≡ true = rw (← c.requires.facts, same, is.facts) (numbers_below parts.variables c.args.excluded.now there) in
    c.loop-fact.invariant.out below none fact
    ∙ ap (λ (xs : List ℕ). is_among xs fact) (take_all c.loop-fact.fact-index (map (number_by c.args.network.now.offsets) c.args.excluded.now) (omega (arith, length-map c.args.excluded.now (number_by c.args.network.now.offsets))) ∙ same)
