use Rattle.std.proofs.Common.{◌≡◌, arith}
use Rattle.std.proofs.lemmas.List.Filters.{dedup_is}
use Rattle.std.proofs.lemmas.List.Kept.{Contains-dedup_nat, Contains-from_dedup}
use Rattle.std.proofs.lemmas.List.Sorted.{Contains-permutation, IsPermutation-reverse, IsPermutation-sym, IsPermutation-trans}
use Rattle.std.proofs.lemmas.Map.Keys.{IsStrictlyIncreasing-dedup}
use Rattle.h_ff.proofs.RelaxedPlanLaws.{one_more}
use Rattle.h_ff.proofs.keep.find.Goals as goal

pub loop-k-preserved : goal.loop-k-preserved
loop-k-preserved c = record {
  kept = rw (one_more c.args.relaxed.now.unaries c.args.order.now c.loop-k.k c.index-unaries-order.result c.requires.places (omega arith) (omega arith) (rw (← c.unary-unaries.ensures.unaries) c.index-unaries-order.is)) (c.keep_last.ensures.kept _ _ c.loop-k.invariant.kept);
  few = omega arith;
  capacity = omega arith;
}

pub returns-clause-operators : goal.returns-clause-operators
returns-clause-operators c =
    let none : c.loop-k.k ≡ 0 = omega arith in
    let kept = rw none at c.loop-k.invariant.kept.operators in
    let moved = IsPermutation-trans _ _ _ (IsPermutation-reverse _) (rw kept at c.sort_unstable.ensures.permutation) in
    let is = dedup_is _ _ _ c.dedup.ensures.filtered in
    record {
      ascending = rw is (IsStrictlyIncreasing-dedup _ c.sort_unstable.ensures.sorted);
      each = λ op. (
        (λ h. Contains-permutation _ _ op (IsPermutation-sym _ _ moved) (Contains-from_dedup _ _ op (rw is at h))),
        (λ h. rw is (Contains-dedup_nat _ op (Contains-permutation _ _ op moved h))),
      );
    }
