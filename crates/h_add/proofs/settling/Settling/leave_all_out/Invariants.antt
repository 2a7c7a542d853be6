use Rattle.std.proofs.Common.{◌≡◌, ℕ, List, take, map, length, true, false}
use Rattle.relaxed_task.specs.Numbers.{number_by, is_among}
use Rattle.relaxed_task.specs.declared.unary.Unary.{Unary}
use Rattle.h_add.specs.Networks.{are_below}
use Rattle.h_add.specs.UnderWay.{is_settled, IsFresh}
use Rattle.h_add.proofs.settling.Settling.leave_all_out.Given as goal

abbrev pub invariant-loop-fact : goal.invariant-loop-fact
invariant-loop-fact l = record {
  fresh : (unaries : List Unary) → IsFresh unaries l.fn.self → IsFresh unaries l.self;
  out : are_below (length l.fn.self.costs) (map (number_by l.network.offsets) l.excluded) ≡ true → ((fact : ℕ) → is_settled l.fn.self fact ≡ false) →
      (fact : ℕ) → is_settled l.self fact ≡ is_among (take l.fact-index (map (number_by l.network.offsets) l.excluded)) fact;
  long : length l.self.costs ≡ length l.fn.self.costs;
}
