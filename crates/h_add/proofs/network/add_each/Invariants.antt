use Rattle.std.proofs.Common.{◌≡◌, ℕ, [], length, take}
use Rattle.lama_num.specs.Rows.{row_at}
use Rattle.h_add.specs.Networks.{IsNeeds}
use Rattle.h_add.proofs.network.add_each.Given as goal

abbrev pub invariant-loop-i : goal.invariant-loop-i
invariant-loop-i l = record {
  long : length l.lists ≡ length l.fn.lists;
  needed : ((fact : ℕ) → row_at l.fn.lists fact ≡ []) → IsNeeds (take l.i l.unaries) l.always l.lists;
}
