use Rattle.std.proofs.Common.{◌≡◌, ℕ, length, nat_lt, ◌&&◌}
use Rattle.relaxed_task.specs.Estimates.{is_finite}
use Rattle.h_add.specs.Values.{value_at}
use Rattle.bit_rows.specs.Rows.{has, words_of}
use Rattle.lm_backchain.proofs.singles.finite_row.Given as goal

abbrev pub invariant-loop-number : goal.invariant-loop-number
invariant-loop-number l = record {
  long : length l.row.items ≡ words_of (length l.costs);
  so_far : (n : ℕ) → has l.row.items n ≡ (nat_lt n l.number && is_finite (value_at l.costs n));
}
