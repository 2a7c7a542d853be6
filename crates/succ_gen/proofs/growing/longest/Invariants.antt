use Rattle.std.proofs.Common.{ℕ, ◌<◌, ◌≤◌, length}
use Rattle.lama_num.specs.Rows.{row_at}
use Rattle.succ_gen.proofs.growing.longest.Given as goal

abbrev pub invariant-loop-operator : goal.invariant-loop-operator
invariant-loop-operator l = (op : ℕ) → op < l.operator → length (row_at l.conditions op) ≤ l.longest
