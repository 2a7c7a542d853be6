use Rattle.std.proofs.Common.{◌+◌, ◌≤◌, length, drop, vec_len, vec_capacity}
use Rattle.h_add.specs.Orders.{chosen}
use Rattle.h_ff.specs.Orders.{IsPlanned}
use Rattle.h_ff.proofs.keep.find.Given as goal

abbrev pub invariant-loop-k : goal.invariant-loop-k
invariant-loop-k l = record {
  kept : IsPlanned l.relaxed.goals (chosen l.relaxed.unaries (drop l.k l.order)) l.marks l.operators.items;
  few : vec_len l.operators + l.k ≤ length l.order;
  capacity : vec_capacity l.fn.operators ≤ vec_capacity l.operators;
}
