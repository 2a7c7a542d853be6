use Rattle.std.proofs.Common.{◌≡◌, ◌+◌, ◌*◌, ◌^◌, ◌≤◌, drop}
use Rattle.driver_core.specs.States.{marked_time}
use Rattle.driver_core.proofs.shares.total.Given as goal

abbrev pub invariant-loop-place : goal.invariant-loop-place
invariant-loop-place l = record {
  so_far : l.total + marked_time (drop l.place l.shares) (drop l.place l.marks) ≡ marked_time l.shares l.marks;
  small : l.total ≤ l.place * 2 ^ 32;
}
