use Rattle.std.proofs.Common.{◌≡◌, ◌-◌, length, vec_capacity}
use Rattle.succ_gen.proofs.TreeWalk.{IsWalking}
use Rattle.succ_gen.proofs.walking.walk.Given as goal

abbrev pub invariant-loop-place : goal.invariant-loop-place
invariant-loop-place l = record {
  walking : IsWalking l.nodes l.operators l.state l.reached.items l.out.items l.place;
  reached_room : vec_capacity l.reached ≡ vec_capacity l.fn.reached;
  room : vec_capacity l.out ≡ vec_capacity l.fn.out;
}

abbrev pub decreases-loop-place : goal.decreases-loop-place
decreases-loop-place l = length l.nodes - l.place
