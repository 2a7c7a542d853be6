use Rattle.std.proofs.Common.{◌≡◌, ◌≤◌, ◌-◌, [], length}
use Rattle.std.specs.Prelude.{vec_capacity}
use Rattle.axiom_eval.proofs.Upwards.{IsSettledTo}
use Rattle.axiom_eval.proofs.settling.settle_layers.Given as goal

abbrev pub invariant-loop-place : goal.invariant-loop-place
invariant-loop-place l = record {
  settled : IsSettledTo l.parts l.rules l.place l.fn.values l.values;
  within : l.place ≤ length l.rules.heads;
  long : length l.values ≡ length l.parts.variables;
  room : length l.parts.variables ≤ vec_capacity l.waiting;
  none : l.waiting.items ≡ [];
}

abbrev pub decreases-loop-place : goal.decreases-loop-place
decreases-loop-place l = length l.rules.heads - l.place
