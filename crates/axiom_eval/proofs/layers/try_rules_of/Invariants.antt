use Rattle.std.proofs.Common.{◌≡◌, ℕ, ◌<◌, ◌≤◌, List, length, nat_le}
use Rattle.std.specs.Prelude.{vec_capacity}
use Rattle.axiom_eval.specs.Rules.{layer_at}
use Rattle.axiom_eval.specs.Settling.{IsHearing, IsBetween}
use Rattle.axiom_eval.proofs.layers.try_rules_of.Given as goal

abbrev pub invariant-loop-place : goal.invariant-loop-place
invariant-loop-place l = record {
  hearing : IsHearing l.parts l.rules l.layer l.values l.waiting.items (λ p. nat_le l.place p);
  between : (start : List ℕ) → IsBetween l.parts l.layer start l.fn.values → IsBetween l.parts l.layer start l.values;
  room : length l.parts.variables ≤ vec_capacity l.waiting;
  those : (p : ℕ) → l.from ≤ p → p < l.place → layer_at l.rules p ≡ l.layer;
}
