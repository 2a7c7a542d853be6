use Rattle.std.proofs.Common.{ℕ, ◌+◌, ◌≤◌, List, length, false}
use Rattle.std.specs.Prelude.{vec_capacity}
use Rattle.axiom_eval.specs.Layers.{open_of}
use Rattle.axiom_eval.specs.Settling.{IsHearing, IsBetween}
use Rattle.axiom_eval.proofs.layers.propagate.Given as goal

abbrev pub invariant-loop-var : goal.invariant-loop-var
invariant-loop-var l = record {
  hearing : IsHearing l.parts l.rules l.layer l.values l.waiting.items (λ p. false);
  between : (start : List ℕ) → IsBetween l.parts l.layer start l.fn.values → IsBetween l.parts l.layer start l.values;
  room : length l.parts.variables ≤ vec_capacity l.waiting;
}

abbrev pub decreases-loop-var : goal.decreases-loop-var
decreases-loop-var l = length l.waiting.items + open_of l.parts l.layer l.values
