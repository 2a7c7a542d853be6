use Rattle.std.proofs.Common.{◌≡◌, ℕ, ◌+◌, ◌≤◌, List, length, drop, nat_eq}
use Rattle.std.specs.Prelude.{vec_capacity}
use Rattle.std.specs.List.{list_any}
use Rattle.axiom_eval.specs.Layers.{open_of}
use Rattle.axiom_eval.specs.Settling.{IsHearing, IsBetween}
use Rattle.axiom_eval.proofs.layers.try_watchers_of.Given as goal

abbrev pub invariant-loop-place : goal.invariant-loop-place
invariant-loop-place l = record {
  hearing : IsHearing l.parts l.rules l.layer l.values l.waiting.items (λ p. list_any (nat_eq p) (drop l.place-index l.watching));
  between : (start : List ℕ) → IsBetween l.parts l.layer start l.fn.values → IsBetween l.parts l.layer start l.values;
  room : length l.parts.variables ≤ vec_capacity l.waiting;
  left : length l.waiting.items + open_of l.parts l.layer l.values ≡ length l.fn.waiting.items + open_of l.parts l.layer l.fn.values;
}
