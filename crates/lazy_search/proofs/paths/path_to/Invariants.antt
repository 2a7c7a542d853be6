use Rattle.std.proofs.Common.{ℕ, ◌<◌, List, ◌++◌, length, reverse}
use Rattle.lazy_search.specs.Origins.{Traced}
use Rattle.lazy_search.proofs.paths.path_to.Given as goal

abbrev pub invariant-loop-at : goal.invariant-loop-at
invariant-loop-at l = record {
  inside : l.at < length l.origins;
  traced : (front : List ℕ) → Traced l.origins l.at front → Traced l.origins l.fn.visit (front ++ reverse l.path.items);
}

abbrev pub decreases-loop-at : goal.decreases-loop-at
decreases-loop-at l = l.at
