use Rattle.std.proofs.Common.{◌≡◌, ℕ, ◌<◌, ◌≤◌, min}
use Rattle.std.specs.Prelude.{slice_index}
use Rattle.lazy_search.specs.Entries.{is_less}
use Rattle.lazy_search.proofs.entries.lower_all.Given as goal

abbrev pub invariant-loop-j : goal.invariant-loop-j
invariant-loop-j l = record {
  less : l.is_less ≡ is_less l.j l.fn.least l.estimates;
  kept : (k : ℕ) → k < l.j → slice_index l.least k ≡ min (slice_index l.fn.least k) (slice_index l.estimates k);
  others : (k : ℕ) → l.j ≤ k → slice_index l.least k ≡ slice_index l.fn.least k;
}
