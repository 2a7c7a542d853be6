use Rattle.std.proofs.Common.{◌≡◌, ℕ, ◌<◌, ◌≤◌, ◌||◌, length, get_or, false}
use Rattle.exit_codes.proofs.sets.Codes.union.Given as goal

abbrev pub invariant-loop-i : goal.invariant-loop-i
invariant-loop-i l = record {
  count : length l.flags ≡ 64;
  done : (k : ℕ) → k < l.i → get_or l.flags k false ≡ (get_or l.initial.flags k false || get_or l.other-inside.flags k false);
  left : (k : ℕ) → l.i ≤ k → get_or l.flags k false ≡ get_or l.initial.flags k false;
}
