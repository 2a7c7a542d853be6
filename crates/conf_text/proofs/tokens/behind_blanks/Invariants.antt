use Rattle.std.proofs.Common.{◌≡◌, ◌≤◌, ◌+◌, ◌^◌, length}
use Rattle.conf_text.specs.Tokens.{after_blanks}
use Rattle.conf_text.proofs.tokens.behind_blanks.Given as goal

abbrev pub invariant-loop-b : goal.invariant-loop-b
invariant-loop-b l = record {
  same : after_blanks l.place l.left ≡ after_blanks l.from l.text;
  within : l.place + length l.left ≤ 2 ^ 63;
}

abbrev pub decreases-loop-b : goal.decreases-loop-b
decreases-loop-b l = length l.left
