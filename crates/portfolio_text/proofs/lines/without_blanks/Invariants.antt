use Rattle.std.proofs.Common.{◌≡◌, length}
use Rattle.std.specs.Str.{IsUtf8}
use Rattle.portfolio_text.specs.PortfolioText.{without_blanks}
use Rattle.portfolio_text.proofs.lines.without_blanks.Given as goal

abbrev pub invariant-loop-b : goal.invariant-loop-b
invariant-loop-b l = record {
  same : without_blanks l.rest ≡ without_blanks l.text;
  utf8 : IsUtf8 l.rest;
}

abbrev pub decreases-loop-b : goal.decreases-loop-b
decreases-loop-b l = length l.rest
