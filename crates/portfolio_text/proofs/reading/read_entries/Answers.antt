use Rattle.std.proofs.Common.{◌≡◌, ◌∷◌, false, rules}
use Rattle.std.specs.Prelude.{codes}
use Rattle.std.specs.Str.{bytes_eq}
use Rattle.portfolio_text.specs.PortfolioText.{told, end_line}
use Rattle.portfolio_text.proofs.EntryTurns.{stops}
use Rattle.portfolio_text.proofs.reading.read_entries.Goals as goal

pub returns-in-Err-clause-exact : goal.returns-in-Err-clause-exact
returns-in-Err-clause-exact c =
    let is : told c.loop-line.cursor ≡ (c.in-Some.line, c.in-Some.text.now) ∷ told c.next_told.new.cursor = search rules in
    let other : bytes_eq c.in-Some.text.now (codes "end") ≡ false = search rules in
    stops (end_line c.loop-line.cursor) c.in-Some.line c.loop-line.entries c.in-Some.text.now (told c.loop-line.cursor) (told c.next_told.new.cursor) _ c.in-Err.e c.loop-line.invariant.same is other c.in-Err.ensures.exact
