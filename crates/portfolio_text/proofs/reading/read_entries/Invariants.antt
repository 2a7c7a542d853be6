use Rattle.std.proofs.Common.{◌≡◌, ◌≤◌, [], length}
use Rattle.std.specs.Prelude.{All, IsTrue}
use Rattle.std.specs.List.{list_all}
use Rattle.std.specs.Str.{is_utf8}
use Rattle.portfolio_text.specs.Accepted.{IsEntry}
use Rattle.portfolio_text.specs.PortfolioText.{told, end_line, entries_of, most_entries}
use Rattle.portfolio_text.proofs.reading.read_entries.Given as goal

abbrev pub invariant-loop-line : goal.invariant-loop-line
invariant-loop-line l = record {
  same : entries_of (end_line l.cursor) l.entries (told l.cursor) ≡ entries_of (end_line l.fn.cursor) [] (told l.fn.cursor);
  text : IsTrue (list_all is_utf8 l.cursor.left);
  accepted : All IsEntry l.entries;
  few : length l.entries ≤ most_entries;
}

abbrev pub decreases-loop-line : goal.decreases-loop-line
decreases-loop-line l = length (told l.cursor)
