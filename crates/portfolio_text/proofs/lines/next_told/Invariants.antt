use Rattle.std.proofs.Common.{◌≡◌, length}
use Rattle.std.specs.Prelude.{IsTrue}
use Rattle.std.specs.List.{list_all}
use Rattle.std.specs.Str.{is_utf8}
use Rattle.portfolio_text.specs.PortfolioText.{told, end_line}
use Rattle.portfolio_text.proofs.lines.next_told.Given as goal

abbrev pub invariant-loop-line : goal.invariant-loop-line
invariant-loop-line l = record {
  told_is : told l.cursor ≡ told l.fn.cursor;
  end_is : end_line l.cursor ≡ end_line l.fn.cursor;
  text : IsTrue (list_all is_utf8 l.cursor.left);
  number_is : l.number ≡ l.cursor.line;
}

abbrev pub decreases-loop-line : goal.decreases-loop-line
decreases-loop-line l = length l.cursor.left
