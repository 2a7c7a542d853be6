use Rattle.std.proofs.Common.{◌≡◌, ◌<◌, ◌++◌, [], length}
use Rattle.plan_manager.specs.TextRests.{line_left, lines_left, text_left}
use Rattle.plan_manager.proofs.text.TextRest.fill.Given as goal

abbrev pub invariant-loop-self : goal.invariant-loop-self
invariant-loop-self l = record {
  moved : l.window.items ++ text_left l.self ≡ l.fn.window.items ++ text_left l.fn.self;
  line : length l.window.items < 8192 → line_left l.self ≡ [];
}

abbrev pub decreases-loop-self : goal.decreases-loop-self
decreases-loop-self l = lines_left l.self
