use Rattle.std.proofs.Common.{◌≡◌, ◌-◌, []}
use Rattle.std.specs.Prelude.{codes}
use Rattle.conf_text.specs.Grammar.{next_guide}
use Rattle.conf_text.specs.Rules.{members}
use Rattle.conf_text.proofs.guides.guides_behind.Given as goal

abbrev pub invariant-loop-turn : goal.invariant-loop-turn
invariant-loop-turn l = members (codes "]") (next_guide l.allowed) (4 - l._turn) l.front l.cursor ≡ members (codes "]") (next_guide l.allowed) 4 [] l.initial.cursor
