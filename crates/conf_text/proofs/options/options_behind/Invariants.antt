use Rattle.std.proofs.Common.{◌≡◌, ◌-◌}
use Rattle.std.specs.Prelude.{codes}
use Rattle.conf_text.specs.Grammar.{next_option, no_options}
use Rattle.conf_text.specs.Rules.{members}
use Rattle.conf_text.proofs.options.options_behind.Given as goal

abbrev pub invariant-loop-turn : goal.invariant-loop-turn
invariant-loop-turn l = members (codes ")") (next_option l.weighted l.guides) (9 - l._turn) l.options l.cursor ≡ members (codes ")") (next_option l.weighted l.guides) 9 no_options l.initial.cursor
