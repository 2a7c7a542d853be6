use Rattle.std.proofs.Common.{◌≡◌, ◌-◌, []}
use Rattle.std.specs.Prelude.{codes}
use Rattle.conf_text.specs.Grammar.{next_phase}
use Rattle.conf_text.specs.Rules.{members}
use Rattle.conf_text.proofs.phases.read_phases.Given as goal

abbrev pub invariant-loop-turn : goal.invariant-loop-turn
invariant-loop-turn l = members (codes "]") next_phase (101 - l._turn) l.front l.cursor ≡ members (codes "]") next_phase 101 [] l.initial.cursor
