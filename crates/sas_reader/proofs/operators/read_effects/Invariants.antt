use Rattle.std.proofs.Common.{◌≡◌, ◌-◌, []}
use Rattle.sas_reader.specs.Formats.{EffectIn, line, times}
use Rattle.sas_reader.specs.Walks.{walk, changed}
use Rattle.sas_reader.proofs.operators.read_effects.Given as goal

abbrev pub invariant-loop-i : goal.invariant-loop-i
invariant-loop-i l = changed l.pre.items l.effects.items (walk (times (l.count - l._i) (line (EffectIn l.variables))) l.cursor) ≡ changed l.fn.pre.items [] (walk (times l.count (line (EffectIn l.variables))) l.fn.cursor)
