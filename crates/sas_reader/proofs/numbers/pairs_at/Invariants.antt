use Rattle.std.proofs.Common.{◌≡◌, ◌-◌}
use Rattle.sas_reader.specs.Reading.{pairs_at}
use Rattle.sas_reader.proofs.Pairs.{before}
use Rattle.sas_reader.proofs.numbers.pairs_at.Given as goal

abbrev pub invariant-loop-i : goal.invariant-loop-i
invariant-loop-i l = before l.pairs.items (pairs_at (l.count - l._i) l.words) ≡ pairs_at l.count l.fn.words
