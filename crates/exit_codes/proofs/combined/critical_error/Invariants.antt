use Rattle.std.proofs.Common.{◌≡◌}
use Rattle.exit_codes.specs.Combined.{single_critical, codes_between}
use Rattle.exit_codes.proofs.combined.critical_error.Given as goal

abbrev pub invariant-loop-code : goal.invariant-loop-code
invariant-loop-code l = l.found ≡ single_critical (codes_between l.codes 30 l.code)
