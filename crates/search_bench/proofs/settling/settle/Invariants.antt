use Rattle.std.proofs.Common.{◌≡◌, length}
use Rattle.axiom_eval.specs.Axioms.{IsFor}
use Rattle.search_bench.proofs.settling.settle.Given as goal

abbrev pub invariant-loop : goal.invariant-loop
invariant-loop l = IsFor l.axioms l.task × (length l.values ≡ length l.task.variables)
