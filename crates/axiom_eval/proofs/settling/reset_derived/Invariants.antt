use Rattle.std.proofs.Common.{take}
use Rattle.axiom_eval.proofs.DefaultValues.{IsResetTo}
use Rattle.axiom_eval.proofs.settling.reset_derived.Given as goal

abbrev pub invariant-loop-variable : goal.invariant-loop-variable
invariant-loop-variable l = IsResetTo l.parts (take l.variable-index l.derived) l.fn.values l.values
