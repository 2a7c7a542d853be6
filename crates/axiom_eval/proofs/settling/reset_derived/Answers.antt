use Rattle.std.proofs.Common.{refl, length, nat_lt, arith}
use Rattle.std.proofs.lemmas.Bool.Decides.{nat_tests}
use Rattle.axiom_eval.proofs.DefaultValues.{all_at, reset_none, reset_more, reset_all}
use Rattle.axiom_eval.specs.declared.tables.Derived.{Derived}
use Rattle.axiom_eval.proofs.settling.reset_derived.Goals as goal

pub loop-variable-init : goal.loop-variable-init
loop-variable-init c = reset_none c.args.parts.now c.args.values.now

pub bounds-values-variable : goal.bounds-values-variable
bounds-values-variable c =
    let within = all_at (λ (x : Derived). nat_lt x.var (length c.args.parts.now.variables)) c.args.derived.now c.loop-variable.variable-index (record { var = 0; default = 0 }) c.requires.derived.within (omega arith) in
    let long = c.loop-variable.invariant.long in
    grind (arith, nat_tests, within, long, c.requires.long)

pub loop-variable-preserved : goal.loop-variable-preserved
loop-variable-preserved c = reset_more c.args.parts.now c.args.derived.now c.loop-variable.variable-index (record { var = 0; default = 0 }) c.args.values.now c.loop-variable.values _ c.requires.derived c.requires.long (omega arith) c.loop-variable.invariant refl

pub returns : goal.returns
returns c = reset_all c.args.parts.now c.args.derived.now c.loop-variable.variable-index c.args.values.now c.loop-variable.values c.requires.derived (omega arith) c.loop-variable.invariant
