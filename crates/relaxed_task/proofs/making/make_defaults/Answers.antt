use Rattle.std.proofs.Common.{◌≡◌, ◌∙◌, sym, ap, true, false, refl, arith, get_or, ◌++◌, ◌∷◌, []}
use Rattle.relaxed_task.specs.Facts.{fact_at}
use Rattle.relaxed_task.specs.Numbers.{number_by}
use Rattle.relaxed_task.proofs.More.{defaults_more}
use Rattle.relaxed_task.proofs.making.make_defaults.Goals as goal
use Rattle.relaxed_task.proofs.making.make_defaults.Goals.{then-is_derived+in_ok-push, else-is_derived}

pub loop-var-preserved : goal.loop-var-preserved
loop-var-preserved c = elim c.if-is_derived.branch [
  | then-is_derived+in_ok-push w ↦
      let pushed = w.in_ok-push.ensures.items in
      let new : c.if-is_derived.defaults.items ≡ c.loop-var.defaults.items ++ number_by c.args.offsets.now (fact_at c.loop-var.var (get_or c.args.init.now c.loop-var.var 0)) ∷ [] =
      ap (λ v. v.items) w.defaults-is ∙ (pushed ∙ ap (λ n. c.loop-var.defaults.items ++ n ∷ []) w.number.ensures) in
      defaults_more c.args.offsets.now c.args.variables.now c.args.init.now c.loop-var.var (get_or c.args.init.now c.loop-var.var 0) true c.loop-var.defaults.items c.if-is_derived.defaults.items
      (omega arith) refl c.loop-var.invariant (sym c.is_derived.ensures ∙ w.if-is_derived.true) new
  | else-is_derived w ↦
      defaults_more c.args.offsets.now c.args.variables.now c.args.init.now c.loop-var.var (get_or c.args.init.now c.loop-var.var 0) false c.loop-var.defaults.items c.if-is_derived.defaults.items
      (omega arith) refl c.loop-var.invariant (sym c.is_derived.ensures ∙ w.if-is_derived.false) (ap (λ v. v.items) w.defaults-is)
]
