use Rattle.std.proofs.Common.{◌+◌, ℕ, ap, sym, ◌∙◌, arith}
use Rattle.std.specs.Prelude.{Vec}
use Rattle.std.specs.declared.alloc.Global.{Global}
use Rattle.sas_task.specs.Runs.{cost_at}
use Rattle.lama_num.specs.Bounds.{is_below}
use Rattle.lazy_search.proofs.Loops.{kept_more, kept_same}
use Rattle.lazy_search.proofs.entries.keep_below.Goals as goal
use Rattle.lazy_search.proofs.entries.keep_below.Goals.{then-leads_below+in_ok-push, else-leads_below}

pub loop-op-preserved : goal.loop-op-preserved
loop-op-preserved c =
    let f = λ (op : ℕ). is_below c.args.bound (c.args.real + cost_at c.args.task.now op) in
    elim c.if-leads_below.branch [
      | then-leads_below+in_ok-push w ↦
          ap (λ (v : Vec ℕ Global). v.items) w.kept-is ∙ w.in_ok-push.ensures.items
          ∙ kept_more f c.args.operators.now c.loop-op.kept.items c.loop-op.op-index (omega arith) (sym c.leads_below.ensures ∙ w.if-leads_below.true) c.loop-op.invariant
      | else-leads_below w ↦
          ap (λ (v : Vec ℕ Global). v.items) w.kept-is
          ∙ kept_same f c.args.operators.now c.loop-op.kept.items c.loop-op.op-index (omega arith) (sym c.leads_below.ensures ∙ w.if-leads_below.false) c.loop-op.invariant
    ]
