use Rattle.std.proofs.Common.{◌∙◌, ap, arith, length, length-append}
use Rattle.lama_num.proofs.RowLaws.{spans_kept, rows_kept, spans_pushed, rows_pushed}
use Rattle.lama_num.proofs.rows.Rows.push.Goals as goal

pub invariant_of-self-in_default : goal.invariant_of-self-in_default
invariant_of-self-in_default g c = spans_kept _ _ _ c.self.inside.spans.items c.self.invariant c.in_ok-extend_from_slice.ensures.items

pub returns-in_default-clause-err : goal.returns-in_default-clause-err
returns-in_default-clause-err g c = rows_kept _ _ _ c.self.inside.spans.items c.self.invariant c.in_ok-extend_from_slice.ensures.items ∙ c.self.view_is

pub invariant_of-self-in_default-push : goal.invariant_of-self-in_default-push
invariant_of-self-in_default-push g c = rw c.in_default-push.ensures.items (spans_kept _ _ _ c.self.inside.spans.items c.self.invariant c.in_ok-extend_from_slice.ensures.items)

pub returns-in_default-push-clause-err : goal.returns-in_default-push-clause-err
returns-in_default-push-clause-err g c = rw c.in_default-push.ensures.items (rows_kept _ _ _ c.self.inside.spans.items c.self.invariant c.in_ok-extend_from_slice.ensures.items ∙ c.self.view_is)

pub invariant_of-self-2 : goal.invariant_of-self-2
invariant_of-self-2 g c = spans_pushed _ _ c.self.inside.spans.items _ _ c.self.invariant c.in-Ok-push.ensures.items (omega arith) (omega arith) (omega (arith, length-append c.self.inside.items.items c.args.row.now, ap length c.in_ok-extend_from_slice.ensures.items))

pub returns-clause-ok : goal.returns-clause-ok
returns-clause-ok g c = rw (← c.self.view_is) (rows_pushed _ _ _ _ _ _ c.self.invariant c.in_ok-extend_from_slice.ensures.items c.in-Ok-push.ensures.items (omega arith) (omega arith))
