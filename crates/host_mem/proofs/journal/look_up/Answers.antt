use Rattle.std.proofs.Common.{◌∙◌, sym, arith}
use Rattle.host_mem.proofs.Lookups.{log_hit, log_miss}
use Rattle.host_mem.proofs.journal.look_up.Goals as goal

pub returns-then-is_of : goal.returns-then-is_of
returns-then-is_of c =
    c.held_after.ensures ∙ sym (log_hit _ _ c.loop-i.i _ _ (omega arith) (omega arith) c.index-journal-i.is (sym c.is_of.ensures ∙ c.if-is_of.true)) ∙ c.loop-i.invariant

pub loop-i-preserved : goal.loop-i-preserved
loop-i-preserved c =
    sym (log_miss _ _ c.loop-i.i _ _ (omega arith) (omega arith) c.index-journal-i.is (sym c.is_of.ensures ∙ c.if-is_of.false)) ∙ c.loop-i.invariant
