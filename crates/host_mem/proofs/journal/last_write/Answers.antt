use Rattle.std.proofs.Common.{◌≡◌, ◌∙◌, sym, ap, arith}
use Rattle.std.specs.Str.{bytes_eq}
use Rattle.host_mem.proofs.Lookups.{last_hit, last_miss}
use Rattle.host_mem.proofs.journal.last_write.Goals as goal

pub returns-then-eq : goal.returns-then-eq
returns-then-eq c =
    sym (last_hit _ c.loop-i.i c.index-writes-i.result _ (omega arith) (omega arith) c.index-writes-i.is (ap (λ xs. bytes_eq xs c.args.name.now) (sym c.as_slice.ensures) ∙ sym c.eq.ensures ∙ c.if-eq.true)) ∙ c.loop-i.invariant

pub loop-i-preserved : goal.loop-i-preserved
loop-i-preserved c =
    sym (last_miss _ c.loop-i.i c.index-writes-i.result _ (omega arith) (omega arith) c.index-writes-i.is (ap (λ xs. bytes_eq xs c.args.name.now) (sym c.as_slice.ensures) ∙ sym c.eq.ensures ∙ c.if-eq.false)) ∙ c.loop-i.invariant

pub returns : goal.returns
returns c = let z : c.loop-i.i ≡ 0 = omega arith in rw z at c.loop-i.invariant
