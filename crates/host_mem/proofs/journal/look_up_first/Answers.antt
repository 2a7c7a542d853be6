use Rattle.std.proofs.Common.{◌≡◌, ◌∙◌, sym, ap, arith, Some}
use Rattle.std.specs.Str.{bytes_eq}
use Rattle.host_mem.proofs.Lookups.{first_hit, first_miss, get-nothing}
use Rattle.host_mem.proofs.journal.look_up_first.Goals as goal

pub returns-then-eq : goal.returns-then-eq
returns-then-eq c =
    ap Some c.as_slice-then-eq.ensures ∙ sym (first_hit _ c.loop-i.i c.index-first-i.result _ (omega arith) (omega arith) c.index-first-i.is (ap (λ xs. bytes_eq xs c.args.name.now) (sym c.as_slice.ensures) ∙ sym c.eq.ensures ∙ c.if-eq.true)) ∙ c.loop-i.invariant

pub loop-i-preserved : goal.loop-i-preserved
loop-i-preserved c =
    sym (first_miss _ c.loop-i.i c.index-first-i.result _ (omega arith) (omega arith) c.index-first-i.is (ap (λ xs. bytes_eq xs c.args.name.now) (sym c.as_slice.ensures) ∙ sym c.eq.ensures ∙ c.if-eq.false)) ∙ c.loop-i.invariant

pub returns : goal.returns
returns c = let z : c.loop-i.i ≡ 0 = omega arith in sym (get-nothing c.args.name.now) ∙ (rw z at c.loop-i.invariant)
