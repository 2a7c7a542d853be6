use Rattle.std.proofs.Common.{◌≡◌, ◌∙◌, sym, subst, true, false, take}
use Rattle.std.proofs.lemmas.Slice.Eq.{bytes_eq-Decides}
use Rattle.std.specs.FinMap.{get}
use Rattle.lama_host.specs.Pieces.{Reads}
use Rattle.plan_manager.proofs.Fronts.{front_is, front_isnt}
use Rattle.plan_manager.proofs.comparing.read_same.Goals as goal

pub returns-then-eq-clause-tells : goal.returns-then-eq-clause-tells
returns-then-eq-clause-tells g c files idle held =
    let read = subst (Reads (get files c.args.name.now) c.args.start c.read_some.new.buf) c.in-Ok-Bytes.field-0-is (c.in-Ok-Bytes.ensures.reads files idle held) in
    front_is (get files c.args.name.now) c.args.start c.in-Ok-Bytes.n c.min-count.result c.args.bytes.now c.read_some.new.buf read c.min-count.ensures
    ((bytes_eq-Decides (take c.min-count.result c.read_some.new.buf) (take c.min-count.result c.args.bytes.now)).0 (sym c.eq.ensures ∙ c.if-eq.true))

pub returns-else-eq-clause-tells : goal.returns-else-eq-clause-tells
returns-else-eq-clause-tells g c files idle held =
    let read = subst (Reads (get files c.args.name.now) c.args.start c.read_some.new.buf) c.in-Ok-Bytes.field-0-is (c.in-Ok-Bytes.ensures.reads files idle held) in
    front_isnt (get files c.args.name.now) c.args.start c.in-Ok-Bytes.n c.min-count.result c.args.bytes.now c.read_some.new.buf read c.min-count.ensures
    (λ same. let k : true ≡ false = sym ((bytes_eq-Decides (take c.min-count.result c.read_some.new.buf) (take c.min-count.result c.args.bytes.now)).1 same) ∙ sym c.eq.ensures ∙ c.if-eq.false in cc)
