use Rattle.std.proofs.Common.{◌∙◌, sym}
use Rattle.lm_backchain.proofs.Ordered.{at_has, inserted_has, inserted_ascends}
use Rattle.lm_backchain.proofs.facts.put_fact.Goals as goal

pub returns-then-is_at-clause-has : goal.returns-then-is_at-clause-has
returns-then-is_at-clause-has c other = at_has c.args.facts.now.items c.place_of-place.result c.args.fact other (rw c.deref-2.ensures.value at (sym c.is_at.ensures ∙ c.if-is_at.true))

pub returns-clause-ascending : goal.returns-clause-ascending
returns-clause-ascending c =
    rw c.in_ok-insert.ensures.items (inserted_ascends c.args.facts.now.items c.place_of-place.result c.args.fact c.requires
    (rw c.deref.ensures.value at c.place_of-place.ensures)
    (rw c.deref-2.ensures.value at (sym c.is_at.ensures ∙ c.if-is_at.false)))

pub returns-clause-has : goal.returns-clause-has
returns-clause-has c other = rw c.in_ok-insert.ensures.items (inserted_has c.args.facts.now.items c.place_of-place.result c.args.fact other)
