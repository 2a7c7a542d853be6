use Rattle.std.proofs.Common.{◌≡◌, ◌∙◌, ◌∷◌, sym, ap, arith}
use Rattle.std.proofs.lemmas.Grind.{common_steps}
use Rattle.open_lists.specs.Runs.{entry_of, entries_in, less_one}
use Rattle.open_lists.proofs.Rows.{first_taken, no_operators}
use Rattle.open_lists.proofs.queue.Queue.pop.Goals as goal

pub unreachable-requires : goal.unreachable-requires
unreachable-requires c = c.requires (sym c.self.view_is ∙ no_operators c.self.inside.runs.items c.self.inside.operators.items c.self.invariant (grind (arith, common_steps, c.pop_front.ensures.variant)))

pub returns : goal.returns
returns c =
    let row : c.self.inside.operators.items ≡ c.in-Some.op ∷ c.pop_front.new.self.items = rw c.in-Some.is at c.pop_front.ensures.items in
    sym c.self.view_is
    ∙ first_taken c.self.inside.runs.items c.self.inside.operators.items c.in-Some.op c.pop_front.new.self.items c.self.invariant row
    ∙ ap (λ parent. entry_of parent c.in-Some.op ∷ entries_in (less_one c.self.inside.runs.items) c.pop_front.new.self.items) (sym c.take_one-parent.ensures.parent)
    ∙ ap (λ runs. entry_of c.take_one-parent.result c.in-Some.op ∷ entries_in runs c.pop_front.new.self.items) (sym c.take_one-parent.ensures.rest)
