use Rattle.std.proofs.Common.{refl}
use Rattle.open_lists.proofs.Places.{holds_some, holds_none}
use Rattle.open_lists.proofs.lists.OpenLists.is_empty.Goals as goal

pub returns-in-Some : goal.returns-in-Some
returns-in-Some c =
    let takes = rw c.deref.ensures.value at c.in-Some.ensures.list in
    (λ t. absurd (cc), λ none. absurd (holds_some c.args.self.now c.in-Some.field-0 takes.filled (none c.in-Some.field-0)))

pub returns-in-None : goal.returns-in-None
returns-in-None c =
    let none = rw c.deref.ensures.value at c.in-None.ensures.none in
    (λ t k. holds_none c.args.self.now k (none k), λ holds. refl)
