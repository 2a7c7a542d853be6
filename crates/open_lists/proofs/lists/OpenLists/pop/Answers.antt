use Rattle.std.proofs.Common.{length, Option, refl, arith, rules, w64, pos, ◌+ℤ◌, ◌<ℤ◌, ◌-◌, ◌^◌, FitsSigned, to_z, of_z, subst}
use Rattle.std.proofs.lemmas.Int.{ints}
use Rattle.std.proofs.lemmas.Option.{slice_get_read}
use Rattle.open_lists.specs.Lists.{counter_in}
use Rattle.open_lists.specs.declared.list.OpenList.{OpenList}
use Rattle.open_lists.proofs.Places.{pops}
use Rattle.open_lists.proofs.lists.OpenLists.pop.Goals as goal

pub returns-clause-popped : goal.returns-clause-popped
returns-clause-popped c =
    let lists = c.args.self.now.lists.items in
    let k = c.in_ok-list.list in
    let takes = rw c.deref.ensures.value at c.in_ok-list.ensures.list in
    let list = c.index_mut-open_list.result.now in
    let read = slice_get_read lists (length lists) k list refl takes.exists c.index_mut-open_list.ensures.value in
    let fits : FitsSigned w64 list.counter = search rules in
    let below : list.counter <ℤ pos (2 ^ 63 - 1) = subst (λ (l : Option OpenList). counter_in l <ℤ pos (2 ^ 63 - 1)) read (c.requires k) in
    pops c.args.self.now _ k list (record { preferred_only = list.preferred_only; counter = to_z w64 (of_z w64 (to_z w64 (of_z w64 list.counter) +ℤ pos 1)); queues = c.pop-key.new.self }) read refl refl refl _ _ takes
    c.pop-key.ensures.first
    c.pop-key.ensures.least
    c.pop-key.ensures.others
    (omega (arith, ints, fits, below))
