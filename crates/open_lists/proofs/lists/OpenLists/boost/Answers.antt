use Rattle.std.proofs.Common.{length, refl, ap, sym, ◌∙◌, arith}
use Rattle.std.proofs.lemmas.Int.{ints}
use Rattle.std.proofs.lemmas.Option.{slice_get_read}
use Rattle.open_lists.specs.Lists.{preferred_in, counter_in}
use Rattle.open_lists.proofs.Places.{fallen_none, fallen_more, fallen_all, holds_same}
use Rattle.open_lists.proofs.lists.OpenLists.boost.Goals as goal

pub loop-i-init : goal.loop-i-init
loop-i-init c = record { done = fallen_none c.args.self.now.lists.items c.args.self.now.boost; boost = refl }

pub fallen-list-requires : goal.fallen-list-requires
fallen-list-requires c p =
    let b = c.loop-i.invariant.done in
    let lists = c.loop-i.self.lists.items in
    let list = c.index_mut-list.result.now in
    let read = slice_get_read lists (length lists) c.loop-i.i list refl (omega arith) c.index_mut-list.ensures.value in
    let counter = sym (ap counter_in read) ∙ b.left c.loop-i.i (omega arith) in
    let bound = c.requires c.loop-i.i (sym (b.sorts c.loop-i.i) ∙ ap preferred_in read ∙ p) in
    rw counter bound

pub loop-i-preserved : goal.loop-i-preserved
loop-i-preserved c =
    let lists = c.loop-i.self.lists.items in
    let list = c.index_mut-list.result.now in
    let read = slice_get_read lists (length lists) c.loop-i.i list refl (omega arith) c.index_mut-list.ensures.value in
    record {
      done = fallen_more c.args.self.now.lists.items lists c.args.self.now.boost c.loop-i.i list _ c.loop-i.invariant.done read (λ _. refl) refl (omega (arith, ints, c.fallen-list.type_inv) ∙ c.fallen-list.ensures);
      boost = c.loop-i.invariant.boost;
    }

pub returns : goal.returns
returns c =
    let b = c.loop-i.invariant.done in
    record {
      items = λ k. holds_same c.args.self.now _ k (λ key. b.queues k key);
      counters = fallen_all c.args.self.now.lists.items c.loop-i.self.lists.items c.args.self.now.boost c.loop-i.i b (omega arith);
      shape = record { count = b.count; sorts = b.sorts; boost = c.loop-i.invariant.boost };
    }
