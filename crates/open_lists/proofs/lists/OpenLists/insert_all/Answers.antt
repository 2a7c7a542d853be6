use Rattle.std.proofs.Common.{refl, length}
use Rattle.std.proofs.lemmas.Option.{slice_get_read}
use Rattle.open_lists.proofs.Places.{inserts, stays}
use Rattle.open_lists.proofs.lists.OpenLists.insert_all.Goals as goal

pub returns-in-Ok-clause-ok : goal.returns-in-Ok-clause-ok
returns-in-Ok-clause-ok c =
    let lists = c.args.self.now.lists.items in
    let list = c.index_mut-list.result.now in
    let read = slice_get_read lists (length lists) c.args.list list refl c.requires c.index_mut-list.ensures.value in
    inserts c.args.self.now _ c.args.list list (record { preferred_only = list.preferred_only; counter = list.counter; queues = c.push.new.self }) read refl refl refl c.args.key c.args.parent c.args.operators.now refl
    c.in-Ok.ensures.here c.in-Ok.ensures.others

pub returns-in-Err-clause-err : goal.returns-in-Err-clause-err
returns-in-Err-clause-err c =
    let lists = c.args.self.now.lists.items in
    let list = c.index_mut-list.result.now in
    let read = slice_get_read lists (length lists) c.args.list list refl c.requires c.index_mut-list.ensures.value in
    stays c.args.self.now _ c.args.list list (record { preferred_only = list.preferred_only; counter = list.counter; queues = c.push.new.self }) read refl refl refl refl c.in-Err.ensures.err
