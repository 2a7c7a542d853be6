use Rattle.std.proofs.Common.{◌≡◌, ◌∙◌, sym, ap, refl, length, slice_get, Some}
use Rattle.std.proofs.lemmas.Option.{slice_get_read}
use Rattle.open_lists.specs.Lists.{least_count_in}
use Rattle.open_lists.specs.declared.list.OpenList.{OpenList}
use Rattle.open_lists.proofs.Rows.{nil_of_length}
use Rattle.open_lists.proofs.picks.is_blank.Goals as goal

pub returns : goal.returns
returns c =
    let lists = c.args.lists.now in
    let list = c.index-lists-i.result in
    let read : slice_get lists c.args.i ≡ Some list = slice_get_read lists (length lists) c.args.i list refl c.requires c.index-lists-i.is in
    let count = ap least_count_in read ∙ ap (λ (l : OpenList). length l.queues.first) c.index-lists-i.is in (
      λ t. count ∙ ap length (c.is_empty.ensures.0 t),
      λ z. c.is_empty.ensures.1 (nil_of_length _ (sym count ∙ z)),
    )
