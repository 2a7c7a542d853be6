use Rattle.std.proofs.Common.{◌∙◌, ap}
use Rattle.std.specs.Prelude.{insert}
use Rattle.lm_backchain.proofs.SharedConditions.{puts_set}
use Rattle.lm_backchain.proofs.taking_back.put_set.Goals as goal

pub returns : goal.returns
returns c = puts_set c.args.sets.now.items _ c.place_of_set-place.result c.args.set.items (c.in_ok-insert.ensures.items ∙ ap (insert c.args.sets.now.items c.place_of_set-place.result) c.from.ensures)
