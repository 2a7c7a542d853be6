use Rattle.std.proofs.Common.{◌≡◌, take}
use Rattle.lama_num.proofs.rows.Rows.from_lists.Given as goal

abbrev pub invariant-loop-list : goal.invariant-loop-list
invariant-loop-list g l = l.rows ≡ take l.list-index l.lists
