use Rattle.std.specs.Prelude.{◌≡◌, drop, map, length}
use Rattle.sas_task.specs.Refusals.{above}
use Rattle.sas_task.proofs.limits.lists_above.Given as goal

abbrev pub invariant-loop-list : goal.invariant-loop-list
invariant-loop-list g l = above l.most (map (λ list. length list) (drop l.list-index l.lists)) ≡ above l.most (map (λ list. length list) l.lists)
