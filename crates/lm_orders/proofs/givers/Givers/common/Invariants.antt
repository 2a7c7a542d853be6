use Rattle.std.proofs.Common.{◌≡◌, ◌&&◌, take, get_or}
use Rattle.std.specs.List.{list_all}
use Rattle.lama_num.specs.Rows.{row_at}
use Rattle.sas_task.specs.Facts.{has_fact}
use Rattle.sas_task.specs.declared.contents.Fact.{Fact}
use Rattle.lm_orders.proofs.givers.Givers.common.Given as goal

abbrev pub invariant-loop-op : goal.invariant-loop-op
invariant-loop-op l = (fact : Fact) → has_fact l.facts.items fact ≡ (has_fact (row_at l.self.always (get_or l.ops 0 0)) fact && list_all (λ m. has_fact (row_at l.self.always m) fact) (take l.op-index l.ops))
