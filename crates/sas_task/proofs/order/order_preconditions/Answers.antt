use Rattle.std.proofs.Common.{◌≡◌, sym, subst}
use Rattle.sas_task.specs.Order.{distinct}
use Rattle.sas_task.proofs.FactLists.{distinct_again}
use Rattle.sas_task.proofs.order.order_preconditions.Goals as goal

pub arrange-prevail-requires : goal.arrange-prevail-requires
arrange-prevail-requires c = subst (λ ys. distinct ys ≡ ys) (sym c.make_distinct.ensures) (distinct_again c.into_vec-pre.result.items)
