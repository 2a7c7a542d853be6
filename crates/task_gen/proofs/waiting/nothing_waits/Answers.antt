use Rattle.std.proofs.Common.{◌∙◌, sym, ap, subst, [], length, ◌+◌}
use Rattle.std.specs.VecDeque.{deque_items}
use Rattle.std.proofs.lemmas.List.{length_push}
use Rattle.task_gen.specs.Waiting.{Waits}
use Rattle.task_gen.proofs.Queues.{waits_nothing}
use Rattle.task_gen.proofs.waiting.nothing_waits.Goals as goal

pub loop-var-preserved : goal.loop-var-preserved
loop-var-preserved c = record {
  none = subst (λ queues. Waits deque_items queues []) (sym c.in_ok-push.ensures.items) (waits_nothing deque_items c.loop-var.waiting.items c.new.result c.loop-var.invariant.none c.new.ensures.items);
  many = ap length c.in_ok-push.ensures.items ∙ length_push c.loop-var.waiting.items c.new.result ∙ ap (λ n. n + 1) c.loop-var.invariant.many;
}
