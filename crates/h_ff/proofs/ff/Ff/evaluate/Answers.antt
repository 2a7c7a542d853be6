use Rattle.h_ff.proofs.RelaxedPlanLaws.{has_plan}
use Rattle.h_ff.proofs.ff.Ff.evaluate.Goals as goal

pub returns-clause-answer : goal.returns-clause-answer
returns-clause-answer c = rw (← c.self.view_is) (λ task of.
    (let is = rw (← c.evaluate.ensures.task) at task in
    let evaluated = c.evaluate.ensures.costs c.args.task.now c.self.inside.kind task of in
    has_plan is evaluated (c.is_dead.ensures.exact _ _ _ is evaluated) c.if-is_dead.false (c.evaluate.ensures.order c.args.task.now c.self.inside.kind task of) (rw (c.relaxed.ensures, c.order.ensures.order) at c.find.ensures.operators)
    (rw c.deref-2.ensures.value at c.cost.ensures) (rw c.deref.ensures.value at c.prefer.ensures.preferred)))
