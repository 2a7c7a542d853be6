use Rattle.std.proofs.Common.{◌-◌}
use Rattle.plan_check.proofs.LinkPaths.{IsTraced}
use Rattle.plan_check.proofs.tracing.trace.Given as goal

abbrev pub invariant-loop : goal.invariant-loop
invariant-loop l = IsTraced l.links l.steps l.place (l.steps - l.counter) l.at l.ops.items
