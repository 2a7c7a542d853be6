use Rattle.std.proofs.Common.{refl, arith}
use Rattle.axiom_eval.proofs.RuleTables.{watchers_none, watchers_more}
use Rattle.axiom_eval.proofs.building.watchers_of.Goals as goal

pub loop-place-init : goal.loop-place-init
loop-place-init c = watchers_none c.args.variables.now c.args.heads.now c.args.conds.now c.in_ok-lists.lists.items c.in_ok-lists.ensures

pub loop-place-preserved : goal.loop-place-preserved
loop-place-preserved c = watchers_more c.args.variables.now c.args.heads.now c.args.conds.now c.loop-place.place _ c.row.result.now c.loop-place.lists.items c.watch_all.new.lists.items c.loop-place-test.true refl c.row.ensures c.loop-place.invariant c.in-Ok.ensures
