use Rattle.std.proofs.Common.{arith}
use Rattle.sas_reader.proofs.Parts.{changes_more, changes_fail}
use Rattle.sas_reader.proofs.operators.read_effects.Goals as goal

pub returns-in-Err : goal.returns-in-Err
returns-in-Err c = rw c.loop-i.invariant at (changes_fail c.args.variables.now c.loop-i.pre.items c.loop-i.effects.items c.args.count c.loop-i._i c.loop-i.cursor c.in-Err.e (omega arith) c.in-Err.ensures)

pub loop-i-preserved : goal.loop-i-preserved
loop-i-preserved c =
    rw (c.in_ok-push_some-in-Ok.ensures, c.in_ok-push-in-Ok.ensures.items, changes_more c.args.variables.now c.loop-i.pre.items c.loop-i.effects.items c.args.count c.loop-i._i c.loop-i.cursor c.read_effect.new.cursor (c.in-Ok.effected.pre, c.in-Ok.effected.effect) (omega arith) c.in-Ok.ensures)
    c.loop-i.invariant
