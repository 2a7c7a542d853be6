use Rattle.std.proofs.Common.{◌≡◌, ◌<◌, [], length, take}
use Rattle.lama_num.specs.Rows.{row_at}
use Rattle.state_step.specs.Tables.{AddsChanges}
use Rattle.state_step.proofs.tables.changes_of.Given as goal

abbrev pub invariant-loop-effect : goal.invariant-loop-effect
invariant-loop-effect l = record {
  adds : AddsChanges (take l.effect-index l.effects) l.changes.items l.fn.conds l.conds;
  none : row_at l.conds 0 ≡ [];
  some : 0 < length l.conds;
}
