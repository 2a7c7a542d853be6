use Rattle.std.proofs.Common.{◌≡◌, ◌||◌, ◌&&◌, filter, take, drop}
use Rattle.guide.specs.Operators.{is_among}
use Rattle.lm_status.specs.Preferred.{leads_on}
use Rattle.bit_rows.specs.Rows.{has}
use Rattle.phase_guide.proofs.Sides.{AreBeside}
use Rattle.phase_guide.proofs.preferring.prefer_into.Given as goal

abbrev pub invariant-loop-op : goal.invariant-loop-op
invariant-loop-op l = record {
  ops : l.ops.items ≡ filter (λ op. is_among l.helpful op || (l.by_lm && leads_on l.task l.tracks.status.graph (has l.tracks.row) l.state op)) (take l.op-index l.applicable);
  beside : AreBeside l.helpful l.rest (drop l.op-index l.applicable);
}
