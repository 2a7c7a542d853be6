use Rattle.std.specs.Prelude.{◌≡◌, ℕ, ◌<◌, take, length, slice_index}
use Rattle.sas_task.specs.WellFormed.{fact_count}
use Rattle.relaxed_task.proofs.making.make_offsets.Given as goal

abbrev pub invariant-loop-variable : goal.invariant-loop-variable
invariant-loop-variable l = record {
  so_many : length l.offsets.items ≡ l.variable-index;
  next : l.start ≡ fact_count (take l.variable-index l.variables);
  each : (var : ℕ) → var < l.variable-index → slice_index l.offsets.items var ≡ fact_count (take var l.variables);
}
