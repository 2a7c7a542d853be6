use Rattle.std.proofs.Common.{◌≡◌, ℕ, ◌≤◌, ◌^◌, length, slice_get, Some}
use Rattle.sas_task.specs.WellFormed.{range_of}
use Rattle.packed_state.specs.declared.fields.Field.{Field}
use Rattle.packed_state.proofs.FieldLayout.{LaidTo}
use Rattle.packed_state.proofs.layout.Layout.new.Given as goal

abbrev pub invariant-loop-variable : goal.invariant-loop-variable
invariant-loop-variable l = record {
  long : length l.fields.items ≡ l.variable-index;
  laid : LaidTo l.fields.items l.next.word l.next.used;
  used : l.next.used ≤ 64;
  word : l.next.word ≤ l.variable-index;
  room : (var : ℕ) (field : Field) → slice_get l.fields.items var ≡ Some field → range_of l.task.variables var ≤ 2 ^ field.bits;
}
