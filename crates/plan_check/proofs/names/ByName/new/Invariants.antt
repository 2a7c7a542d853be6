use Rattle.std.proofs.Common.{◌≡◌, ◌≤◌, ◌+◌, length, ℕ, List, Some}
use Rattle.std.specs.Prelude.{slice_get}
use Rattle.std.specs.HashMap.{get_by}
use Rattle.std.specs.Str.{bytes_eq}
use Rattle.sas_task.specs.declared.contents.Operator.{Operator}
use Rattle.plan_check.specs.Names.{next_of}
use Rattle.plan_check.proofs.names.ByName.new.Given as goal

abbrev pub invariant-loop-op : goal.invariant-loop-op
invariant-loop-op l = record {
  first : (name : List ℕ) → get_by (λ key. bytes_eq name key.now) l.first ≡ next_of name l.op l.operators;
  next : (k : ℕ) (o : Operator) → l.op ≤ k → slice_get l.operators k ≡ Some o → slice_get l.next.items k ≡ Some (next_of o.name (k + 1) l.operators);
  long : length l.next.items ≡ length l.operators;
}
