use Rattle.std.proofs.Common.{◌≡◌, ◌+◌, ◌++◌, take, vec_len, vec_capacity}
use Rattle.succ_gen.proofs.walking.add_operators.Given as goal

abbrev pub invariant-loop-operator : goal.invariant-loop-operator
invariant-loop-operator l = record {
  out : l.out.items ≡ l.initial.out.items ++ take l.operator-index l.operator-items;
  long : vec_len l.out ≡ vec_len l.initial.out + l.operator-index;
  room : vec_capacity l.out ≡ vec_capacity l.initial.out;
}
