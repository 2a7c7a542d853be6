-- Lists of operators by number.
use Rattle.std.specs.Prelude.{ℕ, List, length, Bool, filter, nat_eq}
use Rattle.std.specs.List.{range_with_len, list_any}
use Rattle.sas_task.specs.declared.contents.Parts.{Parts}
use Rattle.sas_task.specs.States.{is_applicable}

-- the operators that are applicable in a state, ascending
abbrev pub applicable_operators : Parts → List ℕ → List ℕ
applicable_operators parts state = filter (is_applicable parts state) (range_with_len 0 (length parts.operators))

-- the operator is in the list
abbrev pub is_among : List ℕ → ℕ → Bool
is_among ops op = list_any (nat_eq op) ops
