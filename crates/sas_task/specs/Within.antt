-- Facts of a state's variables.
use Rattle.std.specs.Prelude.{ℕ, Bool, nat_lt}
use Rattle.sas_task.specs.declared.contents.Fact.{Fact}

-- the variable is among so many
abbrev pub is_within : ℕ → Fact → Bool
is_within n fact = nat_lt fact.var n
