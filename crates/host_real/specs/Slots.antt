-- The slots of running children.
use Rattle.std.specs.Prelude.{ℕ, List, map}
use Rattle.host_real.specs.declared.running.Running.{Running}

-- in the order in which they were started
abbrev pub slots : {P I O E : Type 0} → List (Running P I O E) → List ℕ
slots running = map (λ child. child.slot) running
