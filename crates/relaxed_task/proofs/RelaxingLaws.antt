-- Laws of Relaxing.
use Rattle.std.specs.Prelude.{List, Bool, ◌&&◌}
use Rattle.std.specs.List.{list_all, list_any}
use Rattle.relaxed_task.specs.Relaxing.{UnaryOver}

-- given by a unary operator whose conditions are reached
abbrev pub is_given_by : {F U : Type 0} → UnaryOver F U → List U → (F → Bool) → F → Bool
is_given_by o unaries reached fact = list_any (λ u. o.same (o.gives u) fact && list_all reached (o.conds u)) unaries
