-- What operators cost by a kind of cost.
use Rattle.std.specs.Prelude.{ℕ, ◌+◌, Bool, true, false, nat_eq, if◌then◌else◌}
use Rattle.std.specs.List.{list_all}
use Rattle.sas_task.specs.Runs.{cost_at}
use Rattle.sas_task.specs.declared.contents.Parts.{Parts}
use Rattle.sas_task.specs.declared.contents.CostKind.{CostKind}
use Rattle.sas_task.specs.declared.contents.CostKind.TheVariants.{Normal, One, PlusOne}

-- every operator costs 1
abbrev pub is_unit_cost : Parts → Bool
is_unit_cost parts = list_all (λ o. nat_eq o.cost 1) parts.operators

-- the cost itself; 1; or one more than the cost, where some operator doesn't cost 1
abbrev pub adjusted_cost : Parts → ℕ → CostKind → ℕ
adjusted_cost parts op Normal = cost_at parts op
adjusted_cost parts op One = 1
adjusted_cost parts op PlusOne = if is_unit_cost parts then 1 else cost_at parts op + 1

-- each operator counts as what it costs
abbrev pub is_normal : CostKind → Bool
is_normal Normal = true
is_normal One = false
is_normal PlusOne = false
