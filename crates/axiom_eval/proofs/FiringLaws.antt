-- Laws of Layers.
use Rattle.std.specs.Prelude.{ℕ, List, Bool, nat_eq, ◌&&◌}
use Rattle.std.specs.List.{list_any}
use Rattle.sas_task.specs.declared.contents.Rule.{Rule}
use Rattle.sas_task.specs.declared.contents.Parts.{Parts}
use Rattle.sas_task.specs.States.{all_hold}
use Rattle.axiom_eval.specs.Layers.{is_of}

-- a rule of the layer with this variable as its head fires
abbrev pub fires_on : Parts → ℕ → List ℕ → ℕ → Rule → Bool
fires_on parts layer state var rule = is_of parts layer rule.head.var && (all_hold state rule.conds && nat_eq rule.head.var var)

abbrev pub some_fires : Parts → ℕ → List ℕ → ℕ → List Rule → Bool
some_fires parts layer state var rules = list_any (fires_on parts layer state var) rules
