-- Laws of Layers.
use Rattle.std.specs.Prelude.{ℕ, List}
use Rattle.sas_task.specs.declared.contents.Parts.{Parts}
use Rattle.plan_check.specs.Choices.{candidates}
use Rattle.plan_check.specs.Verdicts.{last_state}
use Rattle.plan_check.specs.Layers.{longer}

-- a choice with each operator that can be taken for a name
abbrev pub one_more : Parts → List ℕ → List ℕ → List (List ℕ)
one_more parts name ops = longer ops (candidates parts (last_state parts ops) name)
