-- The words of a relaxation at the numbers of facts.
use Rattle.std.specs.Prelude.{ℕ, List}
use Rattle.lama_num.specs.declared.estimates.Estimate.{Estimate}
use Rattle.sas_task.specs.declared.contents.CostKind.{CostKind}
use Rattle.sas_task.specs.declared.contents.Parts.{Parts}
use Rattle.relaxed_task.specs.Facts.{start_facts as facts_at_start}
use Rattle.relaxed_task.specs.Numbers.{over_numbers, numbers_of, numbered_unaries}
use Rattle.relaxed_task.specs.Relaxing.{IsCost}

abbrev pub start_facts : Parts → List ℕ → List ℕ
start_facts parts state = numbers_of parts.variables (facts_at_start parts state)

abbrev pub IsAdd : Parts → CostKind → List ℕ → List ℕ → ℕ → Estimate → Type 0
IsAdd parts kind state without fact value = IsCost over_numbers (numbered_unaries parts kind) (start_facts parts state) without fact value
