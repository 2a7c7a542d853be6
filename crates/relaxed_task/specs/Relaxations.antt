-- The relaxation of a task.
use Rattle.std.specs.Prelude.{◌≡◌, ℕ, ◌<◌, ◌≤◌, List, length, take, slice_index, IsTrue}
use Rattle.std.specs.List.{list_all}
use Rattle.sas_task.specs.WellFormed.{IsWellFormed, fact_count}
use Rattle.sas_task.specs.declared.contents.CostKind.{CostKind}
use Rattle.sas_task.specs.declared.contents.Variable.{Variable}
use Rattle.sas_task.specs.declared.contents.Parts.{Parts}
use Rattle.relaxed_task.specs.declared.relaxation.Lists.{Lists}
use Rattle.relaxed_task.specs.Facts.{default_facts, distinct_facts}
use Rattle.relaxed_task.specs.Numbers.{numbers_of, numbered_unaries, is_below, is_unary_below}
use Rattle.sas_task.specs.declared.limits.TheConstants.{MOST_FACTS}

-- all facts are among those that there are, which aren't too many
pub record IsSound (lists : Lists) : Type 0 where
  pub few : lists.facts ≤ MOST_FACTS
  pub unaries : IsTrue (list_all (is_unary_below lists.facts) lists.unaries)
  pub defaults : IsTrue (list_all (is_below lists.facts) lists.defaults)
  pub goals : IsTrue (list_all (is_below lists.facts) lists.goals)

-- where the facts of each variable begin
pub record IsOffsets (variables : List Variable) (offsets : List ℕ) : Type 0 where
  pub long : length offsets ≡ length variables
  pub each : (var : ℕ) → var < length variables → slice_index offsets var ≡ fact_count (take var variables)

-- the relaxation of these well-formed parts, with costs of this kind
pub record IsRelaxed (parts : Parts) (kind : CostKind) (lists : Lists) : Type 0 where
  pub well_formed : IsWellFormed parts
  pub offsets : IsOffsets parts.variables lists.offsets
  pub facts : lists.facts ≡ fact_count parts.variables
  pub unaries : lists.unaries ≡ numbered_unaries parts kind
  pub defaults : lists.defaults ≡ numbers_of parts.variables (default_facts parts)
  pub goals : lists.goals ≡ numbers_of parts.variables (distinct_facts parts.goal)
