-- The configurations that are built in.
use Rattle.std.specs.Prelude.{ℕ, List, ◌∷◌, [], map, Bool, true, false, if◌then◌else◌, codes, Option, Some, None}
use Rattle.std.specs.Str.{bytes_eq}
use Rattle.sas_task.specs.declared.contents.CostKind.{CostKind}
use Rattle.sas_task.specs.declared.contents.CostKind.TheVariants.{Normal, One, PlusOne}
use Rattle.conf_text.specs.Grammar.{usual_boost, greatest_pops, greatest_states}
use Rattle.conf_text.specs.declared.config.Config.{Config}
use Rattle.conf_text.specs.declared.config.GuideKind.{GuideKind}
use Rattle.conf_text.specs.declared.config.GuideKind.TheVariants.{Ff, Lm}
use Rattle.conf_text.specs.declared.config.Phase.{Phase}

-- FF and landmarks, both preferred
abbrev pub ff_and_lm : List GuideKind
ff_and_lm = Ff ∷ Lm ∷ []

-- a phase with these guides: it is greedy, and opens no state again, or it has a weight
abbrev pub greedy : CostKind → CostKind → Phase
greedy cost estimate = record { guides = ff_and_lm; preferred = ff_and_lm; cost = cost; estimate = estimate; weight = None; reopen = false; boost = usual_boost; most_pops = greatest_pops; most_states = greatest_states }

abbrev pub weighted : CostKind → ℕ → Phase
weighted estimate weight = record { guides = ff_and_lm; preferred = ff_and_lm; cost = Normal; estimate = estimate; weight = Some weight; reopen = true; boost = usual_boost; most_pops = greatest_pops; most_states = greatest_states }

-- a last phase for each of falling weights
abbrev pub weighted_phases : CostKind → List Phase
weighted_phases estimate = map (weighted estimate) (5 ∷ 3 ∷ 2 ∷ 1 ∷ [])

abbrev pub lama_phases : Bool → List Phase
lama_phases true = greedy Normal Normal ∷ weighted_phases Normal
lama_phases false = greedy One One ∷ greedy Normal PlusOne ∷ weighted_phases PlusOne

-- LAMA: greedy searches, then weighted ones, the last as long as it finds plans
abbrev pub lama : Bool → Config
lama unit_cost = record { iterated = true; phases = lama_phases unit_cost; repeat_last = true }

-- the first of LAMA's searches alone
abbrev pub lama_first : Config
lama_first = record { iterated = false; phases = greedy One One ∷ []; repeat_last = false }

-- the configuration of that name, for tasks whose operators all cost 1 or for others
abbrev pub alias_config : List ℕ → Bool → Option Config
alias_config name unit_cost = if bytes_eq name (codes "lama") then Some (lama unit_cost) else (if bytes_eq name (codes "lama-first") then Some lama_first else None)
