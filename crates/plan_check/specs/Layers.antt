-- What the judge keeps of choices: pairs of last state and cost as words, and links back.
use Rattle.std.specs.Prelude.{◌≡◌, ℕ, zero, suc, ◌+◌, ◌-◌, ◌≤◌, List, [], ◌∷◌, ◌++◌, length, take, map, slice_get, Bool, nat_eq, nat_lt, ◌&&◌, ◌||◌, not, if◌then◌else◌, Option, Some, None, IfSome}
use Rattle.std.specs.List.{list_any}
use Rattle.std.specs.Prelude.{Vec}
use Rattle.std.specs.declared.alloc.Global.{Global}
use Rattle.sas_task.specs.declared.contents.Parts.{Parts}
use Rattle.sas_task.specs.Runs.{cost_of}
use Rattle.packed_state.specs.Packing.{Places, packed}
use Rattle.plan_check.specs.Choices.{has_name, choices}
use Rattle.plan_check.specs.Verdicts.{last_state, same_end, firsts_after, ends, pairs_up_to, first_fault}
use Rattle.plan_check.specs.Refusals.{fault_of}
use Rattle.plan_check.specs.declared.refusals.Refusal.{Refusal}
use Rattle.plan_check.specs.declared.verdicts.PlanFault.{PlanFault}
use Rattle.plan_check.specs.declared.verdicts.PlanFault.TheVariants.{NoOperator, NotApplicable, TooMany}
use Rattle.plan_check.specs.declared.tracing.Link.{Link}
use Rattle.plan_check.specs.declared.widening.TheConstants.{MOST_TOGETHER, MOST_PAIRS}

abbrev pub words_of : List (Vec ℕ Global) → List (List ℕ)
words_of vectors = map (λ (v : Vec ℕ Global). v.items) vectors

-- a pair of a state and a cost as words
abbrev pub pair_words : Places → List ℕ → ℕ → List ℕ
pair_words layout state cost = packed layout state ++ cost ∷ []

-- the pair to which a choice leads
abbrev pub end_words : Parts → Places → List ℕ → List ℕ
end_words parts layout ops = pair_words layout (last_state parts ops) (cost_of parts ops)

-- The link at a place ends a choice of so many operators: it has the last of them, and leads to where the link of the one before lies.
abbrev pub Leads : List Link → ℕ → ℕ → List ℕ → Type 0
Leads links zero place ops = ops ≡ []
Leads links (suc steps) place ops = (link : Link) × (before : List ℕ) × (slice_get links place ≡ Some link) × (ops ≡ before ++ link.op ∷ []) × Leads links steps link.from before

-- all that links lead to is what others lead to
abbrev pub LeadOn : List Link → List Link → Type 0
LeadOn links now = (steps place : ℕ) (ops : List ℕ) → Leads links steps place ops → Leads now steps place ops

-- the pairs to which choices lead
abbrev pub AreEnds : Parts → Places → List (List ℕ) → List (List ℕ) → Type 0
AreEnds parts layout pairs choices = pairs ≡ map (end_words parts layout) choices

-- Pairs, and links from a place on, stand for choices of so many operators, in their order.
pub record IsLayer (parts : Parts) (layout : Places) (links : List Link) (first steps : ℕ) (pairs choices : List (List ℕ)) : Type 0 where
  pub words : AreEnds parts layout pairs choices
  pub leads : (place : ℕ) (ops : List ℕ) → slice_get choices place ≡ Some ops → Leads links steps (first + place) ops

-- a choice with each of some operators at its end
abbrev pub longer : List ℕ → List ℕ → List (List ℕ)
longer ops more = map (λ op. ops ++ op ∷ []) more

-- the first choices of a list, one for each pair of last state and cost
abbrev pub one_each : Parts → List (List ℕ) → List (List ℕ)
one_each parts choices = firsts_after (same_end parts) [] choices

-- Such pairs, in the making: one for each pair of last state and cost of choices, with as many links.
pub record IsGrowing (parts : Parts) (layout : Places) (links : List Link) (first steps : ℕ) (pairs choices : List (List ℕ)) : Type 0 where
  pub layer : IsLayer parts layout links first steps pairs (one_each parts choices)
  pub fits : first + length pairs ≡ length links

-- a state and a cost are those to which a choice leads
pub record IsEnd (parts : Parts) (ops state : List ℕ) (cost : ℕ) : Type 0 where
  pub state_is : state ≡ last_state parts ops
  pub cost_is : cost ≡ cost_of parts ops

-- and the link at a place ends the choice
pub record EndsAt (parts : Parts) (links : List Link) (steps place : ℕ) (ops state : List ℕ) (cost : ℕ) : Type 0 where
  pub end : IsEnd parts ops state cost
  pub leads : Leads links steps place ops

-- Pairs and links stand for the ends of the choices of so many names, with as many links.
pub record IsGrown (parts : Parts) (layout : Places) (names : List (List ℕ)) (links : List Link) (first count : ℕ) (pairs : List (List ℕ)) : Type 0 where
  pub layer : IsLayer parts layout links first count pairs (ends parts (take count names))
  pub fits : first + length pairs ≡ length links
  pub few : length pairs ≤ MOST_PAIRS

-- Pairs and links stand for the ends of the choices of so many names.
pub record IsAfter (parts : Parts) (layout : Places) (names : List (List ℕ)) (links : List Link) (first count : ℕ) (pairs : List (List ℕ)) : Type 0 where
  pub layer : IsLayer parts layout links first count pairs (ends parts (take count names))
  pub together : length links ≡ pairs_up_to parts names count
  pub below : first + length pairs ≤ length links + 1

-- There was one choice for as many names as there are links, nothing was wrong, and it led to a state at a cost.
pub record IsAlone (parts : Parts) (names : List (List ℕ)) (links : List Link) (count : ℕ) (state : List ℕ) (cost : ℕ) : Type 0 where
  pub ops : List ℕ
  pub only : choices parts (take count names) ≡ ops ∷ []
  pub reached : EndsAt parts links count (count - 1) ops state cost
  pub long : length links ≡ count
  pub together : pairs_up_to parts names count ≡ count
  pub no_fault : first_fault parts names count ≡ None

-- what is wrong with a step, if something is: after it there is room or not, and there are so many pairs, and together so many
abbrev pub told_fault : Parts → List ℕ → ℕ → Bool → ℕ → ℕ → Option PlanFault
told_fault parts name step room pairs together =
    if room && nat_eq pairs 0 then Some (if list_any (has_name name) parts.operators then NotApplicable step else NoOperator step) else
    if not room || nat_lt MOST_TOGETHER together then Some (TooMany step) else None

-- where it isn't memory that was wanting, the fault of the first step with which something is wrong
abbrev pub IsFirstFault : Parts → List (List ℕ) → Refusal → Type 0
IsFirstFault parts names refusal = IfSome (fault_of refusal) (λ fault. first_fault parts names (length names) ≡ Some fault)
