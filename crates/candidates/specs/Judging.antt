-- What is judged of a child's files, and what becomes of it.
use Rattle.std.specs.Prelude.{◌≡◌, ℕ, ◌+◌, List, [], ◌∷◌, ◌++◌, length, true, false, if◌then◌else◌, Option, Some, None, Result, OnOk}
use Rattle.std.specs.List.{filter_map}
use Rattle.sas_task.specs.declared.contents.Parts.{Parts}
use Rattle.sas_task.specs.declared.plans.Kept.{Kept}
use Rattle.sas_task.specs.Runs.{IsPlanOf}
use Rattle.plan_check.specs.declared.verdicts.PlanFault.{PlanFault}
use Rattle.plan_check.specs.declared.verdicts.PlanFault.TheVariants.{NotCheaper}
use Rattle.plan_check.specs.declared.verdicts.Verdict.{Verdict}
use Rattle.plan_check.specs.declared.verdicts.Verdict.TheVariants.{Good, Bad}
use Rattle.plan_check.specs.Verdicts.{verdict_of}
use Rattle.driver_core.specs.declared.events.Event.{Event}
use Rattle.driver_core.specs.declared.settings.Setting.{Setting}
use Rattle.driver_core.specs.Keeping.{bound_of}
use Rattle.lama_num.specs.Bounds.{is_below}
use Rattle.driver_core.specs.Running.{is_over_after}
use Rattle.driver_core.specs.Turns.{Turn, offers}
use Rattle.candidates.specs.declared.offers.Candidate.{Candidate}
use Rattle.candidates.specs.declared.offers.Found.{Found}
use Rattle.candidates.specs.declared.offers.Found.TheVariants.{Kept as IsKept, Dropped}
use Rattle.candidates.specs.ChildFiles.{ChildFile}

-- a file and what was judged of it
pub record Judged : Type 0 where
  pub number : ℕ
  pub verdict : Verdict

abbrev pub judged_as : ℕ → Verdict → Judged
judged_as number verdict = record { number = number; verdict = verdict }

-- what a plan in a file costs: it is one also where it only isn't cheap enough
abbrev pub real_cost : PlanFault → Option ℕ
real_cost (NotCheaper real bound) = Some real
real_cost _ = None

abbrev pub verdict_cost : Verdict → Option ℕ
verdict_cost (Good ops cost) = Some cost
verdict_cost (Bad fault) = real_cost fault

-- what is called good is a plan
abbrev pub IsPlanIfGood : Parts → Verdict → Type 0
IsPlanIfGood parts (Good ops cost) = IsPlanOf parts ops cost
IsPlanIfGood parts (Bad fault) = Unit {0}

-- a good plan costs less than the bound, and one that is dropped for its cost doesn't
abbrev pub HeedsBound : Option ℕ → Verdict → Type 0
HeedsBound bound (Good ops cost) = is_below bound cost ≡ true
HeedsBound bound (Bad fault) = (cost : ℕ) → real_cost fault ≡ Some cost → is_below bound cost ≡ false

-- what the core is told of it
abbrev pub offer_of : Turn → Judged → Event
offer_of turn judged = offers turn (verdict_cost judged.verdict)

abbrev pub judged_of : Parts → Option ℕ → ChildFile → Judged
judged_of parts bound file = judged_as file.number (verdict_of parts file.bytes bound)

-- What is judged of files after some events: each in order, by the bound as it is then, until the run is over.
unfoldable pub judged_in : Setting → Parts → Turn → List Event → List ChildFile → List Judged
judged_in setting parts turn past [] = []
judged_in setting parts turn past (file ∷ files) =
    if is_over_after setting past then []
    else judged_of parts (bound_of setting past) file ∷ judged_in setting parts turn (past ++ offer_of turn (judged_of parts (bound_of setting past) file) ∷ []) files

-- All of these were judged; or, where a call failed, the first of them.
abbrev pub AreAllOrFirst : {T E : Type 0} → Result T E → List Judged → List Judged → Type 0
AreAllOrFirst result judged all = (rest : List Judged) × (all ≡ judged ++ rest) × OnOk result (rest ≡ [])

-- the plan that is kept of a file
abbrev pub kept_of : Turn → Judged → Option Kept
kept_of turn judged = kept judged.verdict
  where
    kept : Verdict → Option Kept
    kept (Good ops cost) = Some (record { entry = turn.entry; ops = ops; cost = cost })
    kept (Bad fault) = None

abbrev pub plans_of : Turn → List Judged → List Kept
plans_of turn judged = filter_map (kept_of turn) judged

-- what became of it, where so many plans were kept before
abbrev pub found_of : ℕ → Verdict → Found
found_of before (Good ops cost) = IsKept before
found_of before (Bad fault) = Dropped fault

abbrev pub candidate_of : Turn → ℕ → Judged → Candidate
candidate_of turn before judged = record { round = turn.round; entry = turn.entry; file = Some judged.number; found = found_of before judged.verdict }

-- The candidates of a turn, in order, where so many plans were kept before the first of them.
unfoldable pub candidates_of : Turn → ℕ → List Judged → List Candidate
candidates_of turn before [] = []
candidates_of turn before (judged ∷ more) = candidate_of turn before judged ∷ candidates_of turn (before + length (plans_of turn (judged ∷ []))) more
