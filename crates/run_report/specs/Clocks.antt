-- What a run asked of the clock.
use Rattle.std.specs.Prelude.{◌≡◌, ℕ, ◌≤◌, Bool, true, false, List, [], ◌∷◌, ◌++◌, map, All, Option, Some}
use Rattle.run_report.specs.declared.report.Outcome.{Outcome}
use Rattle.run_report.specs.declared.report.Outcome.TheVariants.{Best, Unsolvable, Unsolved, Over, Limit, NoMemory}
use Rattle.run_report.specs.declared.report.Report.{Report}
use Rattle.run_report.specs.Turns.{BegunTurn, ToldTurn}
use Rattle.run_report.specs.Tells.{Turns, all_begun}

-- each stands in the list, at a later place than the one before it
abbrev pub StandInOrder : List ℕ → List ℕ → Type 0
StandInOrder [] answers = Unit {0}
StandInOrder (moment ∷ more) answers = (earlier : List ℕ) × (later : List ℕ) × (answers ≡ earlier ++ moment ∷ later) × StandInOrder more later

-- when the turns began
abbrev pub moments_of : Turns → List ℕ
moments_of turns = map (λ (begun : BegunTurn). begun.began) (all_begun turns)

abbrev pub has_memory : Outcome → Bool
has_memory (Best space bound log) = true
has_memory (Unsolvable space log) = true
has_memory (Unsolved space bound log) = true
has_memory Over = true
has_memory (Limit hit log) = true
has_memory NoMemory = false

-- The answers that a run added: as it began, and as its turns did. It added no others, but where a turn ended for want of memory.
pub record AddsAnswers (report : Report) (turns : Turns) (past all : List ℕ) : Type 0 where
  pub added : List ℕ
  pub all_is : all ≡ past ++ report.start ∷ added
  pub in_order : StandInOrder (moments_of turns) added
  pub only : All (λ (turn : ToldTurn). has_memory turn.end.outcome ≡ true) turns.ended → added ≡ moments_of turns

-- What a run asked of the clock, by its last answers and those that it told, before and now.
pub record AsksClock (before now : ℕ) (told_before told_now : Option (List ℕ)) (report : Report) (turns : Turns) : Type 0 where
  pub start : before ≤ report.start
  pub moments : All (λ moment. (report.start ≤ moment) × (moment ≤ now)) (moments_of turns)
  pub answers : (all : List ℕ) → told_now ≡ Some all → (past : List ℕ) × (told_before ≡ Some past) × AddsAnswers report turns past all
