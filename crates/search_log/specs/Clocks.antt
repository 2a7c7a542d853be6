-- When a phase asks the clock, and what becomes of the answers.
use Rattle.std.specs.Prelude.{◌≡◌, ℕ, ◌+◌, ◌/◌, Bool, true, false, not, nat_le, if◌then◌else◌, List, ◌++◌, length, count_by, Option, Some, None, is_some, IfSome}
use Rattle.std.specs.List.{list_any}
use Rattle.std.specs.Option.{option_to_list}
use Rattle.search_log.specs.declared.setting.Stop.{Stop}
use Rattle.search_log.specs.declared.setting.LimitHit.{LimitHit}
use Rattle.search_log.specs.declared.setting.LimitHit.TheVariants.{Time, Pops, States}
use Rattle.search_log.specs.declared.turns.Pop.{Pop}
use Rattle.search_log.specs.declared.turns.PopResult.{PopResult}
use Rattle.search_log.specs.declared.turns.PopResult.TheVariants.{Known, Dead, Goal, Visited, Again, Full}
use Rattle.search_log.specs.Phases.{Phase}

-- a pop that ends a log
abbrev pub is_final : PopResult → Bool
is_final Goal = true
is_final Full = true
is_final Known = false
is_final Dead = false
is_final Visited = false
is_final Again = false

-- how many pops don't end the log
abbrev pub unfinal : List Pop → ℕ
unfinal pops = count_by (λ (p : Pop). not (is_final p.result)) pops

-- How often the clock is asked: with a stop once at the start, and after each 256th pop that doesn't end the log; else never.
abbrev pub times_asked : Phase → List Pop → ℕ
times_asked phase pops = if is_some phase.setting.stop then 1 + unfinal pops / 256 else 0

-- the answer is at or past the end of the limit
abbrev pub is_late : Stop → ℕ → Bool
is_late stop moment = nat_le (stop.start + stop.limit) moment

-- the moment at which a limit of time was found over
abbrev pub moment_of : LimitHit → Option ℕ
moment_of (Time start limit moment) = Some moment
moment_of (Pops n) = None
moment_of (States n) = None

-- The clock answered once for each time that it is asked. None of the answers is late but the moment that ended the phase, which is
-- the last one, if time ended it.
pub record AreAnswers (phase : Phase) (pops : List Pop) (moment : Option ℕ) (answers : List ℕ) : Type 0 where
  pub count : length answers ≡ times_asked phase pops
  pub before : List ℕ
  pub are : answers ≡ before ++ option_to_list moment
  pub early : IfSome phase.setting.stop (λ stop. list_any (is_late stop) before ≡ false)
  pub late : IfSome phase.setting.stop (λ stop. IfSome moment (λ t. is_late stop t ≡ true))
