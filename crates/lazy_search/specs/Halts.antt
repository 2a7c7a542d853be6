-- Why a search halts, and what the clock was asked.
use Rattle.std.specs.Prelude.{◌≡◌, ℕ, List, Option, Some, None, if◌then◌else◌, option_and_then}
use Rattle.lama_host.specs.Streams.{Answers}
use Rattle.guide.specs.declared.seen.Seen.{Seen}
use Rattle.search_log.specs.declared.setting.Stop.{Stop}
use Rattle.search_log.specs.declared.setting.LimitHit.{LimitHit}
use Rattle.search_log.specs.declared.setting.LimitHit.TheVariants.{Time}
use Rattle.search_log.specs.Phases.{Phase}
use Rattle.search_log.specs.Places.{Node, Past}
use Rattle.search_log.specs.Ends.{EndsInGoal, EndsExhausted, EndsAtLimit}
use Rattle.search_log.specs.Clocks.{is_late, moment_of}
use Rattle.lazy_search.specs.declared.searching.Halt.{Halt}
use Rattle.lazy_search.specs.declared.searching.Halt.TheVariants.{AtGoal, Exhausted, AtLimit}
use Rattle.lazy_search.specs.declared.machine.Machine.{Machine}
use Rattle.lazy_search.specs.Machines.{Rests, IsGuided}

-- how the log stands where a search halts
abbrev pub HaltEnds : Phase → Past → Halt → Type 0
HaltEnds phase past AtGoal = (n : Node) × EndsInGoal phase past n
HaltEnds phase past Exhausted = EndsExhausted phase past
HaltEnds phase past (AtLimit hit) = EndsAtLimit phase past hit

-- the moment that ended the search, if time did
abbrev pub moment_at : Halt → Option ℕ
moment_at AtGoal = None
moment_at Exhausted = None
moment_at (AtLimit hit) = moment_of hit

pub record Halts (phase : Phase) (KeptFor : ℕ → List (List ℕ) → Type 0) (Fits : List (List ℕ) → Seen → Type 0) (m : Machine) (halt : Halt) : Type 0 where
  pub past : Past
  pub rests : Rests phase m past
  pub guided : IsGuided phase KeptFor Fits past
  pub ends : HaltEnds phase past halt

-- The clock isn't asked without a stop; else it is asked once, and time is over where the answer is late.
abbrev pub Asks : Option Stop → Option (List ℕ) → Option (List ℕ) → Option LimitHit → Type 0
Asks None before after hit = (after ≡ before) × (hit ≡ None)
Asks (Some stop) before after hit = (moment : ℕ) × Answers before after moment × (hit ≡ (if is_late stop moment then Some (Time stop.start stop.limit moment) else None))

-- the moment of a limit, if time is one
abbrev pub moment_in : Option LimitHit → Option ℕ
moment_in hit = option_and_then moment_of hit
