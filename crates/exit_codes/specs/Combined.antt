-- The one exit code of a whole run.
use Rattle.std.specs.Prelude.{ℕ, ◌+◌, ◌-◌, Bool, true, false, if◌then◌else◌, List, [], ◌∷◌, Option, Some, None, unwrap_or}
use Rattle.std.specs.List.{filter, range_with_len}
use Rattle.std.specs.FinSet as set
use Rattle.exit_codes.specs.Sets.{CodeSet}

-- the codes of a set from low on, below high
unfoldable pub codes_between : CodeSet → ℕ → ℕ → List ℕ
codes_between codes low high = filter (set.contains codes) (range_with_len low (high - low))

-- the critical errors in a set, the codes from 30 to 39
abbrev pub critical : CodeSet → List ℕ
critical codes = codes_between codes 30 40

-- the only critical error, or 32 where there are several
abbrev pub single_critical : List ℕ → Option ℕ
single_critical [] = None
single_critical (code ∷ []) = Some code
single_critical (code ∷ second ∷ more) = Some 32

-- with a plan: 0, and 1 more for out of memory, 2 more for out of time
abbrev pub code_with_plan : CodeSet → ℕ
code_with_plan codes =
    (if set.contains codes 22 then 1 else 0) + (if set.contains codes 23 then 2 else 0)

abbrev pub code_of_limits : Bool → Bool → ℕ
code_of_limits true true = 24
code_of_limits true false = 22
code_of_limits false true = 23
code_of_limits false false = 12

-- without a plan: 11, else 12, else by the limits that were met
abbrev pub code_without_plan : CodeSet → ℕ
code_without_plan codes =
    if set.contains codes 11 then 11
    else (if set.contains codes 12 then 12
    else code_of_limits (set.contains codes 22) (set.contains codes 23))

-- a critical error is the answer; without one it goes by whether a plan was kept
abbrev pub combine_of : CodeSet → Bool → ℕ
combine_of codes kept =
    unwrap_or (single_critical (critical codes)) (if kept then code_with_plan codes else code_without_plan codes)
