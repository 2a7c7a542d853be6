-- The codes of a part of a run.
use Rattle.std.specs.Prelude.{ℕ, Bool, true, false, ◌&&◌, ◌==◌, nat_le, if◌then◌else◌, List, [], ◌∷◌}
use Rattle.std.specs.FinSet as set
use Rattle.exit_codes.specs.declared.parts.Part.{Part}
use Rattle.exit_codes.specs.declared.parts.Part.TheVariants.{Unsolvable, Exhausted, Over, Limit, NoMemory, Status, Signal, OutOfTime, PlanLimit}
use Rattle.exit_codes.specs.Sets.{CodeSet}

-- a child that ended as one that may have plans: no code where the entry kept one, else 12
abbrev pub planned : Bool → List ℕ
planned true = []
planned false = 12 ∷ []

-- a child that ended by itself, by its exit status
abbrev pub status_codes : ℕ → Bool → List ℕ
status_codes status kept =
    if status == 0 then planned kept
    else (if status == 1 then 22 ∷ planned kept
    else (if status == 2 then 23 ∷ planned kept
    else (if status == 3 then 22 ∷ 23 ∷ planned kept
    else (if status == 11 then 12 ∷ []
    else (if status == 12 then 12 ∷ []
    else (if status == 22 then 22 ∷ []
    else (if status == 23 then 23 ∷ []
    else (if status == 24 then 22 ∷ 23 ∷ []
    else (if nat_le 30 status && nat_le status 39 then status ∷ []
    else 32 ∷ [])))))))))

-- a child that a signal ended: out of time where its share had passed, else a critical error
abbrev pub signal_codes : Bool → List ℕ
signal_codes true = 23 ∷ []
signal_codes false = 32 ∷ []

abbrev pub part_codes : Part → List ℕ
part_codes Unsolvable = 11 ∷ []
part_codes Exhausted = 12 ∷ []
part_codes Over = []
part_codes Limit = 23 ∷ []
part_codes NoMemory = 22 ∷ []
part_codes (Status status kept) = status_codes status kept
part_codes (Signal passed) = signal_codes passed
part_codes OutOfTime = 23 ∷ []
part_codes PlanLimit = 23 ∷ []

-- the set of codes of a part
abbrev pub norm_of : Part → CodeSet
norm_of part = set.from_list (part_codes part)

-- the codes of several parts together
abbrev pub codes_of : List Part → CodeSet
codes_of [] = set.empty
codes_of (part ∷ parts) = set.union (norm_of part) (codes_of parts)
