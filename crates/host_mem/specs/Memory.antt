-- What a host in memory is, and what it tells.
use Rattle.std.specs.Prelude.{◌≡◌, ◌≤◌, ◌⊎◌, ℕ, List, [], ◌∷◌, ◌++◌, map, reverse, Bool, Option, Result, OnErr, OnOk, IsErr, IsSome}
use Rattle.lama_host.specs.declared.children.Limits.{Limits}
use Rattle.lama_host.specs.Folder.{Files, Told, Rose}
use Rattle.host_mem.specs.declared.calls.HostCall.{HostCall}
use Rattle.host_mem.specs.declared.calls.Fail.{Fail}
use Rattle.host_mem.specs.declared.children.Script.{Script}
use Rattle.host_mem.specs.declared.children.Start.{Start}
use Rattle.host_mem.specs.declared.children.Running.{Running}
use Rattle.host_mem.specs.declared.journal.Change.{Change}
use Rattle.host_mem.specs.Calls.{called, raised, fault_of}
use Rattle.host_mem.specs.Journal.{told_by, holds, first_held}
use Rattle.host_mem.specs.Outcomes.{Effect, Goes}
use Rattle.host_mem.specs.Scripts.{next_script, later_scripts}

pub record Memory : Type 0 where
  pub files : List (List ℕ × List ℕ)  -- what it held at first
  pub journal : List Change  -- what changed since, the oldest first
  pub failing : List Fail
  pub calls : List ℕ  -- how many calls there were, by kind
  pub scripts : List Script  -- those to come
  pub running : List Running
  pub starts : List Start
  pub faults : ℕ
  pub refused : ℕ  -- how often memory was refused

-- the files of a list; of several of one name the last counts
abbrev pub files_of : List (List ℕ × List ℕ) → Files
files_of files = first_held (reverse files)

-- what it holds
abbrev pub held : Memory → Files
held host = holds (files_of host.files) (reverse host.journal)

abbrev pub slots : List Running → List ℕ
slots running = map (λ child. child.slot) running

abbrev pub told_of : Memory → Told
told_of host = told_by (files_of host.files) (reverse host.journal) host.faults (slots host.running) host.starts

-- whether the next call of a kind is to fail, and then whether after its effect
abbrev pub fault_at : Memory → HostCall → Option Bool
fault_at host call = fault_of host.failing call (called host.calls call)

-- A call is counted. It fails where it is to fail, and else only where memory was refused.
pub record Calls {T E : Type 0} (before now : Memory) (call : HostCall) (result : Result T E) : Type 0 where
  pub counted : now.calls ≡ raised before.calls call
  pub failing : now.failing ≡ before.failing
  pub only : OnErr result (IsSome (fault_at before call) ⊎ Rose before.refused now.refused)
  pub listed : IsSome (fault_at before call) → IsErr result
  pub refusals : before.refused ≤ now.refused
  pub unspoilt : OnOk result ((now.faults ≡ before.faults) × (now.refused ≡ before.refused))

-- No child starts or ends.
pub record IsQuiet (before now : Memory) : Type 0 where
  pub scripts : now.scripts ≡ before.scripts
  pub running : now.running ≡ before.running
  pub starts : now.starts ≡ before.starts

-- Where a call on files changes what it holds, it passes these steps; where it fails after its effect
-- it passes those that are left.
abbrev pub Does : {T E : Type 0} → Memory → Memory → HostCall → Result T E → (Files → List Files) → (Files → List Files) → Type 0
Does before now call result all left =
    Goes (told_of before) (told_of now) (λ files steps. Effect (fault_at before call) result before.refused now.refused (all files) (left files) steps)

-- A child with the next script runs in the slot, and the start is kept.
pub record Begins (before now : Memory) (slot : ℕ) (words : List (List ℕ)) (input : List ℕ) (limits : Limits) : Type 0 where
  pub starts : now.starts ≡ before.starts ++ record { words = words; input = input; limits = limits } ∷ []
  pub running : now.running ≡ before.running ++ record { slot = slot; script = next_script before.scripts } ∷ []
  pub scripts : now.scripts ≡ later_scripts before.scripts
