-- How a call that may fail ends.
use Rattle.std.specs.Prelude.{◌≡◌, ℕ, ◌/◌, List, [], ◌∷◌, ◌++◌, Bool, true, false, Option, Some, None, Result, OnOk, OnErr, ◌⊎◌, length}
use Rattle.lama_host.specs.declared.children.ChildEnd.{ChildEnd}
use Rattle.lama_host.specs.Folder.{Files, Told, Passes, Rose}
use Rattle.host_mem.specs.declared.children.Script.{Script}
use Rattle.host_mem.specs.declared.children.Start.{Start}
use Rattle.host_mem.specs.declared.children.Running.{Running}
use Rattle.host_mem.specs.declared.journal.Change.{Change}
use Rattle.host_mem.specs.declared.journal.Change.TheVariants.{Began}

-- half of so many bytes where a call fails after its effect, else all
abbrev pub share_of : Option Bool → ℕ → ℕ
share_of None count = count
share_of (Some false) count = count
share_of (Some true) count = count / 2

-- The change was made; where the call was to fail before it, it wasn't, and where after it, it was
-- unless memory was refused; else it failed for want of memory and wasn't made.
pub record Logged {T E : Type 0} (fault : Option Bool) (result : Result T E) (refused refused' : ℕ) (old new : List Change) (change : Change) : Type 0 where
  pub made : OnOk result ((fault ≡ None) × (new ≡ old ++ change ∷ []))
  pub before : fault ≡ Some false → new ≡ old
  pub after : fault ≡ Some true → (new ≡ old ++ change ∷ []) ⊎ ((new ≡ old) × Rose refused refused')
  pub refusal : fault ≡ None → OnErr result (new ≡ old)

-- The steps of a call that may fail before or after its effect: all of them where it succeeds; none
-- where it fails before its effect or for want of memory; where it fails after its effect, what that leaves.
pub record Effect {T E : Type 0} (fault : Option Bool) (result : Result T E) (refused refused' : ℕ) (all left : List Files) (steps : List Files) : Type 0 where
  pub made : OnOk result ((fault ≡ None) × (steps ≡ all))
  pub before : fault ≡ Some false → steps ≡ []
  pub after : fault ≡ Some true → (steps ≡ left) ⊎ ((steps ≡ []) × Rose refused refused')
  pub refusal : fault ≡ None → OnErr result (steps ≡ [])

-- The folder passed steps that are allowed, also while children run.
abbrev pub Goes : Told → Told → (Files → List Files → Type 0) → Type 0
Goes before now allowed =
    (files : Files) → before.content ≡ Some files → (steps : List Files) × allowed files steps × Passes before now files steps

-- how a child ended, unless the wait for it is to fail
abbrev pub answer_unless : Option Bool → ChildEnd → Option ChildEnd
answer_unless None end = Some end
answer_unless (Some after) end = None

abbrev pub is_nil : List Running → Bool
is_nil [] = true
is_nil (child ∷ more) = false

-- A child with this script runs in the slot, and the journal has its beginning.
pub record HasBegun (before now : List Running) (slot : ℕ) (script : Script) (starts : List Start) (old new : List Change) : Type 0 where
  pub running : now ≡ before ++ record { slot = slot; script = script } ∷ []
  pub began : new ≡ old ++ Began (length starts) (is_nil before) ∷ []
