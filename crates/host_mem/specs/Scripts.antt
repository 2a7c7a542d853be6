-- Which script a child follows.
use Rattle.std.specs.Prelude.{◌≡◌, ◌<◌, ℕ, length, slice_index_or, List, [], ◌∷◌, nat_eq, if◌then◌else◌}
use Rattle.lama_host.specs.declared.children.ChildEnd.TheVariants.{Status}
use Rattle.host_mem.specs.declared.children.Script.{Script}
use Rattle.host_mem.specs.declared.children.Running.{Running}

-- no writes, and status 127
abbrev pub idle_script : Script
idle_script = record { writes = []; outcome = Status 127 }

-- the first of the scripts to come
abbrev pub next_script : List Script → Script
next_script [] = idle_script
next_script (script ∷ later) = script

abbrev pub later_scripts : List Script → List Script
later_scripts [] = []
later_scripts (script ∷ later) = later

-- the script of the child in a slot
abbrev pub script_in : List Running → ℕ → Script
script_in [] slot = idle_script
script_in (child ∷ more) slot = if nat_eq child.slot slot then child.script else script_in more slot

-- the place of the first child in a slot
pub record IsPlaceOf (running : List Running) (slot place : ℕ) : Type 0 where
  pub within : place < length running
  pub child : (child : Running) → child ≡ slice_index_or running place child → (child.slot ≡ slot) × (child.script ≡ script_in running slot)
