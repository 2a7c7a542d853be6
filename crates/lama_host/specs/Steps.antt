-- Steps that follow from one another, and what a folder holds after them.
use Rattle.std.specs.Prelude.{◌≡◌, ◌≤◌, List, [], ◌∷◌, Some, is_some}
use Rattle.lama_host.specs.Folder.{Told, Files, WhereTold, Lengthens}

-- each map follows from the one before it
abbrev pub Each : (Files → Files → Type 0) → Files → List Files → Type 0
Each Follows files [] = Unit {0}
Each Follows files (next ∷ more) = Follows files next × Each Follows next more

-- what the folder holds at the end, beside what it held
abbrev pub Leaves : Told → Told → (Files → Files → Type 0) → Type 0
Leaves before now P = WhereTold before (λ files. (after : Files) × (now.content ≡ Some after) × P files after)

-- What stays through calls that start no child and wait for none, whatever they answered.
pub record Stays (before now : Told) : Type 0 where
  pub later : before.faults ≤ now.faults
  pub content : is_some now.content ≡ is_some before.content
  pub moments : Lengthens before.moments now.moments
  pub busy : now.busy ≡ before.busy
  pub left : now.left ≡ before.left
  pub started : now.started ≡ before.started
