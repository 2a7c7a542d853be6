-- What stands at each moment, and what a child may write meanwhile.
use Rattle.std.specs.Prelude.{◌≡◌, List, ◌++◌, Some, All}
use Rattle.lama_host.specs.Folder.{Told, Files, WhereTold}

-- each moment that was added is as said
abbrev pub AtEachMoment : Told → Told → (Files → Type 0) → Type 0
AtEachMoment before now P = (past : List Files) → before.moments ≡ Some past → (more : List Files) × (now.moments ≡ Some (past ++ more)) × All P more

-- From what stood as a child started to what stood as its wait returned, and at each moment between, names
-- change only as said: with SameBeside of the child's base, only those that the child is to write.
pub record WritesOnly (Same : Files → Files → Type 0) (started returned : Told) : Type 0 where
  pub moments : WhereTold started (λ files. AtEachMoment started returned (Same files))
  pub left : WhereTold started (λ files. (after : Files) → returned.content ≡ Some after → Same files after)
