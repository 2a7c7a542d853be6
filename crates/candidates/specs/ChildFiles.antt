-- The files that a child left.
use Rattle.std.specs.Prelude.{ℕ, zero, suc, List, [], ◌∷◌, ◌++◌, Option, Some, None, option_map, option_to_list}
use Rattle.std.specs.FinMap.{get}
use Rattle.lama_host.specs.Folder.{Files}
use Rattle.plan_manager.specs.Family.{family_name}
use Rattle.lama_num.specs.declared.names.TheConstants.{MOST_PLANS}

-- a file of a child: its number, 0 for base.cE and n for base.cE.n, and its bytes
pub record ChildFile : Type 0 where
  pub number : ℕ
  pub bytes : List ℕ

abbrev pub file_of : ℕ → List ℕ → ChildFile
file_of number bytes = record { number = number; bytes = bytes }

-- the file of a number, if it is there
abbrev pub file_at : Files → List ℕ → ℕ → Option ChildFile
file_at files child number = option_map (file_of number) (get files (family_name child number))

-- the first of some files, if it is there, and those after it
abbrev pub onto_file : Option ChildFile → List ChildFile → List ChildFile
onto_file None rest = []
onto_file (Some file) rest = file ∷ rest

-- a child's numbered files from a number on, up to the first that isn't there, so many at most
unfoldable pub numbered_files : Files → List ℕ → ℕ → ℕ → List ChildFile
numbered_files files child number zero = []
numbered_files files child number (suc most) = onto_file (file_at files child number) (numbered_files files child (suc number) most)

-- all files of a child, in order: the single one, which needn't be there, and those from 1 on up to the first that isn't there
abbrev pub child_files : Files → List ℕ → List ChildFile
child_files files child = option_to_list (file_at files child 0) ++ numbered_files files child 1 MOST_PLANS
