-- What an append leaves.
use Rattle.std.specs.Prelude.{◌≡◌, ℕ, zero, suc, List, [], ◌∷◌}
use Rattle.std.proofs.Common.{refl}
use Rattle.lama_host.specs.Folder.{Files, last_of, growth, grown}
use Rattle.lama_host.proofs.StepLaws.{last_of-append}

pub last_of-growth : (files : Files) (name piece : List ℕ) (n : ℕ) → last_of files (growth files name piece n) ≡ grown files name piece n
last_of-growth files name piece zero = refl
last_of-growth files name piece (suc n) = last_of-append files (growth files name piece n) (grown files name piece (suc n) ∷ [])
