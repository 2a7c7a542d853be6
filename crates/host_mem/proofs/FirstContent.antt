-- What a host in memory holds at first.
use Rattle.std.specs.Prelude.{◌≡◌, ℕ, List, [], ◌∷◌, ◌++◌, Some, IsSome}
use Rattle.std.specs.FinMap.{get}
use Rattle.std.proofs.Common.{◌∙◌, ap, sym, subst, refl}
use Rattle.std.proofs.lemmas.List.{reverse-append}
use Rattle.lama_host.proofs.FileLaws.{get-insert_same}
use Rattle.host_mem.specs.Journal.{first_held}
use Rattle.host_mem.specs.Memory.{Memory, files_of, held}

-- of several files of one name the last counts
pub get-files_of_last : (earlier : List (List ℕ × List ℕ)) (name bytes : List ℕ) → get (files_of (earlier ++ (name, bytes) ∷ [])) name ≡ Some bytes
get-files_of_last earlier name bytes =
    ap (λ files. get (first_held files) name) (reverse-append earlier ((name, bytes) ∷ [])) ∙ get-insert_same (files_of earlier) name bytes

-- a host that was made of files has the last of them
pub last_is_there : (host : Memory) (files earlier : List (List ℕ × List ℕ)) (file : List ℕ × List ℕ) (name bytes : List ℕ) →
    held host ≡ files_of files → files ≡ earlier ++ file ∷ [] → file ≡ (name, bytes) → IsSome (get (held host) name)
last_is_there host files earlier file name bytes made last is =
    let there : get (held host) name ≡ Some bytes = ap (λ fs. get fs name) made ∙ ap (λ fs. get (files_of fs) name) (last ∙ ap (λ f. earlier ++ f ∷ []) is) ∙ get-files_of_last earlier name bytes in
    subst (λ found. IsSome found) (sym there) refl
