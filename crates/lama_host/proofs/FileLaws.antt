-- What a map of files has at a name after a change.
use Rattle.std.specs.Prelude.{◌≡◌, ◌≢◌, ℕ, List, Bool, true, false, Some, None}
use Rattle.std.proofs.Common.{sym, ◌∙◌, refl}
use Rattle.std.specs.FinMap.{get, insert, remove, get-insert, get-remove}
use Rattle.std.specs.Cmp.Lexicographic.{slice_cmp, texts_ties, nat_list_cmp_total}
use Rattle.std.specs.Ordering.{nat_cmp, eq_by_cmp}
use Rattle.std.specs.Str.{bytes_eq}
use Rattle.std.proofs.lemmas.Slice.Eq.{bytes_eq-Decides}
use Rattle.lama_host.specs.Folder.{Files}

-- the same name
ties : (a b : List ℕ) → a ≡ b → eq_by_cmp (slice_cmp nat_cmp) a b ≡ true
ties a b e = sym (texts_ties a b) ∙ (bytes_eq-Decides a b).1 e

-- another name
apart : (a b : List ℕ) → a ≢ b → eq_by_cmp (slice_cmp nat_cmp) a b ≡ false
apart a b e = sym (texts_ties a b) ∙ not_true (bytes_eq a b) (λ t. e ((bytes_eq-Decides a b).0 t))
  where
    not_true : (x : Bool) → x ≢ true → x ≡ false
    not_true true h = absurd (h refl)
    not_true false h = refl

pub get-insert_same : (files : Files) (name bytes : List ℕ) → get (insert files name bytes) name ≡ Some bytes
get-insert_same files name bytes = get-insert nat_list_cmp_total files name bytes name ∙ rw (ties name name refl) refl

pub get-insert_other : (files : Files) (name bytes other : List ℕ) → other ≢ name → get (insert files name bytes) other ≡ get files other
get-insert_other files name bytes other e = get-insert nat_list_cmp_total files name bytes other ∙ rw (apart other name e) refl

pub get-remove_same : (files : Files) (name : List ℕ) → get (remove files name) name ≡ None
get-remove_same files name = get-remove nat_list_cmp_total files name name ∙ rw (ties name name refl) refl

pub get-remove_other : (files : Files) (name other : List ℕ) → other ≢ name → get (remove files name) other ≡ get files other
get-remove_other files name other e = get-remove nat_list_cmp_total files name other ∙ rw (apart other name e) refl

pub same_files : (x y : Files) → Some x ≡ Some y → x ≡ y
same_files x y e = cc
