-- Drafts of a text.
use Rattle.std.proofs.Common.{◌≡◌, ◌≢◌, ◌∙◌, sym, ap, refl, subst, ℕ, zero, suc, ◌<◌, List, [], ◌∷◌, ◌++◌, length, take, drop, Some, Result, Ok, Err, IsErr, inl, inr, arith, append_assoc, append-nil, take-append-drop}
use Rattle.std.proofs.Math.Seq.{take-length}
use Rattle.std.specs.Prelude.{unwrap_or}
use Rattle.std.specs.FinMap.{get, insert}
use Rattle.lama_host.proofs.FileLaws.{get-insert_same, get-insert_other}
use Rattle.lama_host.specs.Folder.{Told, Files, Changes, Once, Appends, growth, grown, bytes_at, last_of}
use Rattle.lama_host.proofs.AppendLaws.{last_of-growth}
use Rattle.plan_manager.specs.Keeping.{IsFront, IsDraft, Drafts}
use Rattle.lama_host.proofs.StepLaws.{each-append, each_once, last_of-append, last_once, changes_then, changes_weaker}
use Rattle.lama_host.specs.Steps.{Each}
use Rattle.plan_manager.proofs.RemovedNames.{nothing_ok}

-- drafts so far, and what is left of the text
abbrev pub Drafted : List ℕ → List ℕ → List ℕ → Files → List Files → Type 0
Drafted name text left files steps = Each (IsDraft name text) files steps × ((written : List ℕ) × (get (last_of files steps) name ≡ Some written) × (written ++ left ≡ text))

-- what a name got, with a rest of the text
draft_by : (name text bytes rest : List ℕ) (before files : Files) → bytes ++ rest ≡ text → ((other : List ℕ) → other ≢ name → get before other ≡ get files other) → IsDraft name text before (insert files name bytes)
draft_by name text bytes rest before files is same = record {
  front = subst (λ o. IsFront o text) (sym (get-insert_same files name bytes)) (rest, is);
  others = λ other apart. get-insert_other files name bytes other apart ∙ sym (same other apart);
}

-- an empty file is made
pub begins : {T E : Type 0} (a b : Told) (result : Result T E) (x : T) (name text left : List ℕ) → result ≡ Ok x → left ≡ text → Changes a b (Once result (λ files. insert files name [])) → Changes a b (Drafted name text left)
begins a b result x name text left ok is changes = changes_weaker a b (Once result (λ files. insert files name [])) (Drafted name text left)
    (λ files steps once. (
      each_once result (IsDraft name text) (λ fs. insert fs name []) files steps (draft_by name text [] text files files refl (λ other apart. refl)) once,
      ([], ap (λ fs. get fs name) (last_once result x (λ fs. insert fs name []) files steps ok once) ∙ get-insert_same files name [], is),
    )) changes

-- or that failed
pub begin_failed : {T E U V : Type 0} (a b : Told) (result : Result T E) (answer : Result U V) (name text : List ℕ) → IsErr answer → Changes a b (Once result (λ files. insert files name [])) → Changes a b (Drafts answer name text)
begin_failed a b result answer name text failed changes = changes_weaker a b (Once result (λ files. insert files name [])) (Drafts answer name text)
    (λ files steps once. (each_once result (IsDraft name text) (λ fs. insert fs name []) files steps (draft_by name text [] text files files refl (λ other apart. refl)) once, nothing_ok answer _ failed)) changes

grown_rest : (written piece left text : List ℕ) (n : ℕ) → written ++ (piece ++ left) ≡ text → (written ++ take n piece) ++ (drop n piece ++ left) ≡ text
grown_rest written piece left text n is =
    let parts : (written ++ take n piece) ++ (drop n piece ++ left) ≡ written ++ ((take n piece ++ drop n piece) ++ left) = simp append_assoc in
    parts ∙ ap (λ p. written ++ (p ++ left)) (take-append-drop n piece) ∙ is

-- a piece goes to the file byte by byte
growing : (name text written piece left : List ℕ) (files : Files) (n : ℕ) → get files name ≡ Some written → written ++ (piece ++ left) ≡ text → Each (IsDraft name text) files (growth files name piece n)
growing name text written piece left files zero held is =
    let has : bytes_at files name ≡ written = ap (λ o. unwrap_or o []) held in
    (draft_by name text (bytes_at files name ++ take 0 piece) (drop 0 piece ++ left) files files (grown_rest (bytes_at files name) piece left text 0 (ap (λ b. b ++ (piece ++ left)) has ∙ is)) (λ other apart. refl), tt)
growing name text written piece left files (suc n) held is =
    let has : bytes_at files name ≡ written = ap (λ o. unwrap_or o []) held in
    let before = last_of files (growth files name piece n) in
    let last : before ≡ grown files name piece n = last_of-growth files name piece n in
    each-append (IsDraft name text) files (growth files name piece n) (grown files name piece (suc n) ∷ []) (growing name text written piece left files n held is) (
      draft_by name text (bytes_at files name ++ take (suc n) piece) (drop (suc n) piece ++ left) before files (grown_rest (bytes_at files name) piece left text (suc n) (ap (λ b. b ++ (piece ++ left)) has ∙ is))
          (λ other apart. ap (λ fs. get fs other) last ∙ get-insert_other files name (bytes_at files name ++ take n piece) other apart),
      tt,
    )

-- so the drafts go on
pub goes_on : {T E : Type 0} (result : Result T E) (name text written piece left : List ℕ) (files : Files) (steps : List Files) → get files name ≡ Some written → written ++ (piece ++ left) ≡ text → Appends result name piece files steps → Each (IsDraft name text) files steps
goes_on (Ok x) name text written piece left files steps held is appends = subst (Each (IsDraft name text) files) (sym appends.0) (growing name text written piece left files (length piece) held is)
goes_on (Err e) name text written piece left files steps held is appends = elim appends.1 [
  | inl none ↦ subst (Each (IsDraft name text) files) (sym none) tt
  | inr some ↦ subst (Each (IsDraft name text) files) (sym some.2) (growing name text written piece left files some.0 held is)
]

got : {T E : Type 0} (result : Result T E) (x : T) (name written piece : List ℕ) (files : Files) (steps : List Files) → result ≡ Ok x → get files name ≡ Some written → Appends result name piece files steps → get (last_of files steps) name ≡ Some (written ++ piece)
got result x name written piece files steps ok held appends =
    let has : bytes_at files name ≡ written = ap (λ o. unwrap_or o []) held in
    let all : steps ≡ growth files name piece (length piece) = (rw ok at appends).0 in
    ap (λ s. get (last_of files s) name) all
    ∙ ap (λ fs. get fs name) (last_of-growth files name piece (length piece))
    ∙ get-insert_same files name (bytes_at files name ++ take (length piece) piece)
    ∙ ap (λ b. Some (b ++ take (length piece) piece)) has
    ∙ ap (λ p. Some (written ++ p)) (take-length piece)

-- one more piece
pub piece_more : {T E : Type 0} (first before now : Told) (result : Result T E) (x : T) (name text piece left after : List ℕ) → result ≡ Ok x → after ≡ left → before.busy ≡ first.busy →
    Changes first before (Drafted name text (piece ++ left)) → Changes before now (Appends result name piece) → Changes first now (Drafted name text after)
piece_more first before now result x name text piece left after ok is busy so_far appends =
    changes_then first before now (Drafted name text (piece ++ left)) (Appends result name piece) (Drafted name text after) busy so_far appends
    (λ files steps more past step. (
      each-append (IsDraft name text) files steps more past.0 (goes_on result name text past.1.0 piece left (last_of files steps) more past.1.1 past.1.2 step),
      (
        past.1.0 ++ piece,
        ap (λ fs. get fs name) (last_of-append files steps more) ∙ got result x name past.1.0 piece (last_of files steps) more ok past.1.1 step,
        append_assoc past.1.0 piece after ∙ ap (λ l. past.1.0 ++ (piece ++ l)) is ∙ past.1.2,
      ),
    ))

-- or that failed
pub piece_failed : {T E U V : Type 0} (first before now : Told) (result : Result T E) (answer : Result U V) (name text piece left : List ℕ) → IsErr answer → before.busy ≡ first.busy →
    Changes first before (Drafted name text (piece ++ left)) → Changes before now (Appends result name piece) → Changes first now (Drafts answer name text)
piece_failed first before now result answer name text piece left failed busy so_far appends =
    changes_then first before now (Drafted name text (piece ++ left)) (Appends result name piece) (Drafts answer name text) busy so_far appends
    (λ files steps more past step. (
      each-append (IsDraft name text) files steps more past.0 (goes_on result name text past.1.0 piece left (last_of files steps) more past.1.1 past.1.2 step),
      nothing_ok answer _ failed,
    ))

-- and in the end all is written
pub all_written : (first now : Told) (name text left : List ℕ) → left ≡ [] → Changes first now (Drafted name text left) →
    Changes first now (λ files steps. Each (IsDraft name text) files steps × (get (last_of files steps) name ≡ Some text))
all_written first now name text left none = changes_weaker first now (Drafted name text left) (λ files steps. Each (IsDraft name text) files steps × (get (last_of files steps) name ≡ Some text))
    (λ files steps past. (past.0, past.1.1 ∙ ap Some (sym (append-nil past.1.0) ∙ ap (λ l. past.1.0 ++ l) (sym none) ∙ past.1.2)))

-- a window that was filled anew
pub refilled : (new old left text : List ℕ) → old ≡ [] → new ++ left ≡ old ++ text → new ++ left ≡ text
refilled new old left text none moved = rw none at moved

pub over_when_empty : (items left : List ℕ) → (length items < 8192 → left ≡ []) → items ≡ [] → left ≡ []
over_when_empty items left all none = all (omega (arith, ap length none))

pub both_empty : (items left : List ℕ) → items ≡ [] → left ≡ [] → items ++ left ≡ []
both_empty items left none last = rw (none, last) refl
