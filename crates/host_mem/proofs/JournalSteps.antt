-- A change in the journal as steps of the folder.
use Rattle.std.proofs.Common.{◌≡◌, ◌∙◌, sym, ap, refl, subst, ℕ, List, [], ◌∷◌, ◌++◌, Bool, true, false, Option, Some, None, Result, Ok, Err, reverse, take, length, ◌⊎◌, inl, inr, OnErr, IsSome, unwrap_or, arith, ◌≤◌, ◌/◌}
use Rattle.std.proofs.lemmas.List.{reverse-append, append-nil}
use Rattle.std.specs.FinMap.{get, insert, remove}
use Rattle.lama_host.specs.Folder.{Told, Files, Keeps, Lengthens, Passes, Changes, Once, Appends, Rose, last_of, growth, bytes_at, renamed}
use Rattle.lama_host.proofs.AppendLaws.{last_of-growth}
use Rattle.host_mem.specs.Journal.{Write, put_by, written_by, writing, after, holds, steps_of, moments_of, left_of, seen_by, started_from, told_by}
use Rattle.host_mem.specs.Outcomes.{Logged, Effect, Goes, share_of}
use Rattle.host_mem.specs.declared.children.Start.{Start}
use Rattle.host_mem.specs.declared.journal.Change.{Change}
use Rattle.lama_host.proofs.FileLaws.{same_files}

same_past : (x y : List Files) → Some x ≡ Some y → x ≡ y
same_past x y e = cc

pub newest : (old : List Change) (change : Change) → reverse (old ++ change ∷ []) ≡ change ∷ reverse old
newest old change = reverse-append old (change ∷ [])

pub last_of-writing : (writes : List Write) (files : Files) → last_of files (writing writes files) ≡ written_by writes files
last_of-writing [] files = refl
last_of-writing (write ∷ more) files = last_of-writing more (put_by write files)

-- a change that was made
pub added : (first : Files) (old : List Change) (change : Change) (f f' : ℕ) (busy busy' : List ℕ) (starts starts' : List Start) (files : Files) → holds first (reverse old) ≡ files →
    last_of files (steps_of change files) ≡ after change files →
    Passes (told_by first (reverse old) f busy starts) (told_by first (reverse (old ++ change ∷ [])) f' busy' starts') files (steps_of change files)
added first old change f f' busy busy' starts starts' files is last =
    record {
      content = ap (λ cs. Some (holds first cs)) (newest old change) ∙ ap (λ fs. Some (after change fs)) is ∙ ap Some (sym last);
      moments = λ past told. ap (λ cs. Some (moments_of first cs)) (newest old change)
          ∙ ap (λ fs. Some (moments_of first (reverse old) ++ steps_of change fs)) is
          ∙ ap (λ ms. Some (ms ++ steps_of change files)) (same_past _ _ told);
    }

-- no change
pub still : (first : Files) (old : List Change) (f f' : ℕ) (busy busy' : List ℕ) (starts starts' : List Start) (files : Files) → holds first (reverse old) ≡ files →
    Passes (told_by first (reverse old) f busy starts) (told_by first (reverse old) f' busy' starts') files []
still first old f f' busy busy' starts starts' files is = record {
  content = ap Some is;
  moments = λ past told. told ∙ ap Some (sym (append-nil past));
}

-- the steps of a change that is made or not
pub logged_effect : {T E : Type 0} (fault : Option Bool) (result : Result T E) (r r' : ℕ) (first : Files) (old new : List Change) (change : Change) (f f' : ℕ) (busy busy' : List ℕ) (starts starts' : List Start) (all left : Files → List Files) →
    ((files : Files) → holds first (reverse old) ≡ files → last_of files (steps_of change files) ≡ after change files) →
    ((files : Files) → fault ≡ None → holds first (reverse old) ≡ files → steps_of change files ≡ all files) →
    ((files : Files) → fault ≡ Some true → holds first (reverse old) ≡ files → steps_of change files ≡ left files) →
    Logged fault result r r' old new change →
    Goes (told_by first (reverse old) f busy starts) (told_by first (reverse new) f' busy' starts') (λ files steps. Effect fault result r r' (all files) (left files) steps)
logged_effect None (Ok x) r r' first old new change f f' busy busy' starts starts' all left last full cut logged files held =
    let is = same_files _ _ held in (
      steps_of change files,
      record { made = (refl, full files refl is); before = λ e. cc; after = λ e. cc; refusal = λ e. tt },
      rw logged.made.1 (added first old change f f' busy busy' starts starts' files is (last files is)),
    )
logged_effect None (Err e) r r' first old new change f f' busy busy' starts starts' all left last full cut logged files held =
    ([], record { made = tt; before = λ e. refl; after = λ e. cc; refusal = λ e. refl }, rw (logged.refusal refl) (still first old f f' busy busy' starts starts' files (same_files _ _ held)))
logged_effect (Some false) (Ok x) r r' first old new change f f' busy busy' starts starts' all left last full cut logged files held =
    let k : Some false ≡ None = logged.made.0 in cc
logged_effect (Some false) (Err e) r r' first old new change f f' busy busy' starts starts' all left last full cut logged files held =
    ([], record { made = tt; before = λ e. refl; after = λ e. cc; refusal = λ e. refl }, rw (logged.before refl) (still first old f f' busy busy' starts starts' files (same_files _ _ held)))
logged_effect (Some true) (Ok x) r r' first old new change f f' busy busy' starts starts' all left last full cut logged files held =
    let k : Some true ≡ None = logged.made.0 in cc
logged_effect (Some true) (Err e) r r' first old new change f f' busy busy' starts starts' all left last full cut logged files held =
    let is = same_files _ _ held in
    elim (logged.after refl) [
      | inl done ↦ (
        steps_of change files,
        record { made = tt; before = λ e. cc; after = λ e. inl (cut files refl is); refusal = λ e. cc },
        rw done (added first old change f f' busy busy' starts starts' files is (last files is)),
      )
      | inr none ↦ ([], record { made = tt; before = λ e. refl; after = λ e. inr (refl, none.1); refusal = λ e. refl }, rw none.0 (still first old f f' busy busy' starts starts' files is))
    ]

-- the change was made or not
pub made_or_not : {T E : Type 0} (fault : Option Bool) (result : Result T E) (r r' : ℕ) (old new : List Change) (change : Change) → Logged fault result r r' old new change → (new ≡ old) ⊎ (new ≡ old ++ change ∷ [])
made_or_not fault (Ok x) r r' old new change logged = inr logged.made.1
made_or_not None (Err e) r r' old new change logged = inl (logged.refusal refl)
made_or_not (Some false) (Err e) r r' old new change logged = inl (logged.before refl)
made_or_not (Some true) (Err e) r r' old new change logged = elim (logged.after refl) [ inl done ↦ inr done | inr none ↦ inl none.0 ]

-- moments are added at the end
pub lengthens : (first : Files) (old new : List Change) (change : Change) (f f' : ℕ) (busy busy' : List ℕ) (starts starts' : List Start) → (new ≡ old) ⊎ (new ≡ old ++ change ∷ []) →
    Lengthens (told_by first (reverse old) f busy starts).moments (told_by first (reverse new) f' busy' starts').moments
lengthens first old new change f f' busy busy' starts starts' (inl none) = record {
  tells = refl;
  grows = λ past told. ([], ap (λ cs. Some (moments_of first (reverse cs))) none ∙ told ∙ ap Some (sym (append-nil past)));
}
lengthens first old new change f f' busy busy' starts starts' (inr done) = record {
  tells = refl;
  grows = λ past told. (
    steps_of change (holds first (reverse old)),
    ap (λ cs. Some (moments_of first (reverse cs))) done ∙ ap (λ cs. Some (moments_of first cs)) (newest old change)
        ∙ ap (λ ms. Some (ms ++ steps_of change (holds first (reverse old)))) (same_past _ _ told),
  );
}

-- what a call on files keeps
pub logged_keeps : {T E : Type 0} (fault : Option Bool) (result : Result T E) (r r' : ℕ) (first : Files) (old new : List Change) (change : Change) (f f' : ℕ) (busy : List ℕ) (starts : List Start) →
    (left_of first (change ∷ reverse old) ≡ left_of first (reverse old)) →
    (seen_by first (change ∷ reverse old) ≡ seen_by first (reverse old)) →
    f ≤ f' → OnErr result (Rose f f') → Logged fault result r r' old new change →
    Keeps (told_by first (reverse old) f busy starts) (told_by first (reverse new) f' busy starts) result
logged_keeps fault result r r' first old new change f f' busy starts same_left same_seen later failed logged = record {
  later = later;
  failed = failed;
  content = refl;
  moments = lengthens first old new change f f' busy busy starts starts change_is;
  busy = refl;
  left = left_is change_is;
  started = started_is change_is;
}
  where
    change_is : (new ≡ old) ⊎ (new ≡ old ++ change ∷ [])
    change_is = made_or_not fault result r r' old new change logged

    left_is : (new ≡ old) ⊎ (new ≡ old ++ change ∷ []) → Some (left_of first (reverse new)) ≡ Some (left_of first (reverse old))
    left_is (inl none) = ap (λ cs. Some (left_of first (reverse cs))) none
    left_is (inr done) = ap (λ cs. Some (left_of first (reverse cs))) done ∙ ap (λ cs. Some (left_of first cs)) (newest old change) ∙ ap Some same_left

    started_is : (new ≡ old) ⊎ (new ≡ old ++ change ∷ []) → Some (started_from 0 (seen_by first (reverse new)) starts) ≡ Some (started_from 0 (seen_by first (reverse old)) starts)
    started_is (inl none) = ap (λ cs. Some (started_from 0 (seen_by first (reverse cs)) starts)) none
    started_is (inr done) = ap (λ cs. Some (started_from 0 (seen_by first (reverse cs)) starts)) done ∙ ap (λ cs. Some (started_from 0 (seen_by first cs) starts)) (newest old change) ∙ ap (λ seen. Some (started_from 0 seen starts)) same_seen

-- the same, where the fault is one that was asked for
pub effect_asked : {T E : Type 0} (asked fault : Option Bool) (result : Result T E) (r r' : ℕ) (first : Files) (old new : List Change) (change : Change) (f f' : ℕ) (busy busy' : List ℕ) (starts starts' : List Start) (all left : Files → List Files) →
    asked ≡ fault →
    ((files : Files) → holds first (reverse old) ≡ files → last_of files (steps_of change files) ≡ after change files) →
    ((files : Files) → asked ≡ None → holds first (reverse old) ≡ files → steps_of change files ≡ all files) →
    ((files : Files) → asked ≡ Some true → holds first (reverse old) ≡ files → steps_of change files ≡ left files) →
    Logged asked result r r' old new change →
    Goes (told_by first (reverse old) f busy starts) (told_by first (reverse new) f' busy' starts') (λ files steps. Effect fault result r r' (all files) (left files) steps)
effect_asked asked fault result r r' first old new change f f' busy busy' starts starts' all left e last full cut logged =
    subst (λ it. Goes (told_by first (reverse old) f busy starts) (told_by first (reverse new) f' busy' starts') (λ files steps. Effect it result r r' (all files) (left files) steps)) e
    (logged_effect asked result r r' first old new change f f' busy busy' starts starts' all left last full cut logged)

once_of : {T E : Type 0} (fault : Option Bool) (result : Result T E) (r r' : ℕ) (after : Files → Files) (files : Files) (steps : List Files) → Effect fault result r r' (after files ∷ []) (after files ∷ []) steps → Once result after files steps
once_of fault (Ok x) r r' after files steps effect = (effect.made.1, tt)
once_of None (Err e) r r' after files steps effect = (tt, inl (effect.refusal refl))
once_of (Some false) (Err e) r r' after files steps effect = (tt, inl (effect.before refl))
once_of (Some true) (Err e) r r' after files steps effect = (tt, elim (effect.after refl) [ inl done ↦ inr done | inr none ↦ inl none.0 ])

-- a change of one step, as every folder says it
pub changes_once : {T E : Type 0} (fault : Option Bool) (result : Result T E) (r r' : ℕ) (before now : Told) (after : Files → Files) →
    Goes before now (λ files steps. Effect fault result r r' (after files ∷ []) (after files ∷ []) steps) → Changes before now (Once result after)
changes_once fault result r r' before now after goes files idle held =
    let went = goes files held in
    (went.0, once_of fault result r r' after files went.0 went.1, went.2)

appends_of : {T E : Type 0} (fault : Option Bool) (result : Result T E) (r r' : ℕ) (name piece : List ℕ) (files : Files) (steps : List Files) →
    Effect fault result r r' (growth files name piece (length piece)) (growth files name piece (length piece / 2)) steps → Appends result name piece files steps
appends_of fault (Ok x) r r' name piece files steps effect = (effect.made.1, tt)
appends_of None (Err e) r r' name piece files steps effect = (tt, inl (effect.refusal refl))
appends_of (Some false) (Err e) r r' name piece files steps effect = (tt, inl (effect.before refl))
appends_of (Some true) (Err e) r r' name piece files steps effect = (tt, elim (effect.after refl) [ inl done ↦ inr (length piece / 2, omega arith, done) | inr none ↦ inl none.0 ])

-- a piece at a file's end, as every folder says it
pub changes_append : {T E : Type 0} (fault : Option Bool) (result : Result T E) (r r' : ℕ) (before now : Told) (name piece : List ℕ) →
    Goes before now (λ files steps. Effect fault result r r' (growth files name piece (length piece)) (growth files name piece (length piece / 2)) steps) → Changes before now (Appends result name piece)
changes_append fault result r r' before now name piece goes files idle held =
    let went = goes files held in
    (went.0, appends_of fault result r r' name piece files went.0 went.1, went.2)

-- the last step of a piece that was added
pub grew_last : (first : Files) (log : List Change) (name piece bytes : List ℕ) (count : ℕ) → bytes ≡ bytes_at (holds first log) name →
    (files : Files) → holds first log ≡ files → last_of files (growth files name piece count) ≡ insert files name (bytes ++ take count piece)
grew_last first log name piece bytes count is files same =
    last_of-growth files name piece count ∙ ap (λ old. insert files name (old ++ take count piece)) (ap (λ fs. bytes_at fs name) (sym same) ∙ sym is)

pub all_grew : (fault : Option Bool) (files : Files) (name piece : List ℕ) (count : ℕ) → count ≡ share_of fault (length piece) → fault ≡ None → growth files name piece count ≡ growth files name piece (length piece)
all_grew fault files name piece count is none = ap (growth files name piece) (is ∙ ap (λ f. share_of f (length piece)) none)

pub half_grew : (fault : Option Bool) (files : Files) (name piece : List ℕ) (count : ℕ) → count ≡ share_of fault (length piece) → fault ≡ Some true → growth files name piece count ≡ growth files name piece (length piece / 2)
half_grew fault files name piece count is some = ap (growth files name piece) (is ∙ ap (λ f. share_of f (length piece)) some)

there : (held : Option (List ℕ)) → IsSome held → held ≡ Some (unwrap_or held [])
there None h = let k : IsSome {T = List ℕ} None = h in cc
there (Some x) h = refl

renamed_is : (old new bytes : List ℕ) (files : Files) → get files old ≡ Some bytes → renamed old new files ≡ insert (remove files old) new bytes
renamed_is old new bytes files e = rw e refl

-- bytes that were moved
pub moved_is : (first : Files) (log : List Change) (old new bytes : List ℕ) → bytes ≡ bytes_at (holds first log) old → IsSome (get (holds first log) old) →
    (files : Files) → holds first log ≡ files → insert (remove files old) new bytes ∷ [] ≡ renamed old new files ∷ []
moved_is first log old new bytes is some files same =
    let held : get files old ≡ Some bytes = ap (λ fs. get fs old) (sym same) ∙ there _ some ∙ ap Some (sym is) in
    ap (λ fs. fs ∷ []) (sym (renamed_is old new bytes files held))
