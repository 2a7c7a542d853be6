-- Children that begin and end, in what a host tells.
use Rattle.std.proofs.Common.{◌≡◌, ◌∙◌, sym, ap, refl, subst, ℕ, List, [], ◌∷◌, ◌++◌, Bool, true, false, Option, Some, None, Result, Ok, Err, reverse, length, filter, cond, not, nat_eq, ◌⊎◌, inl, inr, OnOk, OnErr, IfOk, IsOk, IsErr, arith, ◌≤◌, ◌<◌, ◌+◌, eq-eqb, zero-add}
use Rattle.std.proofs.lemmas.Bool.{ne_eqb}
use Rattle.std.proofs.lemmas.List.{append-nil, map-append}
use Rattle.lama_host.specs.declared.children.ChildEnd.{ChildEnd}
use Rattle.lama_host.specs.declared.children.Limits.{Limits}
use Rattle.lama_host.specs.Folder.{Files, Left, Started, Rose}
use Rattle.lama_host.specs.Host.{Starts, Waits, held_at_start}
use Rattle.host_mem.specs.Journal.{Write, written_by, holds, moments_of, left_of, seen_by, started_from, told_by}
use Rattle.host_mem.specs.Memory.{slots}
use Rattle.host_mem.specs.Outcomes.{Logged, HasBegun, answer_unless, is_nil}
use Rattle.host_mem.specs.declared.children.Script.{Script}
use Rattle.host_mem.specs.declared.children.Start.{Start}
use Rattle.host_mem.specs.declared.children.Running.{Running}
use Rattle.host_mem.specs.declared.journal.Change.{Change}
use Rattle.host_mem.specs.declared.journal.Change.TheVariants.{Began, Ended}
use Rattle.host_mem.proofs.JournalSteps.{newest, lengthens, made_or_not}

started_next : (n : ℕ) (seen seen' : ℕ → Option Files) (starts : List Start) (start : Start) →
    ((k : ℕ) → k < n + length starts → seen' k ≡ seen k) →
    started_from n seen' (starts ++ start ∷ [])
    ≡ started_from n seen starts ++ record { words = start.words; input = start.input; limits = start.limits; held = seen' (n + length starts) } ∷ []
started_next n seen seen' [] start same =
    let e : n ≡ n + length {A = Start} [] = omega arith in
    ap (λ k. record { words = start.words; input = start.input; limits = start.limits; held = seen' k } ∷ []) e
started_next n seen seen' (first ∷ more) start same =
    let here : seen' n ≡ seen n = same n (omega arith) in
    let e : n + 1 + length more ≡ n + length (first ∷ more) = omega arith in
    let rest = started_next (n + 1) seen seen' more start (λ k lt. same k (omega arith)) in
    ap (λ held. record { words = first.words; input = first.input; limits = first.limits; held = held } ∷ started_from (n + 1) seen' (more ++ start ∷ [])) here
    ∙ ap (λ ss. record { words = first.words; input = first.input; limits = first.limits; held = seen n } ∷ ss) (rest ∙ ap (λ k. started_from (n + 1) seen more ++ record { words = start.words; input = start.input; limits = start.limits; held = seen' k } ∷ []) e)

other_start : (n k : ℕ) → k < n → nat_eq n k ≡ false
other_start n k lt = ne_eqb n k (λ e. (let f : n ≡ k = e in omega arith))

seen_earlier : (first : Files) (log : List Change) (n : ℕ) (idle : Bool) (k : ℕ) → k < n → seen_by first (Began n idle ∷ log) k ≡ seen_by first log k
seen_earlier first log n idle k lt = rw (other_start n k lt) refl

seen_now : (first : Files) (log : List Change) (running : List Running) (n : ℕ) → seen_by first (Began n (is_nil running) ∷ log) n ≡ held_at_start (slots running) (Some (holds first log))
seen_now first log [] n = rw (eq-eqb n n refl) refl
seen_now first log (child ∷ more) n = rw (eq-eqb n n refl) refl

same_started : (x y : List Started) → Some x ≡ Some y → x ≡ y
same_started x y e = cc

same_left : (x y : List Left) → Some x ≡ Some y → x ≡ y
same_left x y e = cc

started_told : (first : Files) (log : List Change) (running : List Running) (starts : List Start) (start : Start) →
    started_from 0 (seen_by first (Began (length starts) (is_nil running) ∷ log)) (starts ++ start ∷ [])
    ≡ started_from 0 (seen_by first log) starts ++ record { words = start.words; input = start.input; limits = start.limits; held = held_at_start (slots running) (Some (holds first log)) } ∷ []
started_told first log running starts start =
    started_next 0 (seen_by first log) (seen_by first (Began (length starts) (is_nil running) ∷ log)) starts start (λ k lt. seen_earlier first log (length starts) (is_nil running) k (omega arith))
    ∙ ap (λ held. started_from 0 (seen_by first log) starts ++ record { words = start.words; input = start.input; limits = start.limits; held = held } ∷ [])
    (ap (seen_by first (Began (length starts) (is_nil running) ∷ log)) (zero-add (length starts)) ∙ seen_now first log running (length starts))

-- what was copied is what is kept
pub kept_start : {T E F : Type 0} (result : Result T E) (start : Result Start F) (is : Start) (old now : List Start) →
    OnOk result (IfOk start (λ it. now ≡ old ++ it ∷ [])) → OnOk result (IsOk start) → IfOk start (λ it. it ≡ is) → OnOk result (now ≡ old ++ is ∷ [])
kept_start (Err e) start is old now kept copied copy = tt
kept_start (Ok x) (Ok it) is old now kept copied copy = kept ∙ ap (λ s. old ++ s ∷ []) copy
kept_start {F = F} (Ok x) (Err e) is old now kept copied copy = let k : IsOk {T = Start} {E = F} (Err e) = copied in cc

-- a start that succeeded or not
pub start_told : {T E : Type 0} (result : Result T E) (first : Files) (old new : List Change) (f f' : ℕ) (running running' : List Running) (starts starts' : List Start)
    (slot : ℕ) (script : Script) (words : List (List ℕ)) (input : List ℕ) (limits : Limits) →
    f ≤ f' → OnErr result (Rose f f') → OnOk result (HasBegun running running' slot script starts old new) →
    OnOk result (starts' ≡ starts ++ record { words = words; input = input; limits = limits } ∷ []) →
    OnErr result (new ≡ old) → OnErr result (running' ≡ running) → OnErr result (starts' ≡ starts) →
    Starts (told_by first (reverse old) f (slots running) starts) (told_by first (reverse new) f' (slots running') starts') slot words input limits result
start_told (Ok x) first old new f f' running running' starts starts' slot script words input limits later failed begun kept same_log same_running same_starts =
    let log : reverse new ≡ Began (length starts) (is_nil running) ∷ reverse old = ap reverse begun.began ∙ newest old (Began (length starts) (is_nil running)) in
    record {
      later = later;
      failed = tt;
      tells = refl;
      moments = ap (λ cs. Some (moments_of first cs)) log ∙ ap Some (append-nil (moments_of first (reverse old)));
      left = ap (λ cs. Some (left_of first cs)) log;
      busy = ap slots begun.running ∙ map-append (λ child. child.slot) running (record { slot = slot; script = script } ∷ []);
      started = λ past told.
          ap (λ ss. Some (started_from 0 (seen_by first (reverse new)) ss)) kept
          ∙ ap (λ cs. Some (started_from 0 (seen_by first cs) (starts ++ record { words = words; input = input; limits = limits } ∷ []))) log
          ∙ ap Some (started_told first (reverse old) running starts (record { words = words; input = input; limits = limits }))
          ∙ ap (λ p. Some (p ++ record { words = words; input = input; limits = limits; held = held_at_start (slots running) (Some (holds first (reverse old))) } ∷ [])) (same_started _ _ told);
      tells_started = refl;
      nothing = tt;
    }
start_told (Err e) first old new f f' running running' starts starts' slot script words input limits later failed begun kept same_log same_running same_starts =
    rw (same_log, same_running, same_starts) (record {
      later = later;
      failed = failed;
      tells = refl;
      moments = refl;
      left = refl;
      busy = tt;
      started = λ past told. tt;
      tells_started = refl;
      nothing = refl;
    })

slots-freed : (slot : ℕ) (running : List Running) → slots (filter (λ child. not (nat_eq child.slot slot)) running) ≡ filter (λ s. not (nat_eq s slot)) (slots running)
slots-freed slot [] = refl
slots-freed slot (child ∷ more) = kept (not (nat_eq child.slot slot)) (slots-freed slot more)
  where
    kept : (b : Bool) → slots (filter (λ c. not (nat_eq c.slot slot)) more) ≡ filter (λ s. not (nat_eq s slot)) (slots more) →
        slots (cond b (child ∷ filter (λ c. not (nat_eq c.slot slot)) more) (filter (λ c. not (nat_eq c.slot slot)) more)) ≡ cond b (child.slot ∷ filter (λ s. not (nat_eq s slot)) (slots more)) (filter (λ s. not (nat_eq s slot)) (slots more))
    kept true e = ap (λ ss. child.slot ∷ ss) e
    kept false e = e

-- a wait answers as its entry in the journal was made
pub waited : {T E : Type 0} {F : Type 0} (done : Result T F) (result : Result ChildEnd E) (end : ChildEnd) (fault : Option Bool) (r r' : ℕ) (old new : List Change) (change : Change) →
    OnOk done (result ≡ Ok end) → OnErr done (IsErr result) → Logged fault done r r' old new change → Logged fault result r r' old new change
waited (Ok x) result end fault r r' old new change ok err logged =
    subst (λ it. Logged fault it r r' old new change) (sym ok) (record { made = logged.made; before = logged.before; after = logged.after; refusal = λ e. tt })
waited {E = E} (Err e) (Ok end') end fault r r' old new change ok err logged = let k : IsErr {T = ChildEnd} {E = E} (Ok end') = err in cc
waited (Err e) (Err e') end fault r r' old new change ok err logged = record { made = tt; before = logged.before; after = logged.after; refusal = logged.refusal }

-- a wait that answered or not
pub wait_told : {E : Type 0} (result : Result ChildEnd E) (first : Files) (old new : List Change) (f f' : ℕ) (running running' : List Running) (starts : List Start)
    (slot : ℕ) (writes : List Write) (end : ChildEnd) (fault : Option Bool) (r r' : ℕ) →
    f ≤ f' → OnErr result (Rose f f') → running' ≡ filter (λ child. not (nat_eq child.slot slot)) running →
    IfOk result (λ it. it ≡ end) → Logged fault result r r' old new (Ended writes (answer_unless fault end)) →
    Waits (told_by first (reverse old) f (slots running) starts) (told_by first (reverse new) f' (slots running') starts) slot result
wait_told {E = E} result first old new f f' running running' starts slot writes end fault r r' later failed freed answered logged = record {
  later = later;
  failed = failed;
  tells = refl;
  moments = lengthens first old new _ f f' (slots running) (slots running') starts starts either;
  busy = ap slots freed ∙ slots-freed slot running;
  started = started_is either;
  tells_left = refl;
  left = left_is result fault answered logged;
  none = none_is result fault logged;
}
  where
    either : (new ≡ old) ⊎ (new ≡ old ++ Ended writes (answer_unless fault end) ∷ [])
    either = made_or_not fault result r r' old new (Ended writes (answer_unless fault end)) logged

    started_is : (new ≡ old) ⊎ (new ≡ old ++ Ended writes (answer_unless fault end) ∷ []) → Some (started_from 0 (seen_by first (reverse new)) starts) ≡ Some (started_from 0 (seen_by first (reverse old)) starts)
    started_is (inl none) = ap (λ cs. Some (started_from 0 (seen_by first (reverse cs)) starts)) none
    started_is (inr done) = ap (λ cs. Some (started_from 0 (seen_by first (reverse cs)) starts)) done ∙ ap (λ cs. Some (started_from 0 (seen_by first cs) starts)) (newest old (Ended writes (answer_unless fault end)))

    left_is : (result : Result ChildEnd E) (fault : Option Bool) → IfOk result (λ it. it ≡ end) → Logged fault result r r' old new (Ended writes (answer_unless fault end)) →
        (past : List Left) → Some (left_of first (reverse old)) ≡ Some past → IfOk result (λ it.
        (held : Files) × (Some (left_of first (reverse new)) ≡ Some (past ++ record { end = it; held = held } ∷ [])) × ((files : Files) → Some (holds first (reverse new)) ≡ Some files → files ≡ held))
    left_is (Err e) fault answered logged past told = tt
    left_is (Ok it) fault answered logged past told =
        let log : reverse new ≡ Ended writes (Some end) ∷ reverse old = ap reverse logged.made.1 ∙ newest old (Ended writes (answer_unless fault end)) ∙ ap (λ f. Ended writes (answer_unless f end) ∷ reverse old) logged.made.0 in (
          written_by writes (holds first (reverse old)),
          ap (λ cs. Some (left_of first cs)) log
              ∙ ap (λ p. Some (p ++ record { end = end; held = written_by writes (holds first (reverse old)) } ∷ [])) (same_left _ _ told)
              ∙ ap (λ x. Some (past ++ record { end = x; held = written_by writes (holds first (reverse old)) } ∷ [])) (sym answered),
          λ files held. (let same : holds first (reverse new) ≡ files = cc in sym same ∙ ap (holds first) log),
        )

    none_is : (result : Result ChildEnd E) (fault : Option Bool) → Logged fault result r r' old new (Ended writes (answer_unless fault end)) →
        OnErr result (Some (left_of first (reverse new)) ≡ Some (left_of first (reverse old)))
    none_is (Ok it) fault logged = tt
    none_is (Err e) None logged = ap (λ cs. Some (left_of first (reverse cs))) (logged.refusal refl)
    none_is (Err e) (Some false) logged = ap (λ cs. Some (left_of first (reverse cs))) (logged.before refl)
    none_is (Err e) (Some true) logged =
        elim (logged.after refl) [
          | inl done ↦ ap (λ cs. Some (left_of first (reverse cs))) done ∙ ap (λ cs. Some (left_of first cs)) (newest old (Ended writes None))
          | inr none ↦ ap (λ cs. Some (left_of first (reverse cs))) none.0
        ]

-- what the folder holds after a wait that answered
pub wait_leaves : {T E : Type 0} (fault : Option Bool) (result : Result T E) (r r' : ℕ) (first : Files) (old new : List Change) (writes : List Write) (end : Option ChildEnd) →
    Logged fault result r r' old new (Ended writes end) → OnOk result (holds first (reverse new) ≡ written_by writes (holds first (reverse old)))
wait_leaves fault (Err e) r r' first old new writes end logged = tt
wait_leaves fault (Ok x) r r' first old new writes end logged = ap (λ cs. holds first (reverse cs)) logged.made.1 ∙ ap (holds first) (newest old (Ended writes end))

pub answered_by : {E F T : Type 0} (done : Result T F) (result : Result ChildEnd E) (end : ChildEnd) → OnOk done (result ≡ Ok end) → OnErr done (IsErr result) → IfOk result (λ it. it ≡ end)
answered_by (Ok x) (Ok it) end ok err = cc
answered_by (Ok x) (Err e) end ok err = tt
answered_by {E = E} (Err e) (Ok it) end ok err = let k : IsErr {T = ChildEnd} {E = E} (Ok it) = err in cc
answered_by (Err e) (Err e') end ok err = tt

pub failed_by : {E F T : Type 0} (P : Type 0) (done : Result T F) (result : Result ChildEnd E) (end : ChildEnd) → OnOk done (result ≡ Ok end) → OnErr done P → OnErr result P
failed_by P done (Ok it) end ok failed = tt
failed_by P (Err e) (Err e') end ok failed = failed
failed_by {E = E} P (Ok x) (Err e) end ok failed = let k : Err e ≡ Ok end = ok in cc
