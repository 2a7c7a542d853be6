-- What lines give is their text or their first fault, and nothing else is.
use Rattle.std.proofs.Common.{◌≡◌, ◌∙◌, sym, ap, refl, ◌++◌, ◌∷◌, [], List, length, Result, Ok, Err, Option, Some, None, ℕ, suc, ◌+◌, ◌<◌, inl, inr, subst, true, false, nat_eq, nat_le, arith}
use Rattle.std.proofs.lemmas.Bool.Decides.{nat_tests}
use Rattle.std.specs.Prelude.{IfOk}
use Rattle.lama_num.specs.Gives.{◌>>=◌, Gives}
use Rattle.text_lines.specs.Lines.{lines_of}
use Rattle.sas_reader.specs.Reading.{most_bytes}
use Rattle.sas_reader.specs.Formats.{Format, Done, Line, value_of}
use Rattle.sas_reader.specs.Walks.{walk, next_by, whole, parts_in, parts_of, task_of, fault_of}
use Rattle.sas_reader.specs.TaskText.{task}
use Rattle.sas_reader.specs.FirstFault.{after, Refuses, Faults, IsTextOf, IsFirstFaultOf, Reads, ExactlyOne}
use Rattle.sas_task.specs.declared.contents.Parts.{Parts}
use Rattle.sas_reader.specs.declared.faults.SasError.{SasError}
use Rattle.sas_reader.specs.declared.faults.SasError.TheVariants.{Bad}
use Rattle.sas_reader.specs.declared.faults.SasFault.{SasFault}
use Rattle.sas_reader.specs.declared.faults.SasFault.TheVariants.{CutShort, Trailing, TooLarge}
use Rattle.sas_task.specs.Refusals.{canonical_parts}
use Rattle.sas_task.proofs.TestLaws.{le-test, test-le}
use Rattle.sas_task.specs.declared.refusals.What.TheVariants.{Bytes}

-- the whole of lines, the first of which has that number
abbrev pub reading : {A : Type 0} → Format A → ℕ → List (List ℕ) → Result A SasFault
reading format n lines = walk format (record { left = lines; line = n }) >>= whole

same_fault : {A : Type 0} (x y : SasFault) → ◌≡◌ {A = Result A SasFault} (Err x) (Err y) → x ≡ y
same_fault x y e = cc

-- one more line in front
onward : {A : Type 0} (format later : Format A) (n : ℕ) (line : List ℕ) (lines : List (List ℕ)) (fault : SasFault) →
    ((front : List (List ℕ)) → after format n (line ∷ front) ≡ after later (n + 1) front) → Faults later (n + 1) lines fault → Faults format n (line ∷ lines) fault
onward format later n line lines fault step first = record {
  front = line ∷ first.front;
  others = first.others;
  split = ap (λ ls. line ∷ ls) first.split;
  wanted = first.wanted;
  before = step first.front ∙ first.before;
  here = let e : n + 1 + length first.front ≡ n + suc (length first.front) = omega arith in rw (← e) first.here;
}

-- the first line
at_once : {A : Type 0} (format : Format A) (n : ℕ) (lines : List (List ℕ)) (fault : SasFault) → Refuses format n lines fault → Faults format n lines fault
at_once format n lines fault refuses = record {
  front = [];
  others = lines;
  split = refl;
  wanted = format;
  before = refl;
  here = let e : n + 0 ≡ n = omega arith in rw e refuses;
}

trails : {A : Type 0} (x : A) (n : ℕ) (lines : List (List ℕ)) (fault : SasFault) → reading (Done x) n lines ≡ Err fault → Faults (Done x) n lines fault
trails {A} x n [] fault e = let k : ◌≡◌ {A = Result A SasFault} (Ok x) (Err fault) = e in cc
trails {A} x n (line ∷ lines) fault e =
    elim (nat_eq (length line) 0) as (λ t. nat_eq (length line) 0 ≡ t → Faults (Done x) n (line ∷ lines) fault) [
      | true ↦ λ empty. onward (Done x) (Done x) n line lines fault (λ front. rw empty refl) (trails x (n + 1) lines fault (rw empty at e))
      | false ↦ λ full. at_once (Done x) n (line ∷ lines) fault (let k : ◌≡◌ {A = Result A SasFault} (Err (Trailing n)) (Err fault) = rw full at e in (grind (arith, nat_tests, full), sym (same_fault _ _ k)))
    ] refl

-- what is refused is the first fault
first_fault : {A : Type 0} (format : Format A) (n : ℕ) (lines : List (List ℕ)) (fault : SasFault) → reading format n lines ≡ Err fault → Faults format n lines fault
unfolding next_by
first_fault (Done x) n lines fault e = trails x n lines fault e
first_fault {A} (Line kind later) n [] fault e = at_once (Line kind later) n [] fault (let k : ◌≡◌ {A = Result A SasFault} (Err (CutShort n)) (Err fault) = e in sym (same_fault _ _ k))
first_fault {A} (Line kind later) n (line ∷ lines) fault e =
    elim (value_of kind n line) as (λ r. value_of kind n line ≡ r → Faults (Line kind later) n (line ∷ lines) fault) [
      | Ok value ↦ λ ok. onward (Line kind later) (later value) n line lines fault (λ front. rw ok refl) (first_fault (later value) (n + 1) lines fault (rw ok at e))
      | Err g ↦ λ bad. at_once (Line kind later) n (line ∷ lines) fault (let k : ◌≡◌ {A = Result A SasFault} (Err g) (Err fault) = rw bad at e in rw (← same_fault _ _ k) bad)
    ] refl

trailing_done : {A : Type 0} (x : A) (n : ℕ) (lines : List (List ℕ)) (y : A) → reading (Done x) n lines ≡ Ok y → after (Done x) n lines ≡ Some (Done y)
trailing_done {A} x n [] y e = let k : ◌≡◌ {A = Result A SasFault} (Ok x) (Ok y) = e in let s : x ≡ y = cc in rw s refl
trailing_done {A} x n (line ∷ lines) y e =
    elim (nat_eq (length line) 0) as (λ t. nat_eq (length line) 0 ≡ t → after (Done x) n (line ∷ lines) ≡ Some (Done y)) [
      | true ↦ λ empty. rw empty (trailing_done x (n + 1) lines y (rw empty at e))
      | false ↦ λ full. let k : ◌≡◌ {A = Result A SasFault} (Err (Trailing n)) (Ok y) = rw full at e in cc
    ] refl

-- what is given is given by lines that are all wanted
text_of : {A : Type 0} (format : Format A) (n : ℕ) (lines : List (List ℕ)) (x : A) → reading format n lines ≡ Ok x → after format n lines ≡ Some (Done x)
unfolding next_by
text_of (Done x) n lines y e = trailing_done x n lines y e
text_of {A} (Line kind later) n [] y e = let k : ◌≡◌ {A = Result A SasFault} (Err (CutShort n)) (Ok y) = e in cc
text_of {A} (Line kind later) n (line ∷ lines) y e =
    elim (value_of kind n line) as (λ r. value_of kind n line ≡ r → after (Line kind later) n (line ∷ lines) ≡ Some (Done y)) [
      | Ok value ↦ λ ok. rw ok (text_of (later value) (n + 1) lines y (rw ok at e))
      | Err g ↦ λ bad. let k : ◌≡◌ {A = Result A SasFault} (Err g) (Ok y) = rw bad at e in cc
    ] refl

-- nothing else is

-- lines that are all wanted give it
given_of : {A : Type 0} (format : Format A) (n : ℕ) (lines : List (List ℕ)) (x : A) → after format n lines ≡ Some (Done x) → reading format n lines ≡ Ok x
unfolding next_by
given_of {A} (Done x) n [] y e = let k : ◌≡◌ {A = Option (Format A)} (Some (Done x)) (Some (Done y)) = e in let s : x ≡ y = cc in rw s refl
given_of {A} (Done x) n (line ∷ lines) y e =
    elim (nat_eq (length line) 0) as (λ t. nat_eq (length line) 0 ≡ t → reading (Done x) n (line ∷ lines) ≡ Ok y) [
      | true ↦ λ empty. rw empty (given_of (Done x) (n + 1) lines y (rw empty at e))
      | false ↦ λ full. let k : ◌≡◌ {A = Option (Format A)} None (Some (Done y)) = rw full at e in cc
    ] refl
given_of {A} (Line kind later) n [] y e = let k : ◌≡◌ {A = Option (Format A)} (Some (Line kind later)) (Some (Done y)) = e in cc
given_of {A} (Line kind later) n (line ∷ lines) y e =
    elim (value_of kind n line) as (λ r. value_of kind n line ≡ r → reading (Line kind later) n (line ∷ lines) ≡ Ok y) [
      | Ok value ↦ λ ok. rw ok (given_of (later value) (n + 1) lines y (rw ok at e))
      | Err g ↦ λ bad. let k : ◌≡◌ {A = Option (Format A)} None (Some (Done y)) = rw bad at e in cc
    ] refl

-- the first of lines is refused
refused_at_once : {A : Type 0} (format : Format A) (n : ℕ) (lines : List (List ℕ)) (fault : SasFault) → Refuses format n lines fault → reading format n lines ≡ Err fault
unfolding next_by
refused_at_once (Done x) n [] fault is = absurd is
refused_at_once (Done x) n (line ∷ lines) fault is = let some : 0 < length line = is.0 in let full : nat_eq (length line) 0 ≡ false = grind (arith, nat_tests, some) in rw (full, is.1) refl
refused_at_once (Line kind later) n [] fault is = rw is refl
refused_at_once (Line kind later) n (line ∷ lines) fault is = rw is refl

-- one behind lines that are wanted is
refused_behind : {A : Type 0} (format wanted : Format A) (n : ℕ) (front others : List (List ℕ)) (fault : SasFault) → after format n front ≡ Some wanted → Refuses wanted (n + length front) others fault → reading format n (front ++ others) ≡ Err fault
unfolding next_by
refused_behind {A} format wanted n [] others fault before is =
    let k : ◌≡◌ {A = Option (Format A)} (Some format) (Some wanted) = before in
    let same : format ≡ wanted = cc in
    let e : n + 0 ≡ n = omega arith in
    rw same (refused_at_once wanted n others fault (rw e at is))
refused_behind {A} (Done x) wanted n (line ∷ front) others fault before is =
    elim (nat_eq (length line) 0) as (λ t. nat_eq (length line) 0 ≡ t → reading (Done x) n (line ∷ (front ++ others)) ≡ Err fault) [
      | true ↦ λ empty. rw empty (refused_behind (Done x) wanted (n + 1) front others fault (rw empty at before) (one_later is))
      | false ↦ λ full. let k : ◌≡◌ {A = Option (Format A)} None (Some wanted) = rw full at before in cc
    ] refl
  where
    one_later : Refuses wanted (n + suc (length front)) others fault → Refuses wanted (n + 1 + length front) others fault
    one_later is = let e : n + suc (length front) ≡ n + 1 + length front = omega arith in rw e at is
refused_behind {A} (Line kind later) wanted n (line ∷ front) others fault before is =
    elim (value_of kind n line) as (λ r. value_of kind n line ≡ r → reading (Line kind later) n (line ∷ (front ++ others)) ≡ Err fault) [
      | Ok value ↦ λ ok. rw ok (refused_behind (later value) wanted (n + 1) front others fault (rw ok at before) (one_later is))
      | Err g ↦ λ bad. let k : ◌≡◌ {A = Option (Format A)} None (Some wanted) = rw bad at before in cc
    ] refl
  where
    one_later : Refuses wanted (n + suc (length front)) others fault → Refuses wanted (n + 1 + length front) others fault
    one_later is = let e : n + suc (length front) ≡ n + 1 + length front = omega arith in rw e at is

-- bytes

text_given : (bytes : List ℕ) (parts : Parts) → parts_of bytes ≡ Ok parts → IsTextOf bytes (canonical_parts parts)
unfolding parts_of parts_in
text_given bytes parts is = elim (nat_le (length bytes) most_bytes) as (λ t. nat_le (length bytes) most_bytes ≡ t → IsTextOf bytes (canonical_parts parts)) [
  | true ↦ λ e. record { within = le-test (length bytes) most_bytes e; given = parts; lines = text_of task 1 (lines_of bytes) parts (rw e at is); canonical_parts = refl }
  | false ↦ λ e. let c : ◌≡◌ {A = Result Parts SasFault} (Err (TooLarge Bytes (length bytes))) (Ok parts) = rw e at is in cc
] refl

fault_given : (bytes : List ℕ) (fault : SasFault) → parts_of bytes ≡ Err fault → IsFirstFaultOf bytes fault
unfolding parts_of parts_in
fault_given bytes fault is = elim (nat_le (length bytes) most_bytes) as (λ t. nat_le (length bytes) most_bytes ≡ t → IsFirstFaultOf bytes fault) [
  | true ↦ λ e. inr (le-test (length bytes) most_bytes e, first_fault task 1 (lines_of bytes) fault (rw e at is))
  | false ↦ λ e. inl (grind (arith, nat_tests, e), (let c : ◌≡◌ {A = Result Parts SasFault} (Err (TooLarge Bytes (length bytes))) (Err fault) = rw e at is in sym (same_fault _ _ c)))
] refl

-- what bytes give is what they are
pub reads : (bytes : List ℕ) → Reads bytes (task_of bytes)
unfolding task_of
reads bytes = elim (parts_of bytes) as (λ r. parts_of bytes ≡ r → Reads bytes (r >>= λ parts. Ok (canonical_parts parts))) [ Ok parts ↦ λ is. text_given bytes parts is | Err fault ↦ λ is. fault_given bytes fault is ] refl

-- and they are nothing else
reads_only : (bytes : List ℕ) (r : Result Parts SasFault) → Reads bytes r → r ≡ task_of bytes
unfolding task_of parts_of parts_in
reads_only bytes (Ok task_parts) is =
    let e : nat_le (length bytes) most_bytes ≡ true = test-le (length bytes) most_bytes is.within in
    rw (e, given_of task 1 (lines_of bytes) is.given is.lines, is.canonical_parts) refl
reads_only bytes (Err fault) (inl is) = let long : most_bytes < length bytes = is.0 in let e : nat_le (length bytes) most_bytes ≡ false = grind (arith, nat_tests, long) in rw (e, is.1) refl
reads_only bytes (Err fault) (inr is) =
    let e : nat_le (length bytes) most_bytes ≡ true = test-le (length bytes) most_bytes is.0 in
    let first : Faults task 1 (lines_of bytes) fault = is.1 in
    let k : reading task 1 (first.front ++ first.others) ≡ Err fault = refused_behind task first.wanted 1 first.front first.others fault first.before first.here in
    rw (e, first.split, k) refl

-- bytes are the text of one task or have one first fault, and never both
pub one_reading : (bytes : List ℕ) → ExactlyOne (Reads bytes)
one_reading bytes = record { one = task_of bytes; holds = reads bytes; only = reads_only bytes }

-- what a call read is the text's task
pub task_given : (bytes : List ℕ) (result : Result Parts SasError) → Gives fault_of (λ task. task) result (task_of bytes) → IfOk result (λ task. IsTextOf bytes task)
task_given bytes (Err e) gives = tt
task_given bytes (Ok parts) gives = subst (Reads bytes) gives (reads bytes)

-- what a call refused is the first fault
pub refusal_given : (bytes : List ℕ) (result : Result Parts SasError) → Gives fault_of (λ task. task) result (task_of bytes) → (fault : SasFault) → result ≡ Err (Bad fault) → IsFirstFaultOf bytes fault
refusal_given bytes result gives fault bad = subst (Reads bytes) (rw bad at gives) (reads bytes)
