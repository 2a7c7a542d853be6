-- A row of operators with its runs.
use Rattle.std.proofs.Common.{◌≡◌, ◌≢◌, ℕ, zero, suc, ◌+◌, ◌-◌, ◌<◌, ◌≤◌, Bool, true, false, List, [], ◌∷◌, ◌++◌, length, take, drop, nat_lt, refl, sym, ap, ◌∙◌, arith, append_assoc, length-append, length-drop}
use Rattle.std.specs.Prelude.{if◌then◌else◌}
use Rattle.std.specs.List.{list_all}
use Rattle.std.proofs.lemmas.Bool.Decides.{nat_tests}
use Rattle.std.proofs.lemmas.List.{take-append-le, drop-append-le}
use Rattle.lama_num.proofs.ListLaws.{both}
use Rattle.open_lists.specs.Runs.{entry_of, entries_of_visit, entries_in, total, AreRunsOf, parent_of, less_one}
use Rattle.open_lists.specs.declared.entry.Entry.{Entry}
use Rattle.open_lists.specs.declared.runs.Run.{Run}

abbrev has_some : Run → Bool
has_some run = nat_lt 0 run.count

-- a run of all these operators
abbrev pub run_of : ℕ → List ℕ → Run
run_of parent more = record { parent = parent; count = length more }

total-append : (runs : List Run) (run : Run) → total (runs ++ run ∷ []) ≡ total runs + run.count
total-append [] run = omega arith
total-append (r ∷ runs) run = let rest = total-append runs run in omega arith

filled-append : (runs : List Run) (run : Run) → list_all has_some runs ≡ true → has_some run ≡ true → list_all has_some (runs ++ run ∷ []) ≡ true
filled-append [] run all here = rw here refl
filled-append (r ∷ runs) run all here =
    let parts = both (has_some r) (list_all has_some runs) all in
    rw parts.0 (filled-append runs run parts.1 here)

take-all : (xs : List ℕ) (n : ℕ) → n ≡ length xs → take n xs ≡ xs
take-all [] n e = rw e refl
take-all (x ∷ xs) n e = rw e (ap (λ (ys : List ℕ). x ∷ ys) (take-all xs (length xs) refl))

entries-append : (runs : List Run) (operators more : List ℕ) (run : Run) → total runs ≡ length operators → run.count ≡ length more →
    entries_in (runs ++ run ∷ []) (operators ++ more) ≡ entries_in runs operators ++ entries_of_visit run.parent more
entries-append [] [] more run all e = rw (take-all more run.count e) (append-nil (entries_of_visit run.parent more))
  where
    append-nil : (es : List Entry) → es ++ [] ≡ es
    append-nil [] = refl
    append-nil (e ∷ es) = ap (λ (rest : List Entry). e ∷ rest) (append-nil es)
entries-append [] (x ∷ operators) more run all e = absurd (omega arith)
entries-append (r ∷ runs) operators more run all e =
    let within : r.count ≤ length operators = omega arith in
    let rest : total runs ≡ length (drop r.count operators) = omega (arith, length-drop r.count operators) in
    rw (take-append-le r.count operators more within, drop-append-le r.count operators more within, entries-append runs (drop r.count operators) more run rest e)
    (sym (append_assoc (entries_of_visit r.parent (take r.count operators)) (entries_in runs (drop r.count operators)) (entries_of_visit run.parent more)))

-- a run more
pub are_runs-append : (runs : List Run) (operators more : List ℕ) (run : Run) → AreRunsOf runs operators → run.count ≡ length more → more ≢ [] →
    AreRunsOf (runs ++ run ∷ []) (operators ++ more)
are_runs-append runs operators [] run are e some = absurd (some refl)
are_runs-append runs operators (x ∷ more) run are e some = record {
  all = total-append runs run ∙ (let a = are.all in omega (arith, length-append operators (x ∷ more)));
  filled = filled-append runs run are.filled (grind (arith, nat_tests, e));
}

pub pushed : (runs : List Run) (operators more : List ℕ) (run : Run) → AreRunsOf runs operators → run.count ≡ length more →
    entries_in (runs ++ run ∷ []) (operators ++ more) ≡ entries_in runs operators ++ entries_of_visit run.parent more
pushed runs operators more run are e = entries-append runs operators more run are.all e

-- no entry means no run
pub no_runs : (runs : List Run) (operators : List ℕ) → AreRunsOf runs operators → entries_in runs operators ≡ [] → runs ≡ []
no_runs [] operators are none = refl
no_runs (r ∷ runs) operators are none = absurd (some r runs operators are.all (both (has_some r) (list_all has_some runs) are.filled).0 none)
  where
    some : (r : Run) (runs : List Run) (operators : List ℕ) → total (r ∷ runs) ≡ length operators → nat_lt 0 r.count ≡ true → entries_in (r ∷ runs) operators ≢ []
    some r runs [] all here none = let lt : 0 < r.count = grind (arith, nat_tests, here) in omega arith
    some r runs (x ∷ operators) all here none = elim r.count as (λ n. r.count ≡ n → ⊥) [
      | zero ↦ λ is. let lt : 0 < r.count = grind (arith, nat_tests, here) in omega arith
      | suc n ↦ λ is. let e = rw is at none in cc
    ] refl

pub no_entries : (runs : List Run) (operators : List ℕ) → runs ≡ [] → entries_in runs operators ≡ []
no_entries runs operators none = rw none refl

two : (m : ℕ) → nat_lt 1 (suc (suc m)) ≡ true
two m = grind (arith, nat_tests)

less : (m : ℕ) → suc (suc m) - 1 ≡ suc m
less m = omega arith

-- the first operator of a row is that of the first run
pub taken : (runs : List Run) (operator : ℕ) (operators : List ℕ) → AreRunsOf runs (operator ∷ operators) →
    entries_in runs (operator ∷ operators) ≡ entry_of (parent_of runs) operator ∷ entries_in (less_one runs) operators
taken [] operator operators are = let a = are.all in absurd (omega arith)
taken (r ∷ runs) operator operators are =
    let here = (both (has_some r) (list_all has_some runs) are.filled).0 in
    elim r.count as (λ n. r.count ≡ n → entries_in (r ∷ runs) (operator ∷ operators) ≡ entry_of r.parent operator ∷ entries_in (less_one (r ∷ runs)) operators) [
      | zero ↦ λ is. let lt : 0 < r.count = grind (arith, nat_tests, here) in absurd (omega arith)
      | suc n ↦ λ is. elim n as (λ m. n ≡ m → entries_in (r ∷ runs) (operator ∷ operators) ≡ entry_of r.parent operator ∷ entries_in (less_one (r ∷ runs)) operators) [
        | zero ↦ λ one. rw is (rw one refl)
        | suc m ↦ λ more. rw (is, more, two m, less m) refl
      ] refl
    ] refl

pub are_runs-less_one : (runs : List Run) (operator : ℕ) (operators : List ℕ) → AreRunsOf runs (operator ∷ operators) → AreRunsOf (less_one runs) operators
are_runs-less_one [] operator operators are = let a = are.all in absurd (omega arith)
are_runs-less_one (r ∷ runs) operator operators are =
    let parts = both (has_some r) (list_all has_some runs) are.filled in
    elim (nat_lt 1 r.count) as (λ b. nat_lt 1 r.count ≡ b → AreRunsOf (if b then record { parent = r.parent; count = r.count - 1 } ∷ runs else runs) operators) [
      | true ↦ λ is. let lt : 1 < r.count = grind (arith, nat_tests, is) in let a = are.all in record {
        all = omega arith;
        filled = let here : nat_lt 0 (r.count - 1) ≡ true = grind (arith, nat_tests) in rw here parts.1;
      }
      | false ↦ λ is. let le : r.count ≤ 1 = grind (arith, nat_tests, is) in let lt : 0 < r.count = grind (arith, nat_tests, parts.0) in let a = are.all in record {
        all = omega arith;
        filled = parts.1;
      }
    ] refl

pub nil_of_length : {X : Type 0} (xs : List X) → length xs ≡ 0 → xs ≡ []
nil_of_length [] e = refl
nil_of_length (x ∷ xs) e = absurd (omega arith)

-- no operator means no entry
pub no_operators : (runs : List Run) (operators : List ℕ) → AreRunsOf runs operators → length operators ≡ 0 → entries_in runs operators ≡ []
no_operators [] operators are none = refl
no_operators (r ∷ runs) operators are none =
    let here = (both (has_some r) (list_all has_some runs) are.filled).0 in
    let lt : 0 < r.count = grind (arith, nat_tests, here) in
    let all = are.all in
    absurd (omega arith)

pub first_taken : (runs : List Run) (all : List ℕ) (operator : ℕ) (operators : List ℕ) → AreRunsOf runs all → all ≡ operator ∷ operators →
    entries_in runs all ≡ entry_of (parent_of runs) operator ∷ entries_in (less_one runs) operators
first_taken runs all operator operators are e = let here : AreRunsOf runs (operator ∷ operators) = rw e at are in rw e (taken runs operator operators here)

pub first_taken-runs : (runs : List Run) (all : List ℕ) (operator : ℕ) (operators : List ℕ) → AreRunsOf runs all → all ≡ operator ∷ operators →
    AreRunsOf (less_one runs) operators
first_taken-runs runs all operator operators are e = let here : AreRunsOf runs (operator ∷ operators) = rw e at are in are_runs-less_one runs operator operators here

pub run_more : (runs runs' : List Run) (operators operators' more : List ℕ) (parent : ℕ) → AreRunsOf runs operators → more ≢ [] →
    runs' ≡ runs ++ run_of parent more ∷ [] → operators' ≡ operators ++ more → AreRunsOf runs' operators'
run_more runs runs' operators operators' more parent are some new row = rw (new, row) (are_runs-append runs operators more (run_of parent more) are refl some)

pub entries_more : (runs runs' : List Run) (operators operators' more : List ℕ) (parent : ℕ) → AreRunsOf runs operators →
    runs' ≡ runs ++ run_of parent more ∷ [] → operators' ≡ operators ++ more → entries_in runs' operators' ≡ entries_in runs operators ++ entries_of_visit parent more
entries_more runs runs' operators operators' more parent are new row = rw (new, row) (pushed runs operators more (run_of parent more) are refl)
