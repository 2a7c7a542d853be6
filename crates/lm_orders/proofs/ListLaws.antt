-- Lists of facts and of numbers.
use Rattle.std.proofs.Common.{◌≡◌, ◌∙◌, sym, ap, refl, subst, ℕ, zero, suc, ◌<◌, ◌≤◌, inl, inr, List, [], ◌∷◌, ◌++◌, length, map, filter, Bool, true, false, ◌||◌, ◌&&◌, nat_eq, if◌then◌else◌, Option, Some, None, slice_get, get_or, take, ◌+◌, arith}
use Rattle.std.specs.List.{list_any, list_all, filter_map, cons_option}
use Rattle.std.proofs.lemmas.Bool.{or_cases, or_left, or_right, and_parts, and_from, eqb-true, eq-eqb}
use Rattle.std.proofs.lemmas.List.Folds.{list_any_at, list_all_more}
use Rattle.std.proofs.lemmas.Map.Keys.{any_passes_from_place}
use Rattle.std.proofs.lemmas.Option.{same_Some, none-some}
use Rattle.lama_num.specs.Rows.{row_at}
use Rattle.sas_task.specs.Facts.{same_fact, has_fact}
use Rattle.sas_task.specs.declared.contents.Fact.{Fact}
use Rattle.lama_num.proofs.BoolLaws.{and-false as and_false, both_ways}
use Rattle.lama_num.proofs.ListLaws.{any_get}
use Rattle.sas_task.proofs.FactLists.{same-refl as same_self, same-true as facts_equal}

-- what holds of one of some facts
pub any_has : (p : Fact → Bool) (facts : List Fact) (fact : Fact) → has_fact facts fact ≡ true → p fact ≡ true → list_any p facts ≡ true
any_has p facts fact h here =
    let r = any_get (λ f. same_fact f fact) facts h in
    any_passes_from_place p facts r.0 r.1 r.2 (subst (λ f. p f ≡ true) (sym (facts_equal r.1 fact r.3)) here)

-- one of some facts of which it holds
pub has_any : (p : Fact → Bool) (facts : List Fact) → list_any p facts ≡ true → (fact : Fact) × (has_fact facts fact ≡ true) × (p fact ≡ true)
has_any p facts h =
    let r = any_get p facts h in
    (r.1, any_passes_from_place (λ f. same_fact f r.1) facts r.0 r.1 r.2 (same_self r.1), r.3)

-- the facts that are kept
pub has_kept : (p : Fact → Bool) (facts : List Fact) (fact : Fact) → has_fact (filter p facts) fact ≡ (has_fact facts fact && p fact)
has_kept p [] fact = refl
has_kept p (f ∷ facts) fact = by (p f) refl (same_fact f fact) refl (has_kept p facts fact)
  where
    by : (keeps : Bool) → p f ≡ keeps → (same : Bool) → same_fact f fact ≡ same → has_fact (filter p facts) fact ≡ (has_fact facts fact && p fact) →
        has_fact (if keeps then f ∷ filter p facts else filter p facts) fact ≡ ((same || has_fact facts fact) && p fact)
    by true is true same rest = rw same (sym (ap p (sym (facts_equal f fact same)) ∙ is))
    by true is false same rest = rw same rest
    by false is true same rest =
        let fails : p fact ≡ false = ap p (sym (facts_equal f fact same)) ∙ is in
        rest ∙ (ap (λ b. has_fact facts fact && b) fails ∙ (and_false (has_fact facts fact) ∙ sym fails))
    by false is false same rest = rest

-- what a function gives of the elements
pub from_given : {X : Type 0} (h : X → Option Fact) (xs : List X) (fact : Fact) → has_fact (filter_map h xs) fact ≡ true → (i : ℕ) × (x : X) × (slice_get xs i ≡ Some x) × (h x ≡ Some fact)
from_given h [] fact has = let k : false ≡ true = has in cc
from_given {X = X} h (x ∷ xs) fact has = by (h x) refl has (from_given h xs fact)
  where
    by : (o : Option Fact) → h x ≡ o → has_fact (cons_option o (filter_map h xs)) fact ≡ true →
        (has_fact (filter_map h xs) fact ≡ true → (i : ℕ) × (y : X) × (slice_get xs i ≡ Some y) × (h y ≡ Some fact)) →
        (i : ℕ) × (y : X) × (slice_get (x ∷ xs) i ≡ Some y) × (h y ≡ Some fact)
    by None is has later = let r = later has in (suc r.0, r.1, r.2, r.3)
    by (Some f) is has later = elim (or_cases (same_fact f fact) _ has) [
      | inl here ↦ (0, x, refl, is ∙ ap (λ g. Some g) (facts_equal f fact here))
      | inr rest ↦ let r = later rest in (suc r.0, r.1, r.2, r.3)
    ]

pub to_given : {X : Type 0} (h : X → Option Fact) (xs : List X) (fact : Fact) (i : ℕ) (x : X) → slice_get xs i ≡ Some x → h x ≡ Some fact → has_fact (filter_map h xs) fact ≡ true
to_given h [] fact i x at is = absurd (none-some x at)
to_given h (y ∷ xs) fact zero x at is =
    let here : h y ≡ Some fact = ap h (same_Some y x at) ∙ is in
    rw here (or_left _ _ (same_self fact))
to_given h (y ∷ xs) fact (suc i) x at is = later (h y) (to_given h xs fact i x at is)
  where
    later : (o : Option Fact) → has_fact (filter_map h xs) fact ≡ true → has_fact (cons_option o (filter_map h xs)) fact ≡ true
    later None rest = rest
    later (Some f) rest = or_right (same_fact f fact) _ rest

-- a test that each of some numbers passes
pub all_from : (p : ℕ → Bool) (xs : List ℕ) → ((n : ℕ) → list_any (nat_eq n) xs ≡ true → p n ≡ true) → list_all p xs ≡ true
all_from p [] each = refl
all_from p (x ∷ xs) each = and_from _ _ (each x (or_left _ _ (eq-eqb x x refl))) (all_from p xs (λ n h. each n (or_right (nat_eq n x) _ h)))

pub all_gives : (p : ℕ → Bool) (xs : List ℕ) → list_all p xs ≡ true → (n : ℕ) → list_any (nat_eq n) xs ≡ true → p n ≡ true
all_gives p [] all n h = let k : false ≡ true = h in cc
all_gives p (x ∷ xs) all n h =
    let t = and_parts _ _ all in
    elim (or_cases (nat_eq n x) _ h) [
      | inl here ↦ ap p (eqb-true n x here) ∙ t.0
      | inr rest ↦ all_gives p xs t.1 n rest
    ]

-- rows

pub row_past : {X : Type 0} (rows : List (List X)) (n : ℕ) → length rows ≤ n → row_at rows n ≡ []
row_past [] n past = refl
row_past (row ∷ rows) zero past = absurd (omega arith)
row_past (row ∷ rows) (suc n) past = row_past rows n (omega arith)

pub row_last : {X : Type 0} (rows : List (List X)) (row : List X) → row_at (rows ++ row ∷ []) (length rows) ≡ row
row_last [] row = refl
row_last (r ∷ rows) row = row_last rows row

pub row_other : {X : Type 0} (rows : List (List X)) (row : List X) (n : ℕ) → (n ≡ length rows → ⊥) → row_at (rows ++ row ∷ []) n ≡ row_at rows n
row_other [] row zero ne = absurd (ne refl)
row_other [] row (suc n) ne = refl
row_other (r ∷ rows) row zero ne = refl
row_other (r ∷ rows) row (suc n) ne = row_other rows row n (λ e. ne (ap suc e))

pub row_of_map : {X Y : Type 0} (f : X → List Y) (xs : List X) (n : ℕ) (x : X) → slice_get xs n ≡ Some x → row_at (map f xs) n ≡ f x
row_of_map f [] n x at = absurd (none-some x at)
row_of_map f (y ∷ xs) zero x at = ap f (same_Some y x at)
row_of_map f (y ∷ xs) (suc n) x at = row_of_map f xs n x at

pub has_row : {X : Type 0} (f : X → List Fact) (xs : List X) (n : ℕ) (fact : Fact) → has_fact (row_at (map f xs) n) fact ≡ true → (x : X) × (slice_get xs n ≡ Some x) × (has_fact (f x) fact ≡ true)
has_row f [] n fact h = let k : false ≡ true = h in cc
has_row f (x ∷ xs) zero fact h = (x, refl, h)
has_row f (x ∷ xs) (suc n) fact h = has_row f xs n fact h

pub row_read : {X : Type 0} (rows : List (List X)) (n : ℕ) (row : List X) → slice_get rows n ≡ Some row → row_at rows n ≡ row
row_read [] n row at = absurd (none-some row at)
row_read (r ∷ rows) zero row at = same_Some r row at
row_read (r ∷ rows) (suc n) row at = row_read rows n row at

-- a row with a fact is there
pub row_place : (rows : List (List Fact)) (n : ℕ) (fact : Fact) → has_fact (row_at rows n) fact ≡ true → slice_get rows n ≡ Some (row_at rows n)
row_place [] n fact h = let k : false ≡ true = h in cc
row_place (row ∷ rows) zero fact h = refl
row_place (row ∷ rows) (suc n) fact h = row_place rows n fact h

-- numbers that are read

pub read_has : (xs : List ℕ) (i : ℕ) → i < length xs → list_any (nat_eq (get_or xs i 0)) xs ≡ true
read_has xs i lt = list_any_at (nat_eq (get_or xs i 0)) xs i 0 lt (eq-eqb (get_or xs i 0) (get_or xs i 0) refl)

-- facts that are kept where one more row has them
pub common_more : (rows : List (List Fact)) (numbers : List ℕ) (row old new : List Fact) (first k : ℕ) → k < length numbers → row ≡ row_at rows (get_or numbers k 0) → new ≡ filter (has_fact row) old →
    ((fact : Fact) → has_fact old fact ≡ (has_fact (row_at rows first) fact && list_all (λ m. has_fact (row_at rows m) fact) (take k numbers))) →
    (fact : Fact) → has_fact new fact ≡ (has_fact (row_at rows first) fact && list_all (λ m. has_fact (row_at rows m) fact) (take (k + 1) numbers))
common_more rows numbers row old new first k lt is kept so_far fact =
    let p : ℕ → Bool = λ m. has_fact (row_at rows m) fact in
    ap (λ (l : List Fact). has_fact l fact) kept
    ∙ (has_kept (has_fact row) old fact
    ∙ (ap (λ b. b && has_fact row fact) (so_far fact)
    ∙ (ap (λ (r : List Fact). (p first && list_all p (take k numbers)) && has_fact r fact) is
    ∙ (assoc (p first) (list_all p (take k numbers)) (p (get_or numbers k 0))
    ∙ ap (λ b. p first && b) (sym (list_all_more p numbers k 0 lt))))))
  where
    assoc : (a b c : Bool) → ((a && b) && c) ≡ (a && (b && c))
    assoc true b c = refl
    assoc false b c = refl
