-- Lists that are made of the numbers of a range.
use Rattle.std.proofs.Common.{◌≡◌, ◌∙◌, sym, ap, refl, ℕ, zero, suc, ◌+◌, ◌-◌, ◌*◌, ◌<◌, ◌≤◌, List, [], ◌∷◌, ◌++◌, length, Bool, true, map, arith, append-nil, length-append}
use Rattle.std.specs.Prelude.{flat_map, sum_by, slice_get, Some, option_map}
use Rattle.std.specs.List.{range_with_len, list_all, zip}
use Rattle.std.proofs.lemmas.List.{append_assoc, map-id, map-append, length-map}
use Rattle.std.proofs.lemmas.List.FromFn.{map-range_with_len_more, length-range_with_len, get_or-range_with_len}
use Rattle.std.proofs.lemmas.List.Folds.{list_all-append}
use Rattle.std.proofs.lemmas.List.Sums.{sum_by-cons}
use Rattle.std.proofs.lemmas.Grind.{flat_map-append}
use Rattle.std.proofs.lemmas.Option.{slice_get-map, slice_get-get_or}
use Rattle.sas_task.proofs.TestLaws.{and_true}

range-more : (a n j : ℕ) → a + n ≡ j → range_with_len a (n + 1) ≡ range_with_len a n ++ j ∷ []
range-more a n j e =
    sym (map-id (range_with_len a (n + 1))) ∙ map-range_with_len_more (λ k. k) a n j e ∙ ap (λ ns. ns ++ j ∷ []) (map-id (range_with_len a n))

flat_map-range_more : {X : Type 0} (f : ℕ → List X) (a n j : ℕ) → a + n ≡ j → flat_map f (range_with_len a (n + 1)) ≡ flat_map f (range_with_len a n) ++ f j
flat_map-range_more f a n j e =
    ap (flat_map f) (range-more a n j e) ∙ flat_map-append f (range_with_len a n) (j ∷ []) ∙ ap (λ xs. flat_map f (range_with_len a n) ++ xs) (append-nil (f j))

-- one more place

pub map-places : {X : Type 0} (f : ℕ → X) (n : ℕ) → map f (range_with_len 0 (n + 1)) ≡ map f (range_with_len 0 n) ++ f n ∷ []
map-places f n = map-range_with_len_more f 0 n n (omega arith)

pub flat_map-places : {X : Type 0} (f : ℕ → List X) (n : ℕ) → flat_map f (range_with_len 0 (n + 1)) ≡ flat_map f (range_with_len 0 n) ++ f n
flat_map-places f n = flat_map-range_more f 0 n n (omega arith)

-- the numbers from 1 on that are below a number
pub numbers_below : ℕ → List ℕ
numbers_below k = range_with_len 1 (k - 1)

pub map-numbers : {X : Type 0} (f : ℕ → X) (k : ℕ) → 1 ≤ k → map f (numbers_below (k + 1)) ≡ map f (numbers_below k) ++ f k ∷ []
unfolding numbers_below
map-numbers f zero low = absurd (omega arith)
map-numbers f (suc m) low =
    let before : suc m - 1 ≡ m = omega arith in
    let after : suc m + 1 - 1 ≡ m + 1 = omega arith in
    rw (before, after) (map-range_with_len_more f 1 m (suc m) (omega arith))

pub flat_map-numbers : {X : Type 0} (f : ℕ → List X) (k : ℕ) → 1 ≤ k → flat_map f (numbers_below (k + 1)) ≡ flat_map f (numbers_below k) ++ f k
unfolding numbers_below
flat_map-numbers f zero low = absurd (omega arith)
flat_map-numbers f (suc m) low =
    let before : suc m - 1 ≡ m = omega arith in
    let after : suc m + 1 - 1 ≡ m + 1 = omega arith in
    rw (before, after) (flat_map-range_more f 1 m (suc m) (omega arith))

pub numbers_below_one : numbers_below 1 ≡ []
unfolding numbers_below
numbers_below_one = refl

pub numbers_below_is : (k : ℕ) → numbers_below k ≡ range_with_len 1 (k - 1)
unfolding numbers_below
numbers_below_is k = refl

pub ruleset ranges = (map-places, flat_map-places, map-numbers, flat_map-numbers, numbers_below_one, numbers_below_is, append_assoc)

-- what holds of each number holds of all

pub all-map : {X : Type 0} (p : X → Bool) (f : ℕ → X) (a n : ℕ) → ((i : ℕ) → a ≤ i → i < a + n → p (f i) ≡ true) → list_all p (map f (range_with_len a n)) ≡ true
all-map p f a zero each = refl
all-map p f a (suc n) each = and_true (p (f a)) _ (each a (omega arith) (omega arith)) (all-map p f (a + 1) n (λ i low high. each i (omega arith) (omega arith)))

pub all-flat_map : {X : Type 0} (p : X → Bool) (f : ℕ → List X) (a n : ℕ) → ((i : ℕ) → a ≤ i → i < a + n → list_all p (f i) ≡ true) → list_all p (flat_map f (range_with_len a n)) ≡ true
all-flat_map p f a zero each = refl
all-flat_map p f a (suc n) each =
    list_all-append p (f a) (flat_map f (range_with_len (a + 1) n))
    ∙ and_true (list_all p (f a)) _ (each a (omega arith) (omega arith)) (all-flat_map p f (a + 1) n (λ i low high. each i (omega arith) (omega arith)))

pub all-zip : {X Y : Type 0} (p : X × Y → Bool) (f : ℕ → X) (g : ℕ → Y) (a n : ℕ) → ((i : ℕ) → a ≤ i → i < a + n → p (f i, g i) ≡ true) → list_all p (zip (map f (range_with_len a n)) (map g (range_with_len a n))) ≡ true
all-zip p f g a zero each = refl
all-zip p f g a (suc n) each = and_true (p (f a, g a)) _ (each a (omega arith) (omega arith)) (all-zip p f g (a + 1) n (λ i low high. each i (omega arith) (omega arith)))

-- what stays, item by item
pub map-flat_map : {X : Type 0} (h : X → X) (f : ℕ → List X) (a n : ℕ) → ((i : ℕ) → a ≤ i → i < a + n → map h (f i) ≡ f i) → map h (flat_map f (range_with_len a n)) ≡ flat_map f (range_with_len a n)
map-flat_map h f a zero each = refl
map-flat_map h f a (suc n) each =
    map-append h (f a) (flat_map f (range_with_len (a + 1) n))
    ∙ ap (λ xs. xs ++ map h (flat_map f (range_with_len (a + 1) n))) (each a (omega arith) (omega arith))
    ∙ ap (λ xs. f a ++ xs) (map-flat_map h f (a + 1) n (λ i low high. each i (omega arith) (omega arith)))

-- sizes

pub length-map_range : {X : Type 0} (f : ℕ → X) (a n : ℕ) → length (map f (range_with_len a n)) ≡ n
length-map_range f a n = length-map (range_with_len a n) f ∙ length-range_with_len a n

pub length-flat_map_range : {X : Type 0} (f : ℕ → List X) (c a n : ℕ) → ((i : ℕ) → a ≤ i → i < a + n → length (f i) ≤ c) → length (flat_map f (range_with_len a n)) ≤ n * c
length-flat_map_range f c a zero each = omega arith
length-flat_map_range f c a (suc n) each =
    let here = each a (omega arith) (omega arith) in
    let rest = length-flat_map_range f c (a + 1) n (λ i low high. each i (omega arith) (omega arith)) in
    let whole = length-append (f a) (flat_map f (range_with_len (a + 1) n)) in
    omega arith

pub sum_by-map_range : {X : Type 0} (g : X → ℕ) (f : ℕ → X) (c a n : ℕ) → ((i : ℕ) → a ≤ i → i < a + n → g (f i) ≤ c) → sum_by g (map f (range_with_len a n)) ≤ n * c
sum_by-map_range g f c a zero each = omega arith
sum_by-map_range g f c a (suc n) each =
    let here = each a (omega arith) (omega arith) in
    let rest = sum_by-map_range g f c (a + 1) n (λ i low high. each i (omega arith) (omega arith)) in
    let whole = sum_by-cons g (f a) (map f (range_with_len (a + 1) n)) in
    omega arith

-- the item of a number
pub slice_get-map_range : {X : Type 0} (f : ℕ → X) (a n i : ℕ) → i < n → slice_get (map f (range_with_len a n)) i ≡ Some (f (a + i))
slice_get-map_range f a n i lt =
    let long = length-range_with_len a n in
    slice_get-map f (range_with_len a n) i
    ∙ ap (option_map f) (slice_get-get_or (range_with_len a n) i 0 (omega arith) ∙ ap (λ k. Some k) (get_or-range_with_len a n i 0 lt))
