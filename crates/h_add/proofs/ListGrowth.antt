-- Lists that grow by a place.
use Rattle.std.proofs.Common.{◌≡◌, ◌∙◌, sym, ap, refl, ℕ, ◌+◌, ◌<◌, ◌≤◌, inl, inr, List, [], ◌∷◌, ◌++◌, length, get_or, take, drop, ◌-◌, map, Bool, true, nat_eq, arith, Some, slice_get, slice_set, get_or-set_other, get_or-set_same, if◌then◌else◌}
use Rattle.std.specs.List.{list_all}
use Rattle.std.proofs.lemmas.Bool.{ltb-true}
use Rattle.std.proofs.lemmas.Bool.Decides.{nat_tests}
use Rattle.std.proofs.lemmas.List.{append-nil, drop_all, get_or-map, get_or_append_left, get_or_default, get_or_past, get_or_push, length-map, length-set, length-take-le, length_push, map_more, take_all, take_more}
use Rattle.std.proofs.lemmas.Option.{get_or_from_slice_get, slice_get_read, slice_get_within}
use Rattle.cost_queue.specs.Occurrences.{one_if, occurrences}
use Rattle.lama_num.proofs.ListLaws.{both, list_all_get}
use Rattle.lama_num.specs.Rows.{row_at}
use Rattle.relaxed_task.specs.declared.unary.Unary.{Unary}
use Rattle.relaxed_task.specs.Numbers.{is_below, is_unary_below}
use Rattle.relaxed_task.proofs.Elements.{places, join}
use Rattle.relaxed_task.proofs.NumberLaws.{weaker}
use Rattle.h_add.specs.Orders.{are_places}
use Rattle.h_add.specs.Networks.{are_below, needed, IsNeeds, IsNeededBy, AreFree, Listed}

occurrences_last : (x : ℕ) (ys : List ℕ) (y : ℕ) → occurrences x (ys ++ y ∷ []) ≡ occurrences x ys + one_if (nat_eq x y)
occurrences_last x [] y = omega arith
occurrences_last x (z ∷ ys) y = let rest = occurrences_last x ys y in omega arith

-- one list grew
pub fact_added : (old mid new : List (List ℕ)) (facts : List ℕ) (k fact place : ℕ) → k < length facts → fact ≡ get_or facts k 0 → fact < length mid → new ≡ slice_set mid fact (row_at mid fact ++ place ∷ []) →
    Listed old mid (take k facts) place → Listed old new (take (k + 1) facts) place
fact_added old mid new facts k fact place lt at within is so = record {
  long = ap length is ∙ (length-set mid fact (row_at mid fact ++ place ∷ []) ∙ so.long);
  counts = λ f i. by_tests (nat_eq i place) (nat_eq f fact) _ _ _ _ _ (so.counts f i) (ap (λ (lists : List (List ℕ)). occurrences i (row_at lists f)) is ∙ grown f i) (ap (occurrences f) (take_more facts k 0 lt ∙ ap (λ (n : ℕ). take k facts ++ n ∷ []) (sym at)) ∙ occurrences_last f (take k facts) fact);
}
  where
    by_tests : (b c : Bool) (x y z m n : ℕ) → y ≡ x + (if b then m else 0) → z ≡ y + (if c then one_if b else 0) → n ≡ m + one_if c → z ≡ x + (if b then n else 0)
    by_tests b c x y z m n before grows longer = grind (arith, before, grows, longer)

    grown : (f i : ℕ) → occurrences i (row_at (slice_set mid fact (row_at mid fact ++ place ∷ [])) f) ≡ occurrences i (row_at mid f) + (if nat_eq f fact then one_if (nat_eq i place) else 0)
    grown f i = elim (places f fact) [
      | inl here ↦ rw here.1 (ap (λ (n : ℕ). occurrences i (row_at (slice_set mid fact (row_at mid fact ++ place ∷ [])) n)) here.0 ∙ (ap (occurrences i) (get_or-set_same mid fact (row_at mid fact ++ place ∷ []) [] within)
          ∙ (occurrences_last i (row_at mid fact) place ∙ ap (λ (n : ℕ). occurrences i (row_at mid n) + one_if (nat_eq i place)) (sym here.0))))
      | inr other ↦ rw other.1 (let same = ap (occurrences i) (get_or-set_other mid fact f (row_at mid fact ++ place ∷ []) [] other.0) in omega (arith, same))
    ]

-- one unary operator more
pushed : (xs : List ℕ) (y k i : ℕ) → length xs ≡ k → get_or xs i 0 + (if nat_eq i k then y else 0) ≡ get_or (xs ++ y ∷ []) i 0
pushed xs y k i long = grind (arith, nat_tests, long, get_or_past xs i 0, get_or_push xs y 0 i, get_or_append_left xs (y ∷ []) 0 i, length_push xs y, get_or_past (xs ++ y ∷ []) i 0)

pub needed_more : (unaries : List Unary) (always k : ℕ) (u : Unary) (old new : List (List ℕ)) → k < length unaries → u ≡ get_or unaries k u → Listed old new (needed always u.conds) k → IsNeeds (take k unaries) always old → IsNeeds (take (k + 1) unaries) always new
needed_more unaries always k u old new lt read grown so fact i =
    let more : map (λ x. occurrences fact (needed always x.conds)) (take (k + 1) unaries) ≡ map (λ x. occurrences fact (needed always x.conds)) (take k unaries) ++ occurrences fact (needed always u.conds) ∷ [] =
    map_more (λ x. occurrences fact (needed always x.conds)) unaries k u lt ∙ ap (λ (x : Unary). map (λ y. occurrences fact (needed always y.conds)) (take k unaries) ++ occurrences fact (needed always x.conds) ∷ []) (sym read) in
    let long : length (map (λ x. occurrences fact (needed always x.conds)) (take k unaries)) ≡ k = length-map (take k unaries) (λ x. occurrences fact (needed always x.conds)) ∙ length-take-le k unaries (omega arith) in
    grown.counts fact i
    ∙ (ap (λ (n : ℕ). n + (if nat_eq i k then occurrences fact (needed always u.conds) else 0)) (so fact i)
    ∙ (pushed (map (λ x. occurrences fact (needed always x.conds)) (take k unaries)) (occurrences fact (needed always u.conds)) k i long ∙ ap (λ (xs : List ℕ). get_or xs i 0) (sym more)))

pub needed_at : (unaries : List Unary) (always fact : ℕ) (row : List ℕ) → IsNeededBy unaries always fact row → (i : ℕ) (u : Unary) → slice_get unaries i ≡ Some u → occurrences i row ≡ occurrences fact (needed always u.conds)
needed_at unaries always fact row needs i u at =
    needs i ∙ (get_or-map (λ x. occurrences fact (needed always x.conds)) unaries i u 0 (slice_get_within unaries i u at) ∙ ap (λ (x : Unary). occurrences fact (needed always x.conds)) (get_or_from_slice_get unaries i u u at))

-- a row has places of unary operators alone
all_within : (n : ℕ) (row : List ℕ) → ((i : ℕ) → n ≤ i → occurrences i row ≡ 0) → are_places n row ≡ true
all_within n [] none = refl
all_within n (c ∷ row) none = let rest = all_within n row (λ i le. let all = none i le in omega (arith, all)) in grind (arith, nat_tests, rest, none c)

pub row_within : (unaries : List Unary) (always fact : ℕ) (row : List ℕ) → IsNeededBy unaries always fact row → are_places (length unaries) row ≡ true
row_within unaries always fact row needs =
    all_within (length unaries) row (λ i le. needs i ∙ get_or_past (map (λ x. occurrences fact (needed always x.conds)) unaries) i 0 (let long = length-map unaries (λ x. occurrences fact (needed always x.conds)) in omega (arith, long, le)))

-- facts of unary operators are there
pub gives_below : (n : ℕ) (unaries : List Unary) → list_all (is_unary_below n) unaries ≡ true → are_below n (map (λ u. u.gives) unaries) ≡ true
gives_below n [] all = refl
gives_below n (u ∷ unaries) all =
    grind (arith, all, gives_below n unaries)

pub below_at : (n : ℕ) (facts : List ℕ) (i x : ℕ) → are_below n facts ≡ true → i < length facts → x ≡ get_or facts i 0 → x < n
below_at n facts i x all lt at = ltb-true x n (list_all_get (is_below n) facts i x all (slice_get_read facts (length facts) i x refl lt (at ∙ get_or_default facts i 0 x lt)))

-- a list that was written whole
pub written_back : {X : Type 0} (len : ℕ) (new old : List X) → length new ≡ len → length old ≡ len → take len (new ++ drop (length new) old) ≡ new
written_back len new old long same =
    let none : drop (length new) old ≡ [] = drop_all (length new) old (omega arith) in
    rw (none, append-nil new) (take_all len new (omega arith))

-- facts below a number are below a larger one
pub unaries_below : (n m : ℕ) (unaries : List Unary) → n ≤ m → list_all (is_unary_below n) unaries ≡ true → list_all (is_unary_below m) unaries ≡ true
unaries_below n m unaries le all =
    weaker (is_unary_below n) (is_unary_below m) unaries
    (λ u is. let parts = both (list_all (is_below n) u.conds) (is_below n u.gives) is in join (list_all (is_below m) u.conds) (is_below m u.gives) (weaker (is_below n) (is_below m) u.conds (λ c below. one c below) parts.0) (one u.gives parts.1)) all
  where
    one : (c : ℕ) → is_below n c ≡ true → is_below m c ≡ true
    one c below = grind (arith, nat_tests, below)

-- those without conditions need the fact that is always there, and no others do
pub free_of_needs : (unaries : List Unary) (always : ℕ) (row : List ℕ) → list_all (is_unary_below always) unaries ≡ true → IsNeededBy unaries always always row → AreFree unaries row
free_of_needs unaries always row below needs i u at = needed_at unaries always always row needs i u at ∙ by_conds u.conds (both (list_all (is_below always) u.conds) (is_below always u.gives) (list_all_get (is_unary_below always) unaries i u below at)).0
  where
    none_above : (conds : List ℕ) → list_all (is_below always) conds ≡ true → occurrences always conds ≡ 0
    none_above [] all = refl
    none_above (c ∷ conds) all =
        grind (arith, nat_tests, all, none_above conds)

    by_conds : (conds : List ℕ) → list_all (is_below always) conds ≡ true → occurrences always (needed always conds) ≡ 1 - length conds
    by_conds [] all = grind (arith, nat_tests)
    by_conds (c ∷ conds) all = let none = none_above (c ∷ conds) all in omega arith
