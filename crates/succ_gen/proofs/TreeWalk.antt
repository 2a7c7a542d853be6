-- The walk through a tree.
use Rattle.std.proofs.Common.{◌≡◌, ◌∙◌, refl, sym, ap, subst, ℕ, zero, suc, ◌+◌, ◌-◌, ◌<◌, ◌≤◌, List, [], ◌∷◌, ◌++◌, length, length-append, take, drop, get_or, filter, Bool, true, false, nat_eq, nat_lt, IsTrue, arith, slice_index, min, option_to_list, Option, Some, None, append-nil, append_assoc}
use Rattle.std.specs.List.{All, Contains, flat_map, range_with_len}
use Rattle.std.specs.List.Sorted.{IsStrictlyIncreasing}
use Rattle.std.proofs.lemmas.Bool.Decides.{nat_tests}
use Rattle.std.proofs.lemmas.List.{length-take, take_more, take_all, take-append-le, get_or_append_left, get_or-append_right, get_or_default}
use Rattle.std.proofs.lemmas.List.Concat.{flat_map-append}
use Rattle.std.proofs.lemmas.List.Elements.{All-nil, All-cons, All-head, All-tail, All-append, All-weaker, Contains-get_or, Contains-append_left, Contains-append_right, filter-append}
use Rattle.std.proofs.lemmas.List.FromFn.{length-range_with_len, get_or-range_with_len}
use Rattle.std.proofs.lemmas.List.Kept.{IsStrictlyIncreasing-filter}
use Rattle.sas_task.specs.States.{holds}
use Rattle.succ_gen.specs.declared.nodes.Node.{Node}
use Rattle.succ_gen.specs.Trees.{node_at, IsChild, IsOpen, operators_of, IsFound, IsTree}
use Rattle.succ_gen.specs.Trees.IsOpen.{root, child}
use Rattle.succ_gen.specs.Walks.{Rises, IsSought, opened, open_children, AreFound}

-- ---- numbers in a row

same_range : (a b m n : ℕ) → a ≡ b → m ≡ n → range_with_len a m ≡ range_with_len b n
same_range a b m n first long = ap (λ k. range_with_len k m) first ∙ ap (range_with_len b) long

range_append : (a n m : ℕ) → range_with_len a (n + m) ≡ range_with_len a n ++ range_with_len (a + n) m
range_append a zero m = same_range a (a + 0) (0 + m) m (omega arith) (omega arith)
range_append a (suc n) m =
    ap (range_with_len a) (let e : suc n + m ≡ suc (n + m) = omega arith in e)
    ∙ (ap (λ xs. a ∷ xs) (range_append (a + 1) n m) ∙ ap (λ k. a ∷ (range_with_len (a + 1) n ++ range_with_len k m)) (let e : a + 1 + n ≡ a + suc n = omega arith in e))

pub opened_join : (nodes : List Node) (state : List ℕ) (a b c : ℕ) → a ≤ b → b ≤ c → opened nodes state a c ≡ opened nodes state a b ++ opened nodes state b c
opened_join nodes state a b c low high =
    let p = λ (m : ℕ). holds state (node_at nodes m).fact in
    let whole : range_with_len a (c - a) ≡ range_with_len a (b - a) ++ range_with_len b (c - b) =
    ap (range_with_len a) (let e : c - a ≡ (b - a) + (c - b) = omega arith in e) ∙ (range_append a (b - a) (c - b) ∙ ap (λ k. range_with_len a (b - a) ++ range_with_len k (c - b)) (let e : a + (b - a) ≡ b = omega arith in e)) in
    ap (filter p) whole ∙ filter-append p (range_with_len a (b - a)) (range_with_len b (c - b))

filter_none : (p : ℕ → Bool) (a n : ℕ) → ((k : ℕ) → a ≤ k → k < a + n → p k ≡ false) → filter p (range_with_len a n) ≡ []
filter_none p a zero none = refl
filter_none p a (suc n) none =
    let here : p a ≡ false = none a (omega arith) (omega arith) in
    rw here (filter_none p (a + 1) n (λ k low high. none k (omega arith) (omega arith)))

filter_one : (p : ℕ → Bool) (a n m : ℕ) → a ≤ m → m < a + n → p m ≡ true → ((k : ℕ) → a ≤ k → k < a + n → (k ≡ m → ⊥) → p k ≡ false) → filter p (range_with_len a n) ≡ m ∷ []
filter_one p a zero m low high is others = absurd (omega arith)
filter_one p a (suc n) m low high is others = elim (nat_eq a m) as (λ t. nat_eq a m ≡ t → filter p (range_with_len a (suc n)) ≡ m ∷ []) [
  | true ↦ λ e.
      let same : a ≡ m = grind (arith, nat_tests, e) in
      let here : p a ≡ true = ap p same ∙ is in
      rw here (ap (λ k. k ∷ filter p (range_with_len (a + 1) n)) same ∙ ap (λ xs. m ∷ xs) (filter_none p (a + 1) n (λ k lo hi. others k (omega arith) (omega arith) (λ e. absurd (omega arith)))))
  | false ↦ λ e.
      let differs : a ≡ m → ⊥ = λ same. absurd (grind (arith, nat_tests, e, same)) in
      let here : p a ≡ false = others a (omega arith) (omega arith) differs in
      rw here (filter_one p (a + 1) n m (grind (arith, nat_tests, e, low)) (omega arith) is (λ k lo hi no. others k (omega arith) (omega arith) no))
] refl

-- ---- a group

not_eq : (m n : ℕ) → (m ≡ n → ⊥) → nat_eq m n ≡ false
not_eq m n differs = elim (nat_eq m n) as (λ t. nat_eq m n ≡ t → nat_eq m n ≡ false) [
  | true ↦ λ e. absurd (differs (grind (arith, nat_tests, e)))
  | false ↦ λ e. e
] refl

is_eq : (m n : ℕ) → m ≡ n → nat_eq m n ≡ true
is_eq m n same = grind (arith, nat_tests, same)

-- the node that a look for the state's value finds is the one whose fact holds
pub group_opened : (nodes : List Node) (state : List ℕ) (start : ℕ) (value : ℕ) (found : Option ℕ) → IsTree nodes → 0 < start → start + 1 < length nodes → value ≡ slice_index state (node_at nodes start).fact.var → IsSought nodes start (node_at nodes start).group_end value found →
    opened nodes state start (node_at nodes start).group_end ≡ option_to_list found
group_opened nodes state start value found tree some inside is sought = by found sought
  where
    at : (k : ℕ) → start ≤ k → k < (node_at nodes start).group_end → holds state (node_at nodes k).fact ≡ nat_eq value (node_at nodes k).fact.val
    at k low high = ap (λ v. nat_eq (slice_index state v) (node_at nodes k).fact.val) (tree.same start k some inside low high) ∙ ap (λ v. nat_eq v (node_at nodes k).fact.val) (sym is)

    apart : (k : ℕ) → start ≤ k → k < (node_at nodes start).group_end → (m : ℕ) → start ≤ m → m < (node_at nodes start).group_end → (node_at nodes m).fact.val ≡ value → (k ≡ m → ⊥) → value ≡ (node_at nodes k).fact.val → ⊥
    apart k lo to m low high val differs e = elim (nat_lt k m) as (λ t. nat_lt k m ≡ t → ⊥) [
      | true ↦ λ before.
          let lt : k < m = grind (arith, nat_tests, before) in
          let place : k + (m - k) ≡ m = omega arith in
          let rises : (node_at nodes k).fact.val + (m - k) ≤ (node_at nodes m).fact.val = subst (λ j. (node_at nodes k).fact.val + (m - k) ≤ (node_at nodes j).fact.val) place (tree.rising start k (m - k) some inside lo (omega arith)) in
          absurd (omega arith)
      | false ↦ λ behind.
          let ge : m ≤ k = grind (arith, nat_tests, behind) in
          let lt : m < k = omega (arith, differs) in
          let place : m + (k - m) ≡ k = omega arith in
          let rises : (node_at nodes m).fact.val + (k - m) ≤ (node_at nodes k).fact.val = subst (λ j. (node_at nodes m).fact.val + (k - m) ≤ (node_at nodes j).fact.val) place (tree.rising start m (k - m) some inside low (omega arith)) in
          absurd (omega arith)
    ] refl

    by : (o : Option ℕ) → IsSought nodes start (node_at nodes start).group_end value o → opened nodes state start (node_at nodes start).group_end ≡ option_to_list o
    by None none = filter_none (λ m. holds state (node_at nodes m).fact) start ((node_at nodes start).group_end - start) (λ k low high.
        let to : k < (node_at nodes start).group_end = omega arith in
        at k low to ∙ not_eq value (node_at nodes k).fact.val (λ e. none k low to (sym e)))
    by (Some m) one =
        let low : start ≤ m = one.0 in
        let high : m < (node_at nodes start).group_end = one.1 in
        let val : (node_at nodes m).fact.val ≡ value = one.2 in
        filter_one (λ m. holds state (node_at nodes m).fact) start ((node_at nodes start).group_end - start) m low (omega arith) (at m low high ∙ is_eq value (node_at nodes m).fact.val (sym val)) (λ k lo hi differs.
        let to : k < (node_at nodes start).group_end = omega arith in
        at k lo to ∙ not_eq value (node_at nodes k).fact.val (λ e. apart k lo to m low high val differs e))

pub group_rises : (nodes : List Node) (start : ℕ) → IsTree nodes → 0 < start → start + 1 < length nodes → (node_at nodes start).group_end < length nodes → Rises nodes start (node_at nodes start).group_end
group_rises nodes start tree some inside end = record {
  inside = omega arith;
  rising = λ i d low high. tree.rising start i d some inside low high;
}

-- ---- lists of numbers

pub range_increasing : (a n : ℕ) → IsStrictlyIncreasing (range_with_len a n)
range_increasing a n k lt =
    let long = length-range_with_len a n in
    let low = get_or-range_with_len a n k 0 (omega arith) in
    let high = get_or-range_with_len a n (k + 1) 0 (omega arith) in
    omega arith

increasing_append : (xs ys : List ℕ) (b : ℕ) → IsStrictlyIncreasing xs → IsStrictlyIncreasing ys → All (λ m. m < b) xs → All (λ m. b ≤ m) ys → IsStrictlyIncreasing (xs ++ ys)
increasing_append xs ys b up more below above k lt =
    let long = length-append xs ys in
    elim (nat_lt (k + 1) (length xs)) as (λ t. nat_lt (k + 1) (length xs) ≡ t → slice_index (xs ++ ys) k < slice_index (xs ++ ys) (k + 1)) [
      | true ↦ λ is.
          let front : k + 1 < length xs = grind (arith, nat_tests, is) in
          let a = get_or_append_left xs ys 0 k (omega arith) in
          let c = get_or_append_left xs ys 0 (k + 1) front in
          let u = up k front in
          omega arith
      | false ↦ λ is.
          let back : length xs ≤ k + 1 = grind (arith, nat_tests, is) in
          elim (nat_lt k (length xs)) as (λ t. nat_lt k (length xs) ≡ t → slice_index (xs ++ ys) k < slice_index (xs ++ ys) (k + 1)) [
            | true ↦ λ last.
                let front : k < length xs = grind (arith, nat_tests, last) in
                let a = get_or_append_left xs ys 0 k front in
                let c = get_or-append_right xs ys (length xs) (k + 1) 0 refl back in
                let low : slice_index xs k < b = below k 0 front in
                let high : b ≤ slice_index ys (k + 1 - length xs) = above (k + 1 - length xs) 0 (omega arith) in
                omega arith
            | false ↦ λ past.
                let behind : length xs ≤ k = grind (arith, nat_tests, past) in
                let a = get_or-append_right xs ys (length xs) k 0 refl behind in
                let c = get_or-append_right xs ys (length xs) (k + 1) 0 refl back in
                let u = more (k - length xs) (omega arith) in
                let place : k - length xs + 1 ≡ k + 1 - length xs = omega arith in
                let same : slice_index ys (k - length xs + 1) ≡ slice_index ys (k + 1 - length xs) = ap (slice_index ys) place in
                omega arith
          ] refl
    ] refl

pub contains_tail : {X : Type 0} (y x : X) (xs : List X) → Contains xs x → Contains (y ∷ xs) x
contains_tail y x xs has = (suc has.0, (let lt : has.0 < length xs = has.1 in omega arith), has.2)

pub has_filter : (p : ℕ → Bool) (a n m : ℕ) → a ≤ m → m < a + n → p m ≡ true → Contains (filter p (range_with_len a n)) m
has_filter p a zero m low high is = absurd (omega arith)
has_filter p a (suc n) m low high is = elim (nat_eq a m) as (λ t. nat_eq a m ≡ t → Contains (filter p (range_with_len a (suc n))) m) [
  | true ↦ λ e.
      let same : a ≡ m = grind (arith, nat_tests, e) in
      let here : p a ≡ true = ap p same ∙ is in
      rw here (zero, omega arith, same)
  | false ↦ λ e.
      let rest = has_filter p (a + 1) n m (grind (arith, nat_tests, e, low)) (omega arith) is in
      elim (p a) as (λ t. p a ≡ t → Contains (filter p (range_with_len a (suc n))) m) [
        | true ↦ λ passes. rw passes (contains_tail a m (filter p (range_with_len (a + 1) n)) rest)
        | false ↦ λ fails. rw fails rest
      ] refl
] refl

-- what a filter leaves of numbers in a row
pub record IsKept (p : ℕ → Bool) (a b m : ℕ) : Type 0 where
  pub low : a ≤ m
  pub high : m < b
  pub passes : p m ≡ true

pub all_kept : (p : ℕ → Bool) (a n b : ℕ) → a + n ≡ b → All (IsKept p a b) (filter p (range_with_len a n))
all_kept p a zero b is = All-nil (IsKept p a b)
all_kept p a (suc n) b is =
    let rest = All-weaker (IsKept p (a + 1) b) (IsKept p a b) (λ m k. (let low : a + 1 ≤ m = k.low in record { low = omega arith; high = k.high; passes = k.passes })) (filter p (range_with_len (a + 1) n)) (all_kept p (a + 1) n b (omega arith)) in
    elim (p a) as (λ t. p a ≡ t → All (IsKept p a b) (filter p (range_with_len a (suc n)))) [
      | true ↦ λ passes. rw passes (All-cons (IsKept p a b) a (filter p (range_with_len (a + 1) n)) (record { low = omega arith; high = omega arith; passes = passes }) rest)
      | false ↦ λ fails. rw fails rest
    ] refl

pub all_flat_map : {X : Type 0} (f : X → List ℕ) (P : ℕ → Type 0) (xs : List X) → All (λ x. All P (f x)) xs → All P (flat_map f xs)
all_flat_map f P [] all = All-nil P
all_flat_map f P (x ∷ xs) all = All-append P (f x) (flat_map f xs) (All-head (λ x. All P (f x)) x xs all) (all_flat_map f P xs (All-tail (λ x. All P (f x)) x xs all))

flat_map_contains : (f : ℕ → List ℕ) (xs : List ℕ) (x y : ℕ) → Contains xs x → Contains (f x) y → Contains (flat_map f xs) y
flat_map_contains f xs x y has inner = by xs has.0 has.1 has.2
  where
    by : (xs : List ℕ) (k : ℕ) → k < length xs → get_or xs k x ≡ x → Contains (flat_map f xs) y
    by [] k lt is = absurd (omega arith)
    by (z ∷ zs) zero lt is = Contains-append_left (f z) (flat_map f zs) y (subst (λ w. Contains (f w) y) (sym is) inner)
    by (z ∷ zs) (suc k) lt is = Contains-append_right (f z) (flat_map f zs) y (by zs k (omega arith) is)

-- ---- the nodes that a walk has reached

-- so many of the nodes that a walk has reached are looked at
pub record IsWalking (nodes : List Node) (operators state reached out : List ℕ) (place : ℕ) : Type 0 where
  pub within : place ≤ length reached
  pub first : Contains reached 0
  pub inside : All (λ n. n + 1 < length nodes) reached
  pub opens : All (IsOpen nodes state) reached
  pub closed : (k m : ℕ) → k < place → IsChild nodes (slice_index reached k) m → IsTrue (holds state (node_at nodes m).fact) → Contains reached m
  pub increasing : IsStrictlyIncreasing reached
  pub below : place < length reached → All (λ n. n < (node_at nodes (slice_index reached place)).children) reached
  pub few : place < length reached → length reached ≤ (node_at nodes (slice_index reached place)).children
  pub so_far : out ≡ flat_map (operators_of nodes operators) (take place reached)
  pub fits : place < length reached → length out ≤ (node_at nodes (slice_index reached place)).operators

pub walking_start : (nodes : List Node) (operators state reached out : List ℕ) → IsTree nodes → reached ≡ 0 ∷ [] → out ≡ [] → IsWalking nodes operators state reached out 0
walking_start nodes operators state reached out tree is none =
    let some = tree.some in
    let low = tree.first 0 (omega arith) in
    rw (is, none) (record {
      within = omega arith;
      first = (0, omega arith, refl);
      inside = All-cons (λ n. n + 1 < length nodes) 0 [] (omega arith) (All-nil (λ n. n + 1 < length nodes));
      opens = All-cons (IsOpen nodes state) 0 [] root (All-nil (IsOpen nodes state));
      closed = λ k m lt. absurd (omega arith);
      increasing = λ k lt. absurd (omega arith);
      below = λ lt. All-cons (λ n. n < (node_at nodes 0).children) 0 [] low (All-nil (λ n. n < (node_at nodes 0).children));
      few = λ lt. omega arith;
      so_far = refl;
      fits = λ lt. omega arith;
    })

-- the children that are added
record IsAdded (nodes : List Node) (state : List ℕ) (x m : ℕ) : Type 0 where
  is_child : IsChild nodes x m
  holds_now : IsTrue (holds state (node_at nodes m).fact)

all_added : (nodes : List Node) (state : List ℕ) (x : ℕ) → IsTree nodes → x + 1 < length nodes → All (IsAdded nodes state x) (open_children nodes state x)
all_added nodes state x tree inside =
    let a = (node_at nodes x).children in
    let b = (node_at nodes (x + 1)).children in
    let le : a ≤ b = tree.children x (x + 1) (omega arith) inside in
    let kept = all_kept (λ m. holds state (node_at nodes m).fact) a (b - a) b (omega arith) in
    All-weaker (IsKept (λ m. holds state (node_at nodes m).fact) a b) (IsAdded nodes state x) (λ m k. record { is_child = record { inside = inside; from = k.low; to = k.high }; holds_now = k.passes }) (open_children nodes state x) kept

-- what is known of the next node that is looked at
next_after : (nodes : List Node) (reached added : List ℕ) (place x : ℕ) → place < length reached → x ≡ slice_index reached place → IsStrictlyIncreasing (reached ++ added) → place + 1 < length (reached ++ added) → x + 1 ≤ slice_index (reached ++ added) (place + 1)
next_after nodes reached added place x lt is up more =
    let low = up place more in
    let same = get_or_append_left reached added 0 place lt in
    omega arith

closed_more : (nodes : List Node) (state reached added : List ℕ) (place x : ℕ) → place < length reached → x ≡ slice_index reached place →
    ((k m : ℕ) → k < place → IsChild nodes (slice_index reached k) m → IsTrue (holds state (node_at nodes m).fact) → Contains reached m) → ((m : ℕ) → IsChild nodes x m → IsTrue (holds state (node_at nodes m).fact) → Contains added m) →
    (k m : ℕ) → k < place + 1 → IsChild nodes (slice_index (reached ++ added) k) m → IsTrue (holds state (node_at nodes m).fact) → Contains (reached ++ added) m
closed_more nodes state reached added place x lt is closed has k m low is_child holds_now = elim (nat_lt k place) as (λ t. nat_lt k place ≡ t → Contains (reached ++ added) m) [
  | true ↦ λ before.
      let front : k < place = grind (arith, nat_tests, before) in
      let same = get_or_append_left reached added 0 k (omega arith) in
      Contains-append_left reached added m (closed k m front (subst (λ n. IsChild nodes n m) same is_child) holds_now)
  | false ↦ λ now.
      let ge : place ≤ k = grind (arith, nat_tests, now) in
      let same : k ≡ place = omega arith in
      let at : slice_index (reached ++ added) k ≡ x = ap (slice_index (reached ++ added)) same ∙ (get_or_append_left reached added 0 place lt ∙ sym is) in
      Contains-append_right reached added m (has m (subst (λ n. IsChild nodes n m) at is_child) holds_now)
] refl

-- one node more is looked at
walking_on : (nodes : List Node) (operators state reached added out : List ℕ) (place x : ℕ) → IsTree nodes → place < length reached → x ≡ slice_index reached place → x + 1 < length nodes → IsOpen nodes state x → IsWalking nodes operators state reached out place →
    All (IsAdded nodes state x) added → IsStrictlyIncreasing added → ((m : ℕ) → IsChild nodes x m → IsTrue (holds state (node_at nodes m).fact) → Contains added m) → length (reached ++ added) ≤ (node_at nodes (x + 1)).children →
    IsWalking nodes operators state (reached ++ added) (out ++ operators_of nodes operators x) (place + 1)
walking_on nodes operators state reached added out place x tree lt is inside opens walking all rising has few =
    let old_below : All (λ n. n < (node_at nodes x).children) reached = subst (λ y. All (λ n. n < (node_at nodes y).children) reached) (sym is) (walking.below lt) in
    let old_fits : length out ≤ (node_at nodes x).operators = subst (λ y. length out ≤ (node_at nodes y).operators) (sym is) (walking.fits lt) in
    let up : IsStrictlyIncreasing (reached ++ added) = increasing_append reached added (node_at nodes x).children walking.increasing rising old_below (All-weaker (IsAdded nodes state x) (λ m. (node_at nodes x).children ≤ m) (λ m a. a.is_child.from) added all) in
    let here : All (λ n. n + 1 < length nodes) (reached ++ added) = All-append (λ n. n + 1 < length nodes) reached added walking.inside (All-weaker (IsAdded nodes state x) (λ n. n + 1 < length nodes) (λ m a. (let to = a.is_child.to in let low = tree.few (x + 1) inside in omega arith)) added all) in
    let bound : place + 1 < length (reached ++ added) → (node_at nodes (x + 1)).children ≤ (node_at nodes (slice_index (reached ++ added) (place + 1))).children = λ more.
    let after = next_after nodes reached added place x lt is up more in
    let within = here (place + 1) 0 more in
    tree.children (x + 1) (slice_index (reached ++ added) (place + 1)) after (omega arith) in
    let bound_operators : place + 1 < length (reached ++ added) → (node_at nodes (x + 1)).operators ≤ (node_at nodes (slice_index (reached ++ added) (place + 1))).operators = λ more.
    let after = next_after nodes reached added place x lt is up more in
    let within = here (place + 1) 0 more in
    tree.operators (x + 1) (slice_index (reached ++ added) (place + 1)) after (omega arith) in
    let own : (node_at nodes x).children ≤ (node_at nodes (x + 1)).children = tree.children x (x + 1) (omega arith) inside in
    let own_operators : (node_at nodes x).operators ≤ (node_at nodes (x + 1)).operators = tree.operators x (x + 1) (omega arith) inside in
    let out_long = length-append out (operators_of nodes operators x) in
    let cut = length-take ((node_at nodes (x + 1)).operators - (node_at nodes x).operators) (drop (node_at nodes x).operators operators) in
    record {
      within = omega (arith, length-append reached added);
      first = Contains-append_left reached added 0 walking.first;
      inside = here;
      opens = All-append (IsOpen nodes state) reached added walking.opens (All-weaker (IsAdded nodes state x) (IsOpen nodes state) (λ m a. child x m opens a.is_child a.holds_now) added all);
      closed = closed_more nodes state reached added place x lt is walking.closed has;
      increasing = up;
      below = λ more. All-append (λ n. n < (node_at nodes (slice_index (reached ++ added) (place + 1))).children) reached added
          (All-weaker (λ n. n < (node_at nodes x).children) (λ n. n < (node_at nodes (slice_index (reached ++ added) (place + 1))).children) (λ n low. (let high = bound more in omega arith)) reached old_below)
          (All-weaker (IsAdded nodes state x) (λ n. n < (node_at nodes (slice_index (reached ++ added) (place + 1))).children) (λ n a. (let high = bound more in let low = a.is_child.to in omega arith)) added all);
      few = λ more. (let high = bound more in omega arith);
      so_far = same_out;
      fits = λ more. (let high = bound_operators more in omega arith);
    }
  where
    same_out : out ++ operators_of nodes operators x ≡ flat_map (operators_of nodes operators) (take (place + 1) (reached ++ added))
    same_out =
        let f = operators_of nodes operators in
        let front : take place (reached ++ added) ≡ take place reached = take-append-le place reached added (omega arith) in
        let last : get_or (reached ++ added) place 0 ≡ x = get_or_append_left reached added 0 place lt ∙ sym is in
        let longer : take (place + 1) (reached ++ added) ≡ take place reached ++ x ∷ [] = take_more (reached ++ added) place 0 (omega (arith, length-append reached added)) ∙ (ap (λ xs. xs ++ get_or (reached ++ added) place 0 ∷ []) front ∙ ap (λ y. take place reached ++ y ∷ []) last) in
        sym (ap (flat_map f) longer ∙ (flat_map-append f (take place reached) (x ∷ []) ∙ (ap (λ xs. xs ++ (f x ++ [])) (sym walking.so_far) ∙ ap (λ ys. out ++ ys) (append-nil (f x)))))

pub walking_more : (nodes : List Node) (operators state reached new out new_out : List ℕ) (place x : ℕ) → IsTree nodes → place < length reached → x ≡ slice_index reached place → IsWalking nodes operators state reached out place → new ≡ reached ++ open_children nodes state x → length new ≤ (node_at nodes (x + 1)).children →
    new_out ≡ out ++ operators_of nodes operators x → IsWalking nodes operators state new new_out (place + 1)
walking_more nodes operators state reached new out new_out place x tree lt is walking more few out_more =
    let inside : x + 1 < length nodes = subst (λ y. y + 1 < length nodes) (sym is) (walking.inside place 0 lt) in
    let opens : IsOpen nodes state x = subst (IsOpen nodes state) (sym is) (walking.opens place 0 lt) in
    let p = λ (m : ℕ). holds state (node_at nodes m).fact in
    let a = (node_at nodes x).children in
    let b = (node_at nodes (x + 1)).children in
    let size : length (reached ++ open_children nodes state x) ≤ (node_at nodes (x + 1)).children = subst (λ xs. length xs ≤ (node_at nodes (x + 1)).children) more few in
    let on = walking_on nodes operators state reached (open_children nodes state x) out place x tree lt is inside opens walking (all_added nodes state x tree inside) (IsStrictlyIncreasing-filter p (range_with_len a (b - a)) (range_increasing a (b - a)))
    (λ m own holds_now. has_filter p a (b - a) m own.from (let from = own.from in let to = own.to in omega arith) holds_now) size in
    rw (more, out_more) on

-- ---- the end of a walk

opens_reached : (nodes : List Node) (operators state reached out : List ℕ) (place n : ℕ) → IsWalking nodes operators state reached out place → length reached ≤ place → IsOpen nodes state n → Contains reached n
opens_reached nodes operators state reached out place _ walking past root = walking.first
opens_reached nodes operators state reached out place _ walking past (child n m opens is_child holds_now) =
    let before = opens_reached nodes operators state reached out place n walking past opens in
    let lt : before.0 < length reached = before.1 in
    let at : slice_index reached before.0 ≡ n = get_or_default reached before.0 0 n before.1 ∙ before.2 in
    walking.closed before.0 m (omega arith) (subst (λ k. IsChild nodes k m) (sym at) is_child) holds_now

pub walking_all : (nodes : List Node) (operators state reached out : List ℕ) (place : ℕ) → length reached ≤ place → IsWalking nodes operators state reached out place → AreFound nodes operators state out
walking_all nodes operators state reached out place past walking =
    let whole : out ≡ flat_map (operators_of nodes operators) reached = walking.so_far ∙ ap (flat_map (operators_of nodes operators)) (take_all place reached past) in
    rw whole (record {
      only = all_flat_map (operators_of nodes operators) (IsFound nodes operators state) reached (λ k d lt j e low. record {
        node = get_or reached k d;
        inside = walking.inside k d lt;
        opens = walking.opens k d lt;
        stands = Contains-get_or (operators_of nodes operators (get_or reached k d)) j e low;
      });
      all = λ op found. flat_map_contains (operators_of nodes operators) reached found.node op (opens_reached nodes operators state reached out place found.node walking past found.opens) found.stands;
    })

-- ---- the look for a value

-- the place of a value lies from one node to before another, if it has one
pub record IsSearched (nodes : List Node) (from to value start end : ℕ) : Type 0 where
  pub low : from ≤ start
  pub high : end ≤ to
  pub before : (m : ℕ) → from ≤ m → m < start → (node_at nodes m).fact.val < value
  pub behind : (m : ℕ) → end ≤ m → m < to → value < (node_at nodes m).fact.val

rises_to : (nodes : List Node) (from to i j : ℕ) → Rises nodes from to → from ≤ i → i ≤ j → j < to → (node_at nodes i).fact.val + (j - i) ≤ (node_at nodes j).fact.val
rises_to nodes from to i j rises low le high =
    let place : i + (j - i) ≡ j = omega arith in
    subst (λ k. (node_at nodes i).fact.val + (j - i) ≤ (node_at nodes k).fact.val) place (rises.rising i (j - i) low (omega arith))

pub searched_right : (nodes : List Node) (from to value start end middle : ℕ) → Rises nodes from to → start ≤ middle → middle < end → (node_at nodes middle).fact.val < value → IsSearched nodes from to value start end → IsSearched nodes from to value (middle + 1) end
searched_right nodes from to value start end middle rises le lt low is = record {
  low = (let first = is.low in omega arith);
  high = is.high;
  before = λ m from_low to_middle.
      let last = is.high in
      let up = rises_to nodes from to m middle rises from_low (omega arith) (omega arith) in
      omega arith;
  behind = is.behind;
}

pub searched_left : (nodes : List Node) (from to value start end middle : ℕ) → Rises nodes from to → start ≤ middle → middle < end → value < (node_at nodes middle).fact.val → IsSearched nodes from to value start end → IsSearched nodes from to value start middle
searched_left nodes from to value start end middle rises le lt high is = record {
  low = is.low;
  high = (let last = is.high in omega arith);
  before = is.before;
  behind = λ m from_middle to_high.
      let first = is.low in
      let up = rises_to nodes from to middle m rises (omega arith) from_middle to_high in
      omega arith;
}

-- a value below the first stands nowhere
pub none_below : (nodes : List Node) (from to value : ℕ) → Rises nodes from to → from < to → value < (node_at nodes from).fact.val → (m : ℕ) → from ≤ m → m < to → (node_at nodes m).fact.val ≡ value → ⊥
none_below nodes from to value rises some lt m low high same =
    let up = rises_to nodes from to from m rises (omega arith) low high in
    omega arith

-- a value that isn't at the place as far from the first as it is stands nearer, if anywhere
none_nearer : (nodes : List Node) (from to end farthest value : ℕ) → Rises nodes from to → from < to → farthest + (node_at nodes from).fact.val ≡ from + value → (farthest < to → (node_at nodes farthest).fact.val ≡ value → ⊥) → end ≡ min to farthest → ((m : ℕ) → from ≤ m → m < end → (node_at nodes m).fact.val ≡ value → ⊥) →
    (m : ℕ) → from ≤ m → m < to → (node_at nodes m).fact.val ≡ value → ⊥
none_nearer nodes from to end farthest value rises some far not_there is none m low high same = elim (nat_lt m end) as (λ t. nat_lt m end ≡ t → ⊥) [
  | true ↦ λ lt. none m low (grind (arith, nat_tests, lt)) same
  | false ↦ λ ge.
      let past : end ≤ m = grind (arith, nat_tests, ge) in
      let up = rises_to nodes from to from m rises (omega arith) low high in
      let place : m ≡ farthest = omega arith in
      not_there (omega arith) (subst (λ k. (node_at nodes k).fact.val ≡ value) place same)
] refl

pub sought_nearer : (nodes : List Node) (from to end farthest value : ℕ) (found : Option ℕ) → Rises nodes from to → from < to → farthest + (node_at nodes from).fact.val ≡ from + value → (farthest < to → (node_at nodes farthest).fact.val ≡ value → ⊥) → end ≡ min to farthest → IsSought nodes from end value found → IsSought nodes from to value found
sought_nearer nodes from to end farthest value None rises some far not_there is none = none_nearer nodes from to end farthest value rises some far not_there is none
sought_nearer nodes from to end farthest value (Some m) rises some far not_there is found =
    let lt : m < end = found.1 in
    (found.0, omega arith, found.2)

-- the nodes of a group come behind those of the groups before it
pub reached_more : (nodes : List Node) (state : List ℕ) (from group end : ℕ) (start reached new : List ℕ) → from ≤ group → group ≤ end → reached ≡ start ++ opened nodes state from group → new ≡ reached ++ opened nodes state group end → new ≡ start ++ opened nodes state from end
reached_more nodes state from group end start reached new low high is more =
    more ∙ (ap (λ xs. xs ++ opened nodes state group end) is ∙ (append_assoc start (opened nodes state from group) (opened nodes state group end) ∙ ap (λ xs. start ++ xs) (sym (opened_join nodes state from group end low high))))
