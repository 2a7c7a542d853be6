-- A list that is changed in its place among the lists.
use Rattle.std.proofs.Common.{◌≡◌, ◌≢◌, ℕ, zero, suc, ◌+◌, ◌<◌, ◌≤◌, List, [], ◌∷◌, ◌++◌, length, set, take, get_or, inl, inr, slice_get, Option, None, Some, refl, ap, sym, ◌∙◌, arith, Bool, true, false, nat_eq, pos, ◌+ℤ◌, ◌-ℤ◌}
use Rattle.std.specs.Prelude.{if◌then◌else◌, ℤ}
use Rattle.std.proofs.lemmas.List.{length-set, length-append, length-take-le, take_more}
use Rattle.std.proofs.lemmas.Option.{slice_get_within, slice_get_past}
use Rattle.std.proofs.lemmas.Bool.{cases_eq, cases_lt}
use Rattle.open_lists.specs.Runs.{entries_of_visit}
use Rattle.open_lists.specs.Items.{Item, items_of_visit}
use Rattle.std.specs.Ordering.{nat_cmp}
use Rattle.std.specs.Map.{lookup}
use Rattle.std.specs.BTreeMap.{is_at}
use Rattle.std.proofs.lemmas.Bool.Decides.{nat_tests}
use Rattle.open_lists.specs.Queues.{queue_of}
use Rattle.open_lists.specs.Lists.{queue_for, entries_in_list, least_count_in, counter_in, preferred_in, list_count, queue, counter, Holds, TakesList, SameShape, SameLists, Inserts, Pops}
use Rattle.open_lists.specs.declared.lists.OpenLists.{OpenLists}
use Rattle.open_lists.specs.declared.list.OpenList.{OpenList}
use Rattle.open_lists.specs.declared.queues.Queues.{Queues}
use Rattle.open_lists.specs.declared.entry.Entry.{Entry}
use Rattle.open_lists.proofs.Rows.{nil_of_length}
use Rattle.open_lists.proofs.Order.{takes_oldest_least, puts_behind, some_entry}

slice_get-set_same : {X : Type 0} (xs : List X) (i : ℕ) (x : X) → i < length xs → slice_get (set xs i x) i ≡ Some x
slice_get-set_same [] i x h = absurd (omega arith)
slice_get-set_same (y ∷ ys) zero x h = refl
slice_get-set_same (y ∷ ys) (suc i) x h = slice_get-set_same ys i x (omega arith)

slice_get-set_other : {X : Type 0} (xs : List X) (i k : ℕ) (x : X) → k ≢ i → slice_get (set xs i x) k ≡ slice_get xs k
slice_get-set_other [] i k x h = refl
slice_get-set_other (y ∷ ys) zero zero x h = absurd (h refl)
slice_get-set_other (y ∷ ys) zero (suc k) x h = refl
slice_get-set_other (y ∷ ys) (suc i) zero x h = refl
slice_get-set_other (y ∷ ys) (suc i) (suc k) x h = slice_get-set_other ys i k x (λ e. h (ap suc e))

-- what stays in the list that is written stays in each
same-set : {X Y : Type 0} (f : Option X → Y) (xs : List X) (i : ℕ) (x x' : X) → slice_get xs i ≡ Some x → f (Some x') ≡ f (Some x) → (k : ℕ) → f (slice_get (set xs i x') k) ≡ f (slice_get xs k)
same-set f [] i x x' here e k = refl
same-set f (y ∷ ys) zero x x' here e zero = e ∙ sym (ap f here)
same-set f (y ∷ ys) zero x x' here e (suc k) = refl
same-set f (y ∷ ys) (suc i) x x' here e zero = refl
same-set f (y ∷ ys) (suc i) x x' here e (suc k) = same-set f ys i x x' here e k

-- queues that stay hold the same items
pub holds_same : (old new : OpenLists) (k : ℕ) → ((key : ℕ) → queue new k key ≡ queue old k key) → (items : List Item) → Holds old k items → Holds new k items
holds_same old new k same items holds = record { queues = λ key. same key ∙ holds.queues key }

-- a list with an entry has one of least key

no_others : (queues : Queues) (key : ℕ) → queues.first ≡ [] → queue_for queues key ≡ []
no_others queues key none = elim (cases_eq key queues.least) [
  | inl is ↦ let here : nat_eq key queues.least ≡ true = grind (arith, nat_tests) in rw here none
  | inr ne ↦
      let there : nat_eq key queues.least ≡ false = grind (arith, nat_tests) in
      rw there (ap (λ (es : List (ℕ × List Entry)). queue_of (lookup (is_at (nat_cmp key)) es)) (queues.apart.alone none))
]

not_blank : (o : Option OpenList) (key : ℕ) → entries_in_list o key ≢ [] → 0 < least_count_in o
not_blank None key some = absurd (some refl)
not_blank (Some list) key some = elim (cases_eq (length list.queues.first) 0) [
  | inl z ↦ absurd (some (no_others list.queues key (nil_of_length list.queues.first z)))
  | inr ne ↦ omega arith
]

within_lists : (lists : List OpenList) (m key : ℕ) → entries_in_list (slice_get lists m) key ≢ [] → m < length lists
within_lists lists m key some = elim (cases_lt m (length lists)) [
  | inl h ↦ h
  | inr h ↦ absurd (some (ap (λ o. entries_in_list o key) (slice_get_past lists m h)))
]

-- a list that has an entry of least key holds something
least_is : (queues : Queues) → queue_for queues queues.least ≡ queues.first
least_is queues = grind (arith, nat_tests)

pub holds_some : (lists : OpenLists) (k : ℕ) → 0 < least_count_in (slice_get lists.lists.items k) → Holds lists k [] → ⊥
holds_some lists k lt holds = elim (slice_get lists.lists.items k) as (λ o. slice_get lists.lists.items k ≡ o → ⊥) [
  | None ↦ λ is. let z : 0 < least_count_in None = rw is at lt in omega arith
  | Some list ↦ λ is.
      let least = list.queues.least in
      let none : list.queues.first ≡ [] = sym (least_is list.queues) ∙ sym (ap (λ o. entries_in_list o least) is) ∙ holds.queues least in
      let some : 0 < length list.queues.first = rw is at lt in
      let z : length list.queues.first ≡ 0 = ap length none in
      omega arith
] refl

-- a list that has none holds nothing
pub holds_none : (lists : OpenLists) (k : ℕ) → least_count_in (slice_get lists.lists.items k) ≡ 0 → Holds lists k []
holds_none lists k z = record {
  queues = λ key. elim (slice_get lists.lists.items k) as (λ o. slice_get lists.lists.items k ≡ o → entries_in_list o key ≡ []) [
    | None ↦ λ is. refl
    | Some list ↦ λ is. let none : length list.queues.first ≡ 0 = rw is at z in no_others list.queues key (nil_of_length list.queues.first none)
  ] refl;
}

-- a list that holds an item has an entry of least key, and is there
filled : (lists : OpenLists) (m : ℕ) (items : List Item) → Holds lists m items → items ≢ [] → (m < list_count lists) × (0 < least_count_in (slice_get lists.lists.items m))
filled lists m items holds some =
    let entry = some_entry (λ key. queue lists m key) items holds.queues some in
    (within_lists lists.lists.items m entry.0 entry.1, not_blank (slice_get lists.lists.items m) entry.0 entry.1)

module _ (old new : OpenLists) (k : ℕ) (list list' : OpenList) (read : slice_get old.lists.items k ≡ Some list) (lists : new.lists.items ≡ set old.lists.items k list')
    (sort : list'.preferred_only ≡ list.preferred_only) (boost : new.boost ≡ old.boost) where
  within : k < list_count old
  within = slice_get_within old.lists.items k list read

  at : slice_get new.lists.items k ≡ Some list'
  at = ap (λ ls. slice_get ls k) lists ∙ slice_get-set_same old.lists.items k list' within

  elsewhere : (m : ℕ) → m ≢ k → slice_get new.lists.items m ≡ slice_get old.lists.items m
  elsewhere m ne = ap (λ ls. slice_get ls m) lists ∙ slice_get-set_other old.lists.items k m list' ne

  was : (key : ℕ) → queue old k key ≡ queue_for list.queues key
  was key = ap (λ o. entries_in_list o key) read

  now : (key : ℕ) → queue new k key ≡ queue_for list'.queues key
  now key = ap (λ o. entries_in_list o key) at

  others_hold : (m : ℕ) → m ≢ k → (items : List Item) → Holds old m items → Holds new m items
  others_hold m ne = holds_same old new m (λ key. ap (λ o. entries_in_list o key) (elsewhere m ne))

  same_shape : SameShape old new
  same_shape = record {
    count = ap length lists ∙ length-set old.lists.items k list';
    sorts = λ m. ap (λ ls. preferred_in (slice_get ls m)) lists ∙ same-set preferred_in old.lists.items k list list' read sort m;
    boost = boost;
  }

  same_counters : list'.counter ≡ list.counter → (m : ℕ) → counter new m ≡ counter old m
  same_counters counted m = ap (λ ls. counter_in (slice_get ls m)) lists ∙ same-set counter_in old.lists.items k list list' read counted m

  -- operators of a visit go into the list
  pub inserts : (key parent : ℕ) (operators : List ℕ) → list'.counter ≡ list.counter → queue_for list'.queues key ≡ queue_for list.queues key ++ entries_of_visit parent operators →
      ((other : ℕ) → other ≢ key → queue_for list'.queues other ≡ queue_for list.queues other) → Inserts old k (items_of_visit key parent operators) new
  inserts key parent operators counted here others = record {
    put = λ items holds. record {
      queues = λ j. now j ∙ puts_behind (λ j. queue_for list.queues j) (λ j. queue_for list'.queues j) key parent operators here others items (λ j. sym (was j) ∙ holds.queues j) j;
    };
    others = others_hold;
    counters = same_counters counted;
    shape = same_shape;
  }

  -- a list is written that holds what it held
  pub stays : list'.counter ≡ list.counter → ((key : ℕ) → queue_for list'.queues key ≡ queue_for list.queues key) → SameLists old new
  stays counted same = record {
    items = λ m. holds_same old new m (λ key. ap (λ ls. entries_in_list (slice_get ls m) key) lists ∙ same-set (λ o. entries_in_list o key) old.lists.items k list list' read (same key) m);
    counters = same_counters counted;
    shape = same_shape;
  }

  -- an entry is taken from the list
  pub pops : (key : ℕ) (entry : Entry) → TakesList (list_count old) (λ m. least_count_in (slice_get old.lists.items m)) (counter old) k →
      queue_for list.queues key ≡ entry ∷ queue_for list'.queues key → ((other : ℕ) → other < key → queue_for list.queues other ≡ []) →
      ((other : ℕ) → other ≢ key → queue_for list'.queues other ≡ queue_for list.queues other) → list'.counter ≡ list.counter +ℤ pos 1 →
      Pops old (record { list = k; key = key; entry = entry }) new
  pops key entry takes first least others counted = record {
    exists = takes.exists;
    taken = λ items holds.
        let found = takes_oldest_least (λ j. queue_for list.queues j) (λ j. queue_for list'.queues j) key entry first least others items (λ j. sym (was j) ∙ holds.queues j) in
        (found.0, found.1, record { queues = λ j. now j ∙ found.2 j });
    least = λ m items holds some. let there = filled old m items holds some in takes.least m there.0 there.1;
    lowest = λ m items lt holds some. let there = filled old m items holds some in takes.lowest m lt there.1;
    counted = ap counter_in at ∙ counted ∙ ap (λ (n : ℤ). n +ℤ pos 1) (sym (ap counter_in read));
    others = others_hold;
    other_counters = λ m ne. ap counter_in (elsewhere m ne);
    shape = same_shape;
  }

-- the counters of the first i lists for preferred operators have fallen
pub record Fallen (old now : List OpenList) (by : ℕ) (i : ℕ) : Type 0 where
  pub count : length now ≡ length old
  pub queues : (k key : ℕ) → entries_in_list (slice_get now k) key ≡ entries_in_list (slice_get old k) key
  pub sorts : (k : ℕ) → preferred_in (slice_get now k) ≡ preferred_in (slice_get old k)
  pub done : (k : ℕ) → k < i → counter_in (slice_get now k) ≡ (if preferred_in (slice_get old k) then counter_in (slice_get old k) -ℤ pos by else counter_in (slice_get old k))
  pub left : (k : ℕ) → i ≤ k → counter_in (slice_get now k) ≡ counter_in (slice_get old k)

pub fallen_none : (old : List OpenList) (by : ℕ) → Fallen old old by 0
fallen_none old by = record { count = refl; queues = λ _ _. refl; sorts = λ _. refl; done = λ k h. absurd (omega arith); left = λ _ _. refl }

pub fallen_more : (old now : List OpenList) (by i : ℕ) (list list' : OpenList) → Fallen old now by i → slice_get now i ≡ Some list
    → ((key : ℕ) → queue_for list'.queues key ≡ queue_for list.queues key) → list'.preferred_only ≡ list.preferred_only
    → list'.counter ≡ (if list.preferred_only then list.counter -ℤ pos by else list.counter)
    → Fallen old (set now i list') by (i + 1)
fallen_more old now by i list list' b read items sort counter =
    let within = slice_get_within now i list read in
    let at : slice_get (set now i list') i ≡ Some list' = slice_get-set_same now i list' within in
    record {
      count = length-set now i list' ∙ b.count;
      queues = λ k key. same-set (λ o. entries_in_list o key) now i list list' read (items key) k ∙ b.queues k key;
      sorts = λ k. same-set preferred_in now i list list' read sort k ∙ b.sorts k;
      done = λ k h. elim (cases_eq k i) [
        | inl e ↦ rw e (ap counter_in at ∙ counter ∙ (let s : list.preferred_only ≡ preferred_in (slice_get old i) = sym (ap preferred_in read) ∙ b.sorts i in let n : list.counter ≡ counter_in (slice_get old i) = sym (ap counter_in read) ∙ b.left i (omega arith) in rw (s, n) refl))
        | inr ne ↦ ap counter_in (slice_get-set_other now i k list' ne) ∙ b.done k (omega arith)
      ];
      left = λ k h. let ne : k ≢ i = omega arith in ap counter_in (slice_get-set_other now i k list' ne) ∙ b.left k (omega arith);
    }

pub fallen_all : (old now : List OpenList) (by i : ℕ) → Fallen old now by i → length old ≤ i → (k : ℕ) → counter_in (slice_get now k) ≡ (if preferred_in (slice_get old k) then counter_in (slice_get old k) -ℤ pos by else counter_in (slice_get old k))
fallen_all old now by i b all k = elim (cases_lt k i) [
  | inl h ↦ b.done k h
  | inr h ↦ b.left k h ∙ (let e = slice_get_past old k (omega arith) in rw e refl)
]

-- empty lists for the first i flags
pub record Empties (lists : List OpenList) (flags : List Bool) (i : ℕ) : Type 0 where
  pub count : length lists ≡ i
  pub empty : (k key : ℕ) → entries_in_list (slice_get lists k) key ≡ []
  pub counters : (k : ℕ) → counter_in (slice_get lists k) ≡ pos 0
  pub sorts : (k : ℕ) → preferred_in (slice_get lists k) ≡ get_or (take i flags) k false

-- what holds of each list, and of the one that is put at the end, holds of each afterwards
all-push : {X : Type 0} (P : Option X → Type 0) (xs : List X) (x : X) → ((k : ℕ) → P (slice_get xs k)) → P (Some x) → P None → (k : ℕ) → P (slice_get (xs ++ x ∷ []) k)
all-push P [] x h p n zero = p
all-push P [] x h p n (suc k) = n
all-push P (y ∷ ys) x h p n zero = h zero
all-push P (y ∷ ys) x h p n (suc k) = all-push P ys x (λ j. h (suc j)) p n k

flags-push : {X : Type 0} (f : Option X → Bool) (xs : List X) (flags : List Bool) (x : X) → f None ≡ false → length xs ≡ length flags → ((k : ℕ) → f (slice_get xs k) ≡ get_or flags k false) → (k : ℕ) → f (slice_get (xs ++ x ∷ []) k) ≡ get_or (flags ++ f (Some x) ∷ []) k false
flags-push f [] [] x n e h zero = refl
flags-push f [] [] x n e h (suc k) = n
flags-push f [] (b ∷ bs) x n e h k = absurd (omega arith)
flags-push f (y ∷ ys) [] x n e h k = absurd (omega arith)
flags-push f (y ∷ ys) (b ∷ bs) x n e h zero = h zero
flags-push f (y ∷ ys) (b ∷ bs) x n e h (suc k) = flags-push f ys bs x n (omega arith) (λ j. h (suc j)) k

pub empties_more : (lists lists' : List OpenList) (flags : List Bool) (i : ℕ) (list : OpenList) → Empties lists flags i → i < length flags
    → lists' ≡ lists ++ list ∷ [] → ((key : ℕ) → queue_for list.queues key ≡ []) → list.counter ≡ pos 0 → list.preferred_only ≡ get_or flags i false
    → Empties lists' flags (i + 1)
empties_more lists lists' flags i list e h new items counter sort =
    record {
      count = ap length new ∙ length-append lists (list ∷ []) ∙ omega (arith, e.count);
      empty = λ k key. ap (λ ls. entries_in_list (slice_get ls k) key) new ∙ all-push (λ o. entries_in_list o key ≡ []) lists list (λ j. e.empty j key) (items key) refl k;
      counters = λ k. ap (λ ls. counter_in (slice_get ls k)) new ∙ all-push (λ o. counter_in o ≡ pos 0) lists list e.counters counter refl k;
      sorts = λ k. ap (λ ls. preferred_in (slice_get ls k)) new
          ∙ flags-push preferred_in lists (take i flags) list refl (e.count ∙ sym (length-take-le i flags (omega arith))) e.sorts k
          ∙ ap (λ fs. get_or fs k false) (ap (λ b. take i flags ++ b ∷ []) sort ∙ sym (take_more flags i false h));
    }
