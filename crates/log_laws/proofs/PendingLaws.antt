-- What the lists hold after a pop, and after a visit.
use Rattle.std.proofs.Common.{◌≡◌, ◌≢◌, ℕ, zero, suc, ◌+◌, ◌<◌, Bool, true, false, not, cond, List, [], ◌∷◌, ◌++◌, map, length, slice_get, Some, refl, ap, sym, ◌∙◌, subst, arith, inl, inr}
use Rattle.std.specs.Prelude.{◌&&◌, ◌||◌, ◌==◌, nat_lt}
use Rattle.std.specs.List.{filter, list_any, list_all, flat_map, remove, range_with_len}
use Rattle.std.proofs.lemmas.List.{append-nil}
use Rattle.std.proofs.lemmas.List.Elements.{filter-append}
use Rattle.std.proofs.lemmas.List.Concat.{flat_map-append}
use Rattle.std.proofs.lemmas.List.Folds.{list_any-append}
use Rattle.std.proofs.lemmas.Bool.{cases_Bool, and_parts, or_parts, or_from, and_from, eqb-true, eq-eqb, ne_eqb, ltb-true, lt-ltb, and_left, and_right, false≢true}
use Rattle.sas_task.specs.States.{is_applicable}
use Rattle.open_lists.specs.Items.{Item}
use Rattle.open_lists.specs.Runs.{entry_of}
use Rattle.search_log.specs.declared.turns.Pop.{Pop}
use Rattle.search_log.specs.Phases.{Phase}
use Rattle.search_log.specs.Places.{Node, is_expanded}
use Rattle.search_log.specs.Pending.{puts_of, is_put, item_for, is_taken, pending}
use Rattle.log_laws.proofs.Sound.{Numbered}
use Rattle.log_laws.proofs.Elements.{filter-keep, filter-skip, filter-same, filter-none, none-at, all-weaker, all-join}
use Rattle.lama_num.proofs.BoolLaws.{or-false}

abbrev pub is_entry : ℕ → ℕ → Item → Bool
is_entry parent op item = (parent == item.entry.parent) && (op == item.entry.op)

-- no entry stands twice
abbrev pub Distinct : List Item → Type 0
Distinct [] = Unit {0}
Distinct (x ∷ xs) = (list_any (is_entry x.entry.parent x.entry.op) xs ≡ false) × Distinct xs

filter-both : {X : Type 0} (a b : X → Bool) (xs : List X) → filter (λ x. not (a x || b x)) xs ≡ filter (λ x. not (b x)) (filter (λ x. not (a x)) xs)
filter-both a b [] = refl
filter-both a b (x ∷ xs) =
    elim (cases_Bool (a x)) [
      | inl t ↦ filter-skip (λ y. not (a y || b y)) x xs (ap (λ c. not (c || b x)) t) ∙ filter-both a b xs ∙ ap (filter (λ y. not (b y))) (sym (filter-skip (λ y. not (a y)) x xs (ap not t)))
      | inr f ↦
          ap (λ c. cond (not (c || b x)) (x ∷ filter (λ y. not (a y || b y)) xs) (filter (λ y. not (a y || b y)) xs)) f
          ∙ ap (λ ys. cond (not (b x)) (x ∷ ys) ys) (filter-both a b xs)
          ∙ ap (filter (λ y. not (b y))) (sym (filter-keep (λ y. not (a y)) x xs (ap not f)))
    ]

is_entry-swap : (x y : Item) → is_entry y.entry.parent y.entry.op x ≡ false → is_entry x.entry.parent x.entry.op y ≡ false
is_entry-swap x y h =
    elim (cases_Bool (is_entry x.entry.parent x.entry.op y)) [
      | inr f ↦ f
      | inl t ↦
          let p = and_parts (x.entry.parent == y.entry.parent) (x.entry.op == y.entry.op) t in
          absurd (false≢true (sym h ∙ and_from (y.entry.parent == x.entry.parent) (y.entry.op == x.entry.op) (eq-eqb _ _ (sym (eqb-true _ _ p.0))) (eq-eqb _ _ (sym (eqb-true _ _ p.1)))))
    ]

is_entry-self : (x : Item) → is_entry x.entry.parent x.entry.op x ≡ true
is_entry-self x = and_from (x.entry.parent == x.entry.parent) (x.entry.op == x.entry.op) (eq-eqb _ _ refl) (eq-eqb _ _ refl)

-- the entry that is taken is removed at its place
removed : (xs : List Item) (place : ℕ) (x : Item) → Distinct xs → slice_get xs place ≡ Some x → filter (λ y. not (is_entry x.entry.parent x.entry.op y)) xs ≡ remove xs place
removed [] place x d e = cc
removed (y ∷ ys) zero x d e =
    let f : y ≡ x = cc in
    let self : is_entry x.entry.parent x.entry.op y ≡ true = subst (λ (z : Item). is_entry z.entry.parent z.entry.op y ≡ true) f (is_entry-self y) in
    let others : list_any (is_entry x.entry.parent x.entry.op) ys ≡ false = subst (λ (z : Item). list_any (is_entry z.entry.parent z.entry.op) ys ≡ false) f d.0 in
    filter-skip (λ z. not (is_entry x.entry.parent x.entry.op z)) y ys (ap not self) ∙ filter-none (is_entry x.entry.parent x.entry.op) ys others
removed (y ∷ ys) (suc i) x d e =
    let other = is_entry-swap x y (none-at (is_entry y.entry.parent y.entry.op) ys i x d.0 e) in
    filter-keep (λ z. not (is_entry x.entry.parent x.entry.op z)) y ys (ap not other) ∙ ap (λ zs. y ∷ zs) (removed ys i x d.1 e)

any-filter : {X : Type 0} (b f : X → Bool) (xs : List X) → list_any b xs ≡ false → list_any b (filter f xs) ≡ false
any-filter b f [] h = refl
any-filter b f (x ∷ xs) h =
    let p = or_parts (b x) (list_any b xs) h in
    elim (cases_Bool (f x)) [
      | inl t ↦ ap (list_any b) (filter-keep f x xs t) ∙ or_from (b x) (list_any b (filter f xs)) p.0 (any-filter b f xs p.1)
      | inr n ↦ ap (list_any b) (filter-skip f x xs n) ∙ any-filter b f xs p.1
    ]

Distinct-filter : (f : Item → Bool) (xs : List Item) → Distinct xs → Distinct (filter f xs)
Distinct-filter f [] d = tt
Distinct-filter f (x ∷ xs) d =
    elim (cases_Bool (f x)) [
      | inl t ↦ subst Distinct (sym (filter-keep f x xs t)) (any-filter (is_entry x.entry.parent x.entry.op) f xs d.0, Distinct-filter f xs d.1)
      | inr n ↦ subst Distinct (sym (filter-skip f x xs n)) (Distinct-filter f xs d.1)
    ]

-- entries of a visit, and those of later visits
none-of_later : (s op : ℕ) (xs : List Item) → list_all (λ (i : Item). nat_lt s i.entry.parent) xs ≡ true → list_any (is_entry s op) xs ≡ false
none-of_later s op [] h = refl
none-of_later s op (x ∷ xs) h =
    let p = and_parts (nat_lt s x.entry.parent) (list_all (λ (i : Item). nat_lt s i.entry.parent) xs) h in
    or_from (is_entry s op x) (list_any (is_entry s op) xs) (and_left (s == x.entry.parent) (op == x.entry.op) (ne_eqb s x.entry.parent (let l = ltb-true _ _ p.0 in λ e. omega (arith, l, e)))) (none-of_later s op xs p.1)

Distinct-join : (s : ℕ) (xs ys : List Item) → Distinct xs → list_all (λ (i : Item). i.entry.parent == s) xs ≡ true → list_all (λ (i : Item). nat_lt s i.entry.parent) ys ≡ true → Distinct ys → Distinct (xs ++ ys)
Distinct-join s [] ys d a l e = e
Distinct-join s (x ∷ xs) ys d a l e =
    let p = and_parts (x.entry.parent == s) (list_all (λ (i : Item). i.entry.parent == s) xs) a in
    let at = eqb-true _ _ p.0 in (
      list_any-append (is_entry x.entry.parent x.entry.op) xs ys ∙ or_from _ _ d.0 (subst (λ (q : ℕ). list_any (is_entry q x.entry.op) ys ≡ false) (sym at) (none-of_later s x.entry.op ys l)),
      Distinct-join s xs ys d.1 p.1 l e,
    )

-- what one visit puts
all-map_number : (phase : Phase) (k : ℕ) (n : Node) (ops : List ℕ) → list_all (λ (i : Item). i.entry.parent == n.number) (map (item_for phase k n) ops) ≡ true
all-map_number phase k n [] = refl
all-map_number phase k n (op ∷ ops) = and_from _ _ (eq-eqb n.number n.number refl) (all-map_number phase k n ops)

pub all-puts_number : (phase : Phase) (k : ℕ) (n : Node) → list_all (λ (i : Item). i.entry.parent == n.number) (puts_of phase k n) ≡ true
all-puts_number phase k n =
    elim (cases_Bool (is_expanded phase n.visit n.place)) [
      | inl t ↦ rw t (all-map_number phase k n _)
      | inr f ↦ rw f refl
    ]

none-in_map : (phase : Phase) (k : ℕ) (n : Node) (f g : ℕ → Bool) (a lo len : ℕ) → a < lo → list_any (is_entry n.number a) (map (item_for phase k n) (filter f (filter g (range_with_len lo len)))) ≡ false
none-in_map phase k n f g a lo zero h = refl
none-in_map phase k n f g a lo (suc len) h =
    let rest = none-in_map phase k n f g a (lo + 1) len (omega arith) in
    let B = λ (ops : List ℕ). list_any (is_entry n.number a) (map (item_for phase k n) ops) in
    elim (cases_Bool (g lo)) [
      | inr no-g ↦ ap (λ os. B (filter f os)) (filter-skip g lo (range_with_len (lo + 1) len) no-g) ∙ rest
      | inl yes-g ↦ ap (λ os. B (filter f os)) (filter-keep g lo (range_with_len (lo + 1) len) yes-g)
          ∙ elim (cases_Bool (f lo)) [
            | inr no-f ↦ ap B (filter-skip f lo (filter g (range_with_len (lo + 1) len)) no-f) ∙ rest
            | inl yes-f ↦ ap B (filter-keep f lo (filter g (range_with_len (lo + 1) len)) yes-f)
                ∙ or_from _ _ (and_right (n.number == n.number) (a == lo) (ne_eqb a lo (λ e. omega (arith, e, h)))) rest
          ]
    ]

Distinct-map : (phase : Phase) (k : ℕ) (n : Node) (f g : ℕ → Bool) (lo len : ℕ) → Distinct (map (item_for phase k n) (filter f (filter g (range_with_len lo len))))
Distinct-map phase k n f g lo zero = tt
Distinct-map phase k n f g lo (suc len) =
    let rest = Distinct-map phase k n f g (lo + 1) len in
    let B : List ℕ → Type 0 = λ ops. Distinct (map (item_for phase k n) ops) in
    elim (cases_Bool (g lo)) [
      | inr no-g ↦ subst (λ os. B (filter f os)) (sym (filter-skip g lo (range_with_len (lo + 1) len) no-g)) rest
      | inl yes-g ↦ subst (λ os. B (filter f os)) (sym (filter-keep g lo (range_with_len (lo + 1) len) yes-g))
          (elim (cases_Bool (f lo)) [
            | inr no-f ↦ subst B (sym (filter-skip f lo (filter g (range_with_len (lo + 1) len)) no-f)) rest
            | inl yes-f ↦ subst B (sym (filter-keep f lo (filter g (range_with_len (lo + 1) len)) yes-f)) (none-in_map phase k n f g lo (lo + 1) len (omega arith), rest)
          ])
    ]

Distinct-puts_of : (phase : Phase) (k : ℕ) (n : Node) → Distinct (puts_of phase k n)
Distinct-puts_of phase k n =
    elim (cases_Bool (is_expanded phase n.visit n.place)) [
      | inl t ↦ rw t (Distinct-map phase k n (is_put phase k n) (is_applicable phase.parts n.place.state) 0 _)
      | inr f ↦ rw f tt
    ]

later-puts : (phase : Phase) (k s t : ℕ) (ns : List Node) → t < s → Numbered s ns → list_all (λ (i : Item). nat_lt t i.entry.parent) (flat_map (puts_of phase k) ns) ≡ true
later-puts phase k s t [] l h = refl
later-puts phase k s t (n ∷ ns) l h =
    all-join _ (puts_of phase k n) (flat_map (puts_of phase k) ns)
    (all-weaker (λ (i : Item). i.entry.parent == n.number) _ (puts_of phase k n) (λ i e. lt-ltb _ _ (omega (arith, h.0, l, eqb-true _ _ e))) (all-puts_number phase k n))
    (later-puts phase k (suc s) t ns (omega arith) h.1)

pub Distinct-puts : (phase : Phase) (k s : ℕ) (ns : List Node) → Numbered s ns → Distinct (flat_map (puts_of phase k) ns)
Distinct-puts phase k s [] h = tt
Distinct-puts phase k s (n ∷ ns) h =
    Distinct-join n.number (puts_of phase k n) (flat_map (puts_of phase k) ns) (Distinct-puts_of phase k n) (all-puts_number phase k n)
    (later-puts phase k (suc s) n.number ns (omega (arith, h.0)) h.1) (Distinct-puts phase k (suc s) ns h.1)

-- whether a pop took this item from list k
abbrev pub takes : ℕ → Pop → Item → Bool
takes k p item = (p.list == k) && is_entry p.parent p.op item

is_taken-push : (pops : List Pop) (p : Pop) (k : ℕ) (item : Item) → is_taken (pops ++ p ∷ []) k item ≡ (is_taken pops k item || takes k p item)
is_taken-push pops p k item = list_any-append (λ (q : Pop). takes k q item) pops (p ∷ []) ∙ ap (λ b. is_taken pops k item || b) (or-false (takes k p item))

pub pending-after_pop : (phase : Phase) (nodes : List Node) (pops : List Pop) (p : Pop) (k : ℕ)
    → pending phase (record { nodes = nodes; pops = pops ++ p ∷ [] }) k ≡ filter (λ x. not (takes k p x)) (pending phase (record { nodes = nodes; pops = pops }) k)
pending-after_pop phase nodes pops p k =
    filter-same (λ x. not (is_taken (pops ++ p ∷ []) k x)) (λ x. not (is_taken pops k x || takes k p x)) (flat_map (puts_of phase k) nodes) (λ x. ap not (is_taken-push pops p k x))
    ∙ filter-both (is_taken pops k) (takes k p) (flat_map (puts_of phase k) nodes)

-- a pop leaves the other lists as they are
pub pending-other : (phase : Phase) (nodes : List Node) (pops : List Pop) (p : Pop) (k : ℕ) → k ≢ p.list
    → pending phase (record { nodes = nodes; pops = pops ++ p ∷ [] }) k ≡ pending phase (record { nodes = nodes; pops = pops }) k
pending-other phase nodes pops p k ne =
    pending-after_pop phase nodes pops p k ∙ filter-none (takes k p) _ (none-taken (pending phase (record { nodes = nodes; pops = pops }) k))
  where
    none-taken : (xs : List Item) → list_any (takes k p) xs ≡ false
    none-taken [] = refl
    none-taken (x ∷ xs) = or_from _ _ (and_left (p.list == k) (is_entry p.parent p.op x) (ne_eqb p.list k (λ e. ne (sym e)))) (none-taken xs)

-- and takes the one that it takes from its own list
pub pending-popped : (phase : Phase) (nodes : List Node) (pops : List Pop) (p : Pop) (place : ℕ) (x : Item) → Numbered 0 nodes
    → slice_get (pending phase (record { nodes = nodes; pops = pops }) p.list) place ≡ Some x → x.entry ≡ entry_of p.parent p.op
    → pending phase (record { nodes = nodes; pops = pops ++ p ∷ [] }) p.list ≡ remove (pending phase (record { nodes = nodes; pops = pops }) p.list) place
pending-popped phase nodes pops p place x num at entry =
    let before = pending phase (record { nodes = nodes; pops = pops }) p.list in
    pending-after_pop phase nodes pops p p.list
    ∙ filter-same (λ y. not (takes p.list p y)) (λ y. not (is_entry x.entry.parent x.entry.op y)) before (λ y. ap (λ b. not (b && is_entry p.parent p.op y)) (eq-eqb p.list p.list refl) ∙ (rw entry refl))
    ∙ removed before place x (Distinct-filter (λ y. not (is_taken pops p.list y)) (flat_map (puts_of phase p.list) nodes) (Distinct-puts phase p.list 0 nodes num)) at

-- entries of a visit that no pop names yet
fresh : (pops : List Pop) (k s : ℕ) (xs : List Item) → list_all (λ (p : Pop). nat_lt p.parent s) pops ≡ true → list_all (λ (i : Item). i.entry.parent == s) xs ≡ true
    → list_any (is_taken pops k) xs ≡ false
fresh pops k s [] a b = refl
fresh pops k s (x ∷ xs) a b =
    let p = and_parts (x.entry.parent == s) (list_all (λ (i : Item). i.entry.parent == s) xs) b in
    or_from _ _ (one pops a (eqb-true _ _ p.0)) (fresh pops k s xs a p.1)
  where
    one : (ps : List Pop) → list_all (λ (p : Pop). nat_lt p.parent s) ps ≡ true → x.entry.parent ≡ s → is_taken ps k x ≡ false
    one [] h e = refl
    one (p ∷ ps) h e =
        let q = and_parts (nat_lt p.parent s) (list_all (λ (r : Pop). nat_lt r.parent s) ps) h in
        or_from _ _ (and_right (p.list == k) _ (and_left (p.parent == x.entry.parent) (p.op == x.entry.op) (ne_eqb p.parent x.entry.parent (let l = ltb-true _ _ q.0 in λ f. omega (arith, l, f, e))))) (one ps q.1 e)

pub pending-visited : (phase : Phase) (nodes : List Node) (pops : List Pop) (n : Node) (k : ℕ) → n.number ≡ length nodes → list_all (λ (p : Pop). nat_lt p.parent (length nodes)) pops ≡ true
    → pending phase (record { nodes = nodes ++ n ∷ []; pops = pops }) k ≡ pending phase (record { nodes = nodes; pops = pops }) k ++ puts_of phase k n
pending-visited phase nodes pops n k num below =
    let f = λ (x : Item). not (is_taken pops k x) in
    ap (filter f) (flat_map-append (puts_of phase k) nodes (n ∷ []))
    ∙ filter-append f (flat_map (puts_of phase k) nodes) (puts_of phase k n ++ [])
    ∙ ap (λ ys. filter f (flat_map (puts_of phase k) nodes) ++ filter f ys) (append-nil (puts_of phase k n))
    ∙ ap (λ ys. filter f (flat_map (puts_of phase k) nodes) ++ ys) (filter-none (is_taken pops k) (puts_of phase k n)
    (fresh pops k n.number (puts_of phase k n) (subst (λ (s : ℕ). list_all (λ (p : Pop). nat_lt p.parent s) pops ≡ true) (sym num) below) (all-puts_number phase k n)))
