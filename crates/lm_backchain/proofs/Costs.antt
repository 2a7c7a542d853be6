-- The least of some numbers.
use Rattle.std.proofs.Common.{◌≡◌, ◌∙◌, sym, ap, refl, subst, ℕ, zero, suc, ◌+◌, ◌≤◌, List, [], ◌∷◌, ◌++◌, map, take, Bool, true, false, nat_eq, Option, Some, None, slice_get, inl, inr, ◌⊎◌, if◌then◌else◌, arith, min}
use Rattle.std.specs.Prelude.{filter}
use Rattle.std.proofs.lemmas.Bool.{or_cases, or_left, or_right, eqb-true, eq-eqb}
use Rattle.std.proofs.lemmas.List.{map-append}
use Rattle.std.proofs.lemmas.Option.{same_Some, none-some}
use Rattle.sas_task.specs.declared.contents.Fact.{Fact}
use Rattle.sas_task.specs.declared.contents.Operator.{Operator}
use Rattle.sas_task.specs.declared.contents.Parts.{Parts}
use Rattle.relaxed_task.specs.Numbers.{is_among}
use Rattle.lm_backchain.specs.Backchain.{least, least_cost, or_less, gives_one, is_goal_fact, node_of}
use Rattle.lm_backchain.specs.Givers.{AreGivers, cost_at}
use Rattle.lm_backchain.proofs.GivingOperators.{gives_at_of, gives_from}
use Rattle.lm_backchain.proofs.ListLaws.{take_more_at}

-- one number more
pub least_more : (numbers : List ℕ) (n : ℕ) → least (numbers ++ n ∷ []) ≡ Some (or_less n (least numbers))
least_more [] n = refl
least_more (m ∷ numbers) n = ap (λ o. Some (or_less m o)) (least_more numbers n) ∙ ap (λ k. Some k) (swap (least numbers))
  where
    swap : (o : Option ℕ) → or_less m (Some (or_less n o)) ≡ or_less n (Some (or_less m o))
    swap None = omega arith
    swap (Some k) = omega arith

cost_is : (operators : List Operator) (op : ℕ) (o : Operator) → slice_get operators op ≡ Some o → cost_at operators op ≡ o.cost
cost_is operators op o at = rw at refl

-- the cost of one operator more
pub cost_more : (operators : List Operator) (ops : List ℕ) (i op : ℕ) (o : Operator) (old new : Option ℕ) → slice_get ops i ≡ Some op → slice_get operators op ≡ Some o →
    old ≡ least (map (cost_at operators) (take i ops)) → new ≡ Some (or_less o.cost old) → new ≡ least (map (cost_at operators) (take (i + 1) ops))
cost_more operators ops i op o old new at own was is =
    let cost = cost_is operators op o own in
    is ∙ (ap (λ k. Some (or_less o.cost k)) was
    ∙ (ap (λ n. Some (or_less n (least (map (cost_at operators) (take i ops))))) (sym cost)
    ∙ (sym (least_more (map (cost_at operators) (take i ops)) (cost_at operators op))
    ∙ (sym (ap least (map-append (cost_at operators) (take i ops) (op ∷ [])))
    ∙ sym (ap (λ (os : List ℕ). least (map (cost_at operators) os)) (take_more_at ops i op at))))))

-- the least is one of the numbers, and none is less
low_among : (n : ℕ) (numbers : List ℕ) → is_among (n ∷ numbers) (or_less n (least numbers)) ≡ true
low_among n [] = or_left _ _ (eq-eqb n n refl)
low_among n (m ∷ numbers) = by (low_among m numbers) (which n (or_less m (least numbers)))
  where
    which : (a b : ℕ) → (min a b ≡ a) ⊎ (min a b ≡ b)
    which a b = grind arith

    by : is_among (m ∷ numbers) (or_less m (least numbers)) ≡ true → (min n (or_less m (least numbers)) ≡ n) ⊎ (min n (or_less m (least numbers)) ≡ or_less m (least numbers)) →
        is_among (n ∷ m ∷ numbers) (min n (or_less m (least numbers))) ≡ true
    by there (inl own) = or_left _ _ (eq-eqb _ n own)
    by there (inr other) = or_right (nat_eq (min n (or_less m (least numbers))) n) _ (subst (λ k. is_among (m ∷ numbers) k ≡ true) (sym other) there)

low_least : (n : ℕ) (numbers : List ℕ) (k : ℕ) → is_among (n ∷ numbers) k ≡ true → or_less n (least numbers) ≤ k
low_least n [] k h = elim (or_cases (nat_eq k n) false h) [ inl e ↦ let same : k ≡ n = eqb-true k n e in omega (arith, same) | inr none ↦ absurd (cc) ]
low_least n (m ∷ numbers) k h = elim (or_cases (nat_eq k n) _ h) [
  | inl e ↦ let same : k ≡ n = eqb-true k n e in omega (arith, same)
  | inr there ↦ let le = low_least m numbers k there in omega (arith, le)
]

-- numbers that are the same but for order and repeats
same_least : (xs ys : List ℕ) → ((n : ℕ) → is_among xs n ≡ true → is_among ys n ≡ true) → ((n : ℕ) → is_among ys n ≡ true → is_among xs n ≡ true) → least xs ≡ least ys
same_least [] [] there back = refl
same_least [] (y ∷ ys) there back = let k : false ≡ true = back y (or_left _ _ (eq-eqb y y refl)) in absurd (cc)
same_least (x ∷ xs) [] there back = let k : false ≡ true = there x (or_left _ _ (eq-eqb x x refl)) in absurd (cc)
same_least (x ∷ xs) (y ∷ ys) there back =
    let le = low_least y ys _ (there _ (low_among x xs)) in
    let ge = low_least x xs _ (back _ (low_among y ys)) in
    let same : or_less x (least xs) ≡ or_less y (least ys) = omega (arith, le, ge) in
    ap (λ n. Some n) same

map_among : (f : ℕ → ℕ) (xs : List ℕ) (x : ℕ) → is_among xs x ≡ true → is_among (map f xs) (f x) ≡ true
map_among f [] x h = h
map_among f (y ∷ xs) x h = elim (or_cases (nat_eq x y) _ h) [
  | inl e ↦ or_left _ _ (eq-eqb (f x) (f y) (ap f (eqb-true x y e)))
  | inr there ↦ or_right (nat_eq (f x) (f y)) _ (map_among f xs x there)
]

among_map : (f : ℕ → ℕ) (xs : List ℕ) (n : ℕ) → is_among (map f xs) n ≡ true → (x : ℕ) × (is_among xs x ≡ true) × (f x ≡ n)
among_map f [] n h = let k : false ≡ true = h in absurd (cc)
among_map f (y ∷ xs) n h = elim (or_cases (nat_eq n (f y)) _ h) [
  | inl e ↦ (y, or_left _ _ (eq-eqb y y refl), sym (eqb-true n (f y) e))
  | inr there ↦ let r = among_map f xs n there in (r.0, or_right (nat_eq r.0 y) _ r.1, r.2)
]

abbrev costs_of : List Fact → List Operator → List ℕ
costs_of facts operators = map (λ o. o.cost) (filter (gives_one facts) operators)

cost_of : (facts : List Fact) (operators : List Operator) (op : ℕ) (o : Operator) → slice_get operators op ≡ Some o → gives_one facts o ≡ true → is_among (costs_of facts operators) o.cost ≡ true
cost_of facts [] op o at gives = absurd (none-some o at)
cost_of facts (p ∷ operators) zero o at gives = by (subst (λ (q : Operator). gives_one facts q ≡ true) (sym (same_Some p o at)) gives) (ap (λ (q : Operator). q.cost) (same_Some p o at))
  where
    by : gives_one facts p ≡ true → p.cost ≡ o.cost → is_among (costs_of facts (p ∷ operators)) o.cost ≡ true
    by is same = rw is (or_left _ _ (eq-eqb o.cost p.cost (sym same)))
cost_of facts (p ∷ operators) (suc op) o at gives = by (gives_one facts p) (cost_of facts operators op o at gives)
  where
    by : (b : Bool) → is_among (costs_of facts operators) o.cost ≡ true → is_among (map (λ (q : Operator). q.cost) (if b then p ∷ filter (gives_one facts) operators else filter (gives_one facts) operators)) o.cost ≡ true
    by true there = or_right (nat_eq o.cost p.cost) _ there
    by false there = there

of_cost : (facts : List Fact) (operators : List Operator) (n : ℕ) → is_among (costs_of facts operators) n ≡ true → (op : ℕ) × (o : Operator) × (slice_get operators op ≡ Some o) × (gives_one facts o ≡ true) × (o.cost ≡ n)
of_cost facts [] n h = let k : false ≡ true = h in absurd (cc)
of_cost facts (p ∷ operators) n h = by (λ there. let r = of_cost facts operators n there in (suc r.0, r.1, r.2, r.3, r.4)) (gives_one facts p) refl h
  where
    by : (is_among (costs_of facts operators) n ≡ true → (op : ℕ) × (o : Operator) × (slice_get (p ∷ operators) op ≡ Some o) × (gives_one facts o ≡ true) × (o.cost ≡ n)) →
        (b : Bool) → gives_one facts p ≡ b → is_among (map (λ (q : Operator). q.cost) (if b then p ∷ filter (gives_one facts) operators else filter (gives_one facts) operators)) n ≡ true →
        (op : ℕ) × (o : Operator) × (slice_get (p ∷ operators) op ≡ Some o) × (gives_one facts o ≡ true) × (o.cost ≡ n)
    by later true is there = elim (or_cases (nat_eq n p.cost) _ there) [ inl e ↦ (0, p, refl, is, sym (eqb-true n p.cost e)) | inr rest ↦ later rest ]
    by later false is there = later there

-- the least cost of the operators that give one of some facts
pub least_given : (parts : Parts) (facts : List Fact) (ops : List ℕ) → AreGivers parts facts ops → least (map (cost_at parts.operators) ops) ≡ least_cost parts facts
least_given parts facts ops are = same_least _ _
    (λ n h.
    let r = among_map (cost_at parts.operators) ops n h in
    let g = gives_from parts facts r.0 (sym (are.each r.0) ∙ r.1) in
    let cost = cost_is parts.operators r.0 g.0 g.1 in
    subst (λ k. is_among (costs_of facts parts.operators) k ≡ true) (sym cost ∙ r.2) (cost_of facts parts.operators r.0 g.0 g.1 g.2))
    (λ n h.
    let r = of_cost facts parts.operators n h in
    let cost = cost_is parts.operators r.0 r.1 r.2 in
    subst (λ k. is_among (map (cost_at parts.operators) ops) k ≡ true) (cost ∙ r.4) (map_among (cost_at parts.operators) ops r.0 (are.each r.0 ∙ (gives_at_of parts facts r.0 r.1 r.2 ∙ r.3))))

-- the node of some facts
pub given_node : (parts : Parts) (facts : List Fact) (ops : List ℕ) (low : Option ℕ) (goal : Bool) → AreGivers parts facts ops → low ≡ least (map (cost_at parts.operators) ops) → goal ≡ is_goal_fact parts facts →
    record { facts = facts; least = low; goal = goal } ≡ node_of parts facts
given_node parts facts ops low goal are low_is goal_is =
    ap (λ (o : Option ℕ). record { facts = facts; least = o; goal = goal }) (low_is ∙ least_given parts facts ops are)
    ∙ ap (λ (b : Bool). record { facts = facts; least = least_cost parts facts; goal = b }) goal_is
