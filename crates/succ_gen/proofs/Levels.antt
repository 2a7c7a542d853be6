-- How a level of a tree is made.
use Rattle.std.proofs.Common.{◌≡◌, ◌∙◌, refl, sym, ap, subst, ℕ, zero, suc, ◌+◌, ◌-◌, ◌<◌, ◌≤◌, ◌⊎◌, inl, inr, List, [], ◌∷◌, ◌++◌, length, length-append, take, drop, get_or, append_assoc, append-nil, arith, slice_get, Option, Some, None, true, false, nat_lt, nat_eq}
use Rattle.std.specs.List.{range_with_len}
use Rattle.std.specs.List.Sorted.{IsPermutation, IsSorted}
use Rattle.std.specs.Ordering.{nat_cmp, ordering_then, is_lt}
use Rattle.std.specs.declared.cmp.Ordering.{Ordering}
use Rattle.std.specs.declared.cmp.Ordering.TheVariants.{Equal}
use Rattle.std.proofs.lemmas.Bool.Decides.{nat_tests}
use Rattle.std.proofs.lemmas.List.{map_push, take_all, drop_all}
use Rattle.std.proofs.lemmas.List.Sorted.{IsNonDecreasingBy-push, IsPermutation-append_left, IsPermutation-append_right, IsPermutation-trans, IsPermutation-refl, IsPermutation-to_front, IsPermutation-map, IsPermutation-sym, Contains-permutation}
use Rattle.std.proofs.lemmas.Option.{slice_get_within, slice_get-get_or, get_or_from_slice_get}
use Rattle.lama_num.specs.Rows.{row_at}
use Rattle.sas_task.specs.declared.contents.Fact.{Fact}
use Rattle.succ_gen.specs.declared.growing.Branch.{Branch}
use Rattle.succ_gen.specs.declared.growing.Home.{Home}
use Rattle.succ_gen.specs.declared.growing.Step.{Step}
use Rattle.succ_gen.specs.Branches.{ways, branch_of, EndsIn, AddsBranch, IsPlaced}
use Rattle.succ_gen.specs.Conditions.{IsCondition}
use Rattle.succ_gen.specs.Growing.{parent_of, node_of, operators_at, operators_going, IsHome, IsGrown, IsStepAt, IsLevel, AreInOrder, IsWhole}
use Rattle.succ_gen.proofs.Ways.{way-push, way-last}
use Rattle.lama_num.proofs.ListLaws.{get_push}

take-some : {X : Type 0} (xs : List X) (m : ℕ) (x : X) → slice_get xs m ≡ Some x → take (m + 1) xs ≡ take m xs ++ x ∷ []
take-some xs m x is = by (m + 1) (omega arith) ∙ more xs m x is
  where
    more : {X : Type 0} (xs : List X) (m : ℕ) (x : X) → slice_get xs m ≡ Some x → take (suc m) xs ≡ take m xs ++ x ∷ []
    more [] m x is = let k : ◌≡◌ {A = _} None (Some x) = is in cc
    more (y ∷ xs) zero x is = let k : Some y ≡ Some x = is in let e : y ≡ x = cc in ap (λ z. z ∷ []) e
    more (y ∷ xs) (suc m) x is = ap (λ zs. y ∷ zs) (more xs m x is)

    by : (n : ℕ) → n ≡ suc m → take n xs ≡ take (suc m) xs
    by n e = ap (λ k. take k xs) e

drop-some : {X : Type 0} (xs : List X) (m : ℕ) (x : X) → slice_get xs m ≡ Some x → drop m xs ≡ x ∷ drop (m + 1) xs
drop-some xs m x is = more xs m x is ∙ ap (λ k. x ∷ drop k xs) (let e : suc m ≡ m + 1 = omega arith in e)
  where
    more : {X : Type 0} (xs : List X) (m : ℕ) (x : X) → slice_get xs m ≡ Some x → drop m xs ≡ x ∷ drop (suc m) xs
    more [] m x is = let k : ◌≡◌ {A = _} None (Some x) = is in cc
    more (y ∷ xs) zero x is = let k : Some y ≡ Some x = is in let e : y ≡ x = cc in ap (λ z. z ∷ xs) e
    more (y ∷ xs) (suc m) x is = more xs m x is

none_past : {X : Type 0} (xs : List X) (m : ℕ) → slice_get xs m ≡ None → length xs ≤ m
none_past [] m none = omega arith
none_past (x ∷ xs) zero none = let k : Some x ≡ None = none in absurd (cc)
none_past (x ∷ xs) (suc m) none = let rest = none_past xs m none in omega arith

-- a branch with the parts of a step
same_branch : (a : Branch) (s : Step) → a.parent ≡ s.node → a.fact.var ≡ s.fact.var → a.fact.val ≡ s.fact.val → a ≡ branch_of s
same_branch a s parent var val = rw (← parent) (ap (λ (f : Fact). record { parent = a.parent; fact = f }) (fact a.fact s.fact var val))
  where
    fact : (f g : Fact) → f.var ≡ g.var → f.val ≡ g.val → f ≡ g
    fact f g var val = ap (λ n. record { var = n; val = f.val }) var ∙ ap (λ n. record { var = g.var; val = n }) val

-- ---- a new branch

home_kept : (conditions : List (List Fact)) (branches : List Branch) (b : Branch) (h : Home) → IsHome conditions branches h → IsHome conditions (branches ++ b ∷ []) h
home_kept conditions branches b h is = record {
  operator = is.operator;
  node = omega (arith, is.node, length-append branches (b ∷ []));
  way = way-push branches b h.node is.node ∙ is.way;
}

step_kept : (conditions : List (List Fact)) (depth : ℕ) (branches : List Branch) (b : Branch) (s : Step) → IsStepAt conditions depth branches s → IsStepAt conditions depth (branches ++ b ∷ []) s
step_kept conditions depth branches b s is = record {
  operator = is.operator;
  node = omega (arith, is.node, length-append branches (b ∷ []));
  way = way-push branches b s.node is.node ∙ is.way;
  next = is.next;
}

-- the last branch doesn't stand behind a step's
record IsNext (branches : List Branch) (s : Step) : Type 0 where
  parent : (a : Branch) → EndsIn branches a → a.parent ≤ s.node
  value : (a : Branch) → EndsIn branches a → a.parent ≡ s.node → a.fact.var ≡ s.fact.var → a.fact.val ≤ s.fact.val

last_below : (branches : List Branch) (s : Step) (d : Branch) → IsNext branches s → 0 < length branches → parent_of (get_or branches (length branches - 1) d) ≤ s.node
last_below branches s d next some = next.parent (get_or branches (length branches - 1) d) (record { last = slice_get-get_or branches (length branches - 1) d (omega arith) })

grow_branch : (conditions : List (List Fact)) (branches : List Branch) (homes : List Home) (s : Step) → IsGrown conditions branches homes → length branches + 1 < 4294967294 → s.node ≤ length branches → IsCondition conditions s.fact → IsNext branches s → (EndsIn branches (branch_of s) → ⊥) → IsGrown conditions (branches ++ branch_of s ∷ []) homes
grow_branch conditions branches homes s grown few node condition next new = record {
  few = omega (arith, length-append branches (branch_of s ∷ []));
  parents = IsNonDecreasingBy-push parent_of branches (branch_of s) grown.parents (λ d some. last_below branches s d next some);
  earlier = λ c b at. elim (get_push branches (branch_of s) c b at) [
    | inl before ↦ grown.earlier c b before
    | inr here ↦ let is : b.parent ≡ s.node = ap (λ (x : Branch). x.parent) here.1 in let place : c ≡ length branches = here.0 in omega arith
  ];
  rising = λ c a b at_a at_b same var. elim (get_push branches (branch_of s) (c + 1) b at_b) [
    | inl before ↦ grown.rising c a b (front c a at_a (let lt = slice_get_within branches (c + 1) b before in omega arith)) before same var
    | inr here ↦ last c a b at_a here.0 here.1 same var
  ];
  known = λ c b at. elim (get_push branches (branch_of s) c b at) [
    | inl before ↦ grown.known c b before
    | inr here ↦ subst (λ (x : Branch). IsCondition conditions x.fact) (sym here.1) condition
  ];
  stands = λ k h at. home_kept conditions branches (branch_of s) h (grown.stands k h at);
  nodes = grown.nodes;
}
  where
    front : (c : ℕ) (a : Branch) → slice_get (branches ++ branch_of s ∷ []) c ≡ Some a → c < length branches → slice_get branches c ≡ Some a
    front c a at lt = elim (get_push branches (branch_of s) c a at) [
      | inl before ↦ before
      | inr here ↦ let is : c ≡ length branches = here.0 in absurd (omega arith)
    ]

    last : (c : ℕ) (a b : Branch) → slice_get (branches ++ branch_of s ∷ []) c ≡ Some a → c + 1 ≡ length branches → b ≡ branch_of s → a.parent ≡ b.parent → a.fact.var ≡ b.fact.var → a.fact.val < b.fact.val
    last c a b at place is same var =
        let there = front c a at (omega arith) in
        let ends : EndsIn branches a = record { last = ap (slice_get branches) (let e : length branches - 1 ≡ c = omega arith in e) ∙ there } in
        let parent : a.parent ≡ s.node = same ∙ ap (λ (x : Branch). x.parent) is in
        let variable : a.fact.var ≡ s.fact.var = var ∙ ap (λ (x : Branch). x.fact.var) is in
        let value : b.fact.val ≡ s.fact.val = ap (λ (x : Branch). x.fact.val) is in
        let le : a.fact.val ≤ s.fact.val = next.value a ends parent variable in
        let differs : a.fact.val ≡ s.fact.val → ⊥ = λ e. new (subst (EndsIn branches) (same_branch a s parent variable e) ends) in
        omega (arith, differs)

-- ---- an operator that is placed at the last node

pub record Places (conditions : List (List Fact)) (depth : ℕ) (branches : List Branch) (op : ℕ) (homes new_homes : List Home) (steps new_steps : List Step) : Type 0 where
  pub grown : IsGrown conditions branches new_homes
  pub added : (k : ℕ) (s : Step) → slice_get new_steps k ≡ Some s → (slice_get steps k ≡ Some s) ⊎ (IsStepAt conditions depth branches s × (s.node ≡ length branches))
  pub all : IsPermutation ((operators_at homes ++ operators_going steps) ++ op ∷ []) (operators_at new_homes ++ operators_going new_steps)

home_more : (conditions : List (List Fact)) (branches : List Branch) (homes : List Home) (h : Home) → IsGrown conditions branches homes → IsHome conditions branches h → h.node ≡ length branches → IsGrown conditions branches (homes ++ h ∷ [])
home_more conditions branches homes h grown is last = record {
  few = grown.few;
  parents = grown.parents;
  earlier = grown.earlier;
  rising = grown.rising;
  known = grown.known;
  stands = λ k g at. elim (get_push homes h k g at) [
    | inl before ↦ grown.stands k g before
    | inr here ↦ subst (IsHome conditions branches) (sym here.1) is
  ];
  nodes = IsNonDecreasingBy-push node_of homes h grown.nodes (λ d some.
      let low = (grown.stands (length homes - 1) (get_or homes (length homes - 1) d) (slice_get-get_or homes (length homes - 1) d (omega arith))).node in
      omega arith);
}

moved_over : (hs ss : List ℕ) (op : ℕ) → IsPermutation ((hs ++ ss) ++ op ∷ []) ((hs ++ op ∷ []) ++ ss)
moved_over hs ss op =
    rw (append_assoc hs ss (op ∷ []), append_assoc hs (op ∷ []) ss) (IsPermutation-append_right hs (ss ++ op ∷ []) (op ∷ ss) (IsPermutation-to_front ss op))

pub placed : (conditions : List (List Fact)) (depth : ℕ) (branches : List Branch) (op : ℕ) (homes new_homes : List Home) (steps new_steps : List Step) → IsGrown conditions branches homes → op < length conditions → row_at (ways branches) (length branches) ≡ take depth (row_at conditions op) →
    IsPlaced conditions depth (length branches) op homes new_homes steps new_steps → Places conditions depth branches op homes new_homes steps new_steps
placed conditions depth branches op homes new_homes steps new_steps grown lt way is = by (slice_get (row_at conditions op) depth) refl
  where
    by : (o : Option Fact) → slice_get (row_at conditions op) depth ≡ o → Places conditions depth branches op homes new_homes steps new_steps
    by None at =
        let two : (new_homes ≡ homes ++ record { node = length branches; operator = op } ∷ []) × (new_steps ≡ steps) = rw at at is in
        let h : Home = record { node = length branches; operator = op } in
        let whole : take depth (row_at conditions op) ≡ row_at conditions op = take_all depth (row_at conditions op) (none_past (row_at conditions op) depth at) in
        rw (two.0, two.1) (record {
          grown = home_more conditions branches homes h grown (record { operator = lt; node = omega arith; way = way ∙ whole }) refl;
          added = λ k s there. inl there;
          all = rw (map_push (λ (h : Home). h.operator) homes h) (moved_over (operators_at homes) (operators_going steps) op);
        })
    by (Some fact) at =
        let two : (new_homes ≡ homes) × (new_steps ≡ steps ++ record { node = length branches; fact = fact; operator = op } ∷ []) = rw at at is in
        let s : Step = record { node = length branches; fact = fact; operator = op } in
        rw (two.0, two.1) (record {
          grown = grown;
          added = λ k t there. elim (get_push steps s k t there) [
            | inl before ↦ inl before
            | inr here ↦ inr (subst (λ (x : Step). IsStepAt conditions depth branches x × (x.node ≡ length branches)) (sym here.1) (record { operator = lt; node = omega arith; way = way; next = at }, refl))
          ];
          all = rw (map_push (λ (s : Step). s.operator) steps s, append_assoc (operators_at homes) (operators_going steps) (op ∷ [])) (IsPermutation-refl (operators_at homes ++ (operators_going steps ++ op ∷ [])));
        })

-- ---- the steps of a level, one by one

-- so many steps are taken, from so many branches on
pub record IsBetween (conditions : List (List Fact)) (depth : ℕ) (steps : List Step) (start i : ℕ) (branches : List Branch) (homes : List Home) (next : List Step) : Type 0 where
  pub grown : IsGrown conditions branches homes
  pub comes : (k : ℕ) (s : Step) → slice_get steps k ≡ Some s → IsStepAt conditions depth branches s
  pub low : (k : ℕ) (s : Step) → slice_get steps k ≡ Some s → s.node ≤ start
  pub goes : (k : ℕ) (s : Step) → slice_get next k ≡ Some s → IsStepAt conditions (depth + 1) branches s × (start < s.node)
  pub all : IsPermutation (range_with_len 0 (length conditions)) (operators_at homes ++ (operators_going next ++ operators_going (drop i steps)))
  pub parents : (c : ℕ) (b : Branch) → slice_get branches c ≡ Some b → b.parent ≤ start
  pub grows : start ≤ length branches
  pub long : 0 < i → start < length branches
  pub last : (k : ℕ) (s : Step) → k + 1 ≡ i → slice_get steps k ≡ Some s → EndsIn branches (branch_of s)
  pub fresh : i ≡ 0 → (c k : ℕ) (b : Branch) (s : Step) → slice_get branches c ≡ Some b → slice_get steps k ≡ Some s → b.parent < s.node

pub between_start : (conditions : List (List Fact)) (depth : ℕ) (steps : List Step) (start : ℕ) (branches : List Branch) (homes : List Home) (next : List Step) → IsLevel conditions depth branches homes steps → start ≡ length branches → next ≡ [] → IsBetween conditions depth steps start 0 branches homes next
between_start conditions depth steps start branches homes next level is none = rw none (record {
  grown = level.grown;
  comes = level.comes;
  low = λ k s at. let le = (level.comes k s at).node in omega arith;
  goes = λ k s at. let e : ◌≡◌ {A = _} None (Some s) = at in absurd (cc);
  all = level.all;
  parents = λ c b at. let le = level.grown.earlier c b at in let lt = slice_get_within branches c b at in omega arith;
  grows = omega arith;
  long = λ lt. absurd (omega arith);
  last = λ k s is at. absurd (omega arith);
  fresh = λ zero. level.fresh;
})

-- the step at a place comes next
next_step : (conditions : List (List Fact)) (depth : ℕ) (steps : List Step) (start i : ℕ) (branches : List Branch) (homes : List Home) (next : List Step) (s : Step) → IsBetween conditions depth steps start i branches homes next → AreInOrder steps → slice_get steps i ≡ Some s → IsNext branches s
next_step conditions depth steps start zero branches homes next s between order at = record {
  parent = λ a ends. let lt = between.fresh refl (length branches - 1) 0 a s ends.last at in omega arith;
  value = λ a ends parent. let lt = between.fresh refl (length branches - 1) 0 a s ends.last at in absurd (omega arith);
}
next_step conditions depth steps start (suc i) branches homes next s between order at =
    let before = before i at in
    record {
      parent = λ a ends. (let e = same a ends in let le = order.nodes i before.0 s before.1 (place i at) in omega arith);
      value = λ a ends parent var. (let e = same a ends in let le = order.values i before.0 s before.1 (place i at) (omega arith) (omega arith) in omega arith);
    }
  where
    before : (j : ℕ) → slice_get steps (suc j) ≡ Some s → (p : Step) × (slice_get steps j ≡ Some p)
    before j at =
        let lt = slice_get_within steps (suc j) s at in
        (get_or steps j s, slice_get-get_or steps j s (omega arith))

    place : (j : ℕ) → slice_get steps (suc j) ≡ Some s → slice_get steps (j + 1) ≡ Some s
    place j at = ap (slice_get steps) (let e : j + 1 ≡ suc j = omega arith in e) ∙ at

    same : (a : Branch) → EndsIn branches a → (a.parent ≡ (before i at).0.node) × (a.fact.var ≡ (before i at).0.fact.var) × (a.fact.val ≡ (before i at).0.fact.val)
    same a ends =
        let p = (before i at).0 in
        let last = between.last i p (omega arith) (before i at).1 in
        let k : Some a ≡ Some (branch_of p) = sym ends.last ∙ last.last in
        let e : a ≡ branch_of p = cc in
        (ap (λ (x : Branch). x.parent) e, ap (λ (x : Branch). x.fact.var) e, ap (λ (x : Branch). x.fact.val) e)

all_more : (range hs ns rest new_hs new_ns : List ℕ) (op : ℕ) → IsPermutation range (hs ++ (ns ++ op ∷ rest)) → IsPermutation ((hs ++ ns) ++ op ∷ []) (new_hs ++ new_ns) → IsPermutation range (new_hs ++ (new_ns ++ rest))
all_more range hs ns rest new_hs new_ns op all moved =
    let both : IsPermutation (((hs ++ ns) ++ op ∷ []) ++ rest) ((new_hs ++ new_ns) ++ rest) = IsPermutation-append_left rest ((hs ++ ns) ++ op ∷ []) (new_hs ++ new_ns) moved in
    let from : ((hs ++ ns) ++ op ∷ []) ++ rest ≡ hs ++ (ns ++ op ∷ rest) = append_assoc (hs ++ ns) (op ∷ []) rest ∙ append_assoc hs ns (op ∷ rest) in
    let to : (new_hs ++ new_ns) ++ rest ≡ new_hs ++ (new_ns ++ rest) = append_assoc new_hs new_ns rest in
    let joined : IsPermutation (hs ++ (ns ++ op ∷ rest)) (new_hs ++ (new_ns ++ rest)) = subst (λ xs. IsPermutation xs (new_hs ++ (new_ns ++ rest))) from (subst (λ ys. IsPermutation (((hs ++ ns) ++ op ∷ []) ++ rest) ys) to both) in
    IsPermutation-trans range (hs ++ (ns ++ op ∷ rest)) (new_hs ++ (new_ns ++ rest)) all joined

-- the branch of the step is there
record Branched (conditions : List (List Fact)) (depth : ℕ) (steps : List Step) (start : ℕ) (branches new : List Branch) (homes : List Home) (next : List Step) : Type 0 where
  grown : IsGrown conditions new homes
  kept : (d : ℕ) (s : Step) → IsStepAt conditions d branches s → IsStepAt conditions d new s
  parents : (c : ℕ) (b : Branch) → slice_get new c ≡ Some b → b.parent ≤ start
  long : start < length new

branched : (conditions : List (List Fact)) (depth : ℕ) (steps : List Step) (start i : ℕ) (branches new : List Branch) (homes : List Home) (next : List Step) (s : Step) →
    IsBetween conditions depth steps start i branches homes next → AreInOrder steps → slice_get steps i ≡ Some s → AddsBranch s branches new → Branched conditions depth steps start branches new homes next
branched conditions depth steps start i branches new homes next s between order at adds = elim adds.cases [
  | inl same ↦
      let ends : EndsIn branches (branch_of s) = subst (λ bs. EndsIn bs (branch_of s)) same adds.ends in
      rw same (record { grown = between.grown; kept = λ d t is. is; parents = between.parents; long = some i between at ends })
  | inr more ↦
      let node = (between.comes i s at).node in
      let few : length branches + 1 < 4294967294 = omega (arith, adds.few, ap length more.1, length-append branches (branch_of s ∷ [])) in
      rw more.1 (record {
        grown = grow_branch conditions branches homes s between.grown few node (record { operator = s.operator; place = depth; at = (between.comes i s at).next }) (next_step conditions depth steps start i branches homes next s between order at) more.0;
        kept = λ d t is. step_kept conditions d branches (branch_of s) t is;
        parents = λ c b there. elim (get_push branches (branch_of s) c b there) [
          | inl before ↦ between.parents c b before
          | inr here ↦ let is : b.parent ≡ s.node = ap (λ (x : Branch). x.parent) here.1 in let low = between.low i s at in omega arith
        ];
        long = omega (arith, between.grows, length-append branches (branch_of s ∷ []));
      })
]
  where
    some : (i : ℕ) → IsBetween conditions depth steps start i branches homes next → slice_get steps i ≡ Some s → EndsIn branches (branch_of s) → start < length branches
    some zero between at ends = let lt : s.node < s.node = between.fresh refl (length branches - 1) 0 (branch_of s) s ends.last at in absurd (omega arith)
    some (suc i) between at ends = between.long (omega arith)

-- one step more is taken
pub between_more : (conditions : List (List Fact)) (depth : ℕ) (steps : List Step) (start i : ℕ) (branches new : List Branch) (homes new_homes : List Home) (next new_next : List Step) (s : Step) →
    IsBetween conditions depth steps start i branches homes next → AreInOrder steps → slice_get steps i ≡ Some s → AddsBranch s branches new → IsPlaced conditions (depth + 1) (length new) s.operator homes new_homes next new_next →
    IsBetween conditions depth steps start (i + 1) new new_homes new_next
between_more conditions depth steps start i branches new homes new_homes next new_next s between order at adds is =
    let more = branched conditions depth steps start i branches new homes next s between order at adds in
    let here = more.kept depth s (between.comes i s at) in
    let last : s.node < length new = (let le = more.parents in let low = between.low i s at in let long = more.long in omega arith) in
    let way : row_at (ways new) (length new) ≡ take (depth + 1) (row_at conditions s.operator) = way-last new (branch_of s) adds.ends last ∙ (ap (λ w. w ++ s.fact ∷ []) here.way ∙ sym (take-some (row_at conditions s.operator) depth s.fact here.next)) in
    let puts = placed conditions (depth + 1) new s.operator homes new_homes next new_next more.grown here.operator way is in
    record {
      grown = puts.grown;
      comes = λ k t there. more.kept depth t (between.comes k t there);
      low = between.low;
      goes = λ k t there. elim (puts.added k t there) [
        | inl before ↦ (let old = between.goes k t before in (more.kept (depth + 1) t old.0, old.1))
        | inr new_one ↦ (new_one.0, (let e = new_one.1 in let long = more.long in omega arith))
      ];
      all = all_more (range_with_len 0 (length conditions)) (operators_at homes) (operators_going next) (operators_going (drop (i + 1) steps)) (operators_at new_homes) (operators_going new_next) s.operator (subst (λ ss. IsPermutation (range_with_len 0 (length conditions)) (operators_at homes ++ (operators_going next ++ operators_going ss))) (drop-some steps i s at) between.all) puts.all;
      parents = more.parents;
      grows = (let long = more.long in omega arith);
      long = λ lt. more.long;
      last = λ k t now there. let k_is : k ≡ i = omega arith in let e : Some t ≡ Some s = sym there ∙ (ap (slice_get steps) k_is ∙ at) in let same : t ≡ s = cc in subst (λ (x : Step). EndsIn new (branch_of x)) (sym same) adds.ends;
      fresh = λ zero. absurd (omega arith);
    }

pub between_all : (conditions : List (List Fact)) (depth : ℕ) (steps : List Step) (start i : ℕ) (branches : List Branch) (homes : List Home) (next : List Step) → length steps ≤ i → IsBetween conditions depth steps start i branches homes next → IsLevel conditions (depth + 1) branches homes next
between_all conditions depth steps start i branches homes next past between = record {
  grown = between.grown;
  comes = λ k s at. (between.goes k s at).0;
  all = subst (λ ops. IsPermutation (range_with_len 0 (length conditions)) (operators_at homes ++ ops)) (ap (λ ss. operators_going next ++ operators_going ss) (drop_all i steps past) ∙ append-nil (operators_going next)) between.all;
  fresh = λ c k b s at_b at_s. let le = between.parents c b at_b in let lt = (between.goes k s at_s).1 in omega arith;
}

-- ---- all operators at the root

-- so many operators are placed at the root
pub record ArePlaced (conditions : List (List Fact)) (i : ℕ) (homes : List Home) (steps : List Step) : Type 0 where
  pub grown : IsGrown conditions [] homes
  pub comes : (k : ℕ) (s : Step) → slice_get steps k ≡ Some s → IsStepAt conditions 0 [] s
  pub all : IsPermutation (range_with_len 0 i) (operators_at homes ++ operators_going steps)

range_more : (a n m : ℕ) → a + n ≡ m → range_with_len a (n + 1) ≡ range_with_len a n ++ m ∷ []
range_more a n m is = ap (range_with_len a) (let e : n + 1 ≡ suc n = omega arith in e) ∙ by a n m is
  where
    by : (a n m : ℕ) → a + n ≡ m → range_with_len a (suc n) ≡ range_with_len a n ++ m ∷ []
    by a zero m is = ap (λ k. k ∷ []) (let e : a ≡ m = omega arith in e)
    by a (suc n) m is = ap (λ xs. a ∷ xs) (by (a + 1) n m (omega arith))

pub places_more : (conditions : List (List Fact)) (i node op : ℕ) (homes new_homes : List Home) (steps new_steps : List Step) → ArePlaced conditions i homes steps → i < length conditions → node ≡ 0 → op ≡ i → IsPlaced conditions 0 node op homes new_homes steps new_steps → ArePlaced conditions (i + 1) new_homes new_steps
places_more conditions i node op homes new_homes steps new_steps so lt is_root is_op is =
    let there : IsPlaced conditions 0 0 i homes new_homes steps new_steps = subst (λ n. IsPlaced conditions 0 n i homes new_homes steps new_steps) is_root (subst (λ o. IsPlaced conditions 0 node o homes new_homes steps new_steps) is_op is) in
    let puts = placed conditions 0 [] i homes new_homes steps new_steps so.grown lt refl there in
    record {
      grown = puts.grown;
      comes = λ k s at. elim (puts.added k s at) [
        | inl before ↦ so.comes k s before
        | inr here ↦ here.0
      ];
      all = subst (λ xs. IsPermutation xs (operators_at new_homes ++ operators_going new_steps)) (sym (range_more 0 i i (omega arith)))
          (IsPermutation-trans (range_with_len 0 i ++ i ∷ []) ((operators_at homes ++ operators_going steps) ++ i ∷ []) (operators_at new_homes ++ operators_going new_steps) (IsPermutation-append_left (i ∷ []) (range_with_len 0 i) (operators_at homes ++ operators_going steps) so.all) puts.all);
    }

pub places_all : (conditions : List (List Fact)) (i : ℕ) (homes : List Home) (steps : List Step) → i ≡ length conditions → ArePlaced conditions i homes steps → IsLevel conditions 0 [] homes steps
places_all conditions i homes steps is so = record {
  grown = so.grown;
  comes = so.comes;
  all = subst (λ n. IsPermutation (range_with_len 0 n) (operators_at homes ++ operators_going steps)) is so.all;
  fresh = λ c k b s at_b at_s. let e : ◌≡◌ {A = _} None (Some b) = at_b in absurd (cc);
}

-- ---- the last level

-- where no list of conditions is longer, no step is left
pub level_last : (conditions : List (List Fact)) (depth : ℕ) (branches : List Branch) (homes : List Home) (steps : List Step) → ((op : ℕ) → op < length conditions → length (row_at conditions op) ≤ depth) → IsLevel conditions depth branches homes steps → IsWhole conditions branches homes
level_last conditions depth branches homes [] short level = record {
  grown = level.grown;
  all = subst (IsPermutation (range_with_len 0 (length conditions))) (append-nil (operators_at homes)) level.all;
}
level_last conditions depth branches homes (s ∷ steps) short level =
    let at = level.comes 0 s refl in
    let within = slice_get_within (row_at conditions s.operator) depth s.fact at.next in
    let le = short s.operator at.operator in
    absurd (omega arith)

-- ---- sorted steps

step_there : (steps sorted : List Step) (k : ℕ) (s : Step) → IsPermutation steps sorted → slice_get sorted k ≡ Some s → (i : ℕ) × (slice_get steps i ≡ Some s)
step_there steps sorted k s moved at =
    let lt = slice_get_within sorted k s at in
    let has = Contains-permutation sorted steps s (IsPermutation-sym steps sorted moved) (k, lt, get_or_from_slice_get sorted k s s at) in
    (has.0, slice_get-get_or steps has.0 s has.1 ∙ ap (λ x. Some x) has.2)

pub level_sorted : (conditions : List (List Fact)) (depth : ℕ) (branches : List Branch) (homes : List Home) (steps sorted now : List Step) → IsPermutation steps sorted → now ≡ sorted → IsLevel conditions depth branches homes steps → IsLevel conditions depth branches homes now
level_sorted conditions depth branches homes steps sorted now moved is level = rw is (record {
  grown = level.grown;
  comes = λ k s at. (let before = step_there steps sorted k s moved at in level.comes before.0 s before.1);
  all = IsPermutation-trans (range_with_len 0 (length conditions)) (operators_at homes ++ operators_going steps) (operators_at homes ++ operators_going sorted) level.all (IsPermutation-append_right (operators_at homes) (operators_going steps) (operators_going sorted) (IsPermutation-map (λ (s : Step). s.operator) steps sorted moved));
  fresh = λ c k b s at_b at_s. (let before = step_there steps sorted k s moved at_s in level.fresh c before.0 b s at_b before.1);
})

abbrev pub step_cmp : Step → Step → Ordering
step_cmp a b = ordering_then (nat_cmp a.node b.node) (ordering_then (ordering_then (nat_cmp a.fact.var b.fact.var) (nat_cmp a.fact.val b.fact.val)) (nat_cmp a.operator b.operator))

not_below : (x y : ℕ) (o : Ordering) → is_lt (ordering_then (nat_cmp x y) o) ≡ false → y ≤ x
not_below x y o is = elim (nat_lt x y) as (λ t. nat_lt x y ≡ t → y ≤ x) [
  | true ↦ λ lt. (let k : true ≡ false = rw lt at is in absurd (cc))
  | false ↦ λ ge. grind (arith, nat_tests, ge)
] refl

same_cmp : (x y : ℕ) → x ≡ y → nat_cmp x y ≡ Equal
same_cmp x y same =
    let no : nat_lt x y ≡ false = grind (arith, nat_tests, same) in
    let equal : nat_eq x y ≡ true = grind (arith, nat_tests, same) in
    rw (no, equal) refl

-- what is known of neighbours, the later of which isn't below the earlier
value_not_below : (a b : Step) → is_lt (step_cmp b a) ≡ false → a.node ≡ b.node → a.fact.var ≡ b.fact.var → a.fact.val ≤ b.fact.val
value_not_below a b is node var =
    let rest : is_lt (ordering_then (ordering_then (nat_cmp b.fact.var a.fact.var) (nat_cmp b.fact.val a.fact.val)) (nat_cmp b.operator a.operator)) ≡ false = rw (same_cmp b.node a.node (sym node)) at is in
    let value : is_lt (ordering_then (nat_cmp b.fact.val a.fact.val) (nat_cmp b.operator a.operator)) ≡ false = rw (same_cmp b.fact.var a.fact.var (sym var)) at rest in
    not_below b.fact.val a.fact.val (nat_cmp b.operator a.operator) value

pub order_sorted : (sorted now : List Step) → IsSorted step_cmp sorted → now ≡ sorted → AreInOrder now
order_sorted sorted now up is = rw is (record {
  nodes = λ k a b at_a at_b. not_below b.node a.node (ordering_then (ordering_then (nat_cmp b.fact.var a.fact.var) (nat_cmp b.fact.val a.fact.val)) (nat_cmp b.operator a.operator)) (pair k a b at_a at_b);
  values = λ k a b at_a at_b node var. value_not_below a b (pair k a b at_a at_b) node var;
})
  where
    pair : (k : ℕ) (a b : Step) → slice_get sorted k ≡ Some a → slice_get sorted (k + 1) ≡ Some b → is_lt (step_cmp b a) ≡ false
    pair k a b at_a at_b =
        let lt = slice_get_within sorted (k + 1) b at_b in
        subst (λ y. is_lt (step_cmp b y) ≡ false) (get_or_from_slice_get sorted k a a at_a) (subst (λ x. is_lt (step_cmp x (get_or sorted k a)) ≡ false) (get_or_from_slice_get sorted (k + 1) b a at_b) (up k a (omega arith) lt))
