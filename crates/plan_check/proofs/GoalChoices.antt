-- The goals among choices, and the first that is a plan of a cost.
use Rattle.std.proofs.Common.{◌≡◌, ◌∙◌, sym, ap, refl, subst, ℕ, zero, suc, ◌+◌, ◌<◌, ◌≤◌, List, [], ◌∷◌, ◌++◌, length, take, map, Bool, true, false, Option, Some, None, arith, min}
use Rattle.std.specs.Prelude.{slice_get, ◌&&◌, nat_eq, filter, if◌then◌else◌, option_and_then, IfSome}
use Rattle.std.specs.List.{find}
use Rattle.std.specs.Option.{option_map_or, option_or}
use Rattle.std.proofs.lemmas.List.{length-map, map-append}
use Rattle.std.proofs.lemmas.List.Elements.{filter-append}
use Rattle.std.proofs.lemmas.List.Folds.{find-append}
use Rattle.sas_task.specs.declared.contents.Parts.{Parts}
use Rattle.sas_task.specs.Runs.{is_goal, cost_of}
use Rattle.packed_state.specs.Packing.{Places}
use Rattle.plan_check.specs.Choices.{choices}
use Rattle.plan_check.specs.Layers.{AreEnds, IsEnd, end_words}
use Rattle.plan_check.specs.Verdicts.{reaches_goal, least, is_plan_at, same_end, ends, first_plan}
use Rattle.plan_check.proofs.Ends.{take_more, by_kind, kind_of}
use Rattle.plan_check.proofs.Firsts.{find_firsts}

least-last : (xs : List ℕ) (x : ℕ) → least (xs ++ x ∷ []) ≡ Some (option_map_or (min x) (least xs) x)
least-last [] x = refl
least-last (y ∷ ys) x =
    ap (λ o. Some (option_map_or (min y) o y)) (least-last ys x)
    ∙ elim (least ys) as (λ o. Some (min y (option_map_or (min x) o x)) ≡ Some (min x (option_map_or (min y) o y))) [
      | None ↦ let is : min y x ≡ min x y = omega arith in ap (λ n. Some n) is
      | Some m ↦ let is : min y (min x m) ≡ min x (min y m) = omega arith in ap (λ n. Some n) is
    ]

pub item_at : {A : Type 0} (xs : List A) (i : ℕ) → i < length xs → (x : A) × (slice_get xs i ≡ Some x)
item_at [] i lt = absurd (omega arith)
item_at (x ∷ xs) zero lt = (x, refl)
item_at (x ∷ xs) (suc i) lt = item_at xs i (omega arith)

filter_last : {A : Type 0} (p : A → Bool) (x : A) → filter p (x ∷ []) ≡ (if p x then (x ∷ []) else [])
filter_last p x = elim (p x) as (λ b. p x ≡ b → filter p (x ∷ []) ≡ (if b then (x ∷ []) else [])) [
  | true ↦ λ is. rw is refl
  | false ↦ λ is. rw is refl
] refl

-- the least cost of a goal so far
abbrev pub least_so_far : Parts → List (List ℕ) → ℕ → Option ℕ
least_so_far parts choices i = least (map (cost_of parts) (filter (reaches_goal parts) (take i choices)))

pub least_more : (parts : Parts) (choices : List (List ℕ)) (i cost : ℕ) (choice : List ℕ) (goal : Bool) (lowest now : Option ℕ) → slice_get choices i ≡ Some choice → cost ≡ cost_of parts choice → goal ≡ reaches_goal parts choice →
    lowest ≡ least_so_far parts choices i → now ≡ (if goal then Some (option_map_or (min cost) lowest cost) else lowest) → now ≡ least_so_far parts choices (i + 1)
least_more parts choices i cost choice goal lowest now at cost_is goal_is so is =
    let next_place : suc i ≡ i + 1 = omega arith in
    let goals = filter (reaches_goal parts) (take i choices) in
    let list : filter (reaches_goal parts) (take (i + 1) choices) ≡ filter (reaches_goal parts) (take i choices) ++ (if goal then (choice ∷ []) else []) =
    ap (λ n. filter (reaches_goal parts) (take n choices)) (sym next_place) ∙ ap (filter (reaches_goal parts)) (take_more i choices choice at)
    ∙ filter-append (reaches_goal parts) (take i choices) (choice ∷ []) ∙ ap (λ xs. filter (reaches_goal parts) (take i choices) ++ xs) (filter_last (reaches_goal parts) choice)
    ∙ ap (λ b. filter (reaches_goal parts) (take i choices) ++ (if b then (choice ∷ []) else [])) (sym goal_is) in
    is ∙ sym (ap (λ xs. least (map (cost_of parts) xs)) list ∙ elim goal as (λ b. least (map (cost_of parts) (goals ++ (if b then (choice ∷ []) else []))) ≡ (if b then Some (option_map_or (min cost) lowest cost) else lowest)) [
      | true ↦
          ap least (map-append (cost_of parts) goals (choice ∷ []))
          ∙ least-last (map (cost_of parts) goals) (cost_of parts choice)
          ∙ ap (λ n. Some (option_map_or (min n) (least (map (cost_of parts) goals)) n)) (sym cost_is)
          ∙ ap (λ o. Some (option_map_or (min cost) o cost)) (sym so)
      | false ↦ ap (λ xs. least (map (cost_of parts) xs)) (append-none goals) ∙ sym so
    ])
  where
    append-none : (xs : List (List ℕ)) → xs ++ [] ≡ xs
    append-none [] = refl
    append-none (x ∷ xs) = ap (λ ys. x ∷ ys) (append-none xs)

-- the first so far that is a plan of the cost
pub first_more : (parts : Parts) (choices : List (List ℕ)) (i cost wanted : ℕ) (choice : List ℕ) (goal own : Bool) (place now : Option ℕ) → slice_get choices i ≡ Some choice → cost ≡ cost_of parts choice → goal ≡ reaches_goal parts choice → own ≡ nat_eq cost wanted →
    i ≤ length choices → IfSome place (λ p. p < i) → option_and_then (slice_get choices) place ≡ find (is_plan_at parts wanted) (take i choices) → now ≡ (if goal && own then option_or place (Some i) else place) →
    option_and_then (slice_get choices) now ≡ find (is_plan_at parts wanted) (take (i + 1) choices)
first_more parts choices i cost wanted choice goal own place now at cost_is goal_is own_is le within so is =
    let next_place : suc i ≡ i + 1 = omega arith in
    let test : is_plan_at parts wanted choice ≡ (goal && own) =
    ap (λ b. b && nat_eq (cost_of parts choice) wanted) (sym goal_is) ∙ ap (λ n. goal && nat_eq n wanted) (sym cost_is) ∙ ap (λ b. goal && b) (sym own_is) in
    let list : find (is_plan_at parts wanted) (take (i + 1) choices) ≡ option_or (find (is_plan_at parts wanted) (take i choices)) (if goal && own then Some choice else None) =
    ap (λ n. find (is_plan_at parts wanted) (take n choices)) (sym next_place) ∙ ap (find (is_plan_at parts wanted)) (take_more i choices choice at)
    ∙ find-append (is_plan_at parts wanted) (take i choices) (choice ∷ [])
    ∙ ap (λ b. option_or (find (is_plan_at parts wanted) (take i choices)) (if b then Some choice else None)) test in
    ap (option_and_then (slice_get choices)) is ∙ cases (goal && own) place (find (is_plan_at parts wanted) (take i choices)) within so ∙ sym list
  where
    cases : (b : Bool) (p : Option ℕ) (found : Option (List ℕ)) → IfSome p (λ q. q < i) → option_and_then (slice_get choices) p ≡ found →
        option_and_then (slice_get choices) (if b then option_or p (Some i) else p) ≡ option_or found (if b then Some choice else None)
    cases true None found lt there = at ∙ ap (λ o. option_or o (Some choice)) there
    cases false None found lt there = there ∙ sym (or_none found)
      where
        or_none : (o : Option (List ℕ)) → option_or o None ≡ o
        or_none None = refl
        or_none (Some x) = refl
    cases true (Some q) found lt there = let item = item_at choices q (omega arith) in item.1 ∙ ap (λ o. option_or o (Some choice)) (sym item.1 ∙ there)
    cases false (Some q) found lt there = let item = item_at choices q (omega arith) in item.1 ∙ ap (λ o. option_or o None) (sym item.1 ∙ there)

-- the same at a place of a layer
module _ (parts : Parts) (layout : Places) (pairs : List (List ℕ)) (place cost : ℕ) (here : List ℕ) (goal : Bool) (lt : place < length pairs) (goal_is : goal ≡ is_goal parts here)
    (told : (all : List (List ℕ)) (choice : List ℕ) → AreEnds parts layout pairs all → slice_get all place ≡ Some choice → IsEnd parts choice here cost) (choices : List (List ℕ)) (are : AreEnds parts layout pairs choices) where
  as_many : length pairs ≡ length choices
  as_many = ap length are ∙ length-map choices (end_words parts layout)

  pub least_place : (lowest now : Option ℕ) → lowest ≡ least_so_far parts choices place → now ≡ (if goal then Some (option_map_or (min cost) lowest cost) else lowest) → now ≡ least_so_far parts choices (place + 1)
  least_place lowest now so is =
      let many = as_many in
      let item = item_at choices place (omega (arith, lt, many)) in
      let end = told choices item.0 are item.1 in
      least_more parts choices place cost item.0 goal lowest now item.1 end.cost_is (goal_is ∙ ap (is_goal parts) end.state_is) so is

  pub first_place : (wanted : ℕ) (own : Bool) (found now : Option ℕ) → own ≡ nat_eq cost wanted → IfSome found (λ p. p < place) → option_and_then (slice_get choices) found ≡ find (is_plan_at parts wanted) (take place choices) →
      now ≡ (if goal && own then option_or found (Some place) else found) → option_and_then (slice_get choices) now ≡ find (is_plan_at parts wanted) (take (place + 1) choices)
  first_place wanted own found now own_is within so is =
      let many = as_many in
      let item = item_at choices place (omega (arith, lt, many)) in
      let end = told choices item.0 are item.1 in
      first_more parts choices place cost wanted item.0 goal own found now item.1 end.cost_is (goal_is ∙ ap (is_goal parts) end.state_is) own_is (omega (arith, lt, many)) within so is

-- the place so far is one
pub within_more : (i : ℕ) (b : Bool) (place now : Option ℕ) → IfSome place (λ p. p < i) → now ≡ (if b then option_or place (Some i) else place) → IfSome now (λ p. p < i + 1)
within_more i true None now within is = subst (λ o. IfSome o (λ p. p < i + 1)) (sym is) (omega arith)
within_more i true (Some q) now within is = subst (λ o. IfSome o (λ p. p < i + 1)) (sym is) (omega arith)
within_more i false None now within is = subst (λ o. IfSome o (λ p. p < i + 1)) (sym is) tt
within_more i false (Some q) now within is = subst (λ o. IfSome o (λ p. p < i + 1)) (sym is) (omega arith)

-- the first plan of all choices is the first of those that are one for each pair
pub first_plan-ends : (parts : Parts) (names : List (List ℕ)) (wanted : ℕ) → find (is_plan_at parts wanted) (ends parts names) ≡ first_plan parts names wanted
first_plan-ends parts names wanted =
    find_firsts (kind_of parts) (same_end parts) (by_kind parts) (is_plan_at parts wanted)
    (λ x y is. ap (λ (k : List ℕ × ℕ). is_goal parts k.0 && nat_eq k.1 wanted) is)
    [] (choices parts names) (λ x there. let no_one : false ≡ true = there in cc)
