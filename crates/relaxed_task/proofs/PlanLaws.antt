-- Laws of relaxed plans, over any type of fact: best supporters give every fact that costs something finite, and those of an order that are needed are a relaxed plan.
use Rattle.std.proofs.Common.{◌≡◌, ◌∙◌, sym, ap, subst, refl, ℕ, zero, suc, ◌<◌, ◌≤◌, ◌⊎◌, inl, inr, List, [], ◌∷◌, ◌++◌, map, Bool, true, false, not, ◌&&◌, ◌||◌, arith, if◌then◌else◌, Some, slice_get}
use Rattle.std.specs.List.{list_all}
use Rattle.std.proofs.lemmas.Bool.{and_from, and_parts, or_left, or_right, or_cases, both_ways, false_from_ne_true}
use Rattle.std.proofs.lemmas.List.Folds.{list_any-append}
use Rattle.lama_num.specs.declared.estimates.Estimate.{Estimate}
use Rattle.lama_num.specs.declared.estimates.Estimate.TheVariants.{Finite, Infinite}
use Rattle.lama_num.specs.Estimates.{estimate_sum}
use Rattle.relaxed_task.specs.Estimates.{least, is_finite, IsAtMost}
use Rattle.relaxed_task.proofs.EstimateLaws.{at_most_self, at_most_trans, at_most_both, finite_below, least_cases, IsCapped, least_capped, plus_left, plus_right}
use Rattle.relaxed_task.proofs.CostLaws.{sum_capped, price_at_most, least_price_capped, AreLeast, Cheapest, cheapest}
use Rattle.relaxed_task.proofs.CostLaws.{least_closed}
use Rattle.relaxed_task.specs.Relaxing.{UnaryOver, has, sum_of, price_of, least_price, cost_in, AreBest, IsInOrder, asked, IsAsked, IsSupported, kept}

-- facts that have the start and are closed under best supporters
pub record IsSupportClosed {F U : Type 0} (o : UnaryOver F U) (unaries : List U) (start without : List F) (costs : F → Estimate) (had : F → Bool) : Type 0 where
  pub start_has : (fact : F) → (has o start fact && not (has o without fact)) ≡ true → had fact ≡ true
  pub more : (i : ℕ) (u : U) → slice_get unaries i ≡ Some u → list_all had (o.conds u) ≡ true → is_finite (costs (o.gives u)) ≡ true → price_of o costs u ≡ costs (o.gives u) → had (o.gives u) ≡ true

module _ {F U : Type 0} (o : UnaryOver F U) (unaries : List U) (start without : List F) where
  abbrev round : ℕ → F → Estimate
  round n = cost_in o unaries start without n

  round_capped : (n : ℕ) (fact : F) → IsCapped (round n fact)
  round_capped zero fact = by_test (has o start fact && not (has o without fact))
    where
      by_test : (b : Bool) → IsCapped (if b then Finite 0 else Infinite)
      by_test true = omega arith
      by_test false = tt
  round_capped (suc n) fact = by_test (has o without fact) (round_capped n fact)
    where
      by_test : (b : Bool) → IsCapped (round n fact) → IsCapped (if b then Infinite else least (round n fact) (least_price o (round n) fact unaries))
      by_test true before = tt
      by_test false before = least_capped (round n fact) (least_price o (round n) fact unaries) before (least_price_capped o (round n) fact unaries)

  module _ (h : F → Estimate) (had : F → Bool) (l : AreLeast o unaries start without h) (closed : IsSupportClosed o unaries start without h had) where
    -- had are those that cost less than a bound, and those that cost no more by a round
    abbrev HasBelow : ℕ → Type 0
    HasBelow bound = (fact : F) (n : ℕ) → h fact ≡ Finite n → n < bound → had fact ≡ true

    abbrev HasRound : ℕ → ℕ → Type 0
    HasRound bound n = (fact : F) (k : ℕ) → h fact ≡ Finite k → k ≤ bound → round n fact ≡ Finite k → had fact ≡ true

    -- the conditions of a best supporter
    conds_had : (bound r n : ℕ) (conds : List F) → HasBelow bound → HasRound bound r → n ≤ bound → IsAtMost (sum_of (round r) conds) (Finite n) → list_all had conds ≡ true
    conds_had bound r n [] below earlier le paid = refl
    conds_had bound r n (c ∷ conds) below earlier le paid =
        and_from (had c) (list_all had conds) (by_order (order cost.0 bound))
        (conds_had bound r n conds below earlier le
        (at_most_trans (sum_of w conds) (estimate_sum (w c) (sum_of w conds)) (Finite n) (plus_right (w c) (sum_of w conds) (sum_capped w conds)) paid))
      where
        w : F → Estimate
        w = round r

        here : IsAtMost (w c) (Finite n)
        here = at_most_trans (w c) (estimate_sum (w c) (sum_of w conds)) (Finite n) (plus_left (w c) (sum_of w conds) (round_capped r c)) paid

        cost : (k : ℕ) × (h c ≡ Finite k) × (k ≤ n)
        cost = finite_below (h c) n (at_most_trans (h c) (w c) (Finite n) ((l c).least r) here)

        order : (a b : ℕ) → (a < b) ⊎ (b ≤ a)
        order a b = grind arith

        by_order : (cost.0 < bound) ⊎ (bound ≤ cost.0) → had c ≡ true
        by_order (inl lt) = below c cost.0 cost.1 lt
        by_order (inr ge) =
            let same : n ≡ cost.0 = omega (arith, cost.2) in
            let up : IsAtMost (w c) (Finite cost.0) = subst (λ (k : ℕ). IsAtMost (w c) (Finite k)) same here in
            let down : IsAtMost (Finite cost.0) (w c) = subst (λ (e : Estimate). IsAtMost e (w c)) cost.1 ((l c).least r) in
            earlier c cost.0 cost.1 (omega (arith, cost.2)) (at_most_both (w c) (Finite cost.0) up down)

    next_had : (bound r : ℕ) → HasBelow bound → HasRound bound r → HasRound bound (suc r)
    next_had bound r below earlier fact n costs le is = by_out (has o without fact) refl is
      where
        w : F → Estimate
        w = round r

        by_best : has o without fact ≡ false → Cheapest o unaries w fact n → had fact ≡ true
        by_best stays b =
            let conds = o.conds b.unary in
            let paid : IsAtMost (price_of o w b.unary) (Finite n) = rw b.pays (at_most_self (Finite n)) in
            let there = conds_had bound r n conds below earlier le
            (at_most_trans (sum_of w conds) (price_of o w b.unary) (Finite n) (plus_right (Finite (o.cost b.unary)) (sum_of w conds) (sum_capped w conds)) paid) in
            let same : h (o.gives b.unary) ≡ Finite n = ap h b.gives ∙ costs in
            let up : IsAtMost (price_of o h b.unary) (h (o.gives b.unary)) = rw same (at_most_trans (price_of o h b.unary) (price_of o w b.unary) (Finite n) (price_at_most o h w b.unary (λ f. (l f).least r)) paid) in
            let pays = at_most_both (price_of o h b.unary) (h (o.gives b.unary)) up (least_closed o unaries start without h l b.place b.unary b.at (ap (has o without) b.gives ∙ stays)) in
            ap had (sym b.gives) ∙ closed.more b.place b.unary b.at there (ap is_finite same) pays

        by_case : has o without fact ≡ false → (w fact ≡ Finite n) ⊎ (least_price o w fact unaries ≡ Finite n) → had fact ≡ true
        by_case stays (inl before) = earlier fact n costs le before
        by_case stays (inr now) = by_best stays (cheapest o unaries w fact n now)

        by_out : (b : Bool) → has o without fact ≡ b → (if b then Infinite else least (w fact) (least_price o w fact unaries)) ≡ Finite n → had fact ≡ true
        by_out true out is = let k : Infinite ≡ Finite n = is in cc
        by_out false stays is = by_case stays (least_cases (w fact) (least_price o w fact unaries) n is)

    rounds_had : (bound r : ℕ) → HasBelow bound → HasRound bound r
    rounds_had bound zero below fact n costs le is = by_test (has o start fact && not (has o without fact)) refl is
      where
        by_test : (b : Bool) → (has o start fact && not (has o without fact)) ≡ b → (if b then Finite 0 else Infinite) ≡ Finite n → had fact ≡ true
        by_test true first is = closed.start_has fact first
        by_test false first is = let k : Infinite ≡ Finite n = is in cc
    rounds_had bound (suc r) below fact n costs le is = next_had bound r below (rounds_had bound r below) fact n costs le is

    below_had : (bound : ℕ) → HasBelow bound
    below_had zero fact n costs lt = absurd (omega arith)
    below_had (suc bound) fact n costs lt = rounds_had bound (l fact).round (below_had bound) fact n costs (omega arith) ((l fact).is ∙ costs)

    -- Every fact that costs something finite is among them.
    pub finite_had : (fact : F) → is_finite (h fact) ≡ true → had fact ≡ true
    finite_had fact finite = by_value (h fact) refl finite
      where
        by_value : (e : Estimate) → h fact ≡ e → is_finite e ≡ true → had fact ≡ true
        by_value (Finite n) costs finite = below_had (suc n) fact n costs (omega arith)
        by_value Infinite costs finite = let k : false ≡ true = finite in cc

-- What is needed of an order.

module _ {F U : Type 0} (o : UnaryOver F U) where
  turned : (a b : F) → o.same a b ≡ true → o.same b a ≡ true
  turned a b h = ap (λ x. o.same b x) (o.equal a b h) ∙ o.itself b

  pub has_same : (facts : List F) (a b : F) → o.same a b ≡ true → has o facts b ≡ true → has o facts a ≡ true
  has_same facts a b h has_b = ap (has o facts) (o.equal a b h) ∙ has_b

  pub has_append : (xs ys : List F) (fact : F) → has o (xs ++ ys) fact ≡ (has o xs fact || has o ys fact)
  has_append xs ys fact = list_any-append (o.same fact) xs ys

  -- what holds of all of a list holds of each of its facts
  pub all_has : (p : F → Bool) (xs : List F) (fact : F) → list_all p xs ≡ true → has o xs fact ≡ true → p fact ≡ true
  all_has p [] fact all among = let k : false ≡ true = among in cc
  all_has p (x ∷ xs) fact all among = by_case (or_cases (o.same fact x) (has o xs fact) among) (all_has p xs fact (and_parts (p x) (list_all p xs) all).1)
    where
      by_case : (o.same fact x ≡ true) ⊎ (has o xs fact ≡ true) → (has o xs fact ≡ true → p fact ≡ true) → p fact ≡ true
      by_case (inl here) later = ap p (o.equal fact x here) ∙ (and_parts (p x) (list_all p xs) all).0
      by_case (inr there) later = later there

  pub all_from : (p : F → Bool) (xs : List F) → ((fact : F) → has o xs fact ≡ true → p fact ≡ true) → list_all p xs ≡ true
  all_from p [] each = refl
  all_from p (x ∷ xs) each =
      and_from (p x) (list_all p xs) (each x (or_left (o.same x x) (has o xs x) (o.itself x))) (all_from p xs (λ fact among. each fact (or_right (o.same fact x) (has o xs fact) among)))

  module _ (goals : List F) where
    kept_asked : (list : List U) → IsAsked o goals (kept o goals list)
    kept_asked [] = tt
    kept_asked (u ∷ list) = by_test (has o (asked o goals (kept o goals list)) (o.gives u)) refl (kept_asked list)
      where
        by_test : (b : Bool) → has o (asked o goals (kept o goals list)) (o.gives u) ≡ b → IsAsked o goals (kept o goals list) → IsAsked o goals (if b then u ∷ kept o goals list else kept o goals list)
        by_test true is rest = (is, rest)
        by_test false is rest = rest

    kept_best : (unaries : List U) (costs : F → Estimate) (list : List U) → AreBest o unaries costs list → AreBest o unaries costs (kept o goals list)
    kept_best unaries costs [] best = tt
    kept_best unaries costs (u ∷ list) best = by_test (has o (asked o goals (kept o goals list)) (o.gives u)) (kept_best unaries costs list best.1)
      where
        by_test : (b : Bool) → AreBest o unaries costs (kept o goals list) → AreBest o unaries costs (if b then u ∷ kept o goals list else kept o goals list)
        by_test true rest = (best.0, rest)
        by_test false rest = rest

    -- what is had and asked for is in the base
    abbrev IsBase : List U → List F → List F → Type 0
    IsBase list had base = (fact : F) → has o (asked o goals list) fact ≡ true → has o had fact ≡ true → has o base fact ≡ true

    -- a condition of the first is asked for, and so is what the rest asks for
    asks_conds : (u : U) (list : List U) (fact : F) → has o (o.conds u) fact ≡ true → has o (asked o goals (u ∷ list)) fact ≡ true
    asks_conds u list fact h = has_append (o.conds u) (asked o goals list) fact ∙ or_left (has o (o.conds u) fact) (has o (asked o goals list) fact) h

    asks_rest : (u : U) (list : List U) (fact : F) → has o (asked o goals list) fact ≡ true → has o (asked o goals (u ∷ list)) fact ≡ true
    asks_rest u list fact h = has_append (o.conds u) (asked o goals list) fact ∙ or_right (has o (o.conds u) fact) (has o (asked o goals list) fact) h

    base_kept : (u : U) (list : List U) (had base : List F) → IsBase (u ∷ list) had base → IsBase list (o.gives u ∷ had) (o.gives u ∷ base)
    base_kept u list had base is fact asks has_it = by_case (or_cases (o.same fact (o.gives u)) (has o had fact) has_it)
      where
        by_case : (o.same fact (o.gives u) ≡ true) ⊎ (has o had fact ≡ true) → has o (o.gives u ∷ base) fact ≡ true
        by_case (inl here) = or_left (o.same fact (o.gives u)) (has o base fact) here
        by_case (inr there) = or_right (o.same fact (o.gives u)) (has o base fact) (is fact (asks_rest u list fact asks) there)

    base_left : (u : U) (list : List U) (had base : List F) → has o (asked o goals list) (o.gives u) ≡ false → IsBase list had base → IsBase list (o.gives u ∷ had) base
    base_left u list had base not_asked is fact asks has_it = by_case (or_cases (o.same fact (o.gives u)) (has o had fact) has_it)
      where
        by_case : (o.same fact (o.gives u) ≡ true) ⊎ (has o had fact ≡ true) → has o base fact ≡ true
        by_case (inl here) = absurd (both_ways (has o (asked o goals list) (o.gives u)) not_asked (has_same (asked o goals list) (o.gives u) fact (turned fact (o.gives u) here) asks))
        by_case (inr there) = is fact asks there

    abbrev IsWithin : List F → List F → Type 0
    IsWithin xs ys = (fact : F) → has o xs fact ≡ true → has o ys fact ≡ true

    kept_order : (list : List U) (had base : List F) → IsInOrder o had list → IsBase (kept o goals list) had base → IsWithin base had → IsInOrder o base (kept o goals list)
    kept_order [] had base order is within = tt
    kept_order (u ∷ list) had base order is within =
        by_test (has o (asked o goals (kept o goals list)) (o.gives u)) refl is
        (λ more. kept_order list (o.gives u ∷ had) (o.gives u ∷ base) order.2 more (λ fact among. longer fact (or_cases (o.same fact (o.gives u)) (has o base fact) among)))
        (λ more. kept_order list (o.gives u ∷ had) base order.2 more (λ fact among. or_right (o.same fact (o.gives u)) (has o had fact) (within fact among)))
      where
        longer : (fact : F) → (o.same fact (o.gives u) ≡ true) ⊎ (has o base fact ≡ true) → has o (o.gives u ∷ had) fact ≡ true
        longer fact (inl here) = or_left (o.same fact (o.gives u)) (has o had fact) here
        longer fact (inr there) = or_right (o.same fact (o.gives u)) (has o had fact) (within fact there)

        by_test : (b : Bool) → has o (asked o goals (kept o goals list)) (o.gives u) ≡ b → IsBase (if b then u ∷ kept o goals list else kept o goals list) had base →
            (IsBase (kept o goals list) (o.gives u ∷ had) (o.gives u ∷ base) → IsInOrder o (o.gives u ∷ base) (kept o goals list)) →
            (IsBase (kept o goals list) (o.gives u ∷ had) base → IsInOrder o base (kept o goals list)) → IsInOrder o base (if b then u ∷ kept o goals list else kept o goals list)
        by_test true asks is longer_base same_base = (
          all_from (has o base) (o.conds u) (λ fact among. is fact (asks_conds u (kept o goals list) fact among) (all_has (has o had) (o.conds u) fact order.0 among)),
          false_from_ne_true (has o base (o.gives u)) (λ is. both_ways (has o had (o.gives u)) order.1 (within (o.gives u) is)),
          longer_base (base_kept u (kept o goals list) had base is),
        )
        by_test false asks is longer_base same_base = same_base (base_left u (kept o goals list) had base asks is)

    -- a goal fact that is given is given by what is kept
    kept_gives : (list : List U) (had base : List F) (goal : F) → has o goals goal ≡ true → IsBase (kept o goals list) had base →
        (has o had goal || has o (map o.gives list) goal) ≡ true → (has o base goal || has o (map o.gives (kept o goals list)) goal) ≡ true
    kept_gives [] had base goal ours is given = by_case (or_cases (has o had goal) false given)
      where
        by_case : (has o had goal ≡ true) ⊎ (false ≡ true) → (has o base goal || false) ≡ true
        by_case (inl has_it) = or_left (has o base goal) false (is goal ours has_it)
        by_case (inr no_more) = cc
    kept_gives (u ∷ list) had base goal ours is given =
        by_test (has o (asked o goals (kept o goals list)) (o.gives u)) refl is
        (λ more. kept_gives list (o.gives u ∷ had) (o.gives u ∷ base) goal ours more moved)
        (λ more. kept_gives list (o.gives u ∷ had) base goal ours more moved)
      where
        move : (a b c : Bool) → (a || (b || c)) ≡ ((b || a) || c)
        move true true c = refl
        move true false c = refl
        move false true c = refl
        move false false c = refl

        moved : (has o (o.gives u ∷ had) goal || has o (map o.gives list) goal) ≡ true
        moved = sym (move (has o had goal) (o.same goal (o.gives u)) (has o (map o.gives list) goal)) ∙ given

        by_test : (b : Bool) → has o (asked o goals (kept o goals list)) (o.gives u) ≡ b → IsBase (if b then u ∷ kept o goals list else kept o goals list) had base →
            (IsBase (kept o goals list) (o.gives u ∷ had) (o.gives u ∷ base) → (has o (o.gives u ∷ base) goal || has o (map o.gives (kept o goals list)) goal) ≡ true) →
            (IsBase (kept o goals list) (o.gives u ∷ had) base → (has o base goal || has o (map o.gives (kept o goals list)) goal) ≡ true) →
            (has o base goal || has o (map o.gives (if b then u ∷ kept o goals list else kept o goals list)) goal) ≡ true
        by_test true asks is longer_base same_base = move (has o base goal) (o.same goal (o.gives u)) (has o (map o.gives (kept o goals list)) goal) ∙ longer_base (base_kept u (kept o goals list) had base is)
        by_test false asks is longer_base same_base = same_base (base_left u (kept o goals list) had base asks is)

    -- What is needed of an order of best supporters that reaches the goal facts is a relaxed plan.
    pub kept_is_supported : (unaries : List U) (start : List F) (costs : F → Estimate) (list : List U) → AreBest o unaries costs list → IsInOrder o start list →
        list_all (has o (start ++ map o.gives list)) goals ≡ true → IsSupported o unaries start costs goals (kept o goals list)
    kept_is_supported unaries start costs list best order given = record {
      best = kept_best unaries costs list best;
      order = kept_order list start start order (λ fact asks had. had) (λ fact among. among);
      needed = kept_asked list;
      goals_given = all_from (has o (start ++ map o.gives (kept o goals list))) goals (λ goal ours.
          has_append start (map o.gives (kept o goals list)) goal
          ∙ kept_gives list start start goal ours (λ fact asks had. had) (sym (has_append start (map o.gives list) goal) ∙ all_has (has o (start ++ map o.gives list)) goals goal given ours));
    }
