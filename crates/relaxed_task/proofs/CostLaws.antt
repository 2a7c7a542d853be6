-- Laws of costs, over any type of fact: what is finite, costs that are found in any order, and what best supporters give.
use Rattle.std.proofs.Common.{◌≡◌, ◌∙◌, sym, ap, subst, refl, ℕ, zero, suc, ◌+◌, ◌-◌, ◌≤◌, ◌⊎◌, inl, inr, List, [], ◌∷◌, Bool, true, false, ◌&&◌, ◌||◌, arith, if◌then◌else◌, Some, slice_get}
use Rattle.std.proofs.Math.Path.{fun_ext}
use Rattle.std.proofs.lemmas.Bool.{and_right}
use Rattle.std.proofs.lemmas.Option.{same_Some, none-some}
use Rattle.std.specs.List.{list_all}
use Rattle.lama_num.specs.declared.estimates.Estimate.{Estimate}
use Rattle.lama_num.specs.declared.estimates.Estimate.TheVariants.{Finite, Infinite}
use Rattle.relaxed_task.specs.Estimates.{least, is_finite, IsAtMost}
use Rattle.relaxed_task.proofs.EstimateLaws.{at_most_self, at_most_trans, at_most_infinite, at_most_both, infinite_where_not, infinite_only, finite_least, finite_plus, least_left, least_right, both_at_least, least_cases, plus_at_most, IsCapped, plus_capped, least_capped}
use Rattle.relaxed_task.specs.Relaxing.{UnaryOver, has, in_round, sum_of, price_of, least_price, cost_in, IsCost}
use Rattle.relaxed_task.proofs.RelaxingLaws.{is_given_by}

-- sums

pub sum_finite : {F : Type 0} (costs : F → Estimate) (facts : List F) → is_finite (sum_of costs facts) ≡ list_all (λ fact. is_finite (costs fact)) facts
sum_finite costs [] = refl
sum_finite costs (fact ∷ facts) = finite_plus (costs fact) (sum_of costs facts) ∙ ap (λ b. is_finite (costs fact) && b) (sum_finite costs facts)

pub sum_capped : {F : Type 0} (costs : F → Estimate) (facts : List F) → IsCapped (sum_of costs facts)
sum_capped costs [] = omega arith
sum_capped costs (fact ∷ facts) = plus_capped (costs fact) (sum_of costs facts)

pub sum_at_most : {F : Type 0} (v w : F → Estimate) (facts : List F) → ((fact : F) → IsAtMost (v fact) (w fact)) → IsAtMost (sum_of v facts) (sum_of w facts)
sum_at_most v w [] le = omega arith
sum_at_most v w (fact ∷ facts) le = plus_at_most (v fact) (sum_of v facts) (w fact) (sum_of w facts) (le fact) (sum_at_most v w facts le)

-- no unary operator gives a fact for less than it costs, but for what is left out
abbrev pub IsClosed : {F U : Type 0} → UnaryOver F U → List U → List F → (F → Estimate) → Type 0
IsClosed {U = U} o unaries without v = (i : ℕ) (u : U) → slice_get unaries i ≡ Some u → has o without (o.gives u) ≡ false → IsAtMost (v (o.gives u)) (price_of o v u)

-- some round costs no more
abbrev pub IsAttained : {F U : Type 0} → UnaryOver F U → List U → List F → List F → (F → Estimate) → Type 0
IsAttained {F = F} o unaries start without v = (fact : F) → (n : ℕ) × IsAtMost (cost_in o unaries start without n fact) (v fact)

-- the costs are the least over the rounds
abbrev pub AreLeast : {F U : Type 0} → UnaryOver F U → List U → List F → List F → (F → Estimate) → Type 0
AreLeast {F = F} o unaries start without v = (fact : F) → IsCost o unaries start without fact (v fact)

-- the unary operator that is cheapest
pub record Cheapest {F U : Type 0} (o : UnaryOver F U) (unaries : List U) (v : F → Estimate) (fact : F) (n : ℕ) : Type 0 where
  pub place : ℕ
  pub unary : U
  pub at : slice_get unaries place ≡ Some unary
  pub gives : o.gives unary ≡ fact
  pub pays : price_of o v unary ≡ Finite n

module _ {F U : Type 0} (o : UnaryOver F U) where
  pub price_finite : (costs : F → Estimate) (u : U) → is_finite (price_of o costs u) ≡ list_all (λ fact. is_finite (costs fact)) (o.conds u)
  price_finite costs u = finite_plus (Finite (o.cost u)) (sum_of costs (o.conds u)) ∙ sum_finite costs (o.conds u)

  pub price_at_most : (v w : F → Estimate) (u : U) → ((fact : F) → IsAtMost (v fact) (w fact)) → IsAtMost (price_of o v u) (price_of o w u)
  price_at_most v w u le = plus_at_most (Finite (o.cost u)) (sum_of v (o.conds u)) (Finite (o.cost u)) (sum_of w (o.conds u)) (omega arith) (sum_at_most v w (o.conds u) le)

  least_price_finite : (costs : F → Estimate) (fact : F) (unaries : List U) → is_finite (least_price o costs fact unaries) ≡ is_given_by o unaries (λ f. is_finite (costs f)) fact
  least_price_finite costs fact [] = refl
  least_price_finite costs fact (u ∷ unaries) = by_test (o.same (o.gives u) fact) (least_price_finite costs fact unaries)
    where
      by_test : (b : Bool) → is_finite (least_price o costs fact unaries) ≡ is_given_by o unaries (λ f. is_finite (costs f)) fact →
          is_finite (if b then least (price_of o costs u) (least_price o costs fact unaries) else least_price o costs fact unaries) ≡
          ((b && list_all (λ f. is_finite (costs f)) (o.conds u)) || is_given_by o unaries (λ f. is_finite (costs f)) fact)
      by_test true rest = finite_least (price_of o costs u) (least_price o costs fact unaries) ∙ rw (price_finite costs u, rest) refl
      by_test false rest = rest

  pub least_price_capped : (costs : F → Estimate) (fact : F) (unaries : List U) → IsCapped (least_price o costs fact unaries)
  least_price_capped costs fact [] = tt
  least_price_capped costs fact (u ∷ unaries) = by_test (o.same (o.gives u) fact) (least_price_capped costs fact unaries)
    where
      by_test : (b : Bool) → IsCapped (least_price o costs fact unaries) → IsCapped (if b then least (price_of o costs u) (least_price o costs fact unaries) else least_price o costs fact unaries)
      by_test true rest = least_capped (price_of o costs u) (least_price o costs fact unaries) (plus_capped (Finite (o.cost u)) (sum_of costs (o.conds u))) rest
      by_test false rest = rest

  least_price_below : (w : F → Estimate) (unaries : List U) (i : ℕ) (u : U) → slice_get unaries i ≡ Some u → IsAtMost (least_price o w (o.gives u) unaries) (price_of o w u)
  least_price_below w [] i u at = absurd (none-some u at)
  least_price_below w (x ∷ unaries) zero u at = rw (same_Some x u at, o.itself (o.gives u)) (least_left (price_of o w u) (least_price o w (o.gives u) unaries))
  least_price_below w (x ∷ unaries) (suc i) u at = by_test (o.same (o.gives x) (o.gives u)) (least_price_below w unaries i u at)
    where
      by_test : (b : Bool) → IsAtMost (least_price o w (o.gives u) unaries) (price_of o w u) → IsAtMost (if b then least (price_of o w x) (least_price o w (o.gives u) unaries) else least_price o w (o.gives u) unaries) (price_of o w u)
      by_test true rest = at_most_trans (least (price_of o w x) (least_price o w (o.gives u) unaries)) (least_price o w (o.gives u) unaries) (price_of o w u) (least_right (price_of o w x) (least_price o w (o.gives u) unaries)) rest
      by_test false rest = rest

  pub cheapest : (unaries : List U) (v : F → Estimate) (fact : F) (n : ℕ) → least_price o v fact unaries ≡ Finite n → Cheapest o unaries v fact n
  cheapest [] v fact n is = let k : Infinite ≡ Finite n = is in cc
  cheapest (u ∷ unaries) v fact n is = by_test (o.same (o.gives u) fact) refl is (cheapest unaries v fact n)
    where
      up : Cheapest o unaries v fact n → Cheapest o (u ∷ unaries) v fact n
      up b = record { place = suc b.place; unary = b.unary; at = b.at; gives = b.gives; pays = b.pays }

      by_case : o.same (o.gives u) fact ≡ true → (price_of o v u ≡ Finite n) ⊎ (least_price o v fact unaries ≡ Finite n) → (least_price o v fact unaries ≡ Finite n → Cheapest o unaries v fact n) → Cheapest o (u ∷ unaries) v fact n
      by_case gives (inl here) rest = record { place = 0; unary = u; at = refl; gives = o.equal (o.gives u) fact gives; pays = here }
      by_case gives (inr there) rest = up (rest there)

      by_test : (b : Bool) → o.same (o.gives u) fact ≡ b → (if b then least (price_of o v u) (least_price o v fact unaries) else least_price o v fact unaries) ≡ Finite n →
          (least_price o v fact unaries ≡ Finite n → Cheapest o unaries v fact n) → Cheapest o (u ∷ unaries) v fact n
      by_test true gives is rest = by_case gives (least_cases (price_of o v u) (least_price o v fact unaries) n is) rest
      by_test false gives is rest = up (rest is)

  module _ (unaries : List U) (start without : List F) where
    abbrev round : ℕ → F → Estimate
    round n = cost_in o unaries start without n

    abbrev reached : ℕ → F → Bool
    reached n = in_round (is_given_by o unaries) (has o start) (has o without) n

    -- what is left out is in no round
    left_out : (n : ℕ) (fact : F) → has o without fact ≡ true → reached n fact ≡ false
    left_out zero fact out = rw out (and_right (has o start fact) false refl)
    left_out (suc n) fact out = rw (left_out n fact out, out) (and_right (is_given_by o unaries (reached n) fact) false refl)

    -- a fact costs something finite in a round exactly where it is in the round
    pub finite_where_reached : (n : ℕ) → (λ fact. is_finite (round n fact)) ≡ reached n
    finite_where_reached zero = fun_ext (λ fact. by_test (reached zero fact))
      where
        by_test : (b : Bool) → is_finite (if b then Finite 0 else Infinite) ≡ b
        by_test true = refl
        by_test false = refl
    finite_where_reached (suc n) = fun_ext (λ fact. next fact (has o without fact) refl (finite_where_reached n))
      where
        always : (b : Bool) → b ≡ (b && true)
        always true = refl
        always false = refl

        next : (fact : F) (out : Bool) → has o without fact ≡ out → (λ f. is_finite (round n f)) ≡ reached n → is_finite (round (suc n) fact) ≡ reached (suc n) fact
        next fact true out before = rw (left_out (suc n) fact out, out) refl
        next fact false out before = rw out (finite_least (round n fact) (least_price o (round n) fact unaries)
            ∙ ap (λ b. is_finite (round n fact) || b) (least_price_finite (round n) fact unaries)
            ∙ ap (λ (f : F → Bool). f fact || is_given_by o unaries f fact) before
            ∙ ap (λ b. reached n fact || b) (always (is_given_by o unaries (reached n) fact)))

    pub finite_in : (n : ℕ) (fact : F) → is_finite (round n fact) ≡ reached n fact
    finite_in n fact = ap (λ (f : F → Bool). f fact) (finite_where_reached n)

    -- what is infinite is in no round, and what isn't is in one
    pub infinite_unreached : (fact : F) (n : ℕ) → IsCost o unaries start without fact Infinite → reached n fact ≡ false
    infinite_unreached fact n l = sym (finite_in n fact) ∙ ap is_finite (infinite_only (round n fact) (l.least n))

    pub finite_reached : (fact : F) (a : ℕ) (l : IsCost o unaries start without fact (Finite a)) → reached l.round fact ≡ true
    finite_reached fact a l = sym (finite_in l.round fact) ∙ ap is_finite l.is

    -- the rounds fall
    falls : (n k : ℕ) (fact : F) → IsAtMost (round (k + n) fact) (round n fact)
    falls n zero fact = let z : 0 + n ≡ n = omega arith in rw z (at_most_self (round n fact))
    falls n (suc k) fact =
        let z : suc k + n ≡ suc (k + n) = omega arith in
        rw z (at_most_trans (round (suc (k + n)) fact) (round (k + n) fact) (round n fact) (by_test (has o without fact) refl) (falls n k fact))
      where
        by_test : (b : Bool) → has o without fact ≡ b → IsAtMost (if b then Infinite else least (round (k + n) fact) (least_price o (round (k + n)) fact unaries)) (round (k + n) fact)
        by_test true out = rw (infinite_where_not (round (k + n) fact) (finite_in (k + n) fact ∙ left_out (k + n) fact out)) tt
        by_test false out = least_left (round (k + n) fact) (least_price o (round (k + n)) fact unaries)

    later : (m n : ℕ) (fact : F) → m ≤ n → IsAtMost (round n fact) (round m fact)
    later m n fact le =
        let z : (n - m) + m ≡ n = omega arith in
        subst (λ (k : ℕ). IsAtMost (round k fact) (round m fact)) z (falls m (n - m) fact)

    -- Costs that are found in any order: those that no unary operator lowers, and that rounds attain, are the least over the rounds.

    below_least_price : (v w : F → Estimate) (fact : F) (some : List U) → ((f : F) → IsAtMost (v f) (w f)) → has o without fact ≡ false → IsClosed o some without v → IsAtMost (v fact) (least_price o w fact some)
    below_least_price v w fact [] le stays closed = at_most_infinite (v fact)
    below_least_price v w fact (u ∷ some) le stays closed = by_test (o.same (o.gives u) fact) refl (below_least_price v w fact some le stays (λ i. closed (suc i)))
      where
        by_test : (b : Bool) → o.same (o.gives u) fact ≡ b → IsAtMost (v fact) (least_price o w fact some) → IsAtMost (v fact) (if b then least (price_of o w u) (least_price o w fact some) else least_price o w fact some)
        by_test true is rest =
            let same = o.equal (o.gives u) fact is in
            let own = at_most_trans (v (o.gives u)) (price_of o v u) (price_of o w u) (closed 0 u refl (ap (has o without) same ∙ stays)) (price_at_most v w u le) in
            both_at_least (v fact) (price_of o w u) (least_price o w fact some) (subst (λ f. IsAtMost (v f) (price_of o w u)) same own) rest
        by_test false is rest = rest

    closed_is_below : (v : F → Estimate) → ((fact : F) → reached 0 fact ≡ true → v fact ≡ Finite 0) → IsClosed o unaries without v → (n : ℕ) (fact : F) → IsAtMost (v fact) (round n fact)
    closed_is_below v first closed zero fact = by_test (reached 0 fact) refl
      where
        by_test : (b : Bool) → reached 0 fact ≡ b → IsAtMost (v fact) (if b then Finite 0 else Infinite)
        by_test true is = rw (first fact is) (at_most_self (Finite 0))
        by_test false is = at_most_infinite (v fact)
    closed_is_below v first closed (suc n) fact = by_test (has o without fact) refl (closed_is_below v first closed n)
      where
        by_test : (b : Bool) → has o without fact ≡ b → ((f : F) → IsAtMost (v f) (round n f)) → IsAtMost (v fact) (if b then Infinite else least (round n fact) (least_price o (round n) fact unaries))
        by_test true out before = at_most_infinite (v fact)
        by_test false stays before =
            both_at_least (v fact) (round n fact) (least_price o (round n) fact unaries) (before fact) (below_least_price v (round n) fact unaries before stays closed)

    pub any_order : (v : F → Estimate) → ((fact : F) → reached 0 fact ≡ true → v fact ≡ Finite 0) → IsClosed o unaries without v → IsAttained o unaries start without v → AreLeast o unaries start without v
    any_order v first closed attained fact =
        let at = attained fact in
        let below = closed_is_below v first closed in
        record {
          round = at.0;
          is = at_most_both (round at.0 fact) (v fact) at.1 (below at.0 fact);
          least = λ n. below n fact;
        }

    -- one round for several facts
    sum_attained : (v : F → Estimate) (facts : List F) → IsAttained o unaries start without v → (n : ℕ) × IsAtMost (sum_of (round n) facts) (sum_of v facts)
    sum_attained v [] attained = (0, omega arith)
    sum_attained v (fact ∷ facts) attained =
        let a = attained fact in
        let b = sum_attained v facts attained in
        let n : ℕ = a.0 + b.0 in
        let here = at_most_trans (round n fact) (round a.0 fact) (v fact) (later a.0 n fact (omega arith)) a.1 in
        let rest = at_most_trans (sum_of (round n) facts) (sum_of (round b.0) facts) (sum_of v facts) (sum_at_most (round n) (round b.0) facts (λ f. later b.0 n f (omega arith))) b.1 in
        (n, plus_at_most (round n fact) (sum_of (round n) facts) (v fact) (sum_of v facts) here rest)

    -- a price is attained where the costs are
    pub price_attained : (v : F → Estimate) (i : ℕ) (u : U) → slice_get unaries i ≡ Some u → has o without (o.gives u) ≡ false → IsAttained o unaries start without v →
        (n : ℕ) × IsAtMost (round n (o.gives u)) (price_of o v u)
    price_attained v i u at stays attained =
        let t = sum_attained v (o.conds u) attained in
        let w : F → Estimate = round t.0 in
        let down = at_most_trans (least (w (o.gives u)) (least_price o w (o.gives u) unaries)) (least_price o w (o.gives u) unaries) (price_of o w u)
        (least_right (w (o.gives u)) (least_price o w (o.gives u) unaries)) (least_price_below w unaries i u at) in
        let next : IsAtMost (round (suc t.0) (o.gives u)) (price_of o w u) = rw stays down in
        (suc t.0, at_most_trans (round (suc t.0) (o.gives u)) (price_of o w u) (price_of o v u) next (plus_at_most (Finite (o.cost u)) (sum_of w (o.conds u)) (Finite (o.cost u)) (sum_of v (o.conds u)) (omega arith) t.1))

    -- the least over the rounds isn't lowered
    pub least_closed : (v : F → Estimate) → AreLeast o unaries start without v → IsClosed o unaries without v
    least_closed v l i u at stays =
        let a = price_attained v i u at stays (λ fact. ((l fact).round, subst (λ (e : Estimate). IsAtMost e (v fact)) (sym (l fact).is) (at_most_self (v fact)))) in
        at_most_trans (v (o.gives u)) (round a.0 (o.gives u)) (price_of o v u) ((l (o.gives u)).least a.0) a.1
