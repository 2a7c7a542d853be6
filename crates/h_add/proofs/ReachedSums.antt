-- What is reached, sums of costs, and one unary operator that counts a fact.
use Rattle.std.proofs.Common.{◌≡◌, ◌≢◌, ◌∙◌, sym, ap, refl, ℕ, ◌+◌, ◌*◌, ◌<◌, ◌≤◌, inl, inr, List, [], ◌∷◌, get_or, min, Bool, true, false, nat_le, not, ◌&&◌, arith, Some, slice_get, length, drop, zero, suc, ◌⊎◌, nat_lt, Option, None, slice_set, get_or-set_other, get_or-set_same, if◌then◌else◌}
use Rattle.std.specs.List.{list_all}
use Rattle.std.proofs.lemmas.Bool.Decides.{nat_tests}
use Rattle.std.proofs.lemmas.Bool.{eq-eqb, le-leb, lt-leb, leb-true, ltb-true, ltb-false, not-false}
use Rattle.cost_queue.specs.Occurrences.{one_if, occurrences}
use Rattle.lama_num.proofs.ListLaws.{both}
use Rattle.lama_num.specs.declared.estimates.Estimate.{Estimate}
use Rattle.lama_num.specs.declared.estimates.Estimate.TheVariants.{Finite, Infinite}
use Rattle.relaxed_task.proofs.Elements.{places, drop_within}
use Rattle.relaxed_task.specs.Relaxing.{sum_of as total}
use Rattle.h_add.proofs.NumberedRounds.{price}
use Rattle.relaxed_task.specs.declared.unary.Unary.{Unary}
use Rattle.h_add.specs.UnderWay.{Settlement, cost_at, is_settled, is_reached, is_left_out, open_at, less_open, counted, offered, one_open, share, summed, IsUnderWay, IsWaiting, IsWanted, HasCounted}
use Rattle.h_add.specs.Values.{estimate_of, value_at}
use Rattle.std.proofs.lemmas.List.{get_or_default, drop_all, length-set}
use Rattle.lama_num.specs.Estimates.{estimate_sum}
use Rattle.relaxed_task.proofs.EstimateLaws.{zero_plus, plus_zero, plus_assoc}
use Rattle.relaxed_task.proofs.CostLaws.{sum_capped as total_capped}
use Rattle.std.proofs.Math.Path.{fun_ext}
use Rattle.cost_queue.specs.Queues.{price_of}
use Rattle.h_add.specs.declared.network.Open.{Open}

pub finite_is : (cost : ℕ) → cost ≤ 1000000000 → estimate_of cost ≡ Finite cost
finite_is cost le = rw (le-leb cost 1000000000 le) refl

pub infinite_is : (cost : ℕ) → 1000000000 < cost → estimate_of cost ≡ Infinite
infinite_is cost lt = rw (lt-leb cost 1000000000 lt) refl

-- what is reached is settled, and costs little
pub reached_small : (t : Settlement) (fact : ℕ) → is_reached t fact ≡ true → (is_settled t fact ≡ true) × (cost_at t fact ≤ 1000000000)
reached_small t fact is = let parts = both (is_settled t fact) (nat_le (cost_at t fact) 1000000000) is in (parts.0, leb-true (cost_at t fact) 1000000000 parts.1)

-- what is settled, and not left out, is reached
pub reached_if : (t : Settlement) (fact : ℕ) → is_settled t fact ≡ true → is_left_out t fact ≡ false → is_reached t fact ≡ true
reached_if t fact is kept = rw is (not-false _ (rw is at kept))

-- what isn't settled is neither reached nor left out
pub unsettled_not : (t : Settlement) (fact : ℕ) → is_settled t fact ≡ false → (is_reached t fact ≡ false) × (is_left_out t fact ≡ false)
unsettled_not t fact is = (rw is refl, rw is refl)

-- where settled facts cost the same, the same is reached
pub reached_same : (t u : Settlement) → u.settled ≡ t.settled → ((fact : ℕ) → is_settled t fact ≡ true → cost_at u fact ≡ cost_at t fact) →
    (fact : ℕ) → (is_reached u fact ≡ is_reached t fact) × (is_left_out u fact ≡ is_left_out t fact) × (share u fact ≡ share t fact)
reached_same t u settled kept fact =
    let same : is_settled u fact ≡ is_settled t fact = ap (λ (fs : List Bool). get_or fs fact false) settled in
    (grind (arith, same, kept fact), grind (arith, same, kept fact), grind (arith, same, kept fact))

-- a sum where one summand changed
pub sum_changed : (f g : ℕ → ℕ) (fact x y : ℕ) (conds : List ℕ) → f fact ≡ x → g fact ≡ y → ((c : ℕ) → c ≢ fact → g c ≡ f c) → summed g conds + occurrences fact conds * x ≡ summed f conds + occurrences fact conds * y
sum_changed f g fact x y [] was is others = omega arith
sum_changed f g fact x y (c ∷ conds) was is others =
    grind (arith, nat_tests, sum_changed f g fact x y conds was is others, was, is, others c)

-- all conditions are reached where none is open
pub all_reached : (t : Settlement) (conds : List ℕ) → summed (one_open t) conds ≡ 0 → list_all (is_reached t) conds ≡ true
all_reached t [] none = refl
all_reached t (c ∷ conds) none = grind (arith, none, all_reached t conds)

-- what is paid for conditions, all reached, is their sum
pub total_paid : (v : ℕ → Estimate) (t : Settlement) (conds : List ℕ) → ((fact : ℕ) → is_reached t fact ≡ true → v fact ≡ Finite (cost_at t fact)) → summed (one_open t) conds ≡ 0 → total v conds ≡ Finite (min (summed (share t) conds) 1000000000)
total_paid v t [] each none = refl
total_paid v t (c ∷ conds) each none =
    let parts = both (is_reached t c) (list_all (is_reached t) conds) (all_reached t (c ∷ conds) none) in
    let paid : share t c ≡ cost_at t c = rw parts.0 refl in
    rw (each c parts.0, total_paid v t conds each (omega arith)) (ap (λ (n : ℕ). Finite n) (omega (arith, paid)))

-- what is asked for by one with all conditions reached
pub price_sum : (unaries : List Unary) (level place : ℕ) (t : Settlement) (v : ℕ → Estimate) (u : Unary) → slice_get unaries place ≡ Some u → ((fact : ℕ) → is_reached t fact ≡ true → v fact ≡ Finite (cost_at t fact)) → (open_at t place).count ≡ 0 → IsUnderWay unaries level [] t →
    price v u ≡ Finite (open_at t place).sum
price_sum unaries level place t v u at each none way =
    let was = way.each place u at in
    let count = was.count in
    let sum = was.sum in
    rw (total_paid v t u.conds each (omega arith)) (ap (λ (n : ℕ). Finite n) (let small = was.small in omega arith))

-- a sum so far, and what is left
pub record IsSumSoFar (value : ℕ → Estimate) (facts : List ℕ) (k sum : ℕ) : Type 0 where
  pub capped : sum ≤ 1000000000
  pub rest : estimate_sum (Finite sum) (total value (drop k facts)) ≡ total value facts

pub sum_starts : (value : ℕ → Estimate) (facts : List ℕ) → IsSumSoFar value facts 0 0
sum_starts value facts = record { capped = omega arith; rest = zero_plus (total value facts) (total_capped value facts) }

-- what a fact that is there costs
read_value : (costs : List ℕ) (fact cost : ℕ) → fact < length costs → cost ≡ get_or costs fact 0 → value_at costs fact ≡ estimate_of cost
read_value costs fact cost lt at = ap estimate_of (get_or_default costs fact 4294967295 0 lt ∙ sym at)

pub sum_grows : (costs facts : List ℕ) (k fact cost sum : ℕ) → k < length facts → fact ≡ get_or facts k 0 → fact < length costs → cost ≡ get_or costs fact 0 → cost ≤ 1000000000 →
    IsSumSoFar (value_at costs) facts k sum → IsSumSoFar (value_at costs) facts (k + 1) (min (sum + cost) 1000000000)
sum_grows costs facts k fact cost sum lt at within read small so =
    let here : value_at costs fact ≡ Finite cost = read_value costs fact cost within read ∙ finite_is cost small in
    let rest : estimate_sum (Finite sum) (estimate_sum (value_at costs fact) (total (value_at costs) (drop (k + 1) facts))) ≡ total (value_at costs) facts = rw (drop_within facts k fact lt at) at so.rest in
    record {
      capped = omega arith;
      rest = plus_assoc (Finite sum) (Finite cost) (total (value_at costs) (drop (k + 1) facts)) ∙ (ap (λ (e : Estimate). estimate_sum (Finite sum) (estimate_sum e (total (value_at costs) (drop (k + 1) facts)))) (sym here) ∙ rest);
    }

pub sum_infinite : (costs facts : List ℕ) (k fact cost sum : ℕ) → k < length facts → fact ≡ get_or facts k 0 → fact < length costs → cost ≡ get_or costs fact 0 → 1000000000 < cost →
    IsSumSoFar (value_at costs) facts k sum → estimate_of 4294967295 ≡ total (value_at costs) facts
sum_infinite costs facts k fact cost sum lt at within read large so =
    let here : value_at costs fact ≡ Infinite = read_value costs fact cost within read ∙ infinite_is cost large in
    let rest : estimate_sum (Finite sum) (estimate_sum (value_at costs fact) (total (value_at costs) (drop (k + 1) facts))) ≡ total (value_at costs) facts = rw (drop_within facts k fact lt at) at so.rest in
    ap (λ (e : Estimate). estimate_sum (Finite sum) (estimate_sum e (total (value_at costs) (drop (k + 1) facts)))) (sym here) ∙ rest

pub sum_ends : (costs facts : List ℕ) (k sum : ℕ) → length facts ≤ k → IsSumSoFar (value_at costs) facts k sum → estimate_of sum ≡ total (value_at costs) facts
sum_ends costs facts k sum le so =
    let none : drop k facts ≡ [] = drop_all k facts le in
    finite_is sum so.capped ∙ (sym (plus_zero (Finite sum) so.capped) ∙ rw none at so.rest)

-- there is a unary operator at a place within
pub record There (unaries : List Unary) (place : ℕ) : Type 0 where
  pub unary : Unary
  pub at : slice_get unaries place ≡ Some unary

pub unary_there : (unaries : List Unary) (place : ℕ) → place < length unaries → There unaries place
unary_there [] place lt = absurd (omega arith)
unary_there (u ∷ unaries) zero lt = record { unary = u; at = refl }
unary_there (u ∷ unaries) (suc place) lt = let rest = unary_there unaries place (omega arith) in record { unary = rest.unary; at = rest.at }

-- What one unary operator that counts a fact changes.
record Steps (unaries : List Unary) (level place fact : ℕ) (t now : Settlement) : Type 0 where
  counted : HasCounted t now
  opens : now.opens ≡ slice_set t.opens place (less_open (open_at t place) level)
  less : (f : ℕ) → cost_at now f ≤ cost_at t f
  own : (open_at now place).count ≡ 0 → is_left_out t fact ≡ false → cost_at now fact ≤ (open_at now place).sum
  waits : (other cost : ℕ) → price_of now.waiting other ≡ Some cost → (price_of t.waiting other ≡ Some cost) ⊎ ((other ≡ place) × IsWaiting now level place cost)
  wanted : (f : ℕ) → is_settled t f ≡ false → IsWanted unaries now f ⊎ ((cost_at now f ≡ cost_at t f) × ((other cost : ℕ) → price_of t.waiting other ≡ Some cost → price_of now.waiting other ≡ Some cost))

-- what holds after one was counted
abbrev IsMet : List Unary → ℕ → List ℕ → Settlement → Settlement → Type 0
IsMet unaries level owed t now = IsUnderWay unaries level owed now × HasCounted t now

module _ (unaries : List Unary) (level place : ℕ) (t : Settlement) (lt : place < length unaries) (owed : List ℕ) (way : IsUnderWay unaries level (place ∷ owed) t) where
  -- one that counts has something open, and isn't waiting
  pub counts_some : (0 < (open_at t place).count) × ((open_at t place).sum ≤ 1000000000)
  counts_some =
      let here = unary_there unaries place lt in
      let was = way.each place here.unary here.at in
      let count = rw (eq-eqb place place refl) at was.count in
      (omega (arith, count), was.small)

  pub counts_idle : price_of t.waiting place ≡ None
  counts_idle = by_price (price_of t.waiting place) refl
    where
      by_price : (o : Option ℕ) → price_of t.waiting place ≡ o → o ≡ None
      by_price None is = refl
      by_price (Some cost) is = let none = (way.waits place cost is).none_open in let some = counts_some.0 in absurd (omega (arith, none, some))

  abbrev mid : Settlement
  mid = counted t place level

  open_here : open_at mid place ≡ less_open (open_at t place) level
  open_here = get_or-set_same t.opens place (less_open (open_at t place) level) (record { count = 0; sum = 0 }) (let long = way.opens_long in omega arith)

  steps_way : (fact : ℕ) (now : Settlement) → ((u : Unary) → slice_get unaries place ≡ Some u → fact ≡ u.gives) → Steps unaries level place fact t now → IsMet unaries level owed t now
  steps_way fact now gives s = (
    record {
      level_small = way.level_small;
      opens_long = ap length s.opens ∙ (length-set t.opens place (less_open (open_at t place) level) ∙ way.opens_long);
      each = λ other u at.
          (let unreached_is = ap (λ (f : ℕ → ℕ). summed f u.conds) (fun_ext (λ f. ap (λ (b : Bool). one_if (not b)) (same f).0)) in
          let paid_is = ap (λ (f : ℕ → ℕ). summed f u.conds) (fun_ext (λ f. (same f).2)) in
          let was = way.each other u at in
          let small_was = was.small in
          elim (places other place) [
            | inl here ↦ rw here.0
                (let own = way.each place u (rw here.0 at at) in
                let count_was : (open_at t place).count ≡ summed (one_open t) u.conds + (1 + occurrences place owed) = rw (eq-eqb place place refl) at own.count in
                let sum_was : min ((open_at t place).sum + (1 + occurrences place owed) * level) 1000000000 ≡ min (u.cost + summed (share t) u.conds) 1000000000 = rw (eq-eqb place place refl) at own.sum in
                let is = opens_is place ∙ open_here in
                let count = ap (λ (o : Open). o.count) is in
                let sum = ap (λ (o : Open). o.sum) is in
                record {
                  count = omega (arith, count, count_was, unreached_is);
                  sum = omega (arith, sum, sum_was, paid_is);
                  small = omega (arith, sum);
                  offered = λ none kept. (rw (gives u (rw here.0 at at)) at s.own) none (sym (same u.gives).1 ∙ kept);
                })
            | inr there ↦
                let count_was = rw there.1 at was.count in
                let sum_was = rw there.1 at was.sum in
                let is = open_there other there.0 in
                let count = ap (λ (o : Open). o.count) is in
                let sum = ap (λ (o : Open). o.sum) is in
                record {
                  count = omega (arith, count, count_was, unreached_is);
                  sum = omega (arith, sum, sum_was, paid_is);
                  small = omega (arith, sum, small_was);
                  offered = λ none kept. (let le = was.offered (sym count ∙ none) (sym (same u.gives).1 ∙ kept) in let less = s.less u.gives in omega (arith, sum, le, less));
                }
          ]);
      waits = λ other cost at. elim (s.waits other cost at) [
        | inl was ↦
            let before = way.waits other cost was in
            let is = closed_there other before.none_open in
            record { none_open = ap (λ (o : Open). o.count) is ∙ before.none_open; price_is = before.price_is ∙ ap (λ (o : Open). o.sum) (sym is); above = before.above }
        | inr is ↦ rw is.0 is.1
      ];
      wanted = λ f new small. (let fresh = ap (λ (fs : List Bool). get_or fs f false) (sym s.counted.settled) ∙ new in
          elim (s.wanted f fresh) [
            | inl is ↦ is
            | inr as_was ↦
                let was = way.wanted f fresh (let cost = as_was.0 in omega arith) in
                record { place = was.place; unary = was.unary; at = was.at; gives = was.gives; waits = as_was.1 was.place (cost_at now f) (was.waits ∙ ap (λ (n : ℕ). Some n) (sym as_was.0)) }
          ]);
      low = λ f is. (let was = sym (same f).0 ∙ is in let kept = s.counted.kept f (reached_small t f was).0 in let le = way.low f was in omega arith);
      settled_by = λ other among.
          (let was = way.settled_by other (rw s.counted.order at among) in
          let is = closed_there other was.none_open in
          record {
            unary = was.unary;
            at = was.at;
            none_open = ap (λ (o : Open). o.count) is ∙ was.none_open;
            reached = (same was.unary.gives).0 ∙ was.reached;
            pays = s.counted.kept was.unary.gives (reached_small t was.unary.gives was.reached).0 ∙ (was.pays ∙ ap (λ (o : Open). o.sum) (sym is));
          });
    },
    s.counted,
  )
    where
      same : (f : ℕ) → (is_reached now f ≡ is_reached t f) × (is_left_out now f ≡ is_left_out t f) × (share now f ≡ share t f)
      same = reached_same t now s.counted.settled s.counted.kept

      opens_is : (other : ℕ) → open_at now other ≡ open_at mid other
      opens_is other = ap (λ (os : List Open). get_or os other (record { count = 0; sum = 0 })) s.opens

      open_there : (other : ℕ) → other ≢ place → open_at now other ≡ open_at t other
      open_there other ne = opens_is other ∙ get_or-set_other t.opens place other (less_open (open_at t place) level) (record { count = 0; sum = 0 }) ne

      closed_there : (other : ℕ) → (open_at t other).count ≡ 0 → open_at now other ≡ open_at t other
      closed_there other none = open_there other (λ e. let some = counts_some.0 in let here = rw e at none in absurd (omega (arith, some, here)))

  -- what is asked for is at least the level
  sum_above : level ≤ (open_at mid place).sum
  sum_above = let sum = ap (λ (o : Open). o.sum) open_here in let small = way.level_small in omega (arith, sum, small)

  -- One that offers nothing, as it has others open or what it offers is no improvement.
  plain : (fact : ℕ) → ((u : Unary) → slice_get unaries place ≡ Some u → fact ≡ u.gives) → ((open_at mid place).count ≡ 0 → is_left_out t fact ≡ false → cost_at t fact ≤ (open_at mid place).sum) → IsMet unaries level owed t mid
  plain fact gives own = steps_way fact mid gives (record {
    counted = record { settled = refl; order = refl; costs_long = refl; waiting_long = refl; kept = λ f settled. refl };
    opens = refl;
    less = λ f. omega arith;
    own = own;
    waits = λ other cost at. inl at;
    wanted = λ f new. inr (refl, λ other cost at. at);
  })

  -- one whose offer is an improvement
  better : (fact cost : ℕ) → fact < length t.costs → place < length t.waiting → ((u : Unary) → slice_get unaries place ≡ Some u → fact ≡ u.gives) → (open_at mid place).count ≡ 0 → cost ≡ (open_at mid place).sum →
      cost < get_or t.costs fact 0 → is_settled t fact ≡ false → IsMet unaries level owed t (record mid { costs = slice_set t.costs fact cost; waiting = slice_set t.waiting place (Some cost) })
  better fact cost within in_waiting gives none cost_is less new = steps_way fact now gives (record {
    counted = record { settled = refl; order = refl; costs_long = length-set t.costs fact cost; waiting_long = length-set t.waiting place (Some cost); kept = λ f is. cost_there f (λ e. let k : true ≡ false = sym is ∙ (ap (is_settled t) e ∙ new) in cc) };
    opens = refl;
    less = λ f. grind (arith, nat_tests, cost_here, get_or_default t.costs fact 0 4294967295 within, less, cost_there f);
    own = λ zero kept. (let is = cost_here in omega (arith, is, cost_is));
    waits = λ other price waiting. elim (places other place) [
      | inl here ↦
          let k : Some price ≡ Some cost = sym waiting ∙ (ap (price_of now.waiting) here.0 ∙ now_waits) in
          let same : price ≡ cost = cc in
          inr (here.0, record { none_open = none; price_is = same ∙ cost_is; above = let above = sum_above in omega (arith, above, same, cost_is) })
      | inr there ↦ inl (sym (get_or-set_other t.waiting place other (Some cost) None there.0) ∙ waiting)
    ];
    wanted = λ f fresh. elim (places f fact) [
      | inl here ↦ let u = unary_there unaries place lt in
          inl (record { place = place; unary = u.unary; at = u.at; gives = sym (gives u.unary u.at) ∙ sym here.0; waits = now_waits ∙ ap (λ (n : ℕ). Some n) (sym (ap (cost_at now) here.0 ∙ cost_here)) })
      | inr there ↦ inr (cost_there f there.0, λ other price waiting. get_or-set_other t.waiting place other (Some cost) None (λ e. let k : None ≡ Some price = sym counts_idle ∙ (ap (price_of t.waiting) (sym e) ∙ waiting) in cc) ∙ waiting)
    ];
  })
    where
      now : Settlement
      now = record mid { costs = slice_set t.costs fact cost; waiting = slice_set t.waiting place (Some cost) }

      cost_here : cost_at now fact ≡ cost
      cost_here = get_or-set_same t.costs fact cost 4294967295 within

      cost_there : (f : ℕ) → f ≢ fact → cost_at now f ≡ cost_at t f
      cost_there f ne = get_or-set_other t.costs fact f cost 4294967295 ne

      now_waits : price_of now.waiting place ≡ Some cost
      now_waits = get_or-set_same t.waiting place (Some cost) None in_waiting

  -- one that has counted its last condition
  pub met_all : (step now : Settlement) (fact cost : ℕ) → ((u : Unary) → slice_get unaries place ≡ Some u → fact ≡ u.gives) → fact < length t.costs → length t.waiting ≡ length t.opens →
      step ≡ mid → ((open_at step place).count ≡ 0) × (cost ≡ (open_at step place).sum) → now ≡ offered step fact place cost → IsMet unaries level owed t now
  met_all step now fact cost gives within long step_is priced now_is = rw (now_is, step_is) (by_test (nat_lt cost (get_or t.costs fact 0)) refl (is_settled t fact) refl)
    where
      asks : ((open_at mid place).count ≡ 0) × (cost ≡ (open_at mid place).sum)
      asks = rw step_is at priced

      by_test : (b : Bool) → nat_lt cost (get_or t.costs fact 0) ≡ b → (a : Bool) → is_settled t fact ≡ a →
          IsMet unaries level owed t (if b && not a then record mid { costs = slice_set t.costs fact cost; waiting = slice_set t.waiting place (Some cost) } else mid)
      by_test true less false is = let opens = way.opens_long in better fact cost within (omega (arith, long, opens, lt)) gives asks.0 asks.1 (ltb-true cost (get_or t.costs fact 0) less) is
      by_test false more a is = plain fact gives (λ none kept. let le = ltb-false cost (get_or t.costs fact 0) more in let same = get_or_default t.costs fact 0 4294967295 within in let sum = asks.1 in omega (arith, le, same, sum))
      by_test true b true is = plain fact gives (λ none kept. let le = way.low fact (reached_if t fact is kept) in let above = sum_above in omega (arith, le, above))

  -- one that has others open
  pub met_some : (now : Settlement) → now ≡ mid → 0 < (open_at now place).count → IsMet unaries level owed t now
  met_some now now_is some =
      let here = unary_there unaries place lt in
      rw now_is (plain here.unary.gives (λ u at. let k : Some here.unary ≡ Some u = sym here.at ∙ at in let same : here.unary ≡ u = cc in ap (λ (x : Unary). x.gives) same) (λ none kept. let left = rw now_is at some in absurd (omega (arith, left, none))))

-- what a walk has of its list
pub one_met : (unaries : List Unary) (level : ℕ) (row : List ℕ) (t now : Settlement) (k place : ℕ) → k < length row → place ≡ get_or row k 0 → ((owed : List ℕ) → IsUnderWay unaries level (place ∷ owed) t → IsUnderWay unaries level owed now) →
    IsUnderWay unaries level (drop k row) t → IsUnderWay unaries level (drop (k + 1) row) now
one_met unaries level row t now k place lt at step way = step (drop (k + 1) row) (rw (drop_within row k place lt at) at way)

pub all_met : (unaries : List Unary) (level : ℕ) (row : List ℕ) (t : Settlement) (k : ℕ) → length row ≤ k → IsUnderWay unaries level (drop k row) t → IsUnderWay unaries level [] t
all_met unaries level row t k le way = rw drop_all at way

pub none_counted : (t : Settlement) → HasCounted t t
none_counted t = record { settled = refl; order = refl; costs_long = refl; waiting_long = refl; kept = λ fact is. refl }

-- what was counted after what was counted
pub counted_more : (t u v : Settlement) → HasCounted t u → HasCounted u v → HasCounted t v
counted_more t u v a b = record {
  settled = b.settled ∙ a.settled;
  order = b.order ∙ a.order;
  costs_long = b.costs_long ∙ a.costs_long;
  waiting_long = b.waiting_long ∙ a.waiting_long;
  kept = λ fact is. b.kept fact (ap (λ (fs : List Bool). get_or fs fact false) a.settled ∙ is) ∙ a.kept fact is;
}

pub ruleset sums = (sum_starts, sum_grows, sum_infinite, sum_ends)

pub ruleset walks = (none_counted, one_met, all_met, counted_more)
