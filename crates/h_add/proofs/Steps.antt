-- One fact after the other is settled, or passed over, and what is reached costs what it does by the rounds.
use Rattle.std.proofs.Common.{◌≡◌, ◌≢◌, ◌∙◌, sym, ap, subst, refl, ℕ, ◌+◌, ◌*◌, ◌<◌, ◌≤◌, ◌⊎◌, inl, inr, List, [], ◌∷◌, ◌++◌, length, get_or, min, Bool, true, false, nat_eq, nat_le, not, ◌&&◌, ◌||◌, if◌then◌else◌, arith, Option, Some, None, slice_get, slice_set, get_or-set_other, get_or-set_same, append_assoc, max, take, zero, suc, nat_lt}
use Rattle.std.proofs.Math.Bool.{or_assoc, or-false, or-true, and-true}
use Rattle.std.proofs.lemmas.Bool.Decides.{nat_tests}
use Rattle.std.proofs.lemmas.Bool.{cases_Bool, eq-eqb, and_right, or_parts, lt-ltb, cases_lt, eqb-true, le-leb, or_cases, lt-leb, false_from_ne_true}
use Rattle.std.proofs.lemmas.List.{length-set, set_past, map-append, append-nil, set-get_or, take_more, take_all, get_or-map, length-map}
use Rattle.std.proofs.lemmas.List.Folds.{list_any-append, list_any_more}
use Rattle.std.proofs.lemmas.List.Sums.{sum_by-set, count_by-le-length}
use Rattle.cost_queue.specs.Occurrences.{one_if, occurrences}
use Rattle.cost_queue.specs.Queues.{price_of, IsTaken, IsIdle}
use Rattle.cost_queue.proofs.WaitingLaws.{taken_fewer, waiting_within, there}
use Rattle.cost_queue.specs.declared.entry.Entry.{Entry}
use Rattle.relaxed_task.proofs.Elements.{places, denied}
use Rattle.relaxed_task.proofs.NumberLaws.{weaker}
use Rattle.relaxed_task.proofs.PlanLaws.{all_has}
use Rattle.relaxed_task.specs.Numbers.{is_among, is_below, over_numbers}
use Rattle.relaxed_task.specs.declared.unary.Unary.{Unary}
use Rattle.h_add.specs.declared.network.Open.{Open}
use Rattle.h_add.specs.UnderWay.{Settlement, cost_at, is_settled, is_reached, is_left_out, open_at, unsettled, given_at, there_at, one_open, share, summed, IsCounted, IsUnderWay, left_to_do, IsFrom, HasCounted, IsSettling, IsLater, IsFresh, HasMarked, IsWanted, HasSettled, AreSettled}
use Rattle.h_add.proofs.ReachedSums.{none_counted, reached_if, unsettled_not, sum_changed, reached_same, all_reached, There, unary_there, finite_is, infinite_is, reached_small, price_sum}
use Rattle.std.specs.List.{list_all}
use Rattle.std.proofs.Math.Path.{fun_ext}
use Rattle.std.proofs.lemmas.Option.{slice_get_within, get_or_from_slice_get}
use Rattle.lama_num.proofs.ListLaws.{both}
use Rattle.h_add.proofs.NumberedRounds.{price, is_started, add_round}
use Rattle.h_add.specs.ByNumber.{start_facts, IsAdd}
use Rattle.h_add.specs.Orders.{chosen, given_by, are_places, IsOrder}
use Rattle.h_add.proofs.EvaluatedLaws.{chosen_grows}
use Rattle.h_add.specs.Networks.{needed, IsNeededBy, AreFree, open_at_start}
use Rattle.h_add.proofs.ListGrowth.{needed_at, written_back}
use Rattle.lama_num.specs.declared.estimates.Estimate.{Estimate}
use Rattle.lama_num.specs.declared.estimates.Estimate.TheVariants.{Finite, Infinite}
use Rattle.relaxed_task.proofs.CostLaws.{IsClosed, price_at_most, sum_capped}
use Rattle.relaxed_task.proofs.CostLaws.{price_attained}
use Rattle.relaxed_task.proofs.EstimateLaws.{at_most_self, at_most_trans, at_most_infinite, both_at_least, IsCapped, at_most_both, least_left, least_right, plus_left, plus_right}
use Rattle.relaxed_task.specs.Estimates.{least, IsAtMost, is_finite, IsLeast}
use Rattle.relaxed_task.specs.Relaxing.{AreBest, IsBest, IsInOrder, least_price, sum_of as total}
use Rattle.lama_num.specs.Estimates.{estimate_sum}
use Rattle.h_add.specs.Values.{estimate_of, value_at, IsEvaluatedByNumber}
use Rattle.sas_task.specs.declared.contents.CostKind.{CostKind}
use Rattle.sas_task.specs.declared.contents.Parts.{Parts}
use Rattle.relaxed_task.specs.declared.relaxation.Lists.{Lists}
use Rattle.relaxed_task.specs.Relaxations.{IsRelaxed}

-- a fact is settled at a cost, while some number waits no more
abbrev pub after : Settlement → ℕ → ℕ → List (Option ℕ) → List ℕ → Settlement
after t fact cost waiting order = record { costs = slice_set t.costs fact cost; settled = slice_set t.settled fact true; opens = t.opens; waiting = waiting; order = order }

-- a flag more
pub flagged : (flags : List Bool) (fact f : ℕ) → fact < length flags → get_or (slice_set flags fact true) f false ≡ (get_or flags f false || nat_eq f fact)
flagged flags fact f lt = grind (arith, nat_tests, get_or-set_same flags fact true false lt, get_or-set_other flags fact f true false)

-- A fact that isn't settled, is settled at a cost.
module _ (t : Settlement) (fact cost : ℕ) (waiting : List (Option ℕ)) (order : List ℕ) (within : fact < length t.costs) (in_flags : fact < length t.settled) (new : is_settled t fact ≡ false) (small : cost ≤ 1000000000) where
  abbrev next : Settlement
  next = after t fact cost waiting order

  cost_is : cost_at next fact ≡ cost
  cost_is = get_or-set_same t.costs fact cost 4294967295 within

  pub cost_there : (f : ℕ) → f ≢ fact → cost_at next f ≡ cost_at t f
  cost_there f ne = get_or-set_other t.costs fact f cost 4294967295 ne

  settled_is : is_settled next fact ≡ true
  settled_is = get_or-set_same t.settled fact true false in_flags

  settled_there : (f : ℕ) → f ≢ fact → is_settled next f ≡ is_settled t f
  settled_there f ne = get_or-set_other t.settled fact f true false ne

  little : nat_le (cost_at next fact) 1000000000 ≡ true
  little = ap (λ (n : ℕ). nat_le n 1000000000) cost_is ∙ le-leb cost 1000000000 small

  reached_is : is_reached next fact ≡ true
  reached_is = rw (settled_is, little) refl

  reached_there : (f : ℕ) → f ≢ fact → is_reached next f ≡ is_reached t f
  reached_there f ne = rw (settled_there f ne, cost_there f ne) refl

  pub kept : (f : ℕ) → is_left_out next f ≡ is_left_out t f
  kept f = grind (arith, nat_tests, settled_is, little, new, settled_there f, cost_there f)

  -- It costs no less than what is settled and no more than what waits: those that need it have to count it.
  pub settle_way : (unaries : List Unary) (level : ℕ) (row : List ℕ) → cost ≤ cost_at t fact → level ≤ cost →
      ((place price : ℕ) → price_of waiting place ≡ Some price → (price_of t.waiting place ≡ Some price) × (cost ≤ price)) →
      ((place : ℕ) (u : Unary) → slice_get unaries place ≡ Some u → u.gives ≢ fact → (price : ℕ) → price_of t.waiting place ≡ Some price → price_of waiting place ≡ Some price) →
      ((place : ℕ) → is_among order place ≡ true → (is_among t.order place ≡ true) ⊎ ((u : Unary) × (slice_get unaries place ≡ Some u) × ((open_at t place).count ≡ 0) × (fact ≡ u.gives) × (cost ≡ (open_at t place).sum))) →
      ((place : ℕ) (u : Unary) → slice_get unaries place ≡ Some u → occurrences place row ≡ occurrences fact u.conds) →
      IsUnderWay unaries level [] t → IsUnderWay unaries cost row next
  settle_way unaries level row cheap above sub still ordered needed way = record {
    level_small = small;
    opens_long = way.opens_long;
    each = λ place u at.
        (let was = way.each place u at in
        let count_was = was.count in
        let sum_was = was.sum in
        let as_often = needed place u at in
        let fewer = sum_changed (one_open t) (one_open next) fact 1 0 u.conds (rw (unsettled_not t fact new).0 refl) (rw reached_is refl) (λ c ne. ap (λ (b : Bool). one_if (not b)) (reached_there c ne)) in
        let more = sum_changed (share t) (share next) fact 0 cost u.conds (rw (unsettled_not t fact new).0 refl) (rw reached_is cost_is) (λ c ne. rw (reached_there c ne, cost_there c ne) refl) in
        let times = ap (λ (n : ℕ). n * cost) as_often in
        record {
          count = omega (arith, count_was, fewer, as_often);
          sum = omega (arith, sum_was, more, times);
          small = was.small;
          offered = λ none stays. (let le = was.offered none (sym (kept u.gives) ∙ stays) in grind (arith, nat_tests, le, cost_is, cost_there u.gives, cheap));
        });
    waits = λ place price at. (let was = sub place price at in let before = way.waits place price was.0 in record { none_open = before.none_open; price_is = before.price_is; above = was.1 });
    wanted = λ f fresh low. elim (places f fact) [
      | inl here ↦ let k : true ≡ false = sym settled_is ∙ (rw here.0 at fresh) in absurd cc
      | inr there ↦
          let same = cost_there f there.0 in
          let was = way.wanted f (sym (settled_there f there.0) ∙ fresh) (omega arith) in
          record { place = was.place; unary = was.unary; at = was.at; gives = was.gives; waits = still was.place was.unary was.at (λ e. there.0 (sym was.gives ∙ e)) (cost_at t f) was.waits ∙ ap (λ (n : ℕ). Some n) (sym same) }
    ];
    low = λ f is. grind (arith, nat_tests, cost_is, cost_there f, reached_there f, way.low f, above, is);
    settled_by = λ place among. elim (ordered place among) [
      | inl before ↦
          let was = way.settled_by place before in
          let ne : was.unary.gives ≢ fact = λ e. (let k : true ≡ false = sym was.reached ∙ (ap (is_reached t) e ∙ (unsettled_not t fact new).0) in absurd cc) in
          record { unary = was.unary; at = was.at; none_open = was.none_open; reached = reached_there was.unary.gives ne ∙ was.reached; pays = cost_there was.unary.gives ne ∙ was.pays }
      | inr last ↦ record { unary = last.0; at = last.1; none_open = last.2; reached = rw (← last.3) reached_is; pays = rw (← last.3) (cost_is ∙ last.4) }
    ];
  }

-- what a unary operator that is taken asks for is what its fact costs
pub record Pays (level : ℕ) (t : Settlement) (entry : Entry) (fact : ℕ) : Type 0 where
  pub none_open : (open_at t entry.number).count ≡ 0
  pub price_is : entry.price ≡ (open_at t entry.number).sum
  pub above : level ≤ entry.price
  pub small : entry.price ≤ 1000000000
  pub cost_is : cost_at t fact ≡ entry.price

pub taken_pays : (unaries : List Unary) (level : ℕ) (t : Settlement) (waiting : List (Option ℕ)) (entry : Entry) (u : Unary) (fact : ℕ) → slice_get unaries entry.number ≡ Some u → fact ≡ u.gives → IsTaken t.waiting waiting entry → is_settled t fact ≡ false → IsUnderWay unaries level [] t → Pays level t entry fact
taken_pays unaries level t waiting entry u fact at gives taken new way =
    let waits = way.waits entry.number entry.price taken.waited in
    let counted = way.each entry.number u at in
    let small = counted.small in
    let price_is = waits.price_is in
    let le : cost_at t fact ≤ (open_at t entry.number).sum = rw gives (counted.offered waits.none_open (unsettled_not t u.gives (rw gives at new)).1) in
    let wanted = way.wanted fact new (omega (arith, small, le)) in
    let least = taken.least wanted.place (cost_at t fact) wanted.waits in
    record { none_open = waits.none_open; price_is = price_is; above = waits.above; small = omega (arith, small, price_is); cost_is = omega (arith, le, least, price_is) }

-- the waiting ones without the one that was taken
pub taken_sub : (old new : List (Option ℕ)) (entry : Entry) → IsTaken old new entry → (place price : ℕ) → price_of new place ≡ Some price → (price_of old place ≡ Some price) × (entry.price ≤ price)
taken_sub old new entry taken place price at = elim (places place entry.number) [
  | inl here ↦ let k : None ≡ Some price = sym (get_or-set_same old entry.number None None (there old entry.number entry.price taken.waited)) ∙ (rw here.0 at now) in absurd cc
  | inr other ↦ let was = sym (get_or-set_other old entry.number place None None other.0) ∙ now in (was, taken.least place price was)
]
  where
    now : price_of (slice_set old entry.number None) place ≡ Some price
    now = ap (λ (xs : List (Option ℕ)). price_of xs place) (sym taken.rest) ∙ at

-- one that gives another fact waits still
pub taken_still : (unaries : List Unary) (old new : List (Option ℕ)) (entry : Entry) (u : Unary) (fact : ℕ) → slice_get unaries entry.number ≡ Some u → fact ≡ u.gives → IsTaken old new entry →
    (place : ℕ) (x : Unary) → slice_get unaries place ≡ Some x → x.gives ≢ fact → (price : ℕ) → price_of old place ≡ Some price → price_of new place ≡ Some price
taken_still unaries old new entry u fact at gives taken place x at_x ne price waits = ap (λ (xs : List (Option ℕ)). price_of xs place) taken.rest ∙ (get_or-set_other old entry.number place None None apart ∙ waits)
  where
    apart : place ≢ entry.number
    apart e = let k : Some x ≡ Some u = sym at_x ∙ (rw e at) in let same : x ≡ u = cc in ne (ap (λ (y : Unary). y.gives) same ∙ sym gives)

-- One whose fact is settled already is passed over.
pub passed_way : (unaries : List Unary) (level : ℕ) (t : Settlement) (waiting : List (Option ℕ)) (entry : Entry) (u : Unary) (fact : ℕ) → slice_get unaries entry.number ≡ Some u → fact ≡ u.gives → IsTaken t.waiting waiting entry → is_settled t fact ≡ true → IsUnderWay unaries level [] t →
    IsUnderWay unaries entry.price [] (record t { waiting = waiting })
passed_way unaries level t waiting entry u fact at gives taken old way = record {
  level_small = let small = (way.each entry.number u at).small in let is = (way.waits entry.number entry.price taken.waited).price_is in omega arith;
  opens_long = way.opens_long;
  each = λ place x at_x. (let was = way.each place x at_x in let sum = was.sum in record { count = was.count; sum = omega (arith, sum); small = was.small; offered = was.offered });
  waits = λ place price now. (let was = taken_sub t.waiting waiting entry taken place price now in let before = way.waits place price was.0 in record { none_open = before.none_open; price_is = before.price_is; above = was.1 });
  wanted = λ f fresh small.
      (let was = way.wanted f fresh small in
      let ne : was.unary.gives ≢ fact = λ e. (let k : true ≡ false = sym old ∙ (ap (is_settled t) (sym e ∙ was.gives) ∙ fresh) in absurd cc) in
      record { place = was.place; unary = was.unary; at = was.at; gives = was.gives; waits = taken_still unaries t.waiting waiting entry u fact at gives taken was.place was.unary was.at ne (cost_at t f) was.waits });
  low = λ f is. (let le = way.low f is in let above = (way.waits entry.number entry.price taken.waited).above in omega arith);
  settled_by = λ place among. (let was = way.settled_by place among in record { unary = was.unary; at = was.at; none_open = was.none_open; reached = was.reached; pays = was.pays });
}

-- what is left to do
abbrev one_left : Bool → ℕ
one_left flag = if not flag then 1 else 0

pub fewer_unsettled : (flags : List Bool) (fact : ℕ) → fact < length flags → get_or flags fact false ≡ false → unsettled (slice_set flags fact true) + 1 ≡ unsettled flags
fewer_unsettled flags fact lt new =
    grind (arith, sum_by-set one_left flags fact true false lt, new)

pub fewer_or_same : (flags : List Bool) (fact : ℕ) → unsettled (slice_set flags fact true) ≤ unsettled flags
fewer_or_same flags fact = grind (arith, sum_by-set one_left flags fact true false, set_past flags fact true)

pub few_unsettled : (flags : List Bool) → unsettled flags ≤ length flags
few_unsettled flags = count_by-le-length not flags

-- one more in an order
pub turned : (x : ℕ) (facts more : List ℕ) → is_among (facts ++ x ∷ more) ≡ is_among (x ∷ (facts ++ more))
turned x facts more = fun_ext (λ fact. grind (arith, list_any-append (nat_eq fact) facts (x ∷ more), list_any-append (nat_eq fact) facts more))

order_grows : (facts : List ℕ) (list : List Unary) (u : Unary) → IsInOrder over_numbers facts list → list_all (is_among (facts ++ given_by list)) u.conds ≡ true → is_among (facts ++ given_by list) u.gives ≡ false → IsInOrder over_numbers facts (list ++ u ∷ [])
order_grows facts [] u order conds new = (rw append-nil at conds, rw append-nil at new, tt)
order_grows facts (x ∷ list) u order conds new = (
  order.0,
  order.1,
  order_grows (x.gives ∷ facts) list u order.2
      (subst (λ (p : ℕ → Bool). list_all p u.conds ≡ true) (turned x.gives facts (given_by list)) conds)
      (subst (λ (p : ℕ → Bool). p u.gives ≡ false) (turned x.gives facts (given_by list)) new),
)

-- what was there at first, and what the order gives
abbrev pub gained : List Unary → List ℕ → List ℕ → List ℕ
gained unaries had order = had ++ given_by (chosen unaries order)

-- what is left out is settled, but not reached
pub from_reached : (unaries : List Unary) (without had : List ℕ) (t : Settlement) (fact : ℕ) → IsFrom unaries without had t → is_reached t fact ≡ (is_among (gained unaries had t.order) fact && not (is_among without fact))
from_reached unaries without had t fact from = grind (arith, from.out fact, from.settled fact)

first_settled : (unaries : List Unary) (without had : List ℕ) (t : Settlement) (fact : ℕ) → is_among had fact ≡ true → IsFrom unaries without had t → is_settled t fact ≡ true
first_settled unaries without had t fact among from = from.settled fact ∙ rw (list_any-append (nat_eq fact) had (given_by (chosen unaries t.order)), among) (or-true (is_among without fact))

-- what is settled from a start, after a fact was counted
from_counted : (unaries : List Unary) (without had : List ℕ) (t now : Settlement) → HasCounted t now → IsFrom unaries without had t → IsFrom unaries without had now
from_counted unaries without had t now counted from = record {
  out = λ fact. (reached_same t now counted.settled counted.kept fact).1 ∙ from.out fact;
  settled = λ fact. rw (counted.settled, counted.order) (from.settled fact);
  first = λ fact among stays. counted.kept fact (first_settled unaries without had t fact among from) ∙ from.first fact among stays;
  in_order = rw counted.order from.in_order;
}

pub taken_within : (unaries : List Unary) (t mid : Settlement) (entry : Entry) → IsTaken t.waiting mid.waiting entry → length t.waiting ≡ length t.opens → IsSettling unaries t → entry.number < length unaries
taken_within unaries t mid entry taken long s = let lt = there t.waiting entry.number entry.price taken.waited in let opens = s.way.opens_long in omega arith

-- a fact that is there is needed by those that have it as a condition
pub needed_same : (always fact : ℕ) (conds : List ℕ) → fact < always → occurrences fact (needed always conds) ≡ occurrences fact conds
needed_same always fact [] lt = grind (arith, nat_tests, lt)
needed_same always fact (c ∷ conds) lt = refl

settled_mid : (t mid : Settlement) (fact : ℕ) (b : Bool) → mid ≡ record t { waiting = mid.waiting } → is_settled mid fact ≡ b → is_settled t fact ≡ b
settled_mid t mid fact b mid_is is = ap (λ (s : Settlement). is_settled s fact) (sym mid_is) ∙ is

-- A unary operator settles its fact.
pub record IsGiven (unaries : List Unary) (t now : Settlement) (fact price : ℕ) (row : List ℕ) : Type 0 where
  pub way : IsUnderWay unaries price row now
  pub from : (without had : List ℕ) → IsFrom unaries without had t → IsFrom unaries without had now
  pub new : is_settled t fact ≡ false
  pub within : fact < length t.settled
  pub settled : now.settled ≡ slice_set t.settled fact true
  pub costs_long : length now.costs ≡ length t.costs
  pub waiting_long : length now.waiting ≡ length t.waiting

pub step_given : (unaries : List Unary) (facts : ℕ) (t mid now : Settlement) (row : List ℕ) (fact : ℕ) (entry : Entry) → facts ≡ length t.costs → length t.settled ≡ length t.costs → length t.waiting ≡ length t.opens → mid ≡ record t { waiting = mid.waiting } →
    IsTaken t.waiting mid.waiting entry → ((u : Unary) → slice_get unaries entry.number ≡ Some u → fact ≡ u.gives) → fact < facts → is_settled mid fact ≡ false → now ≡ given_at mid fact entry.number → IsNeededBy unaries facts fact row → IsSettling unaries t →
    IsGiven unaries t now fact entry.price row
step_given unaries facts t mid now row fact entry facts_is settled_long waiting_long mid_is taken gives below not_yet now_is needs s = rw now_here (record {
  way = settle_way t fact entry.price mid.waiting order within in_flags new p.small unaries s.level row (let is = p.cost_is in omega arith) p.above (taken_sub t.waiting mid.waiting entry taken) (taken_still unaries t.waiting mid.waiting entry u.unary fact u.at given taken)
      (λ place among. elim (or_cases (is_among t.order place) (nat_eq place entry.number || false) (sym (list_any-append (nat_eq place) t.order (entry.number ∷ [])) ∙ among)) [
        | inl before ↦ inl before
        | inr last ↦ let same = eqb-true place entry.number (sym (or-false (nat_eq place entry.number)) ∙ last) in rw same (inr (u.unary, u.at, p.none_open, given, p.price_is))
      ]) (λ place x at. needed_at unaries facts fact row needs place x at ∙ needed_same facts fact x.conds below) s.way;
  from = λ without had from. record {
    out = λ f. kept t fact entry.price mid.waiting order within in_flags new p.small f ∙ from.out f;
    settled = λ f. flagged t.settled fact f in_flags ∙ (ap (λ (b : Bool). b || nat_eq f fact) (from.settled f) ∙ (or_assoc (is_among without f) (is_among (gained unaries had t.order) f) (nat_eq f fact) ∙ ap (λ (b : Bool). is_among without f || b) (more had f)));
    first = λ f among stays. cost_there t fact entry.price mid.waiting order within in_flags new p.small f (λ e. let k : true ≡ false = sym (first_settled unaries without had t f among from) ∙ (ap (is_settled t) e ∙ new) in cc) ∙ from.first f among stays;
    in_order = rw grows (order_grows had (chosen unaries t.order) u.unary from.in_order
        (weaker (is_reached t) (is_among (gained unaries had t.order)) u.unary.conds (λ f is. (both (is_among (gained unaries had t.order) f) (not (is_among without f)) (sym (from_reached unaries without had t f from) ∙ is)).0) conds)
        (rw given at (or_parts (is_among without fact) (is_among (gained unaries had t.order) fact) (sym (from.settled fact) ∙ new)).1));
  };
  new = new;
  within = in_flags;
  settled = refl;
  costs_long = length-set t.costs fact entry.price;
  waiting_long = ap length taken.rest ∙ length-set t.waiting entry.number None;
})
  where
    order : List ℕ
    order = t.order ++ entry.number ∷ []

    u : There unaries entry.number
    u = unary_there unaries entry.number (taken_within unaries t mid entry taken waiting_long s)

    given : fact ≡ u.unary.gives
    given = gives u.unary u.at

    new : is_settled t fact ≡ false
    new = settled_mid t mid fact false mid_is not_yet

    p : Pays s.level t entry fact
    p = taken_pays unaries s.level t mid.waiting entry u.unary fact u.at given taken new s.way

    within : fact < length t.costs
    within = omega arith

    in_flags : fact < length t.settled
    in_flags = omega arith

    now_here : now ≡ after t fact entry.price mid.waiting order
    now_here =
        now_is ∙ ap (λ (s : Settlement). given_at s fact entry.number) mid_is
        ∙ ap (λ (costs : List ℕ). record { costs = costs; settled = slice_set t.settled fact true; opens = t.opens; waiting = mid.waiting; order = order }) (sym (ap (slice_set t.costs fact) (sym p.cost_is) ∙ set-get_or t.costs fact 4294967295))

    grows : chosen unaries order ≡ chosen unaries t.order ++ u.unary ∷ []
    grows = chosen_grows unaries t.order entry.number u.unary u.at

    more : (had : List ℕ) (f : ℕ) → (is_among (gained unaries had t.order) f || nat_eq f fact) ≡ is_among (gained unaries had order) f
    more had f =
        rw (grows, map-append (λ (x : Unary). x.gives) (chosen unaries t.order) (u.unary ∷ []), ← append_assoc had (given_by (chosen unaries t.order)) (u.unary.gives ∷ []), list_any-append (nat_eq f) (gained unaries had t.order) (u.unary.gives ∷ []), ← given)
        (ap (λ (b : Bool). is_among (gained unaries had t.order) f || b) (sym (or-false (nat_eq f fact))))

    conds : list_all (is_reached t) u.unary.conds ≡ true
    conds = all_reached t u.unary.conds (let count = (s.way.each entry.number u.unary u.at).count in let none = p.none_open in omega (arith, count, none))

-- and all that need the fact count it
pub given_later : (unaries : List Unary) (t now last : Settlement) (fact price : ℕ) (row : List ℕ) → IsGiven unaries t now fact price row → IsUnderWay unaries price [] last → HasCounted now last → IsLater unaries t last
given_later unaries t now last fact price row g way counted = record {
  way = record { level = price; way = way };
  from = λ without had from. from_counted unaries without had now last counted (g.from without had from);
  long = counted.costs_long ∙ g.costs_long;
  stays = λ other is.
      ap (λ (flags : List Bool). get_or flags other false) (counted.settled ∙ g.settled)
      ∙ (get_or-set_other t.settled fact other true false (λ e. let k : true ≡ false = sym is ∙ (ap (is_settled t) e ∙ g.new) in cc) ∙ is);
}

pub given_less : (unaries : List Unary) (t now last : Settlement) (fact price : ℕ) (row : List ℕ) → IsGiven unaries t now fact price row → HasCounted now last → left_to_do last < left_to_do t
given_less unaries t now last fact price row g counted =
    let some = waiting_within last.waiting in
    let long = counted.waiting_long ∙ g.waiting_long in
    let one = fewer_unsettled t.settled fact g.within g.new in
    let here : unsettled t.settled * (length t.waiting + 1) ≡ (unsettled last.settled + 1) * (length last.waiting + 1) = rw (long, counted.settled, g.settled, one) refl in
    omega (arith, some, here)

-- or its fact is settled already
pub passed_later : (unaries : List Unary) (t mid : Settlement) (fact : ℕ) (entry : Entry) → length t.waiting ≡ length t.opens → mid ≡ record t { waiting = mid.waiting } → IsTaken t.waiting mid.waiting entry → ((u : Unary) → slice_get unaries entry.number ≡ Some u → fact ≡ u.gives) →
    is_settled mid fact ≡ true → IsSettling unaries t → IsLater unaries t mid
passed_later unaries t mid fact entry waiting_long mid_is taken gives old s = rw mid_is (record {
  way = record { level = entry.price; way = (let u = unary_there unaries entry.number (taken_within unaries t mid entry taken waiting_long s) in passed_way unaries s.level t mid.waiting entry u.unary fact u.at (gives u.unary u.at) taken (settled_mid t mid fact true mid_is old) s.way) };
  from = λ without had from. record { out = from.out; settled = from.settled; first = from.first; in_order = from.in_order };
  long = refl;
  stays = λ f is. is;
})

pub passed_less : (t mid : Settlement) (entry : Entry) → mid ≡ record t { waiting = mid.waiting } → IsTaken t.waiting mid.waiting entry → left_to_do mid < left_to_do t
passed_less t mid entry mid_is taken = rw mid_is
    (let fewer = taken_fewer t.waiting mid.waiting entry taken in
    let same : unsettled t.settled * (length mid.waiting + 1) ≡ unsettled t.settled * (length t.waiting + 1) = ap (λ (n : ℕ). unsettled t.settled * (n + 1)) (ap length taken.rest ∙ length-set t.waiting entry.number None) in
    omega (arith, fewer, same))

-- later and later
pub later_more : (unaries : List Unary) (t u v : Settlement) → IsLater unaries t u → IsLater unaries u v → IsLater unaries t v
later_more unaries t u v a b = record {
  way = b.way;
  from = λ without had from. b.from without had (a.from without had from);
  long = b.long ∙ a.long;
  stays = λ fact is. b.stays fact (a.stays fact is);
}

pub now_later : (unaries : List Unary) (t : Settlement) → IsSettling unaries t → IsLater unaries t t
now_later unaries t way = record { way = way; from = λ without had from. from; long = refl; stays = λ fact is. is }

-- none waits
pub none_later : (unaries : List Unary) (t mid : Settlement) → mid ≡ record t { waiting = mid.waiting } → mid.waiting ≡ t.waiting → IsSettling unaries t → IsLater unaries t mid
none_later unaries t mid mid_is same s = rw (mid_is, same) (now_later unaries t s)

-- nothing is reached
none_reached : (unaries : List Unary) (t : Settlement) → IsFresh unaries t → (fact : ℕ) → is_reached t fact ≡ false
none_reached unaries t f fact = let large = lt-leb (cost_at t fact) 1000000000 (f.costs fact) in rw large (and_right (is_settled t fact) false refl)

none_summed : (f : ℕ → ℕ) (n : ℕ) (conds : List ℕ) → ((fact : ℕ) → f fact ≡ n) → summed f conds ≡ length conds * n
none_summed f n [] same = omega arith
none_summed f n (c ∷ conds) same = let rest = none_summed f n conds same in let here = same c in omega (arith, rest, here)

-- a fresh evaluation is under way, where those without conditions are owed
pub fresh_way : (unaries : List Unary) (t : Settlement) (row : List ℕ) → AreFree unaries row → IsFresh unaries t → IsUnderWay unaries 0 row t
fresh_way unaries t row free f = record {
  level_small = omega arith;
  opens_long = ap length f.opens ∙ length-map unaries open_at_start;
  each = each;
  waits = λ place price at. (let k : None ≡ Some price = sym (f.idle place) ∙ at in absurd cc);
  wanted = λ fact new small. (let large = f.costs fact in absurd (omega arith));
  low = λ fact is. (let k : false ≡ true = sym (none_reached unaries t f fact) ∙ is in absurd cc);
  settled_by = λ place among. (let k : false ≡ true = ap (λ (order : List ℕ). is_among order place) (sym f.order) ∙ among in absurd cc);
}
  where
    each : (place : ℕ) (u : Unary) → slice_get unaries place ≡ Some u → IsCounted t 0 row place u
    each place u at =
        let is : open_at t place ≡ open_at_start u = ap (λ (os : List Open). get_or os place (record { count = 0; sum = 0 })) f.opens ∙ (get_or-map open_at_start unaries place u (record { count = 0; sum = 0 }) (slice_get_within unaries place u at) ∙ ap open_at_start (get_or_from_slice_get unaries place u u at)) in
        let count : (open_at t place).count ≡ max (length u.conds) 1 = ap (λ (o : Open). o.count) is in
        let sum : (open_at t place).sum ≡ min u.cost 1000000000 = ap (λ (o : Open). o.sum) is in
        let once = free place u at in
        let open_all = none_summed (one_open t) 1 u.conds (λ fact. rw (none_reached unaries t f fact) refl) in
        let nothing = none_summed (share t) 0 u.conds (λ fact. rw (none_reached unaries t f fact) refl) in
        record {
          count = omega (arith, count, once, open_all);
          sum = omega (arith, sum, nothing);
          small = omega (arith, sum);
          offered = λ none kept. absurd (omega (arith, count, none));
        }

-- a fact that is there at first is settled at no cost
pub there_way : (unaries : List Unary) (facts : ℕ) (t now : Settlement) (fact : ℕ) (row : List ℕ) → facts ≡ length t.costs → length t.settled ≡ length t.costs → fact < length t.costs → is_settled t fact ≡ false → now ≡ there_at t fact → IsNeededBy unaries facts fact row → IsUnderWay unaries 0 [] t →
    IsUnderWay unaries 0 row now
there_way unaries facts t now fact row facts_is settled_long within new is needs way =
    rw is (settle_way t fact 0 t.waiting t.order within (omega arith) new (omega arith) unaries 0 row (omega arith) (omega arith) (λ place price at. (at, omega arith)) (λ place u at ne price waits. waits) (λ place among. inl among)
    (λ place u at. needed_at unaries facts fact row needs place u at ∙ needed_same facts fact u.conds (omega arith)) way)

-- some facts are there at first, and some more
pub marked_more : (unaries : List Unary) (facts more : List ℕ) (s t now : Settlement) → HasMarked unaries facts s t → HasMarked unaries more t now → HasMarked unaries (facts ++ more) s now
marked_more unaries facts more s t now a b = record {
  way = b.way;
  settled = λ f. b.settled f ∙ rw (a.settled f, a.long, list_any-append (nat_eq f) facts more) (grind arith);
  out = λ f. b.out f ∙ a.out f;
  order = b.order ∙ a.order;
  long = b.long ∙ a.long;
}

pub counted_marked : (unaries : List Unary) (t now : Settlement) → IsUnderWay unaries 0 [] now → HasCounted t now → HasMarked unaries [] t now
counted_marked unaries t now way counted = record {
  way = way;
  settled = λ f. rw counted.settled (sym (or-false (is_settled t f)));
  out = λ f. (reached_same t now counted.settled counted.kept f).1;
  order = counted.order;
  long = counted.costs_long;
}

-- a list is marked one by one
pub none_marked : (unaries : List Unary) (t : Settlement) → IsUnderWay unaries 0 [] t → HasMarked unaries [] t t
none_marked unaries t way = counted_marked unaries t t way (none_counted t)

pub taken_marked : (unaries : List Unary) (facts : List ℕ) (k fact : ℕ) (s t now : Settlement) → k < length facts → fact ≡ get_or facts k 0 → HasMarked unaries (take k facts) s t → HasMarked unaries (fact ∷ []) t now → HasMarked unaries (take (k + 1) facts) s now
taken_marked unaries facts k fact s t now lt at a b = rw (take_more facts k 0 lt, ← at) (marked_more unaries (take k facts) (fact ∷ []) s t now a b)

pub all_marked : (unaries : List Unary) (facts : List ℕ) (k : ℕ) (s t : Settlement) → length facts ≤ k → HasMarked unaries (take k facts) s t → HasMarked unaries facts s t
all_marked unaries facts k s t le a = rw take_all at a

-- a fact that was not settled
pub there_marked : (unaries : List Unary) (t mid now : Settlement) (fact : ℕ) → length t.settled ≡ length t.costs → fact < length t.costs → is_settled t fact ≡ false → mid ≡ there_at t fact → IsUnderWay unaries 0 [] now → HasCounted mid now → HasMarked unaries (fact ∷ []) t now
there_marked unaries t mid now fact long within new mid_is way counted = record {
  way = way;
  settled = λ f. grind (arith, nat_tests, later.settled f, flagged t.settled fact f (omega arith), within);
  out = λ f. later.out f ∙ kept t fact 0 t.waiting t.order within (omega arith) new (omega arith) f;
  order = later.order;
  long = later.long ∙ length-set t.costs fact 0;
}
  where
    later : HasMarked unaries [] (there_at t fact) now
    later = counted_marked unaries (there_at t fact) now way (rw mid_is at counted)

-- a fact that was settled already, or isn't there
pub old_marked : (unaries : List Unary) (t : Settlement) (fact : ℕ) → (fact < length t.costs → is_settled t fact ≡ true) → IsUnderWay unaries 0 [] t → HasMarked unaries (fact ∷ []) t t
old_marked unaries t fact old way = record {
  way = way;
  settled = λ f. elim (places f fact) [
    | inl here ↦ rw (here.1, here.0) (grind (arith, nat_tests, old))
    | inr apart ↦ rw apart.1 (sym (or-false (is_settled t f)))
  ];
  out = λ f. refl;
  order = refl;
  long = refl;
}

-- What is there after some facts were marked, where nothing was reached.
pub begun : (unaries : List Unary) (without had : List ℕ) (t now : Settlement) → IsFresh unaries t → ((fact : ℕ) → is_settled t fact ≡ is_among without fact) → list_all (is_below (length t.costs)) had ≡ true → HasMarked unaries had t now → IsFrom unaries without had now
begun unaries without had t now fresh flags below marked = record {
  out = out;
  settled = settled;
  first = λ f among stays. (let low = marked.way.low f (reached_if now f (settled f ∙ rw (none, append-nil had, among) (or-true (is_among without f))) (out f ∙ stays)) in omega (arith, low));
  in_order = rw none tt;
}
  where
    none : now.order ≡ []
    none = marked.order ∙ fresh.order

    out : (f : ℕ) → is_left_out now f ≡ is_among without f
    out f = marked.out f ∙ (let large = lt-leb (cost_at t f) 1000000000 (fresh.costs f) in rw large (and-true (is_settled t f) ∙ flags f))

    by_among : (f : ℕ) → (is_among had f && is_below (length t.costs) f) ≡ is_among had f
    by_among f = grind (arith, all_has over_numbers (is_below (length t.costs)) had f below)

    settled : (f : ℕ) → is_settled now f ≡ (is_among without f || is_among (gained unaries had now.order) f)
    settled f = rw (none, append-nil had) (marked.settled f ∙ rw (flags f, by_among f) refl)

-- one fact more is left out
pub out_more : (numbers : List ℕ) (old new : List Bool) (k number : ℕ) → k < length numbers → number ≡ get_or numbers k 0 → number < length old → new ≡ slice_set old number true → ((fact : ℕ) → get_or old fact false ≡ is_among (take k numbers) fact) →
    (fact : ℕ) → get_or new fact false ≡ is_among (take (k + 1) numbers) fact
out_more numbers old new k number lt at within is so fact = rw (is, list_any_more (nat_eq fact) numbers k 0 lt, ← at, ← so fact) (flagged old number fact within)

below_least : (v w : ℕ → Estimate) (fact : ℕ) (without : List ℕ) (unaries : List Unary) → ((f : ℕ) → IsAtMost (v f) (w f)) → is_among without fact ≡ false → IsClosed over_numbers unaries without v → IsAtMost (v fact) (least_price over_numbers w fact unaries)
below_least v w fact without [] le stays closed = at_most_infinite (v fact)
below_least v w fact without (u ∷ unaries) le stays closed =
    let rest = below_least v w fact without unaries le stays (λ i. closed (suc i)) in
    elim (places u.gives fact) [
      | inl here ↦ rw here.1 (both_at_least (v fact) (price w u) (least_price over_numbers w fact unaries)
          (rw (← here.0) (at_most_trans (v u.gives) (price v u) (price w u) (closed 0 u refl (rw here.0 stays)) (price_at_most over_numbers v w u le))) rest)
      | inr other ↦ rw other.1 rest
    ]

-- costs that no unary operator lowers are below all rounds
pub closed_is_below : (unaries : List Unary) (start without : List ℕ) (v : ℕ → Estimate) → ((fact : ℕ) → is_started start without fact ≡ true → v fact ≡ Finite 0) → IsClosed over_numbers unaries without v →
    (n fact : ℕ) → IsAtMost (v fact) (add_round unaries start without n fact)
closed_is_below unaries start without v first closed zero fact = elim (cases_Bool (is_started start without fact)) [
  | inl is ↦ rw (is, first fact is) (at_most_self (Finite 0))
  | inr is ↦ rw is (at_most_infinite (v fact))
]
closed_is_below unaries start without v first closed (suc n) fact =
    let before = closed_is_below unaries start without v first closed n in
    elim (cases_Bool (is_among without fact)) [
      | inl out ↦ rw out (at_most_infinite (v fact))
      | inr stays ↦ rw stays (both_at_least (v fact) (add_round unaries start without n fact) (least_price over_numbers (add_round unaries start without n) fact unaries) (before fact)
          (below_least v (add_round unaries start without n) fact without unaries before stays closed))
    ]

-- what facts cost so far, at most so much
abbrev upto : Settlement → Estimate → ℕ → Estimate
upto t top fact = least (value_at t.costs fact) top

-- what is reached costs no more, and all else no less
record Bounds (t : Settlement) (top : Estimate) : Type 0 where
  capped : IsCapped top
  below : (fact : ℕ) → is_reached t fact ≡ true → IsAtMost (value_at t.costs fact) top
  above : (fact : ℕ) → is_reached t fact ≡ false → IsAtMost top (value_at t.costs fact)

least_is : (a b : Estimate) → IsAtMost a b → least a b ≡ a
least_is a b le = at_most_both (least a b) a (least_left a b) (both_at_least a a b (at_most_self a) le)

-- where some condition isn't reached the sum is no less
some_more : (t : Settlement) (top : Estimate) (conds : List ℕ) → Bounds t top → 0 < summed (one_open t) conds → IsAtMost top (total (upto t top) conds)
some_more t top [] p some = absurd (omega arith)
some_more t top (c ∷ conds) p some = elim (cases_Bool (is_reached t c)) [
  | inl is ↦ at_most_trans top (total (upto t top) conds) (total (upto t top) (c ∷ conds)) (some_more t top conds p (let left = rw is at some in omega (arith, left))) (plus_right (upto t top c) (total (upto t top) conds) (sum_capped (upto t top) conds))
  | inr is ↦
      let here = at_most_both (upto t top c) top (least_right (value_at t.costs c) top) (both_at_least top (value_at t.costs c) top (p.above c is) (at_most_self top)) in
      rw here (plus_left top (total (upto t top) conds) p.capped)
]

reached_value : (t : Settlement) (fact : ℕ) → is_reached t fact ≡ true → value_at t.costs fact ≡ Finite (cost_at t fact)
reached_value t fact is = finite_is (cost_at t fact) (reached_small t fact is).1

sum_same : (v w : ℕ → Estimate) (p : ℕ → Bool) (facts : List ℕ) → ((fact : ℕ) → p fact ≡ true → v fact ≡ w fact) → list_all p facts ≡ true → total v facts ≡ total w facts
sum_same v w p [] same all = refl
sum_same v w p (f ∷ facts) same all = let parts = both (p f) (list_all p facts) all in rw (same f parts.0, sum_same v w p facts same parts.1) refl

-- no unary operator lowers what facts cost up to a bound
closed : (unaries : List Unary) (without : List ℕ) (level : ℕ) (t : Settlement) (top : Estimate) → ((fact : ℕ) → is_left_out t fact ≡ is_among without fact) → Bounds t top → IsUnderWay unaries level [] t → IsClosed over_numbers unaries without (upto t top)
closed unaries without level t top out p way i u at stays = let was = way.each i u at in elim (cases_lt 0 (open_at t i).count) [
  | inl some ↦
      let count = was.count in
      at_most_trans (upto t top u.gives) top (price (upto t top) u) (least_right (value_at t.costs u.gives) top)
      (at_most_trans top (total (upto t top) u.conds) (price (upto t top) u) (some_more t top u.conds p (omega arith)) (plus_right (Finite u.cost) (total (upto t top) u.conds) (sum_capped (upto t top) u.conds)))
  | inr none ↦
      let le = was.offered (omega arith) (out u.gives ∙ stays) in
      let small = was.small in
      let asks = price_sum unaries level i t (upto t top) u at (λ fact is. least_is (value_at t.costs fact) top (p.below fact is) ∙ reached_value t fact is) (omega arith) way in
      let value = finite_is (cost_at t u.gives) (omega arith) in
      let here : IsAtMost (value_at t.costs u.gives) (Finite (open_at t i).sum) = rw value le in
      rw asks (at_most_trans (upto t top u.gives) (value_at t.costs u.gives) (Finite (open_at t i).sum) (least_left (value_at t.costs u.gives) top) here)
]

-- those that settled a fact are best
all_best : (unaries : List Unary) (level : ℕ) (t : Settlement) (order : List ℕ) → ((place : ℕ) → is_among order place ≡ true → HasSettled unaries t place) → IsUnderWay unaries level [] t → (are_places (length unaries) order ≡ true) × AreBest over_numbers unaries (value_at t.costs) (chosen unaries order)
all_best unaries level t [] each way = (refl, tt)
all_best unaries level t (i ∷ order) each way =
    let here = each i (rw (eq-eqb i i refl) refl) in
    let rest = all_best unaries level t order (λ place is. each place (rw is (or-true (nat_eq place i)))) way in
    let lt : nat_lt i (length unaries) ≡ true = lt-ltb i (length unaries) (slice_get_within unaries i here.unary here.at) in
    let asks = price_sum unaries level i t (value_at t.costs) here.unary here.at (reached_value t) here.none_open way in
    let value = reached_value t here.unary.gives here.reached in
    let best : IsBest over_numbers unaries (value_at t.costs) here.unary = record { place = i; at = here.at; finite = ap is_finite value; pays = asks ∙ (ap (λ (n : ℕ). Finite n) (sym here.pays) ∙ sym value) } in
    (rw lt rest.0, rw here.at (best, rest.1))

-- what is given in order by best supporters is attained by rounds
attained_in : (unaries : List Unary) (start without : List ℕ) (v : ℕ → Estimate) (have : List ℕ) (list : List Unary) → ((fact : ℕ) → is_among without fact ≡ true → v fact ≡ Infinite) → IsInOrder over_numbers have list → AreBest over_numbers unaries v list →
    ((fact : ℕ) → is_among have fact ≡ true → (n : ℕ) × IsAtMost (add_round unaries start without n fact) (v fact)) → (fact : ℕ) → is_among (have ++ given_by list) fact ≡ true → (n : ℕ) × IsAtMost (add_round unaries start without n fact) (v fact)
attained_in unaries start without v have [] outside order best so fact among = so fact (rw append-nil at among)
attained_in unaries start without v have (u ∷ list) outside order best so fact among =
    attained_in unaries start without v (u.gives ∷ have) list outside order.2 best.1 (λ f is. more f (is_among have f) refl is) fact (subst (λ (p : ℕ → Bool). p fact ≡ true) (turned u.gives have (given_by list)) among)
  where
    w : ℕ → Estimate
    w f = if is_among have f then v f else Infinite

    each : (f : ℕ) (b : Bool) → is_among have f ≡ b → (n : ℕ) × IsAtMost (add_round unaries start without n f) (if b then v f else Infinite)
    each f true is = so f is
    each f false is = (0, at_most_infinite (add_round unaries start without 0 f))

    stays : is_among without u.gives ≡ false
    stays = false_from_ne_true (is_among without u.gives) (λ out. let k : true ≡ false = sym best.0.finite ∙ ap is_finite (outside u.gives out) in cc)

    price_is : price w u ≡ v u.gives
    price_is = ap (λ (e : Estimate). estimate_sum (Finite u.cost) e) (sum_same w v (is_among have) u.conds (λ f is. rw is refl) order.0) ∙ best.0.pays

    gives : (n : ℕ) × IsAtMost (add_round unaries start without n u.gives) (v u.gives)
    gives = let a = price_attained over_numbers unaries start without w best.0.place u best.0.at stays (λ f. each f (is_among have f) refl) in (a.0, rw price_is at a.1)

    more : (f : ℕ) (b : Bool) → is_among have f ≡ b → is_among (u.gives ∷ have) f ≡ true → (n : ℕ) × IsAtMost (add_round unaries start without n f) (v f)
    more f true is among = so f is
    more f false is among =
        let same : f ≡ u.gives = eqb-true f u.gives (sym (or-false (nat_eq f u.gives)) ∙ rw is at among) in
        subst (λ (g : ℕ). (n : ℕ) × IsAtMost (add_round unaries start without n g) (v g)) (sym same) gives

-- a fact that is reached costs no less than by the rounds
reached_attained : (unaries : List Unary) (start without : List ℕ) (t : Settlement) (fact : ℕ) → is_reached t fact ≡ true → IsSettling unaries t → IsFrom unaries without start t → (n : ℕ) × IsAtMost (add_round unaries start without n fact) (value_at t.costs fact)
reached_attained unaries start without t fact is s from =
    attained_in unaries start without (value_at t.costs) start (chosen unaries t.order) outside from.in_order (all_best unaries s.level t t.order s.way.settled_by s.way).1 (λ f among. first f among (is_among without f) refl) fact
    (both (is_among (start ++ given_by (chosen unaries t.order)) fact) (not (is_among without fact)) (sym (from_reached unaries without start t fact from) ∙ is)).0
  where
    outside : (f : ℕ) → is_among without f ≡ true → value_at t.costs f ≡ Infinite
    outside f out = let large = denied (nat_le (cost_at t f) 1000000000) (both (is_settled t f) (not (nat_le (cost_at t f) 1000000000)) (from.out f ∙ out)).1 in rw large refl

    first : (f : ℕ) → is_among start f ≡ true → (b : Bool) → is_among without f ≡ b → (n : ℕ) × IsAtMost (add_round unaries start without n f) (value_at t.costs f)
    first f among true out = (0, rw (outside f out) (at_most_infinite (add_round unaries start without 0 f)))
    first f among false stays = (0, rw (among, stays, from.first f among stays) (at_most_self (Finite 0)))

-- what costs no more than a bound is exact, where it is attained
exact_where : (unaries : List Unary) (start without : List ℕ) (level : ℕ) (t : Settlement) (top : Estimate) (fact : ℕ) → IsAtMost (value_at t.costs fact) top → (n : ℕ) × IsAtMost (add_round unaries start without n fact) (value_at t.costs fact) → Bounds t top → IsUnderWay unaries level [] t →
    IsFrom unaries without start t → IsLeast (λ n. add_round unaries start without n fact) (value_at t.costs fact)
exact_where unaries start without level t top fact le a p way from = record { round = a.0; is = at_most_both (add_round unaries start without a.0 fact) (value_at t.costs fact) a.1 (below a.0); least = below }
  where
    first : (f : ℕ) → is_started start without f ≡ true → upto t top f ≡ Finite 0
    first f begins =
        let parts = both (is_among start f) (not (is_among without f)) begins in
        let stays = denied (is_among without f) parts.1 in
        let is = from_reached unaries without start t f from ∙ rw (list_any-append (nat_eq f) start (given_by (chosen unaries t.order)), parts.0, stays) refl in
        least_is (value_at t.costs f) top (p.below f is) ∙ ap estimate_of (from.first f parts.0 stays)

    below : (n : ℕ) → IsAtMost (value_at t.costs fact) (add_round unaries start without n fact)
    below n = rw (least_is (value_at t.costs fact) top le) at (closed_is_below unaries start without (upto t top) first (closed unaries without level t top from.out p way) n fact)

-- what isn't reached is infinite, or some unary operator waits for it
unreached_is : (unaries : List Unary) (level : ℕ) (t : Settlement) (fact : ℕ) → is_reached t fact ≡ false → IsUnderWay unaries level [] t → (value_at t.costs fact ≡ Infinite) ⊎ ((value_at t.costs fact ≡ Finite (cost_at t fact)) × IsWanted unaries t fact)
unreached_is unaries level t fact not_there way = elim (cases_lt 1000000000 (cost_at t fact)) [
  | inl large ↦ inl (infinite_is (cost_at t fact) large)
  | inr le ↦ let new : is_settled t fact ≡ false = grind (arith, nat_tests, not_there, le) in inr (finite_is (cost_at t fact) le, way.wanted fact new le)
]

-- A fact that is reached costs what it does by the rounds, also where others are not settled yet.
pub reached_exact : (unaries : List Unary) (start without : List ℕ) (t : Settlement) (fact : ℕ) → is_reached t fact ≡ true → IsSettling unaries t → IsFrom unaries without start t → IsLeast (λ n. add_round unaries start without n fact) (value_at t.costs fact)
reached_exact unaries start without t fact is s from = exact_where unaries start without s.level t (Finite s.level) fact (below fact is) (reached_attained unaries start without t fact is s from) (record {
  capped = s.way.level_small;
  below = below;
  above = λ f not_there. elim (unreached_is unaries s.level t f not_there s.way) [
    | inl none ↦ rw none tt
    | inr some ↦ rw some.0 (s.way.waits some.1.place (cost_at t f) some.1.waits).above
  ];
}) s.way from
  where
    below : (f : ℕ) → is_reached t f ≡ true → IsAtMost (value_at t.costs f) (Finite s.level)
    below f is = rw (reached_value t f is) (s.way.low f is)

-- where none waits, what isn't reached is infinite
pub idle_infinite : (unaries : List Unary) (t : Settlement) (fact : ℕ) → IsIdle t.waiting → is_reached t fact ≡ false → IsSettling unaries t → value_at t.costs fact ≡ Infinite
idle_infinite unaries t fact idle not_there s = elim (unreached_is unaries s.level t fact not_there s.way) [
  | inl none ↦ none
  | inr some ↦ let k : None ≡ Some (cost_at t fact) = sym (idle some.1.place) ∙ some.1.waits in absurd cc
]

-- Where none waits, all facts cost what they do by the rounds.
pub idle_exact : (unaries : List Unary) (start without : List ℕ) (t : Settlement) → IsIdle t.waiting → IsSettling unaries t → IsFrom unaries without start t → (fact : ℕ) → IsLeast (λ n. add_round unaries start without n fact) (value_at t.costs fact)
idle_exact unaries start without t idle s from fact = exact_where unaries start without s.level t Infinite fact (at_most_infinite (value_at t.costs fact)) (elim (cases_Bool (is_reached t fact)) [
  | inl is ↦ reached_attained unaries start without t fact is s from
  | inr is ↦ (0, rw (idle_infinite unaries t fact idle is s) (at_most_infinite (add_round unaries start without 0 fact)))
]) (record {
  capped = tt;
  below = λ f is. at_most_infinite (value_at t.costs f);
  above = λ f not_there. rw (idle_infinite unaries t f idle not_there s) tt;
}) s.way from

pub order_of : (unaries : List Unary) (start : List ℕ) (t : Settlement) → IsIdle t.waiting → IsSettling unaries t → IsFrom unaries [] start t → IsOrder unaries start (value_at t.costs) t.order
order_of unaries start t idle s from =
    let best = all_best unaries s.level t t.order s.way.settled_by s.way in
    record {
      places = best.0;
      best = best.1;
      in_order = from.in_order;
      given = λ fact finite. elim (cases_Bool (is_reached t fact)) [
        | inl is ↦ (both (is_among (start ++ given_by (chosen unaries t.order)) fact) true (sym (from_reached unaries [] start t fact from) ∙ is)).0
        | inr is ↦ let k : false ≡ true = sym (ap is_finite (idle_infinite unaries t fact idle is s)) ∙ finite in absurd cc
      ];
    }

pub places_of : (unaries : List Unary) (t : Settlement) → IsSettling unaries t → are_places (length unaries) t.order ≡ true
places_of unaries t s = (all_best unaries s.level t t.order s.way.settled_by s.way).0

pub all_evaluated : (parts : Parts) (kind : CostKind) (relaxed : Lists) (state without : List ℕ) (t : Settlement) → IsRelaxed parts kind relaxed → IsIdle t.waiting → IsSettling relaxed.unaries t →
    IsFrom relaxed.unaries without (start_facts parts state) t → IsEvaluatedByNumber parts kind state without t.costs
all_evaluated parts kind relaxed state without t is idle way from fact = rw (← is.unaries) (idle_exact relaxed.unaries (start_facts parts state) without t idle way from fact)

pub goals_evaluated : (parts : Parts) (kind : CostKind) (relaxed : Lists) (state goals : List ℕ) (t : Settlement) → IsRelaxed parts kind relaxed → AreSettled goals t → IsSettling relaxed.unaries t →
    IsFrom relaxed.unaries [] (start_facts parts state) t → (fact : ℕ) → is_among goals fact ≡ true → IsAdd parts kind state [] fact (value_at t.costs fact)
goals_evaluated parts kind relaxed state goals t is settled way from fact among = rw (← is.unaries) (elim settled [
  | inl all ↦ reached_exact relaxed.unaries (start_facts parts state) [] t fact (reached_if t fact (all_has over_numbers (is_settled t) goals fact all among) (from.out fact)) way from
  | inr idle ↦ idle_exact relaxed.unaries (start_facts parts state) [] t idle way from fact
])

pub ruleset marks = (none_marked, taken_marked, all_marked)

pub ruleset cleared = (few_unsettled, written_back)
