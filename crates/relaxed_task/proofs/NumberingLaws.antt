-- A numbering of the facts that occur keeps what the words of a relaxation say: what is reached, what facts cost, and relaxed plans.
use Rattle.std.proofs.Common.{◌≡◌, ◌∙◌, sym, ap, subst, refl, ℕ, zero, suc, List, [], ◌∷◌, ◌++◌, map, Bool, true, false, not, ◌&&◌, ◌||◌, if◌then◌else◌, Some, slice_get}
use Rattle.std.specs.Prelude.{filter}
use Rattle.std.specs.List.{list_all, list_any}
use Rattle.std.proofs.lemmas.Bool.{and_from, and_parts}
use Rattle.std.proofs.lemmas.List.{map-append}
use Rattle.std.proofs.lemmas.List.Folds.{list_all-append}
use Rattle.std.proofs.lemmas.Option.{same_Some, none-some}
use Rattle.lama_num.proofs.ListLaws.{list_all_get}
use Rattle.lama_num.specs.declared.estimates.Estimate.{Estimate}
use Rattle.lama_num.specs.declared.estimates.Estimate.TheVariants.{Finite, Infinite}
use Rattle.lama_num.specs.Estimates.{estimate_sum}
use Rattle.relaxed_task.specs.Estimates.{least, is_finite, IsAtMost}
use Rattle.relaxed_task.proofs.CostLaws.{finite_in}
use Rattle.relaxed_task.specs.Relaxing.{UnaryOver, has, each_once, in_round, sum_of, price_of, least_price, cost_in, IsCost, IsBest, AreBest, IsInOrder, asked, IsAsked, IsSupported}
use Rattle.relaxed_task.proofs.RelaxingLaws.{is_given_by}

-- the facts of a unary operator are there
abbrev pub are_there : {F U : Type 0} → UnaryOver F U → (F → Bool) → U → Bool
are_there o there u = list_all there (o.conds u) && there (o.gives u)

-- Facts of one type stand for those of another that are there, different ones for different ones, and so do unary operators over them.
pub record IsNumbering {F U G V : Type 0} (a : UnaryOver F U) (b : UnaryOver G V) (there : F → Bool) (number : F → G) (numbered : U → V) : Type 0 where
  pub same : (f g : F) → there f ≡ true → there g ≡ true → b.same (number f) (number g) ≡ a.same f g
  pub conds : (u : U) → b.conds (numbered u) ≡ map number (a.conds u)
  pub gives : (u : U) → b.gives (numbered u) ≡ number (a.gives u)
  pub cost : (u : U) → b.cost (numbered u) ≡ a.cost u

-- a relaxed plan with these numbers
pub record HasPlan {F U G V : Type 0} (a : UnaryOver F U) (b : UnaryOver G V) (number : F → G) (numbered : U → V) (unaries : List U) (start : List F) (value : G → Estimate) (goals : List F) (numbers : List V) : Type 0 where
  pub list : List U
  pub same : map numbered list ≡ numbers
  pub supported : IsSupported a unaries start (λ f. value (number f)) goals list

-- unary operators with these numbers
record AllNamed {F U G V : Type 0} (a : UnaryOver F U) (b : UnaryOver G V) (there : F → Bool) (number : F → G) (numbered : U → V) (unaries : List U) (value : G → Estimate) (numbers : List V) : Type 0 where
  list : List U
  same : map numbered list ≡ numbers
  best : AreBest a unaries (λ f. value (number f)) list
  within : list_all (are_there a there) list ≡ true

pub sum_of_map : {F G : Type 0} (number : F → G) (value : G → Estimate) (facts : List F) → sum_of value (map number facts) ≡ sum_of (λ f. value (number f)) facts
sum_of_map number value [] = refl
sum_of_map number value (f ∷ facts) = ap (estimate_sum (value (number f))) (sum_of_map number value facts)

pub mapped : {X Y : Type 0} (f : X → Y) (xs : List X) (i : ℕ) (y : Y) → slice_get (map f xs) i ≡ Some y → (x : X) × (slice_get xs i ≡ Some x) × (f x ≡ y)
mapped f [] i y at = absurd (none-some y at)
mapped f (x ∷ xs) zero y at = (x, refl, same_Some (f x) y at)
mapped f (x ∷ xs) (suc i) y at = mapped f xs i y at

-- a test of all facts, or of some, of each once
module _ {F U : Type 0} (o : UnaryOver F U) where
  all_others : (p : F → Bool) (x : F) (facts : List F) → p x ≡ true → list_all p (filter (λ g. not (o.same g x)) facts) ≡ list_all p facts
  all_others p x [] is = refl
  all_others p x (g ∷ facts) is = by_test (o.same g x) refl (all_others p x facts is)
    where
      by_test : (b : Bool) → o.same g x ≡ b → list_all p (filter (λ h. not (o.same h x)) facts) ≡ list_all p facts → list_all p (filter (λ h. not (o.same h x)) (g ∷ facts)) ≡ list_all p (g ∷ facts)
      by_test true same rest = let own : p g ≡ true = ap p (o.equal g x same) ∙ is in rw (same, own) rest
      by_test false other rest = rw other (ap (λ b. p g && b) rest)

  pub all_once : (p : F → Bool) (facts : List F) → list_all p (each_once o facts) ≡ list_all p facts
  all_once p [] = refl
  all_once p (f ∷ facts) = by_test (p f) refl (all_once p facts)
    where
      by_test : (b : Bool) → p f ≡ b → list_all p (each_once o facts) ≡ list_all p facts → (p f && list_all p (filter (λ g. not (o.same g f)) (each_once o facts))) ≡ (p f && list_all p facts)
      by_test true is rest = rw is (all_others p f (each_once o facts) is ∙ rest)
      by_test false is rest = rw is refl

  any_others : (p : F → Bool) (x : F) (facts : List F) → p x ≡ false → list_any p (filter (λ g. not (o.same g x)) facts) ≡ list_any p facts
  any_others p x [] fails = refl
  any_others p x (g ∷ facts) fails = by_test (o.same g x) refl (any_others p x facts fails)
    where
      by_test : (b : Bool) → o.same g x ≡ b → list_any p (filter (λ h. not (o.same h x)) facts) ≡ list_any p facts → list_any p (filter (λ h. not (o.same h x)) (g ∷ facts)) ≡ list_any p (g ∷ facts)
      by_test true same rest = let own : p g ≡ false = ap p (o.equal g x same) ∙ fails in rw (same, own) rest
      by_test false other rest = rw other (ap (λ b. p g || b) rest)

  pub any_once : (p : F → Bool) (facts : List F) → list_any p (each_once o facts) ≡ list_any p facts
  any_once p [] = refl
  any_once p (f ∷ facts) = by_test (p f) refl (any_once p facts)
    where
      by_test : (b : Bool) → p f ≡ b → list_any p (each_once o facts) ≡ list_any p facts → (p f || list_any p (filter (λ g. not (o.same g f)) (each_once o facts))) ≡ (p f || list_any p facts)
      by_test true is rest = rw is refl
      by_test false is rest = rw is (any_others p f (each_once o facts) is ∙ rest)

module _ {F U G V : Type 0} (a : UnaryOver F U) (b : UnaryOver G V) (there : F → Bool) (number : F → G) (numbered : U → V) (n : IsNumbering a b there number numbered) where
  -- facts of lists

  pub has_kept : (facts : List F) (f : F) → there f ≡ true → list_all there facts ≡ true → has b (map number facts) (number f) ≡ has a facts f
  has_kept [] f h all = refl
  has_kept (g ∷ facts) f h all =
      let t = and_parts (there g) (list_all there facts) all in
      rw (n.same f g h t.0, has_kept facts f h t.1) refl

  pub all_kept : (p : G → Bool) (q : F → Bool) (facts : List F) → ((f : F) → there f ≡ true → p (number f) ≡ q f) → list_all there facts ≡ true → list_all p (map number facts) ≡ list_all q facts
  all_kept p q [] agree all = refl
  all_kept p q (f ∷ facts) agree all =
      let t = and_parts (there f) (list_all there facts) all in
      rw (agree f t.0, all_kept p q facts agree t.1) refl

  others : (x : F) (facts : List F) → there x ≡ true → list_all there facts ≡ true → filter (λ m. not (b.same m (number x))) (map number facts) ≡ map number (filter (λ g. not (a.same g x)) facts)
  others x [] h all = refl
  others x (f ∷ facts) h all = let t = and_parts (there f) (list_all there facts) all in by_test (a.same f x) refl (n.same f x t.0 h) (others x facts h t.1)
    where
      by_test : (s : Bool) → a.same f x ≡ s → b.same (number f) (number x) ≡ a.same f x →
          filter (λ m. not (b.same m (number x))) (map number facts) ≡ map number (filter (λ g. not (a.same g x)) facts) →
          filter (λ m. not (b.same m (number x))) (map number (f ∷ facts)) ≡ map number (filter (λ g. not (a.same g x)) (f ∷ facts))
      by_test true is same rest = rw (same ∙ is, is) rest
      by_test false is same rest = rw (same ∙ is, is) (ap (λ ms. number f ∷ ms) rest)

  pub each_once_kept : (facts : List F) → list_all there facts ≡ true → each_once b (map number facts) ≡ map number (each_once a facts)
  each_once_kept [] all = refl
  each_once_kept (f ∷ facts) all =
      let t = and_parts (there f) (list_all there facts) all in
      ap (λ ms. number f ∷ filter (λ m. not (b.same m (number f))) ms) (each_once_kept facts t.1)
      ∙ ap (λ ms. number f ∷ ms) (others f (each_once a facts) t.0 (all_once a there facts ∙ t.1))

  -- costs

  sum_kept : (value : G → Estimate) (costs : F → Estimate) (facts : List F) → ((f : F) → there f ≡ true → value (number f) ≡ costs f) → list_all there facts ≡ true → sum_of value (map number facts) ≡ sum_of costs facts
  sum_kept value costs [] alike all = refl
  sum_kept value costs (f ∷ facts) alike all =
      let t = and_parts (there f) (list_all there facts) all in
      rw (alike f t.0, sum_kept value costs facts alike t.1) refl

  price_kept : (value : G → Estimate) (costs : F → Estimate) (u : U) → ((f : F) → there f ≡ true → value (number f) ≡ costs f) → are_there a there u ≡ true → price_of b value (numbered u) ≡ price_of a costs u
  price_kept value costs u alike all =
      let sum = sum_kept value costs (a.conds u) alike (and_parts (list_all there (a.conds u)) (there (a.gives u)) all).0 in
      rw (n.cost u, n.conds u) (ap (estimate_sum (Finite (a.cost u))) sum)

  least_price_kept : (value : G → Estimate) (costs : F → Estimate) (f : F) (unaries : List U) → ((g : F) → there g ≡ true → value (number g) ≡ costs g) → there f ≡ true → list_all (are_there a there) unaries ≡ true →
      least_price b value (number f) (map numbered unaries) ≡ least_price a costs f unaries
  least_price_kept value costs f [] alike h all = refl
  least_price_kept value costs f (u ∷ unaries) alike h all =
      let t = and_parts (are_there a there u) (list_all (are_there a there) unaries) all in
      let gives = (and_parts (list_all there (a.conds u)) (there (a.gives u)) t.0).1 in
      by_parts (b.same (b.gives (numbered u)) (number f)) (a.same (a.gives u) f) _ _ _ _ (ap (λ g. b.same g (number f)) (n.gives u) ∙ n.same (a.gives u) f gives h) (price_kept value costs u alike t.0)
      (least_price_kept value costs f unaries alike h t.1)
    where
      by_parts : (s t : Bool) (p q v w : Estimate) → s ≡ t → p ≡ q → v ≡ w → (if s then least p v else v) ≡ (if t then least q w else w)
      by_parts s t p q v w same price rest = rw (same, price, rest) refl

  module _ (unaries : List U) (start without : List F) (all : list_all (are_there a there) unaries ≡ true) (started : list_all there start ≡ true) (outside : list_all there without ≡ true) where
    -- In each round a fact costs what its number does.
    cost_in_kept : (r : ℕ) (f : F) → there f ≡ true → cost_in b (map numbered unaries) (map number start) (map number without) r (number f) ≡ cost_in a unaries start without r f
    cost_in_kept zero f h = rw (has_kept start f h started, has_kept without f h outside) refl
    cost_in_kept (suc r) f h =
        by_parts _ _ _ _ _ _ (has_kept without f h outside) (cost_in_kept r f h)
        (least_price_kept (cost_in b (map numbered unaries) (map number start) (map number without) r) (cost_in a unaries start without r) f unaries (cost_in_kept r) h all)
      where
        by_parts : (s t : Bool) (p q v w : Estimate) → s ≡ t → p ≡ q → v ≡ w → (if s then Infinite else least p v) ≡ (if t then Infinite else least q w)
        by_parts s t p q v w same before rest = rw (same, before, rest) refl

    -- A fact is in a round exactly where its number is.
    pub in_round_kept : (r : ℕ) (f : F) → there f ≡ true → in_round (is_given_by b (map numbered unaries)) (has b (map number start)) (has b (map number without)) r (number f) ≡ in_round (is_given_by a unaries) (has a start) (has a without) r f
    in_round_kept r f h =
        sym (finite_in b (map numbered unaries) (map number start) (map number without) r (number f))
        ∙ (ap is_finite (cost_in_kept r f h) ∙ finite_in a unaries start without r f)

    -- A fact costs what its number does.
    pub cost_kept : (f : F) (cost : Estimate) → there f ≡ true → IsCost b (map numbered unaries) (map number start) (map number without) (number f) cost → IsCost a unaries start without f cost
    cost_kept f cost h l = record {
      round = l.round;
      is = sym (cost_in_kept l.round f h) ∙ l.is;
      least = λ r. subst (λ (e : Estimate). IsAtMost cost e) (cost_in_kept r f h) (l.least r);
    }

  -- relaxed plans

  all_named : (unaries : List U) (value : G → Estimate) (numbers : List V) → list_all (are_there a there) unaries ≡ true → AreBest b (map numbered unaries) value numbers → AllNamed a b there number numbered unaries value numbers
  all_named unaries value [] all best = record { list = []; same = refl; best = tt; within = refl }
  all_named unaries value (v ∷ numbers) all best =
      let found = mapped numbered unaries best.0.place v best.0.at in
      let u : U = found.0 in
      let gives : value (number (a.gives u)) ≡ value (b.gives v) = ap value (sym (n.gives u)) ∙ ap (λ w. value (b.gives w)) found.2 in
      let within : are_there a there u ≡ true = list_all_get (are_there a there) unaries best.0.place u all found.1 in
      let price : price_of b value v ≡ price_of a (λ f. value (number f)) u = ap (price_of b value) (sym found.2) ∙ price_kept value (λ f. value (number f)) u (λ f h. refl) within in
      let rest = all_named unaries value numbers all best.1 in
      let one : IsBest a unaries (λ f. value (number f)) u = record { place = best.0.place; at = found.1; finite = ap is_finite gives ∙ best.0.finite; pays = sym price ∙ (best.0.pays ∙ sym gives) } in
      record {
        list = u ∷ rest.list;
        same = ap (λ w. w ∷ map numbered rest.list) found.2 ∙ ap (λ ws. v ∷ ws) rest.same;
        best = (one, rest.best);
        within = and_from _ _ within rest.within;
      }

  order_kept : (given : List F) (list : List U) → list_all there given ≡ true → list_all (are_there a there) list ≡ true → IsInOrder b (map number given) (map numbered list) → IsInOrder a given list
  order_kept given [] h all order = tt
  order_kept given (u ∷ list) h all order =
      let t = and_parts (are_there a there u) (list_all (are_there a there) list) all in
      let own = and_parts (list_all there (a.conds u)) (there (a.gives u)) t.0 in (
        sym (all_kept (has b (map number given)) (has a given) (a.conds u) (λ f k. has_kept given f k h) own.0) ∙ (ap (list_all (has b (map number given))) (sym (n.conds u)) ∙ order.0),
        sym (has_kept given (a.gives u) own.1 h) ∙ (ap (has b (map number given)) (sym (n.gives u)) ∙ order.1),
        order_kept (a.gives u ∷ given) list (and_from _ _ own.1 h) t.1 (subst (λ g. IsInOrder b (g ∷ map number given) (map numbered list)) (n.gives u) order.2),
      )

  asked_kept : (goals : List F) (list : List U) → asked b (map number goals) (map numbered list) ≡ map number (asked a goals list)
  asked_kept goals [] = refl
  asked_kept goals (u ∷ list) = rw (n.conds u, asked_kept goals list) (sym (map-append number (a.conds u) (asked a goals list)))

  asked_there : (goals : List F) (list : List U) → list_all there goals ≡ true → list_all (are_there a there) list ≡ true → list_all there (asked a goals list) ≡ true
  asked_there goals [] h all = h
  asked_there goals (u ∷ list) h all =
      let t = and_parts (are_there a there u) (list_all (are_there a there) list) all in
      list_all-append there (a.conds u) (asked a goals list) ∙ and_from _ _ (and_parts (list_all there (a.conds u)) (there (a.gives u)) t.0).0 (asked_there goals list h t.1)

  needed_kept : (goals : List F) (list : List U) → list_all there goals ≡ true → list_all (are_there a there) list ≡ true → IsAsked b (map number goals) (map numbered list) → IsAsked a goals list
  needed_kept goals [] h all needed = tt
  needed_kept goals (u ∷ list) h all needed =
      let t = and_parts (are_there a there u) (list_all (are_there a there) list) all in
      let gives = (and_parts (list_all there (a.conds u)) (there (a.gives u)) t.0).1 in (
        sym (has_kept (asked a goals list) (a.gives u) gives (asked_there goals list h t.1)) ∙ (ap (λ gs. has b gs (number (a.gives u))) (sym (asked_kept goals list)) ∙ (ap (has b (asked b (map number goals) (map numbered list))) (sym (n.gives u)) ∙ needed.0)),
        needed_kept goals list h t.1 needed.1,
      )

  given_kept : (list : List U) → map b.gives (map numbered list) ≡ map number (map a.gives list)
  given_kept [] = refl
  given_kept (u ∷ list) = rw (n.gives u, given_kept list) refl

  given_there : (list : List U) → list_all (are_there a there) list ≡ true → list_all there (map a.gives list) ≡ true
  given_there [] all = refl
  given_there (u ∷ list) all =
      let t = and_parts (are_there a there u) (list_all (are_there a there) list) all in
      and_from _ _ (and_parts (list_all there (a.conds u)) (there (a.gives u)) t.0).1 (given_there list t.1)

  -- A relaxed plan over numbers is one over facts.
  pub plan_kept : (unaries : List U) (start : List F) (value : G → Estimate) (goals : List F) (numbers : List V) → list_all (are_there a there) unaries ≡ true → list_all there start ≡ true → list_all there goals ≡ true →
      IsSupported b (map numbered unaries) (map number start) value (map number goals) numbers → HasPlan a b number numbered unaries start value goals numbers
  plan_kept unaries start value goals numbers all started aimed is = record {
    list = named.list;
    same = named.same;
    supported = record {
      best = named.best;
      order = order_kept start named.list started named.within (subst (λ (vs : List V). IsInOrder b (map number start) vs) (sym named.same) is.order);
      needed = needed_kept goals named.list aimed named.within (subst (λ (vs : List V). IsAsked b (map number goals) vs) (sym named.same) is.needed);
      goals_given = sym (all_kept (has b (map number given)) (has a given) goals (λ f h. has_kept given f h within) aimed) ∙ (ap (λ gs. list_all (has b gs) (map number goals)) (sym numbers_given) ∙ is.goals_given);
    };
  }
    where
      named : AllNamed a b there number numbered unaries value numbers
      named = all_named unaries value numbers all is.best

      given : List F
      given = start ++ map a.gives named.list

      within : list_all there given ≡ true
      within = list_all-append there start (map a.gives named.list) ∙ and_from _ _ started (given_there named.list named.within)

      numbers_given : map number start ++ map b.gives numbers ≡ map number given
      numbers_given =
          ap (λ (vs : List V). map number start ++ map b.gives vs) (sym named.same)
          ∙ (ap (λ gs. map number start ++ gs) (given_kept named.list) ∙ sym (map-append number start (map a.gives named.list)))
