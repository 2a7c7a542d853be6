use Rattle.std.proofs.Common.{◌≡◌, ℕ, zero, suc, ◌<◌, true, false, List, [], ◌∷◌, length, slice_get, take, Some, refl, sym, subst, arith, Option, None}
use Rattle.std.specs.Prelude.{nat_lt, nat_le, IfSome}
use Rattle.std.specs.List.{list_all, list_any}
use Rattle.std.proofs.lemmas.Bool.{ltb-true, leb-true}
use Rattle.std.proofs.lemmas.Int.{ints}
use Rattle.std.proofs.lemmas.Option.{slice_get_within}
use Rattle.lama_num.proofs.ListLaws.{both, list_all_get}
use Rattle.sas_task.specs.declared.contents.Operator.{Operator}
use Rattle.sas_task.specs.Order.{IsInOrder}
use Rattle.sas_task.specs.WellFormed.{IsWellFormed}
use Rattle.open_lists.specs.Items.{Item, item_of, IsOldestLeast}
use Rattle.open_lists.specs.Lists.{TakesList}
use Rattle.open_lists.specs.Runs.{entry_of}
use Rattle.search_log.specs.declared.turns.Pop.{Pop}
use Rattle.search_log.specs.declared.turns.PopResult.TheVariants.{Full}
use Rattle.search_log.specs.Phases.{Phase, lists_of}
use Rattle.search_log.specs.Places.{Place, Past, Turn, is_goal_node, id_of, reached, past_of}
use Rattle.search_log.specs.Pending.{pending, counter}
use Rattle.search_log.specs.Lawful.{IsNext, is_full, result_of}
use Rattle.log_laws.specs.Rivals.{greedy, pop, three_visits, six_pops, rivals, operator}
use Rattle.log_laws.proofs.example.rivals_have_no_plan.Goals as goal

-- those before a place have more than a key
older_more : (xs : List Item) (place key : ℕ) → list_all (λ (x : Item). nat_lt key x.key) (take place xs) ≡ true → (i : ℕ) (other : Item) → i < place → slice_get xs i ≡ Some other → key < other.key
older_more xs zero key all i other lt at = absurd (omega (arith, lt))
older_more [] (suc place) key all i other lt at = cc
older_more (x ∷ xs) (suc place) key all zero other lt at =
    let same : x ≡ other = cc in
    subst (λ (y : Item). key < y.key) same (ltb-true _ _ (both (nat_lt key x.key) (list_all (λ (y : Item). nat_lt key y.key) (take place xs)) all).0)
older_more (x ∷ xs) (suc place) key all (suc i) other lt at =
    older_more xs place key (both (nat_lt key x.key) (list_all (λ (y : Item). nat_lt key y.key) (take place xs)) all).1 i other (omega (arith, lt)) at

-- a turn of a phase with one list, by tests that compute
next_by : (phase : Phase) (past : Past) (turn : Turn) (place : ℕ) (item : Item) (to : Place)
    → list_any (is_goal_node phase) past.nodes ≡ false → list_any (λ (p : Pop). is_full p.result) past.pops ≡ false → nat_lt (length past.pops) phase.setting.most_pops ≡ true
    → lists_of phase ≡ 1 → turn.pop.list ≡ 0 → slice_get (pending phase past 0) place ≡ Some item
    → list_all (λ (x : Item). nat_le item.key x.key) (pending phase past 0) ≡ true → list_all (λ (x : Item). nat_lt item.key x.key) (take place (pending phase past 0)) ≡ true
    → item.entry ≡ entry_of turn.pop.parent turn.pop.op → reached phase past turn.pop ≡ Some to → turn.pop.result ≡ result_of phase past to turn.made
    → IfSome turn.made (λ v. v.id ≡ id_of past.nodes to.state) → IfSome turn.made (λ v. v.g ≡ to.g) → IsNext phase past turn
next_by phase past turn place item to no_goal not_full allowed one list at least older entry leads result id g =
    record {
      goes_on = record { no_goal = no_goal; not_full = not_full };
      allowed = ltb-true _ _ allowed;
      list = subst (TakesList (lists_of phase) (λ k. length (pending phase past k)) (counter phase past)) (sym list) only;
      place = place;
      item = item;
      oldest = subst (λ (k : ℕ). IsOldestLeast (pending phase past k) place item) (sym list) first;
      entry = entry;
      to = to;
      leads = leads;
      result = result;
      id = id;
      g = g;
    }
  where
    only : TakesList (lists_of phase) (λ k. length (pending phase past k)) (counter phase past) 0
    only = record {
      exists = omega (arith, one);
      filled = omega (arith, slice_get_within (pending phase past 0) place item at);
      least = λ m l f. let zero_is : m ≡ 0 = omega (arith, l, one) in rw zero_is (omega (arith, ints));
      lowest = λ m l f. absurd (omega (arith, l));
    }

    first : IsOldestLeast (pending phase past 0) place item
    first = record {
      here = at;
      least = λ i other is. leb-true _ _ (list_all_get (λ (x : Item). nat_le item.key x.key) (pending phase past 0) i other least is);
      oldest = older_more (pending phase past 0) place item.key older;
    }

abbrev start : List ℕ
start = 0 ∷ 0 ∷ []

abbrev one : List ℕ
one = 1 ∷ 0 ∷ []

abbrev two : List ℕ
two = 0 ∷ 1 ∷ []

-- where a path of so many operators leads
abbrev at : List ℕ → ℕ → List ℕ → List (List ℕ) → Place
at state cost path states = record { state = state; g = cost; real = cost; path = path; states = states }

pub returns-clause-two : goal.returns-clause-two
returns-clause-two c = (
  (
    record { id = refl; g = refl },
    (
      next_by _ _ _ 0 (item_of 2 (entry_of 0 0)) (at one 1 (0 ∷ []) (start ∷ one ∷ [])) refl refl refl refl refl refl refl refl refl refl refl refl refl,
      (
        next_by _ _ _ 1 (item_of 1 (entry_of 1 0)) (at one 2 (0 ∷ 0 ∷ []) (start ∷ one ∷ one ∷ [])) refl refl refl refl refl refl refl refl refl refl refl tt tt,
        (
          next_by _ _ _ 1 (item_of 1 (entry_of 1 1)) (at two 2 (0 ∷ 1 ∷ []) (start ∷ one ∷ two ∷ [])) refl refl refl refl refl refl refl refl refl refl refl tt tt,
          tt,
        ),
      ),
    ),
    refl,
  ),
  record { pop = pop 1 1 Full; last = refl; full = refl },
)

pub returns-clause-five : goal.returns-clause-five
returns-clause-five c = (
  (
    record { id = refl; g = refl },
    (
      next_by _ _ _ 0 (item_of 2 (entry_of 0 0)) (at one 1 (0 ∷ []) (start ∷ one ∷ [])) refl refl refl refl refl refl refl refl refl refl refl refl refl,
      (
        next_by _ _ _ 1 (item_of 1 (entry_of 1 0)) (at one 2 (0 ∷ 0 ∷ []) (start ∷ one ∷ one ∷ [])) refl refl refl refl refl refl refl refl refl refl refl tt tt,
        (
          next_by _ _ _ 1 (item_of 1 (entry_of 1 1)) (at two 2 (0 ∷ 1 ∷ []) (start ∷ one ∷ two ∷ [])) refl refl refl refl refl refl refl refl refl refl refl refl refl,
          (
            next_by _ _ _ 1 (item_of 1 (entry_of 2 0)) (at one 3 (0 ∷ 1 ∷ 0 ∷ []) (start ∷ one ∷ two ∷ one ∷ [])) refl refl refl refl refl refl refl refl refl refl refl tt tt,
            (
              next_by _ _ _ 1 (item_of 1 (entry_of 2 1)) (at two 3 (0 ∷ 1 ∷ 1 ∷ []) (start ∷ one ∷ two ∷ two ∷ [])) refl refl refl refl refl refl refl refl refl refl refl tt tt,
              tt,
            ),
          ),
        ),
      ),
    ),
    refl,
  ),
  record {
    goes_on = record { no_goal = refl; not_full = refl };
    list = 0;
    exists = ltb-true 0 1 refl;
    filled = ltb-true 0 1 refl;
    pops = refl;
  },
)

pub returns-clause-six : goal.returns-clause-six
returns-clause-six c = (
  (
    record { id = refl; g = refl },
    (
      next_by _ _ _ 0 (item_of 2 (entry_of 0 0)) (at one 1 (0 ∷ []) (start ∷ one ∷ [])) refl refl refl refl refl refl refl refl refl refl refl refl refl,
      (
        next_by _ _ _ 1 (item_of 1 (entry_of 1 0)) (at one 2 (0 ∷ 0 ∷ []) (start ∷ one ∷ one ∷ [])) refl refl refl refl refl refl refl refl refl refl refl tt tt,
        (
          next_by _ _ _ 1 (item_of 1 (entry_of 1 1)) (at two 2 (0 ∷ 1 ∷ []) (start ∷ one ∷ two ∷ [])) refl refl refl refl refl refl refl refl refl refl refl refl refl,
          (
            next_by _ _ _ 1 (item_of 1 (entry_of 2 0)) (at one 3 (0 ∷ 1 ∷ 0 ∷ []) (start ∷ one ∷ two ∷ one ∷ [])) refl refl refl refl refl refl refl refl refl refl refl tt tt,
            (
              next_by _ _ _ 1 (item_of 1 (entry_of 2 1)) (at two 3 (0 ∷ 1 ∷ 1 ∷ []) (start ∷ one ∷ two ∷ two ∷ [])) refl refl refl refl refl refl refl refl refl refl refl tt tt,
              (
                next_by _ _ _ 0 (item_of 2 (entry_of 0 1)) (at two 1 (1 ∷ []) (start ∷ two ∷ [])) refl refl refl refl refl refl refl refl refl refl refl tt tt,
                tt,
              ),
            ),
          ),
        ),
      ),
    ),
    refl,
  ),
  record {
    begun = ltb-true 0 3 refl;
    goes_on = record { no_goal = refl; not_full = refl };
    empty = only_empty;
  },
)
  where
    only_empty : (k : ℕ) → k < lists_of (greedy 6 9 None) → pending (greedy 6 9 None) (past_of (greedy 6 9 None) three_visits six_pops) k ≡ []
    only_empty zero l = refl
    only_empty (suc k) l = absurd (let m : suc k < 1 = l in omega (arith, m))

in_order : (op : ℕ) (o : Operator) → slice_get rivals.operators op ≡ Some o → IsInOrder o
in_order zero o is =
    let s : Some (operator 1 0) ≡ Some o = is in
    let same : operator 1 0 ≡ o = cc in
    subst IsInOrder same (record { once = refl; ordered = λ h. refl })
in_order (suc zero) o is =
    let s : Some (operator 0 1) ≡ Some o = is in
    let same : operator 0 1 ≡ o = cc in
    subst IsInOrder same (record { once = refl; ordered = λ h. refl })
in_order (suc (suc op)) o is = let k : ◌≡◌ {A = Option Operator} None (Some o) = is in cc

formed : IsWellFormed rivals
formed = record {
  few_variables = refl;
  variables = refl;
  few_facts = leb-true 4 4194304 refl;
  few_groups = refl;
  groups = refl;
  init = refl;
  goal = refl;
  few_operators = leb-true 2 4194304 refl;
  operators = refl;
  conditions = refl;
  order = in_order;
  costs = λ h. refl;
  few_rules = leb-true 0 4194304 refl;
  rules = refl;
}

pub returns-clause-phase : goal.returns-clause-phase
returns-clause-phase c = record {
  task = formed;
  some_guide = ltb-true 0 1 refl;
  few_guides = leb-true 1 3 refl;
  setting = record {
    bound = tt;
    weight = tt;
    boost = leb-true 1000 1000000 refl;
    pops = leb-true 6 1099511627776 refl;
    some_state = ltb-true 0 9 refl;
    few_states = leb-true 9 2147483647 refl;
  };
}

pub returns-clause-asked : goal.returns-clause-asked
returns-clause-asked c = refl
