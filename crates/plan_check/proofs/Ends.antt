-- Choices of one name more, and what they lead to.
use Rattle.std.proofs.Common.{◌≡◌, ◌∙◌, sym, ap, refl, ℕ, zero, suc, ◌+◌, ◌*◌, ◌≤◌, List, [], ◌∷◌, ◌++◌, length, take, drop, map, Bool, true, false, Option, Some, None, arith, append-nil}
use Rattle.std.specs.Prelude.{slice_get, ◌&&◌, ◌||◌, nat_eq, unwrap_or}
use Rattle.std.specs.List.{list_any, list_all, flat_map}
use Rattle.std.specs.Str.{bytes_eq}
use Rattle.std.proofs.lemmas.Bool.Decides.{nat_tests}
use Rattle.std.proofs.lemmas.Grind.{flat_map-append}
use Rattle.std.proofs.lemmas.Slice.Eq.{bytes_eq-Decides}
use Rattle.lama_num.proofs.ListLaws.{both}
use Rattle.sas_task.specs.declared.contents.Operator.{Operator}
use Rattle.sas_task.specs.declared.contents.Parts.{Parts}
use Rattle.sas_task.specs.WellFormed.{IsWellFormed}
use Rattle.sas_task.specs.States.{IsState, all_hold, step}
use Rattle.sas_task.specs.Runs.{start_of, cost_at, cost_of}
use Rattle.sas_task.proofs.RunLaws.{start-state, step-state, cost_of-append, cost_at-small}
use Rattle.state_step.specs.Steps.{is_applicable}
use Rattle.plan_check.specs.Choices.{has_name, is_candidate, candidates, state_after, choices_from, choices}
use Rattle.plan_check.specs.Verdicts.{state_by, last_state, same_end, ends}
use Rattle.packed_state.specs.Packing.{Places}
use Rattle.plan_check.specs.Layers.{IsEnd, pair_words, end_words, longer, one_each}
use Rattle.plan_check.proofs.LayerLaws.{one_more}
use Rattle.plan_check.proofs.Firsts.{IsByKind, firsts-flat_map}
use Rattle.plan_check.proofs.NamedOperators.{candidates_in, drop_at}

-- states by operators

pub state_by-more : (parts : Parts) (state ops : List ℕ) (op : ℕ) → state_by parts state (ops ++ op ∷ []) ≡ state_after parts (state_by parts state ops) op
state_by-more parts state [] op = refl
state_by-more parts state (first ∷ ops) op = state_by-more parts (state_after parts state first) ops op

pub cost_of-more : (parts : Parts) (ops : List ℕ) (op : ℕ) → cost_of parts (ops ++ op ∷ []) ≡ cost_of parts ops + cost_at parts op
cost_of-more parts ops op = omega (arith, cost_of-append parts ops (op ∷ []))

pub state_after-is : (parts : Parts) (state next : List ℕ) (op : ℕ) → step parts state op ≡ Some next → state_after parts state op ≡ next
state_after-is parts state next op taken = ap (λ o. unwrap_or o state) taken

state_after-state : (parts : Parts) (state : List ℕ) (op : ℕ) → IsWellFormed parts → IsState parts.variables state → IsState parts.variables (state_after parts state op)
state_after-state parts state op formed is =
    elim (step parts state op) as (λ o. step parts state op ≡ o → IsState parts.variables (unwrap_or o state)) [
      | None ↦ λ none. is
      | Some next ↦ λ taken. step-state parts state op next formed is taken
    ] refl

state_by-state : (parts : Parts) (state ops : List ℕ) → IsWellFormed parts → IsState parts.variables state → IsState parts.variables (state_by parts state ops)
state_by-state parts state [] formed is = is
state_by-state parts state (op ∷ ops) formed is = state_by-state parts (state_after parts state op) ops formed (state_after-state parts state op formed is)

pub last_state-state : (parts : Parts) (ops : List ℕ) → IsWellFormed parts → IsState parts.variables (last_state parts ops)
last_state-state parts ops formed = state_by-state parts (start_of parts) ops formed (start-state parts formed)

pub cost_of-small : (parts : Parts) (ops : List ℕ) → IsWellFormed parts → cost_of parts ops ≤ 2147483647 * length ops
cost_of-small parts [] formed = omega arith
cost_of-small parts (op ∷ ops) formed =
    let split = cost_of-append parts (op ∷ []) ops in
    omega (arith, split, cost_at-small parts op formed, cost_of-small parts ops formed)

-- what a choice with one operator more leads to
pub end_more : (parts : Parts) (choice here next : List ℕ) (op cost own : ℕ) → IsEnd parts choice here cost → step parts here op ≡ Some next → own ≡ cost_at parts op → IsEnd parts (choice ++ op ∷ []) next (cost + own)
end_more parts choice here next op cost own end taken own_is = record {
  state_is = sym (state_after-is parts here next op taken) ∙ ap (λ s. state_after parts s op) end.state_is ∙ sym (state_by-more parts (start_of parts) choice op);
  cost_is = ap (λ n. n + own) end.cost_is ∙ ap (λ n. cost_of parts choice + n) own_is ∙ sym (cost_of-more parts choice op);
}

pub words_at_end : (parts : Parts) (layout : Places) (choice here : List ℕ) (cost : ℕ) → IsEnd parts choice here cost → pair_words layout here cost ≡ end_words parts layout choice
words_at_end parts layout choice here cost end = ap (λ s. pair_words layout s cost) end.state_is ∙ ap (pair_words layout (last_state parts choice)) end.cost_is

-- choices of one name more

cons_longer : (op : ℕ) (ops more : List ℕ) → map (λ t. op ∷ t) (longer ops more) ≡ longer (op ∷ ops) more
cons_longer op ops [] = refl
cons_longer op ops (m ∷ more) = ap (λ t. (op ∷ (ops ++ m ∷ [])) ∷ t) (cons_longer op ops more)

map_append : (op : ℕ) (xs ys : List (List ℕ)) → map (λ t. op ∷ t) (xs ++ ys) ≡ map (λ t. op ∷ t) xs ++ map (λ t. op ∷ t) ys
map_append op [] ys = refl
map_append op (x ∷ xs) ys = ap (λ t. (op ∷ x) ∷ t) (map_append op xs ys)

module _ (parts : Parts) (name : List ℕ) where
  abbrev more_from : List ℕ → List ℕ → List (List ℕ)
  more_from state ops = longer ops (candidates parts (state_by parts state ops) name)

  cons_more : (state : List ℕ) (op : ℕ) (all : List (List ℕ)) → map (λ t. op ∷ t) (flat_map (more_from (state_after parts state op)) all) ≡ flat_map (more_from state) (map (λ t. op ∷ t) all)
  cons_more state op [] = refl
  cons_more state op (ops ∷ all) =
      map_append op (more_from (state_after parts state op) ops) (flat_map (more_from (state_after parts state op)) all)
      ∙ ap (λ t. t ++ map (λ t. op ∷ t) (flat_map (more_from (state_after parts state op)) all)) (cons_longer op ops (candidates parts (state_by parts (state_after parts state op) ops) name))
      ∙ ap (λ t. more_from state (op ∷ ops) ++ t) (cons_more state op all)

  each_more : (state : List ℕ) (names : List (List ℕ)) (ops : List ℕ) → ((s : List ℕ) → choices_from parts s (names ++ name ∷ []) ≡ flat_map (more_from s) (choices_from parts s names)) →
      flat_map (λ op. map (λ t. op ∷ t) (choices_from parts (state_after parts state op) (names ++ name ∷ []))) ops
      ≡ flat_map (more_from state) (flat_map (λ op. map (λ t. op ∷ t) (choices_from parts (state_after parts state op) names)) ops)
  each_more state names [] so = refl
  each_more state names (op ∷ ops) so =
      let front : ℕ → List (List ℕ) = λ op. map (λ t. op ∷ t) (choices_from parts (state_after parts state op) names) in
      ap (λ t. map (λ s. op ∷ s) t ++ flat_map (λ op. map (λ t. op ∷ t) (choices_from parts (state_after parts state op) (names ++ name ∷ []))) ops) (so (state_after parts state op))
      ∙ ap (λ t. t ++ flat_map (λ op. map (λ t. op ∷ t) (choices_from parts (state_after parts state op) (names ++ name ∷ []))) ops) (cons_more state op (choices_from parts (state_after parts state op) names))
      ∙ ap (λ t. flat_map (more_from state) (front op) ++ t) (each_more state names ops so)
      ∙ sym (flat_map-append (more_from state) (front op) (flat_map front ops))

  last_more : (ops : List ℕ) → flat_map (λ op. map (λ t. op ∷ t) ([] ∷ [])) ops ≡ longer [] ops
  last_more [] = refl
  last_more (op ∷ ops) = ap (λ t. (op ∷ []) ∷ t) (last_more ops)

  choices_from-more : (state : List ℕ) (names : List (List ℕ)) → choices_from parts state (names ++ name ∷ []) ≡ flat_map (more_from state) (choices_from parts state names)
  choices_from-more state [] = last_more (candidates parts state name) ∙ sym (append-nil (longer [] (candidates parts state name)))
  choices_from-more state (first ∷ names) = each_more state names (candidates parts state first) (λ s. choices_from-more s names)

pub take_more : {A : Type 0} (k : ℕ) (xs : List A) (x : A) → slice_get xs k ≡ Some x → take (suc k) xs ≡ take k xs ++ x ∷ []
take_more {A} k [] x at = let none : ◌≡◌ {A = Option A} None (Some x) = at in cc
take_more zero (y ∷ xs) x at = let some : Some y ≡ Some x = at in let is : y ≡ x = cc in ap (λ z. z ∷ []) is
take_more (suc k) (y ∷ xs) x at = ap (λ ys. y ∷ ys) (take_more k xs x at)

pub choices-step : (parts : Parts) (names : List (List ℕ)) (k : ℕ) (name : List ℕ) → slice_get names k ≡ Some name → choices parts (take (suc k) names) ≡ flat_map (one_more parts name) (choices parts (take k names))
choices-step parts names k name at = ap (choices parts) (take_more k names name at) ∙ choices_from-more parts name (start_of parts) (take k names)

-- pairs of last state and cost

abbrev pub kind_of : Parts → List ℕ → List ℕ × ℕ
kind_of parts ops = (last_state parts ops, cost_of parts ops)

both_true : (a b : Bool) → a ≡ true → b ≡ true → (a && b) ≡ true
both_true a b one two = rw (one, two) refl

pub by_kind : (parts : Parts) → IsByKind (kind_of parts) (same_end parts)
by_kind parts = record {
  same_kind = λ x y is.
      let tests = both (bytes_eq (last_state parts x) (last_state parts y)) (nat_eq (cost_of parts x) (cost_of parts y)) is in
      let state : last_state parts x ≡ last_state parts y = (bytes_eq-Decides (last_state parts x) (last_state parts y)).0 tests.0 in
      let own : nat_eq (cost_of parts x) (cost_of parts y) ≡ true = tests.1 in
      let cost : cost_of parts x ≡ cost_of parts y = grind (arith, nat_tests, own) in
      cc;
  kind_same = λ x y is.
      let state : last_state parts x ≡ last_state parts y = ap (λ p. p.0) is in
      let cost : cost_of parts x ≡ cost_of parts y = ap (λ p. p.1) is in
      both_true (bytes_eq (last_state parts x) (last_state parts y)) (nat_eq (cost_of parts x) (cost_of parts y))
      ((bytes_eq-Decides (last_state parts x) (last_state parts y)).1 state) (grind (arith, nat_tests, cost));
}

any_longer : (parts : Parts) (x y z more : List ℕ) → last_state parts x ≡ last_state parts y → cost_of parts x ≡ cost_of parts y → list_any (same_end parts z) (longer x more) ≡ list_any (same_end parts z) (longer y more)
any_longer parts x y z [] state cost = refl
any_longer parts x y z (op ∷ more) state cost =
    let next : last_state parts (x ++ op ∷ []) ≡ last_state parts (y ++ op ∷ []) =
    state_by-more parts (start_of parts) x op ∙ ap (λ s. state_after parts s op) state ∙ sym (state_by-more parts (start_of parts) y op) in
    let costs : cost_of parts (x ++ op ∷ []) ≡ cost_of parts (y ++ op ∷ []) = cost_of-more parts x op ∙ ap (λ n. n + cost_at parts op) cost ∙ sym (cost_of-more parts y op) in
    ap (λ s. (bytes_eq (last_state parts z) s && nat_eq (cost_of parts z) (cost_of parts (x ++ op ∷ []))) || list_any (same_end parts z) (longer x more)) next
    ∙ ap (λ n. (bytes_eq (last_state parts z) (last_state parts (y ++ op ∷ [])) && nat_eq (cost_of parts z) n) || list_any (same_end parts z) (longer x more)) costs
    ∙ ap (λ b. same_end parts z (y ++ op ∷ []) || b) (any_longer parts x y z more state cost)

pub ends-step : (parts : Parts) (names : List (List ℕ)) (k : ℕ) (name : List ℕ) → slice_get names k ≡ Some name → ends parts (take (suc k) names) ≡ one_each parts (flat_map (one_more parts name) (ends parts (take k names)))
ends-step parts names k name at =
    ap (one_each parts) (choices-step parts names k name at)
    ∙ firsts-flat_map (kind_of parts) (same_end parts) (by_kind parts) (one_more parts name)
    (λ x y z is.
    let state : last_state parts x ≡ last_state parts y = ap (λ p. p.0) is in
    ap (λ s. list_any (same_end parts z) (longer x (candidates parts s name))) state
    ∙ any_longer parts x y z (candidates parts (last_state parts y) name) state (ap (λ p. p.1) is))
    (choices parts (take k names))

-- candidates are applicable, and have the name

each_applicable : (parts : Parts) (state name : List ℕ) (i : ℕ) (xs : List Operator) → drop i parts.operators ≡ xs → list_all (is_applicable parts state) (candidates_in state name i xs) ≡ true
each_applicable parts state name i [] cut = refl
each_applicable parts state name i (x ∷ xs) cut =
    let there = drop_at parts.operators i x xs cut in
    let rest = each_applicable parts state name (i + 1) xs there.1 in
    elim (is_candidate state name x) as (λ b. is_candidate state name x ≡ b → list_all (is_applicable parts state) (candidates_in state name i (x ∷ xs)) ≡ true) [
      | true ↦ λ is.
          let holds : all_hold state x.pre ≡ true = (both (has_name name x) (all_hold state x.pre) is).1 in
          let here : is_applicable parts state i ≡ true = rw there.0 holds in
          rw (is, here) rest
      | false ↦ λ is. rw is rest
    ] refl

pub candidates-applicable : (parts : Parts) (state name : List ℕ) → list_all (is_applicable parts state) (candidates parts state name) ≡ true
candidates-applicable parts state name = each_applicable parts state name 0 parts.operators refl

pub applicable_of : (parts : Parts) (state name found : List ℕ) → found ≡ candidates parts state name → list_all (is_applicable parts state) found ≡ true
applicable_of parts state name found is = ap (list_all (is_applicable parts state)) is ∙ candidates-applicable parts state name

none_in : (state name : List ℕ) (i : ℕ) (xs : List Operator) → list_any (has_name name) xs ≡ false → candidates_in state name i xs ≡ []
none_in state name i [] none = refl
none_in state name i (x ∷ xs) none =
    elim (has_name name x) as (λ b. has_name name x ≡ b → candidates_in state name i (x ∷ xs) ≡ []) [
      | true ↦ λ is. let clash : true ≡ false = sym (ap (λ b. b || list_any (has_name name) xs) is) ∙ none in cc
      | false ↦ λ is.
          let other : is_candidate state name x ≡ false = ap (λ b. b && all_hold state x.pre) is in
          let rest : list_any (has_name name) xs ≡ false = sym (ap (λ b. b || list_any (has_name name) xs) is) ∙ none in
          rw other (none_in state name (i + 1) xs rest)
    ] refl

-- a name that no operator has leads on from nowhere
pub candidates-none : (parts : Parts) (state name : List ℕ) → list_any (has_name name) parts.operators ≡ false → candidates parts state name ≡ []
candidates-none parts state name none = none_in state name 0 parts.operators none

pub more-none : (parts : Parts) (name : List ℕ) (all : List (List ℕ)) → list_any (has_name name) parts.operators ≡ false → flat_map (one_more parts name) all ≡ []
more-none parts name [] none = refl
more-none parts name (ops ∷ all) none =
    let here : candidates parts (last_state parts ops) name ≡ [] = candidates-none parts (last_state parts ops) name none in
    ap (λ cs. longer ops cs ++ flat_map (one_more parts name) all) here ∙ more-none parts name all none
