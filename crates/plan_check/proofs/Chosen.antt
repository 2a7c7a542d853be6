-- What is listed as a choice is one.
use Rattle.std.proofs.Common.{◌≡◌, ◌∙◌, sym, ap, refl, subst, ℕ, zero, suc, ◌+◌, ◌<◌, List, [], ◌∷◌, ◌++◌, length, drop, map, Bool, true, false, Option, Some, None, arith}
use Rattle.std.specs.Prelude.{slice_get, slice_index, option_and_then, unwrap_or}
use Rattle.std.specs.List.{find, flat_map}
use Rattle.std.proofs.lemmas.Slice.Eq.{bytes_eq-Decides}
use Rattle.std.proofs.lemmas.Option.{slice_get_within}
use Rattle.lama_num.proofs.ListLaws.{both}
use Rattle.sas_task.specs.declared.contents.Operator.{Operator}
use Rattle.sas_task.specs.declared.contents.Parts.{Parts}
use Rattle.sas_task.specs.States.{all_hold, step}
use Rattle.sas_task.specs.Runs.{start_of, end_of}
use Rattle.state_step.specs.Steps.{is_applicable}
use Rattle.sas_task.proofs.RunLaws.{step-applicable}
use Rattle.plan_check.specs.Choices.{has_name, is_candidate, candidates, state_after, choices_from, choices, IsChoice}
use Rattle.plan_check.specs.Verdicts.{state_by, last_state}
use Rattle.plan_check.proofs.NamedOperators.{candidates_in, drop_at}

abbrev pub Each : {A : Type 0} → (A → Type 0) → List A → Type 0
Each P [] = Unit {0}
Each P (x ∷ xs) = P x × Each P xs

each_append : {A : Type 0} (P : A → Type 0) (xs ys : List A) → Each P xs → Each P ys → Each P (xs ++ ys)
each_append P [] ys front rest = rest
each_append P (x ∷ xs) ys front rest = (front.0, each_append P xs ys front.1 rest)

each_flat : {A B : Type 0} (Q : A → Type 0) (P : B → Type 0) (f : A → List B) (xs : List A) → ((x : A) → Q x → Each P (f x)) → Each Q xs → Each P (flat_map f xs)
each_flat Q P f [] so all = tt
each_flat Q P f (x ∷ xs) so all = each_append P (f x) (flat_map f xs) (so x all.0) (each_flat Q P f xs so all.1)

pub find_each : {A : Type 0} (P : A → Type 0) (p : A → Bool) (xs : List A) (x : A) → Each P xs → find p xs ≡ Some x → P x × (p x ≡ true)
find_each {A} P p [] x all is = let none : ◌≡◌ {A = Option A} None (Some x) = is in cc
find_each P p (y ∷ ys) x all is =
    elim (p y) as (λ b. p y ≡ b → find p (y ∷ ys) ≡ Some x → P x × (p x ≡ true)) [
      | true ↦ λ here e. let some : Some y ≡ Some x = rw here at e in let same : y ≡ x = cc in (subst P same all.0, subst (λ z. p z ≡ true) same here)
      | false ↦ λ here e. find_each P p ys x all.1 (rw here at e)
    ] refl is

-- an operator that can be taken for a name in a state
pub record CanBeTaken (parts : Parts) (state name : List ℕ) (op : ℕ) : Type 0 where
  pub operator : Operator
  pub at : slice_get parts.operators op ≡ Some operator
  pub named : operator.name ≡ name
  pub applicable : is_applicable parts state op ≡ true

taken_in : (parts : Parts) (state name : List ℕ) (i : ℕ) (xs : List Operator) → drop i parts.operators ≡ xs → Each (CanBeTaken parts state name) (candidates_in state name i xs)
taken_in parts state name i [] cut = tt
taken_in parts state name i (x ∷ xs) cut =
    let there = drop_at parts.operators i x xs cut in
    let rest = taken_in parts state name (i + 1) xs there.1 in
    elim (is_candidate state name x) as (λ b. is_candidate state name x ≡ b → Each (CanBeTaken parts state name) (candidates_in state name i (x ∷ xs))) [
      | true ↦ λ is.
          let tests = both (has_name name x) (all_hold state x.pre) is in
          let holds : all_hold state x.pre ≡ true = tests.1 in
          let here : CanBeTaken parts state name i = record { operator = x; at = there.0; named = (bytes_eq-Decides x.name name).0 tests.0; applicable = rw there.0 holds } in
          rw is (here, rest)
      | false ↦ λ is. rw is rest
    ] refl

-- operators for names, each of which can be taken in its turn
abbrev pub AreTaken : Parts → List ℕ → List (List ℕ) → List ℕ → Type 0
AreTaken parts state [] [] = Unit {0}
AreTaken parts state [] (op ∷ ops) = ⊥
AreTaken parts state (name ∷ names) [] = ⊥
AreTaken parts state (name ∷ names) (op ∷ ops) = CanBeTaken parts state name op × AreTaken parts (state_after parts state op) names ops

each_cons : (parts : Parts) (state name : List ℕ) (names : List (List ℕ)) (op : ℕ) (all : List (List ℕ)) → CanBeTaken parts state name op → Each (AreTaken parts (state_after parts state op) names) all →
    Each (AreTaken parts state (name ∷ names)) (map (λ ops. op ∷ ops) all)
each_cons parts state name names op [] taken each = tt
each_cons parts state name names op (ops ∷ all) taken each = ((taken, each.0), each_cons parts state name names op all taken each.1)

each_taken : (parts : Parts) (state : List ℕ) (names : List (List ℕ)) → Each (AreTaken parts state names) (choices_from parts state names)
each_taken parts state [] = (tt, tt)
each_taken parts state (name ∷ names) =
    each_flat (CanBeTaken parts state name) (AreTaken parts state (name ∷ names)) (λ op. map (λ ops. op ∷ ops) (choices_from parts (state_after parts state op) names)) (candidates parts state name)
    (λ op taken. each_cons parts state name names op (choices_from parts (state_after parts state op) names) taken (each_taken parts (state_after parts state op) names))
    (taken_in parts state name 0 parts.operators refl)

pub choices-taken : (parts : Parts) (names : List (List ℕ)) → Each (AreTaken parts (start_of parts) names) (choices parts names)
choices-taken parts names = each_taken parts (start_of parts) names

taken_step : (parts : Parts) (state name : List ℕ) (op : ℕ) → CanBeTaken parts state name op → step parts state op ≡ Some (state_after parts state op)
taken_step parts state name op taken =
    let is = step-applicable parts state op taken.operator taken.at taken.applicable in
    is ∙ ap (λ s. Some s) (sym (ap (λ o. unwrap_or o state) is))

pub taken_long : (parts : Parts) (state : List ℕ) (names : List (List ℕ)) (ops : List ℕ) → AreTaken parts state names ops → length ops ≡ length names
taken_long parts state [] [] are = refl
taken_long parts state [] (op ∷ ops) are = absurd are
taken_long parts state (name ∷ names) [] are = absurd are
taken_long parts state (name ∷ names) (op ∷ ops) are = ap suc (taken_long parts (state_after parts state op) names ops are.1)

pub taken_leads : (parts : Parts) (state : List ℕ) (names : List (List ℕ)) (ops : List ℕ) → AreTaken parts state names ops → end_of parts state ops ≡ Some (state_by parts state ops)
taken_leads parts state [] [] are = refl
taken_leads parts state [] (op ∷ ops) are = absurd are
taken_leads parts state (name ∷ names) [] are = absurd are
taken_leads parts state (name ∷ names) (op ∷ ops) are =
    ap (option_and_then (λ next. end_of parts next ops)) (taken_step parts state name op are.0) ∙ taken_leads parts (state_after parts state op) names ops are.1

taken_named : (parts : Parts) (state : List ℕ) (names : List (List ℕ)) (ops : List ℕ) → AreTaken parts state names ops → (place op : ℕ) (name : List ℕ) (operator : Operator) →
    slice_get names place ≡ Some name → slice_get ops place ≡ Some op → slice_get parts.operators op ≡ Some operator → operator.name ≡ name
taken_named parts state [] ops are place op name operator at_name at_op at = let none : ◌≡◌ {A = Option (List ℕ)} None (Some name) = at_name in cc
taken_named parts state (first ∷ names) [] are place op name operator at_name at_op at = absurd are
taken_named parts state (first ∷ names) (o ∷ ops) are zero op name operator at_name at_op at =
    let same_name : first ≡ name = cc in
    let same_op : o ≡ op = cc in
    let there : slice_get parts.operators o ≡ Some operator = ap (slice_get parts.operators) same_op ∙ at in
    let some : Some are.0.operator ≡ Some operator = sym are.0.at ∙ there in
    let same : are.0.operator ≡ operator = cc in
    sym (ap (λ (q : Operator). q.name) same) ∙ are.0.named ∙ same_name
taken_named parts state (first ∷ names) (o ∷ ops) are (suc place) op name operator at_name at_op at = taken_named parts (state_after parts state o) names ops are.1 place op name operator at_name at_op at

pub taken_within : (parts : Parts) (state : List ℕ) (names : List (List ℕ)) (ops : List ℕ) → AreTaken parts state names ops → (place : ℕ) → place < length ops → slice_index ops place < length parts.operators
taken_within parts state [] [] are place lt = absurd (omega arith)
taken_within parts state [] (op ∷ ops) are place lt = absurd are
taken_within parts state (name ∷ names) [] are place lt = absurd are
taken_within parts state (name ∷ names) (op ∷ ops) are zero lt = slice_get_within parts.operators op are.0.operator are.0.at
taken_within parts state (name ∷ names) (op ∷ ops) are (suc place) lt = taken_within parts (state_after parts state op) names ops are.1 place (omega arith)

pub taken_choice : (parts : Parts) (names : List (List ℕ)) (ops : List ℕ) → AreTaken parts (start_of parts) names ops → IsChoice parts names ops
taken_choice parts names ops are = record {
  long = taken_long parts (start_of parts) names ops are;
  named = taken_named parts (start_of parts) names ops are;
  last = last_state parts ops;
  leads = taken_leads parts (start_of parts) names ops are;
}
