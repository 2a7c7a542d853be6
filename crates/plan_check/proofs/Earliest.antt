-- The first choice that passes a test, in the order of lists of numbers.
use Rattle.std.proofs.Common.{◌≡◌, ◌∙◌, sym, ap, subst, refl, ℕ, suc, ◌+◌, ◌<◌, ◌≤◌, List, [], ◌∷◌, ◌++◌, length, drop, map, Bool, true, false, Option, Some, None, arith, inl, inr}
use Rattle.std.specs.Prelude.{slice_get, option_map, is_some}
use Rattle.std.specs.List.{find, flat_map}
use Rattle.std.specs.Option.{option_or}
use Rattle.std.proofs.lemmas.Bool.{cases_eq}
use Rattle.std.proofs.lemmas.List.{length-drop}
use Rattle.std.proofs.lemmas.List.Folds.{find-append}
use Rattle.std.proofs.lemmas.Option.{slice_get_within, option_and_then_some}
use Rattle.std.proofs.lemmas.Slice.Eq.{bytes_eq-Decides}
use Rattle.sas_task.specs.declared.contents.Operator.{Operator}
use Rattle.sas_task.specs.declared.contents.Parts.{Parts}
use Rattle.sas_task.specs.States.{all_hold, step}
use Rattle.sas_task.specs.Runs.{start_of, end_of}
use Rattle.state_step.specs.Steps.{is_applicable}
use Rattle.sas_task.proofs.RunLaws.{applicable-within}
use Rattle.sas_task.proofs.RunLaws.{is_some-step}
use Rattle.plan_check.specs.Choices.{has_name, is_candidate, state_after, choices_from, IsChoice, IsBefore}
use Rattle.plan_check.proofs.Chosen.{CanBeTaken, AreTaken}
use Rattle.plan_check.proofs.Ends.{state_after-is}
use Rattle.plan_check.proofs.NamedOperators.{candidates_in, drop_at}
use Rattle.plan_check.proofs.GoalChoices.{item_at}

-- a choice is of operators that can be taken

taken_by : (parts : Parts) (state name : List ℕ) (op : ℕ) (next : List ℕ) → step parts state op ≡ Some next → ((operator : Operator) → slice_get parts.operators op ≡ Some operator → operator.name ≡ name) → CanBeTaken parts state name op
taken_by parts state name op next taken named =
    let can : is_applicable parts state op ≡ true = sym (is_some-step parts state op) ∙ ap (λ (o : Option (List ℕ)). is_some o) taken in
    let item = item_at parts.operators op (applicable-within parts state op can) in
    record { operator = item.0; at = item.1; named = named item.0 item.1; applicable = can }

all_taken : (parts : Parts) (state : List ℕ) (names : List (List ℕ)) (ops last : List ℕ) → length ops ≡ length names →
    ((place op : ℕ) (name : List ℕ) (operator : Operator) → slice_get names place ≡ Some name → slice_get ops place ≡ Some op → slice_get parts.operators op ≡ Some operator → operator.name ≡ name) →
    end_of parts state ops ≡ Some last → AreTaken parts state names ops
all_taken parts state [] [] last long named leads = tt
all_taken parts state [] (op ∷ ops) last long named leads = absurd (omega arith)
all_taken parts state (name ∷ names) [] last long named leads = absurd (omega arith)
all_taken parts state (name ∷ names) (op ∷ ops) last long named leads =
    option_and_then_some (λ next. end_of parts next ops) (step parts state op) last leads
    (λ next taken on.
    let here = taken_by parts state name op next taken (λ operator at. named 0 op name operator refl refl at) in
    let rest = all_taken parts next names ops last (omega arith) (λ place o n operator. named (suc place) o n operator) on in
    (here, subst (λ s. AreTaken parts s names ops) (sym (state_after-is parts state next op taken)) rest))

pub choice_taken : (parts : Parts) (names : List (List ℕ)) (ops : List ℕ) → IsChoice parts names ops → AreTaken parts (start_of parts) names ops
choice_taken parts names ops choice = all_taken parts (start_of parts) names ops choice.last choice.long choice.named choice.leads

taken_candidate : (parts : Parts) (state name : List ℕ) (op : ℕ) (taken : CanBeTaken parts state name op) → is_candidate state name taken.operator ≡ true
taken_candidate parts state name op taken =
    let named : has_name name taken.operator ≡ true = (bytes_eq-Decides taken.operator.name name).1 taken.named in
    let holds : is_applicable parts state op ≡ all_hold state taken.operator.pre = rw taken.at refl in
    let hold : all_hold state taken.operator.pre ≡ true = sym holds ∙ taken.applicable in
    rw (named, hold) refl

-- One of some lists passes a test, and the first that does isn't after another that passes it.
pub record IsEarliest (p : List ℕ → Bool) (all : List (List ℕ)) (others : List ℕ) : Type 0 where
  pub ops : List ℕ
  pub is : find p all ≡ Some ops
  pub least : IsBefore others ops → ⊥

find_map : (p : List ℕ → Bool) (op : ℕ) (xs : List (List ℕ)) → find p (map (λ t. op ∷ t) xs) ≡ option_map (λ t. op ∷ t) (find (λ t. p (op ∷ t)) xs)
find_map p op [] = refl
find_map p op (x ∷ xs) =
    elim (p (op ∷ x)) as (λ b. p (op ∷ x) ≡ b → find p (map (λ t. op ∷ t) (x ∷ xs)) ≡ option_map (λ t. op ∷ t) (find (λ t. p (op ∷ t)) (x ∷ xs))) [
      | true ↦ λ is. rw is refl
      | false ↦ λ is. rw is (find_map p op xs)
    ] refl

-- choices that begin with the candidates of a name, against one that does
module _ (parts : Parts) (state name : List ℕ) (names : List (List ℕ)) (p : List ℕ → Bool) (q : ℕ) (r : List ℕ) (taken : CanBeTaken parts state name q)
    (rest : IsEarliest (λ t. p (q ∷ t)) (choices_from parts (state_after parts state q) names) r) where
  abbrev after : ℕ → List (List ℕ)
  after op = choices_from parts (state_after parts state op) names

  abbrev part : ℕ → List (List ℕ)
  part op = map (λ t. op ∷ t) (after op)

  not_here : (i : ℕ) (x : Operator) → slice_get parts.operators i ≡ Some x → is_candidate state name x ≡ false → i ≤ q → i + 1 ≤ q
  not_here i x at other le =
      elim (cases_eq i q) [
        | inl same ↦
            let here : Some x ≡ Some taken.operator = sym at ∙ ap (slice_get parts.operators) same ∙ taken.at in
            let own : x ≡ taken.operator = cc in
            let clash : false ≡ true = sym other ∙ ap (is_candidate state name) own ∙ taken_candidate parts state name q taken in
            absurd (cc)
        | inr apart ↦ omega arith
      ]

  not_found : (i : ℕ) → find (λ t. p (i ∷ t)) (after i) ≡ None → i ≤ q → i + 1 ≤ q
  not_found i none le =
      elim (cases_eq i q) [
        | inl same ↦
            let own : find (λ t. p (q ∷ t)) (after q) ≡ None = subst (λ n. find (λ t. p (n ∷ t)) (after n) ≡ None) same none in
            let clash : ◌≡◌ {A = Option (List ℕ)} None (Some rest.ops) = sym own ∙ rest.is in
            absurd (cc)
        | inr apart ↦ omega arith
      ]

  not_before : (i : ℕ) (t : List ℕ) → find (λ s. p (i ∷ s)) (after i) ≡ Some t → i ≤ q → IsBefore (q ∷ r) (i ∷ t) → ⊥
  not_before i t found le before =
      elim before [
        | inl lower ↦ absurd (omega arith)
        | inr same ↦
            let own : find (λ s. p (q ∷ s)) (after q) ≡ Some t = subst (λ n. find (λ s. p (n ∷ s)) (after n) ≡ Some t) (sym same.0) found in
            let some : Some rest.ops ≡ Some t = sym rest.is ∙ own in
            let ops : rest.ops ≡ t = cc in
            rest.least (subst (IsBefore r) (sym ops) same.1)
      ]

  with_part : (i : ℕ) (more : List (List ℕ)) → i ≤ q → (i + 1 ≤ q → IsEarliest p more (q ∷ r)) → IsEarliest p (part i ++ more) (q ∷ r)
  with_part i more le later =
      let split : find p (part i ++ more) ≡ option_or (option_map (λ t. i ∷ t) (find (λ t. p (i ∷ t)) (after i))) (find p more) =
      find-append p (part i) more ∙ ap (λ o. option_or o (find p more)) (find_map p i (after i)) in
      elim (find (λ t. p (i ∷ t)) (after i)) as (λ o. find (λ t. p (i ∷ t)) (after i) ≡ o → IsEarliest p (part i ++ more) (q ∷ r)) [
        | Some t ↦ λ found. record {
          ops = i ∷ t;
          is = split ∙ ap (λ (o : Option (List ℕ)). option_or (option_map (λ s. i ∷ s) o) (find p more)) found;
          least = not_before i t found le;
        }
        | None ↦ λ none.
            let next = later (not_found i none le) in
            record {
              ops = next.ops;
              is = split ∙ ap (λ (o : Option (List ℕ)). option_or (option_map (λ s. i ∷ s) o) (find p more)) none ∙ next.is;
              least = next.least;
            }
      ] refl

  earliest_in : (i : ℕ) (xs : List Operator) → drop i parts.operators ≡ xs → i ≤ q → IsEarliest p (flat_map part (candidates_in state name i xs)) (q ∷ r)
  earliest_in i [] cut le =
      let within : q < length parts.operators = slice_get_within parts.operators q taken.operator taken.at in
      let none : length (drop i parts.operators) ≡ 0 = ap length cut in
      let all = length-drop i parts.operators in
      absurd (omega (arith, within, none, all))
  earliest_in i (x ∷ xs) cut le =
      let there = drop_at parts.operators i x xs cut in
      elim (is_candidate state name x) as (λ b. is_candidate state name x ≡ b → IsEarliest p (flat_map part (candidates_in state name i (x ∷ xs))) (q ∷ r)) [
        | true ↦ λ is. rw is (with_part i (flat_map part (candidates_in state name (i + 1) xs)) le (λ past. earliest_in (i + 1) xs there.1 past))
        | false ↦ λ is. rw is (earliest_in (i + 1) xs there.1 (not_here i x there.0 is le))
      ] refl

pub earliest : (parts : Parts) (names : List (List ℕ)) (state : List ℕ) (p : List ℕ → Bool) (others : List ℕ) → AreTaken parts state names others → p others ≡ true → IsEarliest p (choices_from parts state names) others
earliest parts [] state p [] taken is = record { ops = []; is = rw is refl; least = λ before. before }
earliest parts [] state p (op ∷ ops) taken is = absurd taken
earliest parts (name ∷ names) state p [] taken is = absurd taken
earliest parts (name ∷ names) state p (q ∷ r) taken is =
    earliest_in parts state name names p q r taken.0 (earliest parts names (state_after parts state q) (λ t. p (q ∷ t)) r taken.1 is) 0 parts.operators refl (omega arith)
