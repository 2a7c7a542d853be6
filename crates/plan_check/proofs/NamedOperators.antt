-- Operators by their names, and the candidates among those of one name.
use Rattle.std.proofs.Common.{◌≡◌, ◌∙◌, sym, ap, refl, ℕ, zero, suc, ◌+◌, ◌-◌, ◌<◌, ◌≤◌, List, [], ◌∷◌, ◌++◌, length, drop, map, Bool, true, false, cond, Option, Some, None, arith, subst, Bor, inl, inr, get_or, append_assoc, append-nil}
use Rattle.std.specs.Prelude.{slice_get, filter, ◌&&◌, ◌||◌}
use Rattle.std.specs.List.{position_from, list_any, enumerate_from}
use Rattle.std.specs.Str.{bytes_eq}
use Rattle.std.specs.HashMap.{HashMap, get_by, UpdatesBy}
use Rattle.std.specs.Map.{lookup}
use Rattle.std.proofs.lemmas.Slice.Eq.{bytes_eq-Decides}
use Rattle.std.specs.Prelude.{is_some}
use Rattle.std.proofs.lemmas.List.{drop_all, get_or-set_same}
use Rattle.std.proofs.lemmas.Option.{slice_get-get_or, slice_get_within, get_or_from_slice_get}
use Rattle.std.proofs.lemmas.Bool.{cases_eq}
use Rattle.std.proofs.Math.ListN.{set, length-set}
use Rattle.std.proofs.lemmas.Map.Text.{hash_map_updates_str}
use Rattle.sas_task.specs.declared.contents.Operator.{Operator}
use Rattle.sas_task.specs.declared.contents.Parts.{Parts}
use Rattle.sas_task.specs.States.{all_hold}
use Rattle.state_step.specs.Steps.{is_applicable}
use Rattle.plan_check.specs.Choices.{has_name, is_candidate, candidates}
use Rattle.plan_check.specs.Names.{next_of}

-- lists from a place on

pub drop_at : {X : Type 0} (xs : List X) (i : ℕ) (x : X) (rest : List X) → drop i xs ≡ x ∷ rest → (slice_get xs i ≡ Some x) × (drop (i + 1) xs ≡ rest)
drop_at {X} [] zero x rest is = let k : ◌≡◌ {A = List X} [] (x ∷ rest) = is in cc
drop_at {X} [] (suc i) x rest is = let k : ◌≡◌ {A = List X} [] (x ∷ rest) = is in cc
drop_at (y ∷ ys) zero x rest is = let k : y ∷ ys ≡ x ∷ rest = is in (let e : y ≡ x = cc in ap (λ z. Some z) e, let e : ys ≡ rest = cc in e)
drop_at (y ∷ ys) (suc i) x rest is =
    let more = drop_at ys i x rest is in
    let one : suc i + 1 ≡ suc (i + 1) = omega arith in
    (more.0, rw one more.1)

pub at_drop : {X : Type 0} (xs : List X) (i : ℕ) (x : X) → slice_get xs i ≡ Some x → drop i xs ≡ x ∷ drop (i + 1) xs
at_drop [] i x at = let k : None ≡ Some x = at in cc
at_drop (y ∷ ys) zero x at = let k : Some y ≡ Some x = at in let e : y ≡ x = cc in ap (λ z. z ∷ ys) e
at_drop (y ∷ ys) (suc i) x at = let one : suc i + 1 ≡ suc (i + 1) = omega arith in rw one (at_drop ys i x at)

pub position_from_within : {X : Type 0} (p : X → Bool) (i : ℕ) (xs : List X) (j : ℕ) → position_from p i xs ≡ Some j → (i ≤ j) × (j < i + length xs)
position_from_within p i [] j is = let k : ◌≡◌ {A = Option ℕ} None (Some j) = is in cc
position_from_within p i (x ∷ xs) j is =
    elim (p x) as (λ b. cond b (Some i) (position_from p (i + 1) xs) ≡ Some j → (i ≤ j) × (j < i + suc (length xs))) [
      | true ↦ λ e. let k : Some i ≡ Some j = e in let same : i ≡ j = cc in (omega arith, omega arith)
      | false ↦ λ e. let more = position_from_within p (i + 1) xs j e in (omega arith, omega arith)
    ] is

-- the next of a name

pub next_of-at : (operators : List Operator) (op : ℕ) (o : Operator) (name : List ℕ) → slice_get operators op ≡ Some o → next_of name op operators ≡ cond (has_name name o) (Some op) (next_of name (op + 1) operators)
next_of-at operators op o name at = ap (position_from (has_name name) op) (at_drop operators op o at)

pub next_of-end : (operators : List Operator) (n : ℕ) (name : List ℕ) → n ≡ length operators → next_of name n operators ≡ None
next_of-end operators n name is = let none : drop n operators ≡ [] = drop_all n operators (omega arith) in ap (position_from (has_name name) n) none

slice_get-set_same : {X : Type 0} (xs : List X) (i : ℕ) (x : X) → i < length xs → slice_get (set xs i x) i ≡ Some x
slice_get-set_same xs i x lt =
    let long : length (set xs i x) ≡ length xs = simp length-set in
    slice_get-get_or (set xs i x) i x (omega (arith, long)) ∙ ap (λ y. Some y) (get_or-set_same xs i x x lt)

slice_get-set_other : {X : Type 0} (xs : List X) (i k : ℕ) (x : X) → (k ≡ i → ⊥) → slice_get (set xs i x) k ≡ slice_get xs k
slice_get-set_other [] zero k x apart = refl
slice_get-set_other [] (suc i) k x apart = refl
slice_get-set_other (y ∷ ys) zero zero x apart = absurd (apart refl)
slice_get-set_other (y ∷ ys) zero (suc k) x apart = refl
slice_get-set_other (y ∷ ys) (suc i) zero x apart = refl
slice_get-set_other (y ∷ ys) (suc i) (suc k) x apart = slice_get-set_other ys i k x (λ same. apart (ap suc same))

-- one operator more, the one before a number
module _ (operators : List Operator) (i op : ℕ) (o : Operator) (before : i ≡ op + 1) (at : slice_get operators op ≡ Some o) where
  pub next_more : (next : List (Option ℕ)) (x : Option ℕ) → length next ≡ length operators → x ≡ next_of o.name i operators →
      ((k : ℕ) (p : Operator) → i ≤ k → slice_get operators k ≡ Some p → slice_get next k ≡ Some (next_of p.name (k + 1) operators)) →
      (k : ℕ) (p : Operator) → op ≤ k → slice_get operators k ≡ Some p → slice_get (set next op x) k ≡ Some (next_of p.name (k + 1) operators)
  next_more next x long is so k p le there =
      elim (cases_eq k op) [
        | inl same ↦
            let within : op < length operators = slice_get_within operators op o at in
            let here : slice_get operators op ≡ Some p = subst (λ n. slice_get operators n ≡ Some p) same there in
            let both : Some o ≡ Some p = sym at ∙ here in
            let own : o ≡ p = cc in
            let set_is : slice_get (set next op x) op ≡ Some x = slice_get-set_same next op x (omega (arith, long, within)) in
            subst (λ n. slice_get (set next op x) n ≡ Some (next_of p.name (n + 1) operators)) (sym same)
            (set_is ∙ ap (λ y. Some y) (is ∙ ap (λ n. next_of o.name n operators) before ∙ ap (λ q. next_of q.name (op + 1) operators) own))
        | inr apart ↦ slice_get-set_other next op k x apart ∙ so k p (omega arith) there
      ]

  pub first_more : {S : Type 0} (key : Bor (List ℕ)) (m n : HashMap (Bor (List ℕ)) ℕ S) → key.now ≡ o.name → UpdatesBy (λ x y. bytes_eq x.now y.now) (λ k. bytes_eq key.now k.now) m n (Some op) →
      ((name : List ℕ) → get_by (λ k. bytes_eq name k.now) m ≡ next_of name i operators) →
      (name : List ℕ) → get_by (λ k. bytes_eq name k.now) n ≡ next_of name op operators
  first_more key m n named updates so name =
      hash_map_updates_str key.now m n (Some op) updates name
      ∙ ap (λ r. cond (bytes_eq key.now name) (Some op) r) (so name ∙ ap (λ j. next_of name j operators) before)
      ∙ ap (λ text. cond (bytes_eq text name) (Some op) (next_of name (op + 1) operators)) named
      ∙ sym (next_of-at operators op o name at)

-- the candidates among some operators, of which the first has a number

abbrev pub candidates_in : List ℕ → List ℕ → ℕ → List Operator → List ℕ
candidates_in state name i operators = map (λ p. p.0) (filter (λ p. is_candidate state name p.1) (enumerate_from i operators))

-- what those that were found so far still lead to, from an operator of the name on

pub record IsNext (parts : Parts) (state name found : List ℕ) (op : ℕ) : Type 0 where
  pub operator : Operator
  pub at : slice_get parts.operators op ≡ Some operator
  pub named : has_name name operator ≡ true
  pub rest : candidates parts state name ≡ found ++ candidates_in state name op (drop op parts.operators)

abbrev pub LeadsOn : Parts → List ℕ → List ℕ → List ℕ → Option ℕ → Type 0
LeadsOn parts state name found None = found ≡ candidates parts state name
LeadsOn parts state name found (Some op) = IsNext parts state name found op

-- how many operators are left
abbrev pub left_of : ℕ → Option ℕ → ℕ
left_of n None = 0
left_of n (Some op) = suc n - op

module _ (parts : Parts) (state name : List ℕ) where
  leads : (found : List ℕ) (i : ℕ) (xs : List Operator) → drop i parts.operators ≡ xs → candidates parts state name ≡ found ++ candidates_in state name i xs → LeadsOn parts state name found (position_from (has_name name) i xs)
  leads found i [] cut is = sym (is ∙ append-nil found)
  leads found i (x ∷ xs) cut is =
      let there = drop_at parts.operators i x xs cut in
      elim (has_name name x) as (λ b. has_name name x ≡ b → LeadsOn parts state name found (cond b (Some i) (position_from (has_name name) (i + 1) xs))) [
        | true ↦ λ e. record { operator = x; at = there.0; named = e; rest = is ∙ ap (λ ys. found ++ candidates_in state name i ys) (sym cut) }
        | false ↦ λ e.
            let other : is_candidate state name x ≡ false = ap (λ b. b && all_hold state x.pre) e in
            let without : candidates_in state name i (x ∷ xs) ≡ candidates_in state name (i + 1) xs = rw other refl in
            leads found (i + 1) xs there.1 (is ∙ ap (λ ys. found ++ ys) without)
      ] refl

  pub leads_first : LeadsOn parts state name [] (next_of name 0 parts.operators)
  leads_first = leads [] 0 parts.operators refl refl

  holds_is : (found : List ℕ) (op : ℕ) (next : IsNext parts state name found op) → is_candidate state name next.operator ≡ is_applicable parts state op
  holds_is found op next = let here : is_applicable parts state op ≡ all_hold state next.operator.pre = rw next.at refl in ap (λ b. b && all_hold state next.operator.pre) next.named ∙ sym here

  rest_is : (found : List ℕ) (op : ℕ) (next : IsNext parts state name found op) →
      candidates parts state name ≡ found ++ candidates_in state name op (next.operator ∷ drop (op + 1) parts.operators)
  rest_is found op next = next.rest ∙ ap (λ ys. found ++ candidates_in state name op ys) (at_drop parts.operators op next.operator next.at)

  -- one more is found
  pub leads_here : (found : List ℕ) (op : ℕ) → IsNext parts state name found op → is_applicable parts state op ≡ true → LeadsOn parts state name (found ++ op ∷ []) (next_of name (op + 1) parts.operators)
  leads_here found op next is =
      let candidate : is_candidate state name next.operator ≡ true = holds_is found op next ∙ is in
      let with : candidates_in state name op (next.operator ∷ drop (op + 1) parts.operators) ≡ op ∷ candidates_in state name (op + 1) (drop (op + 1) parts.operators) = rw candidate refl in
      leads (found ++ op ∷ []) (op + 1) (drop (op + 1) parts.operators) refl
      (rest_is found op next ∙ ap (λ ys. found ++ ys) with ∙ sym (append_assoc found (op ∷ []) (candidates_in state name (op + 1) (drop (op + 1) parts.operators))))

  -- or isn't
  pub leads_on : (found : List ℕ) (op : ℕ) → IsNext parts state name found op → is_applicable parts state op ≡ false → LeadsOn parts state name found (next_of name (op + 1) parts.operators)
  leads_on found op next is =
      let other : is_candidate state name next.operator ≡ false = holds_is found op next ∙ is in
      let without : candidates_in state name op (next.operator ∷ drop (op + 1) parts.operators) ≡ candidates_in state name (op + 1) (drop (op + 1) parts.operators) = rw other refl in
      leads found (op + 1) (drop (op + 1) parts.operators) refl (rest_is found op next ∙ ap (λ ys. found ++ ys) without)

-- fewer operators are left
pub left_less : (operators : List Operator) (name : List ℕ) (op : ℕ) → op < length operators → left_of (length operators) (next_of name (op + 1) operators) < left_of (length operators) (Some op)
left_less operators name op lt =
    elim (next_of name (op + 1) operators) as (λ o. next_of name (op + 1) operators ≡ o → left_of (length operators) o < left_of (length operators) (Some op)) [
      | None ↦ λ is. omega arith
      | Some j ↦ λ is. let within = position_from_within (has_name name) (op + 1) (drop (op + 1) operators) j is in omega arith
    ] refl

-- what the index tells of the next operator
pub next_read : (next : List (Option ℕ)) (op : ℕ) (x y : Option ℕ) → slice_get next op ≡ Some x → y ≡ get_or next op y → y ≡ x
next_read next op x y at is = is ∙ get_or_from_slice_get next op x y at

pub named_is : (name : List ℕ) (o : Operator) → has_name name o ≡ true → o.name ≡ name
named_is name o is = (bytes_eq-Decides o.name name).0 is

-- no entry, no operator
pub first_none : {S : Type 0} (m : HashMap (Bor (List ℕ)) ℕ S) (operators : List Operator) (name : List ℕ) → m.entries ≡ [] → get_by (λ k. bytes_eq name k.now) m ≡ next_of name (length operators) operators
first_none m operators name none = ap (λ es. lookup (λ k. bytes_eq name k.now) es) none ∙ sym (next_of-end operators (length operators) name refl)

-- a name that some operator has
position_from-some : {X : Type 0} (p : X → Bool) (i : ℕ) (xs : List X) → is_some (position_from p i xs) ≡ list_any p xs
position_from-some p i [] = refl
position_from-some p i (x ∷ xs) =
    elim (p x) as (λ b. is_some (cond b (Some i) (position_from p (i + 1) xs)) ≡ (b || list_any p xs)) [
      | true ↦ refl
      | false ↦ position_from-some p (i + 1) xs
    ]

pub next_of-some : (operators : List Operator) (name : List ℕ) → is_some (next_of name 0 operators) ≡ list_any (has_name name) operators
next_of-some operators name = position_from-some (has_name name) 0 operators
