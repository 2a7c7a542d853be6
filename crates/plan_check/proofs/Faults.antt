-- Faults of single steps, and of the first that has one.
use Rattle.std.proofs.Common.{◌≡◌, ◌∙◌, sym, ap, refl, subst, ℕ, zero, suc, ◌+◌, ◌-◌, ◌<◌, ◌≤◌, List, [], ◌∷◌, ◌++◌, length, take, Bool, true, false, Option, Some, None, arith, append-nil, length-append, inl, inr}
use Rattle.std.specs.Prelude.{slice_get, slice_index, ◌||◌, not, nat_eq, nat_lt, if◌then◌else◌, MatchBool}
use Rattle.std.specs.List.{list_any, list_all, flat_map}
use Rattle.std.specs.Str.{bytes_eq}
use Rattle.std.specs.Option.{option_or, option_map_or}
use Rattle.std.proofs.lemmas.Bool.Decides.{nat_tests}
use Rattle.std.proofs.lemmas.Bool.{cases_eq}
use Rattle.std.proofs.lemmas.List.{length-map}
use Rattle.lama_num.proofs.ListLaws.{both, slice_get-append_last}
use Rattle.sas_task.specs.declared.contents.Parts.{Parts}
use Rattle.sas_task.specs.WellFormed.{IsWellFormed}
use Rattle.sas_task.specs.States.{step}
use Rattle.sas_task.specs.Runs.{cost_at}
use Rattle.packed_state.specs.Packing.{Places, IsFor, CanHold}
use Rattle.plan_check.specs.declared.verdicts.PlanFault.{PlanFault}
use Rattle.plan_check.specs.declared.verdicts.PlanFault.TheVariants.{NoOperator, NotApplicable, TooMany}
use Rattle.plan_check.specs.declared.tracing.Link.{Link}
use Rattle.plan_check.specs.Choices.{has_name, candidates}
use Rattle.plan_check.specs.Verdicts.{last_state, ends, pairs_after, pairs_up_to, has_operator, are_many, fault_after, first_fault}
use Rattle.plan_check.specs.Layers.{pair_words, end_words, Leads, IsLayer, IsGrown, IsAfter, IsAlone, longer, one_each, told_fault}
use Rattle.plan_check.proofs.LayerLaws.{one_more}
use Rattle.state_step.specs.Steps.{is_applicable}
use Rattle.plan_check.proofs.Ends.{choices-step, ends-step, candidates-applicable, more-none, last_state-state, end_more, words_at_end}
use Rattle.plan_check.proofs.LinkPaths.{leads_more}
use Rattle.plan_check.proofs.Vectors.{added_first}

-- the first of several

pub no_fault_more : (parts : Parts) (names : List (List ℕ)) (k : ℕ) → first_fault parts names k ≡ None → fault_after parts names k ≡ None → first_fault parts names (suc k) ≡ None
no_fault_more parts names k before here = ap (λ o. option_or o (fault_after parts names k)) before ∙ here

pub first_fault_is : (parts : Parts) (names : List (List ℕ)) (k n : ℕ) (fault : PlanFault) → first_fault parts names k ≡ None → fault_after parts names k ≡ Some fault → k < n → first_fault parts names n ≡ Some fault
first_fault_is parts names k zero fault before here lt = absurd (omega arith)
first_fault_is parts names k (suc n) fault before here lt =
    elim (cases_eq k n) [
      | inl same ↦
          let none : first_fault parts names n ≡ None = ap (first_fault parts names) (sym same) ∙ before in
          let own : fault_after parts names n ≡ Some fault = ap (fault_after parts names) (sym same) ∙ here in
          ap (λ o. option_or o (fault_after parts names n)) none ∙ own
      | inr apart ↦ ap (λ o. option_or o (fault_after parts names n)) (first_fault_is parts names k n fault before here (omega arith))
    ]

-- single steps

module _ (parts : Parts) (names : List (List ℕ)) (k : ℕ) (name : List ℕ) (at : slice_get names k ≡ Some name) where
  operator_is : has_operator parts names k ≡ list_any (has_name name) parts.operators
  operator_is = ap (λ o. option_map_or (λ n. list_any (has_name n) parts.operators) o false) at

  pairs_none : list_any (has_name name) parts.operators ≡ false → pairs_after parts names (suc k) ≡ 0
  pairs_none none = ap length (ends-step parts names k name at) ∙ ap (λ cs. length (one_each parts cs)) (more-none parts name (ends parts (take k names)) none)

  pub fault_empty : pairs_after parts names (suc k) ≡ 0 → fault_after parts names k ≡ Some (if list_any (has_name name) parts.operators then NotApplicable (suc k) else NoOperator (suc k))
  fault_empty none =
      elim (list_any (has_name name) parts.operators) as (λ b. list_any (has_name name) parts.operators ≡ b → fault_after parts names k ≡ Some (if b then NotApplicable (suc k) else NoOperator (suc k))) [
        | true ↦ λ is. let there : has_operator parts names k ≡ true = operator_is ∙ is in rw (there, none) refl
        | false ↦ λ is. let absent : has_operator parts names k ≡ false = operator_is ∙ is in rw absent refl
      ] refl

  operator_there : 0 < pairs_after parts names (suc k) → has_operator parts names k ≡ true
  operator_there some =
      operator_is ∙ elim (list_any (has_name name) parts.operators) as (λ b. list_any (has_name name) parts.operators ≡ b → b ≡ true) [
        | true ↦ λ is. refl
        | false ↦ λ is. let none = pairs_none is in absurd (omega (arith, none))
      ] refl

  some_pairs : 0 < pairs_after parts names (suc k) → nat_eq (pairs_after parts names (suc k)) 0 ≡ false
  some_pairs some = grind (arith, nat_tests, some)

  pub fault_many : 0 < pairs_after parts names (suc k) → are_many (pairs_after parts names (suc k)) (pairs_up_to parts names (suc k)) ≡ true → fault_after parts names k ≡ Some (TooMany (suc k))
  fault_many some many = let there = operator_there some in let more = some_pairs some in rw (there, more, many) refl

  pub fault_none : 0 < pairs_after parts names (suc k) → are_many (pairs_after parts names (suc k)) (pairs_up_to parts names (suc k)) ≡ false → fault_after parts names k ≡ None
  fault_none some few = let there = operator_there some in let more = some_pairs some in rw (there, more, few) refl

pub many_pairs : (pairs together : ℕ) → 65536 < pairs → are_many pairs together ≡ true
many_pairs pairs together lt = let is : nat_lt 65536 pairs ≡ true = grind (arith, nat_tests, lt) in ap (λ b. b || nat_lt 67108864 together) is

pub many_together : (pairs together : ℕ) → 67108864 < together → are_many pairs together ≡ true
many_together pairs together lt =
    let is : nat_lt 67108864 together ≡ true = grind (arith, nat_tests, lt) in
    ap (λ b. nat_lt 65536 pairs || b) is ∙ or_true (nat_lt 65536 pairs)
  where
    or_true : (a : Bool) → (a || true) ≡ true
    or_true true = refl
    or_true false = refl

pub not_many : (pairs together : ℕ) → pairs ≤ 65536 → together ≤ 67108864 → are_many pairs together ≡ false
not_many pairs together few le =
    let one : nat_lt 65536 pairs ≡ false = grind (arith, nat_tests, few) in
    let two : nat_lt 67108864 together ≡ false = grind (arith, nat_tests, le) in
    rw (one, two) refl

-- one choice alone

module _ (parts : Parts) (names : List (List ℕ)) (links : List Link) (k cost : ℕ) (state name : List ℕ) (alone : IsAlone parts names links k state cost) (at : slice_get names k ≡ Some name) where
  ends_are : ends parts (take k names) ≡ alone.ops ∷ []
  ends_are = ap (one_each parts) alone.only

  next_ends : (found : List ℕ) → candidates parts state name ≡ found → ends parts (take (suc k) names) ≡ one_each parts (longer alone.ops found)
  next_ends found are =
      let there : candidates parts (last_state parts alone.ops) name ≡ found = ap (λ s. candidates parts s name) (sym alone.reached.end.state_is) ∙ are in
      ends-step parts names k name at
      ∙ ap (λ cs. one_each parts (flat_map (one_more parts name) cs)) ends_are
      ∙ ap (one_each parts) (append-nil (one_more parts name alone.ops))
      ∙ ap (λ cs. one_each parts (longer alone.ops cs)) there

  pub alone_stuck : candidates parts state name ≡ [] → fault_after parts names k ≡ Some (if list_any (has_name name) parts.operators then NotApplicable (suc k) else NoOperator (suc k))
  alone_stuck none = fault_empty parts names k name at (ap length (next_ends [] none))

  pub alone_more : (op own : ℕ) (next : List ℕ) (link : Link) → k < 67108864 → candidates parts state name ≡ op ∷ [] → step parts state op ≡ Some next → own ≡ cost_at parts op → link.from ≡ k - 1 → link.op ≡ op →
      IsAlone parts names (links ++ link ∷ []) (k + 1) next (cost + own)
  alone_more op own next link lt one taken own_is from_is op_is =
      let x = alone.ops ++ op ∷ [] in
      let there : candidates parts (last_state parts alone.ops) name ≡ op ∷ [] = ap (λ s. candidates parts s name) (sym alone.reached.end.state_is) ∙ one in
      let pairs : pairs_after parts names (suc k) ≡ 1 = ap length (next_ends (op ∷ []) one) in
      let together : pairs_up_to parts names (suc k) ≡ suc k = omega (arith, pairs, alone.together) in
      let few = not_many (pairs_after parts names (suc k)) (pairs_up_to parts names (suc k)) (omega (arith, pairs)) (omega (arith, together)) in
      let next_place : suc k ≡ k + 1 = omega arith in
      let end : k ≡ length links = sym alone.long in
      let from : Leads links k link.from alone.ops = subst (λ n. Leads links k n alone.ops) (sym from_is) alone.reached.leads in
      subst (λ n. IsAlone parts names (links ++ link ∷ []) n next (cost + own)) next_place (record {
        ops = alone.ops ++ op ∷ [];
        only = choices-step parts names k name at ∙ ap (flat_map (one_more parts name)) alone.only ∙ append-nil (one_more parts name alone.ops) ∙ ap (longer alone.ops) there;
        reached = record {
          end = end_more parts alone.ops state next op cost own alone.reached.end taken own_is;
          leads = (link, alone.ops, ap (slice_get (links ++ link ∷ [])) (let place : suc k - 1 ≡ length links = omega arith in place) ∙ slice_get-append_last links link, ap (λ n. alone.ops ++ n ∷ []) (sym op_is), leads_more links (link ∷ []) k link.from alone.ops from);
        };
        long = length-append links (link ∷ []) ∙ omega (arith, alone.long);
        together = together;
        no_fault = no_fault_more parts names k alone.no_fault (fault_none parts names k name at (omega (arith, pairs)) few);
      })

-- what the run of single choices ends with where there is none
pub stuck_fault : (parts : Parts) (names : List (List ℕ)) (links : List Link) (k cost : ℕ) (state name found : List ℕ) (step : ℕ) (fault : PlanFault) → IsAlone parts names links k state cost → slice_get names k ≡ Some name →
    found ≡ candidates parts state name → length found < 1 → step ≡ suc k → fault ≡ (if list_any (has_name name) parts.operators then NotApplicable step else NoOperator step) → k < length names → first_fault parts names (length names) ≡ Some fault
stuck_fault parts names links k cost state name found step fault alone at is short step_is fault_is lt =
    let none : candidates parts state name ≡ [] = sym is ∙ empty found short in
    first_fault_is parts names k (length names) fault alone.no_fault
    (alone_stuck parts names links k cost state name alone at none ∙ sym (ap Some (fault_is ∙ ap (λ n. if list_any (has_name name) parts.operators then NotApplicable n else NoOperator n) step_is)))
    lt
  where
    empty : (xs : List ℕ) → length xs < 1 → xs ≡ []
    empty [] lt = refl
    empty (x ∷ xs) lt = absurd (omega arith)

-- the one operator of a list
pub one_is : (xs : List ℕ) → 1 ≤ length xs → length xs < 2 → xs ≡ slice_index xs 0 ∷ []
one_is [] low high = absurd (omega arith)
one_is (x ∷ []) low high = refl
one_is (x ∷ y ∷ xs) low high = absurd (omega arith)

-- can be taken
pub one_applicable : (parts : Parts) (state name xs : List ℕ) → xs ≡ candidates parts state name → 1 ≤ length xs → length xs < 2 → is_applicable parts state (slice_index xs 0) ≡ true
one_applicable parts state name xs is low high =
    let all : list_all (is_applicable parts state) (slice_index xs 0 ∷ []) ≡ true = ap (list_all (is_applicable parts state)) (sym (one_is xs low high) ∙ is) ∙ candidates-applicable parts state name in
    (both (is_applicable parts state (slice_index xs 0)) true all).0

-- a layer of one pair
pub after_alone : (parts : Parts) (layout : Places) (names : List (List ℕ)) (links : List Link) (k cost : ℕ) (state : List ℕ) (pairs : List (List ℕ)) → IsAlone parts names links k state cost → pairs ≡ pair_words layout state cost ∷ [] →
    IsAfter parts layout names links (k - 1) k pairs
after_alone parts layout names links k cost state pairs alone are =
    let ends_one : ends parts (take k names) ≡ alone.ops ∷ [] = ap (one_each parts) alone.only in
    let words : pair_words layout state cost ≡ end_words parts layout alone.ops = words_at_end parts layout alone.ops state cost alone.reached.end in
    let layer : IsLayer parts layout links (k - 1) k pairs (alone.ops ∷ []) = record {
      words = are ∙ ap (λ w. w ∷ []) words;
      leads = λ place ops at. only_one place ops at;
    } in
    record {
      layer = subst (IsLayer parts layout links (k - 1) k pairs) (sym ends_one) layer;
      together = alone.long ∙ sym alone.together;
      below = let one : length pairs ≡ 1 = ap length are in omega (arith, one, alone.long);
    }
  where
    only_one : (place : ℕ) (ops : List ℕ) → slice_get (alone.ops ∷ []) place ≡ Some ops → Leads links k (k - 1 + place) ops
    only_one zero ops at = let is : alone.ops ≡ ops = cc in let here : k - 1 ≡ k - 1 + 0 = omega arith in subst (λ n. Leads links k n ops) here (subst (Leads links k (k - 1)) is alone.reached.leads)
    only_one (suc place) ops at = let none : ◌≡◌ {A = Option (List ℕ)} None (Some ops) = at in cc

-- a state that was reached can be packed
pub alone_held : (parts : Parts) (layout : Places) (names : List (List ℕ)) (links : List Link) (k cost : ℕ) (state : List ℕ) → IsWellFormed parts → IsFor layout parts → IsAlone parts names links k state cost → CanHold layout state
alone_held parts layout names links k cost state formed for alone = subst (CanHold layout) (sym alone.reached.end.state_is) (for.holds (last_state parts alone.ops) (last_state-state parts alone.ops formed))

-- the layer of the one pair that was reached
pub first_layer : (parts : Parts) (layout : Places) (names : List (List ℕ)) (links : List Link) (k cost : ℕ) (state own : List ℕ) → IsAlone parts names links k state cost → own ≡ state →
    (old now : List (List ℕ)) (new : Bool) → old ≡ [] → new ≡ not (list_any (bytes_eq (pair_words layout own cost)) old) → now ≡ (if new then (old ++ pair_words layout own cost ∷ []) else old) → IsAfter parts layout names links (k - 1) k now
first_layer parts layout names links k cost state own alone same old now new none told added =
    after_alone parts layout names links k cost state now alone (added_first old now new (pair_words layout own cost) none told added ∙ ap (λ (s : List ℕ). pair_words layout s cost ∷ []) same)

-- a layer that was made, or for which there was no room
module _ (parts : Parts) (layout : Places) (names : List (List ℕ)) (links now : List Link) (first k : ℕ) (pairs more : List (List ℕ)) (name : List ℕ) (at : slice_get names k ≡ Some name) (after : IsAfter parts layout names links first k pairs) where
  as_many : IsGrown parts layout names now (length links) (suc k) more → length more ≡ pairs_after parts names (suc k)
  as_many grown = ap length grown.layer.words ∙ length-map (ends parts (take (suc k) names)) (end_words parts layout)

  together_is : IsGrown parts layout names now (length links) (suc k) more → length now ≡ pairs_up_to parts names (suc k)
  together_is grown = let many = as_many grown in omega (arith, many, grown.fits, after.together)

  after_grown : IsGrown parts layout names now (length links) (suc k) more → IsAfter parts layout names now (length links) (suc k) more
  after_grown grown = record { layer = grown.layer; together = together_is grown; below = omega (arith, grown.fits) }

  fault_some : IsGrown parts layout names now (length links) (suc k) more → 0 < length more → fault_after parts names k ≡ (if nat_lt 67108864 (length now) then Some (TooMany (suc k)) else None)
  fault_some grown some =
      let many = as_many grown in
      let together = together_is grown in
      elim (nat_lt 67108864 (length now)) as (λ b. nat_lt 67108864 (length now) ≡ b → fault_after parts names k ≡ (if b then Some (TooMany (suc k)) else None)) [
        | true ↦ λ is.
            let more_than : 67108864 < length now = grind (arith, nat_tests, is) in
            fault_many parts names k name at (omega (arith, many, some)) (many_together (pairs_after parts names (suc k)) (pairs_up_to parts names (suc k)) (omega (arith, together, more_than)))
        | false ↦ λ is.
            let at_most : length now ≤ 67108864 = grind (arith, nat_tests, is) in
            fault_none parts names k name at (omega (arith, many, some)) (not_many (pairs_after parts names (suc k)) (pairs_up_to parts names (suc k)) (omega (arith, many, grown.few)) (omega (arith, together, at_most)))
      ] refl

  fault_is : (room : Bool) → MatchBool room (IsGrown parts layout names now (length links) (suc k) more) (65536 < pairs_after parts names (suc k)) → fault_after parts names k ≡ told_fault parts name (suc k) room (length more) (length now)
  fault_is true grown =
      let many = as_many grown in
      elim (nat_eq (length more) 0) as (λ b. nat_eq (length more) 0 ≡ b →
      fault_after parts names k ≡ (if b then Some (if list_any (has_name name) parts.operators then NotApplicable (suc k) else NoOperator (suc k)) else (if nat_lt 67108864 (length now) then Some (TooMany (suc k)) else None))) [
        | true ↦ λ is. let none : length more ≡ 0 = grind (arith, nat_tests, is) in fault_empty parts names k name at (omega (arith, many, none))
        | false ↦ λ is. let some : 0 < length more = grind (arith, nat_tests, is) in fault_some grown some
      ] refl
  fault_is false many = fault_many parts names k name at (omega (arith, many)) (many_pairs (pairs_after parts names (suc k)) (pairs_up_to parts names (suc k)) many)

  module _ (room : Bool) (filled : MatchBool room (IsGrown parts layout names now (length links) (suc k) more) (65536 < pairs_after parts names (suc k))) (step pairs_told together : ℕ) (told : Option PlanFault)
      (before : first_fault parts names k ≡ None) (step_is : step ≡ suc k) (pairs_is : pairs_told ≡ length more) (links_is : together ≡ length now) (told_is : told ≡ told_fault parts name step room pairs_told together) where
    told_after : told ≡ fault_after parts names k
    told_after =
        told_is ∙ ap (λ n. told_fault parts name n room pairs_told together) step_is ∙ ap (λ n. told_fault parts name (suc k) room n together) pairs_is ∙ ap (λ n. told_fault parts name (suc k) room (length more) n) links_is ∙ sym (fault_is room filled)

    -- something is wrong
    pub next_refused : (fault : PlanFault) → told ≡ Some fault → k < length names → first_fault parts names (length names) ≡ Some fault
    next_refused fault is lt = first_fault_is parts names k (length names) fault before (sym told_after ∙ is) lt

    -- nothing is
    pub next_faultless : told ≡ None → first_fault parts names (suc k) ≡ None
    next_faultless is = no_fault_more parts names k before (sym told_after ∙ is)

    had_room : (b : Bool) → None ≡ told_fault parts name step b pairs_told together → b ≡ true
    had_room true is = refl
    had_room false is = let clash : ◌≡◌ {A = Option PlanFault} None (Some (TooMany step)) = is in cc

    pub next_after : told ≡ None → IsAfter parts layout names now (length links) (suc k) more
    next_after is = after_grown (subst (λ b. MatchBool b (IsGrown parts layout names now (length links) (suc k) more) (65536 < pairs_after parts names (suc k))) (had_room room (sym is ∙ told_is)) filled)

    few_links : (b : Bool) → b ≡ true → None ≡ told_fault parts name step b pairs_told together → together ≤ 67108864
    few_links false clash is = absurd (cc)
    few_links true room_is is =
        elim (nat_eq pairs_told 0) as (λ b. None ≡ (if b then Some (if list_any (has_name name) parts.operators then NotApplicable step else NoOperator step) else (if nat_lt 67108864 together then Some (TooMany step) else None)) → together ≤ 67108864) [
          | true ↦ λ e. let clash : ◌≡◌ {A = Option PlanFault} None (Some (if list_any (has_name name) parts.operators then NotApplicable step else NoOperator step)) = e in absurd (cc)
          | false ↦ λ e. elim (nat_lt 67108864 together) as (λ b. nat_lt 67108864 together ≡ b → None ≡ (if b then Some (TooMany step) else None) → together ≤ 67108864) [
            | true ↦ λ over clash. let none : ◌≡◌ {A = Option PlanFault} None (Some (TooMany step)) = clash in absurd (cc)
            | false ↦ λ under same. grind (arith, nat_tests, under)
          ] refl e
        ] is

    pub next_few : told ≡ None → length now ≤ 67108864
    next_few is = let few = few_links room (had_room room (sym is ∙ told_is)) (sym is ∙ told_is) in omega (arith, few, links_is)
