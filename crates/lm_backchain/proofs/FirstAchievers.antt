-- The possible first achievers are found one after the other.
use Rattle.std.proofs.Common.{◌≡◌, ◌∙◌, sym, ap, subst, ℕ, ◌+◌, ◌≤◌, List, [], ◌∷◌, ◌++◌, length, take, true, false, nat_eq, IsTrue, Some, slice_get, inl, inr, ◌⊎◌, arith}
use Rattle.std.specs.List.{list_all}
use Rattle.std.proofs.lemmas.Bool.{and_parts, or_cases, or_left, or_right, cases_eq, eqb-true}
use Rattle.std.proofs.lemmas.List.Folds.{list_all-append, list_any-append}
use Rattle.std.proofs.lemmas.Option.{same_Some, slice_get_within}
use Rattle.lama_num.proofs.ListLaws.{list_all_get}
use Rattle.sas_task.proofs.RunLaws.{operator-at, effect-tests, start-state}
use Rattle.sas_task.specs.Runs.{start_of}
use Rattle.sas_task.specs.States.{IsState}
use Rattle.sas_task.specs.declared.contents.CostKind.{CostKind}
use Rattle.sas_task.specs.declared.contents.CostKind.TheVariants.{One}
use Rattle.sas_task.specs.WellFormed.{is_fact, is_effect}
use Rattle.sas_task.specs.declared.contents.Effect.{Effect}
use Rattle.sas_task.specs.declared.contents.Fact.{Fact}
use Rattle.sas_task.specs.declared.contents.Operator.{Operator}
use Rattle.sas_task.specs.declared.contents.Parts.{Parts}
use Rattle.relaxed_task.specs.Facts.{over_facts}
use Rattle.relaxed_task.specs.Numbers.{is_among}
use Rattle.relaxed_task.proofs.PlanLaws.{has_append}
use Rattle.relaxed_task.specs.Reached.{IsReached}
use Rattle.relaxed_task.specs.Relaxations.{IsRelaxed}
use Rattle.h_add.specs.Values.{Evaluator, IsEvaluated}
use Rattle.sas_task.specs.WellFormed.{IsWellFormed}
use Rattle.std.proofs.lemmas.Bool.{and_from}
use Rattle.lm_backchain.specs.Backchain.{has, conditions_of, Among, IsPossibleFirst}
use Rattle.lm_backchain.specs.Firsts.{Knows, AreReached, Achieves, IsIn, HasFirsts, AreFirsts}
use Rattle.lm_backchain.specs.Givers.{AreGivers}
use Rattle.lm_backchain.proofs.FactLists.{has_one}
use Rattle.lm_backchain.proofs.GivingOperators.{given_there}
use Rattle.lm_backchain.proofs.ListLaws.{among_front, among_back, among_cases, among_one, among_itself, among_none, take_more_at}

-- the conditions of an effect of the task are its facts
pub conditions_there : (parts : Parts) (op place : ℕ) (o : Operator) (e : Effect) → IsWellFormed parts → slice_get parts.operators op ≡ Some o → slice_get o.effects place ≡ Some e → list_all (is_fact parts.variables) (conditions_of o e) ≡ true
conditions_there parts op place o e formed at own =
    let tests = operator-at parts op o formed at in
    let effect = effect-tests parts.variables e (list_all_get (is_effect parts.variables) o.effects place e tests.effects own) in
    list_all-append (is_fact parts.variables) o.pre e.conds ∙ and_from _ _ tests.pre effect.conds

-- all conditions are reached where the operator's and the effect's are
pub both_reached : (parts : Parts) (node : List Fact) (o : Operator) (e : Effect) → AreReached parts node o.pre → AreReached parts node e.conds → AreReached parts node (conditions_of o e)
both_reached parts node o e pre own f h = elim (or_cases (has o.pre f) (has e.conds f) (sym (has_append over_facts o.pre e.conds f) ∙ h)) [ inl l ↦ pre f l | inr r ↦ own f r ]

pub pre_reached : (parts : Parts) (node : List Fact) (o : Operator) (e : Effect) → AreReached parts node (conditions_of o e) → AreReached parts node o.pre
pre_reached parts node o e all f h = all f (has_append over_facts o.pre e.conds f ∙ or_left _ _ h)

pub own_reached : (parts : Parts) (node : List Fact) (o : Operator) (e : Effect) → AreReached parts node (conditions_of o e) → AreReached parts node e.conds
own_reached parts node o e all f h = all f (has_append over_facts o.pre e.conds f ∙ or_right (has o.pre f) _ h)

-- one fact more is reached
pub reached_more : (parts : Parts) (node facts : List Fact) (i : ℕ) (f : Fact) → slice_get facts i ≡ Some f → AreReached parts node (take i facts) → IsReached parts (start_of parts) node f → AreReached parts node (take (i + 1) facts)
reached_more parts node facts i f at all own g h =
    elim (or_cases (has (take i facts) g) (has (f ∷ []) g) (sym (has_append over_facts (take i facts) (f ∷ []) g) ∙ subst (λ xs. has xs g ≡ true) (take_more_at facts i f at) h)) [
      | inl l ↦ all g l
      | inr r ↦ subst (IsReached parts (start_of parts) node) (sym (has_one f g r)) own
    ]

pub front_facts : (parts : Parts) (o : Operator) (e : Effect) → list_all (is_fact parts.variables) (conditions_of o e) ≡ true → (list_all (is_fact parts.variables) o.pre ≡ true) × (list_all (is_fact parts.variables) e.conds ≡ true)
front_facts parts o e all = let p = and_parts _ _ (sym (list_all-append (is_fact parts.variables) o.pre e.conds) ∙ all) in (p.0, p.1)

-- what an evaluation without a node's facts tells
pub knows_from : (parts : Parts) (node : List Fact) (start : List ℕ) (old new : Evaluator) → start ≡ start_of parts → IsRelaxed parts One old.relaxed → new.relaxed ≡ old.relaxed → list_all (is_fact parts.variables) node ≡ true →
    ((p : Parts) (kind : CostKind) → IsRelaxed p kind old.relaxed → IsState p.variables start → IsTrue (list_all (is_fact p.variables) node) → IsEvaluated p kind start node new.costs) → Knows parts node new
knows_from parts node start old new is relaxed same there evaluated =
    let of : IsState parts.variables start = subst (IsState parts.variables) (sym is) (start-state parts relaxed.well_formed) in
    record {
      relaxed = subst (IsRelaxed parts One) (sym same) relaxed;
      evaluated = subst (λ s. IsEvaluated parts One s node new.costs) is (evaluated parts One relaxed of there);
    }

pub no_firsts : (parts : Parts) (node : List Fact) (next : ℕ) → HasFirsts parts node [] next 0 []
no_firsts parts node next = record {
  each = λ conds m. absurd (among_none conds m);
  all = λ conds first h. elim h [ inl there ↦ let k : false ≡ true = there in absurd (cc) | inr p ↦ let lt = p.1 in absurd (omega (arith, lt)) ];
}

-- which effect a possible first achiever is of
in_cases : (done : List ℕ) (end_op end_place op place : ℕ) → IsIn done end_op (end_place + 1) op place → IsIn done end_op end_place op place ⊎ ((op ≡ end_op) × (place ≡ end_place))
in_cases done end_op end_place op place (inl there) = inl (inl there)
in_cases done end_op end_place op place (inr p) = elim (cases_eq place end_place) [
  | inl e ↦ inr (p.0, e)
  | inr ne ↦ let lt = p.1 in inl (inr (p.0, omega (arith, ne, lt)))
]

module _ (parts : Parts) (node : List Fact) (op place : ℕ) (o : Operator) (e : Effect) (at : slice_get parts.operators op ≡ Some o) (own : slice_get o.effects place ≡ Some e) where
  -- the effect at a place
  same_operator : (conds : List Fact) (first : IsPossibleFirst parts node conds) → first.op ≡ op → o ≡ first.operator
  same_operator conds first same = same_Some _ _ (sym at ∙ (ap (slice_get parts.operators) (sym same) ∙ first.at))

  same_effect : (conds : List Fact) (first : IsPossibleFirst parts node conds) → first.op ≡ op → first.place ≡ place → e ≡ first.effect
  same_effect conds first same there =
      let so = same_operator conds first same in
      same_Some _ _ (sym own ∙ (ap (λ (p : Operator). slice_get p.effects place) so ∙ (ap (slice_get first.operator.effects) (sym there) ∙ first.effect_at)))

  pub firsts_more : (done : List ℕ) (lists : List (List Fact)) → HasFirsts parts node done op place lists → Achieves parts node o e → HasFirsts parts node done op (place + 1) (lists ++ conditions_of o e ∷ [])
  firsts_more done lists h achieves = record {
    each = λ conds m. elim (among_cases lists (conditions_of o e ∷ []) conds m) [
      | inl l ↦ h.each conds l
      | inr r ↦ record {
        op = op;
        operator = o;
        at = at;
        place = place;
        effect = e;
        effect_at = own;
        gives = achieves.gives;
        conds_are = among_one (conditions_of o e) conds r;
        reached = λ f asked. achieves.reached f (subst (λ cs. has cs f ≡ true) (among_one (conditions_of o e) conds r) asked);
      }
    ];
    all = λ conds first in_it. elim (in_cases done op place first.op first.place in_it) [
      | inl before ↦ among_front lists _ conds (h.all conds first before)
      | inr p ↦
          let so = same_operator conds first p.0 in
          let se = same_effect conds first p.0 p.1 in
          let is : conditions_of o e ≡ conds = ap (λ (q : Operator). conditions_of q e) so ∙ (ap (λ (x : Effect). conditions_of first.operator x) se ∙ sym first.conds_are) in
          among_back lists _ conds (subst (λ cs. Among (conditions_of o e ∷ []) cs) is (among_itself (conditions_of o e)))
    ];
  }

  pub firsts_same : (done : List ℕ) (lists : List (List Fact)) → HasFirsts parts node done op place lists → (Achieves parts node o e → ⊥) → HasFirsts parts node done op (place + 1) lists
  firsts_same done lists h none = record {
    each = h.each;
    all = λ conds first in_it. elim (in_cases done op place first.op first.place in_it) [
      | inl before ↦ h.all conds first before
      | inr p ↦
          let so = same_operator conds first p.0 in
          let se = same_effect conds first p.0 p.1 in
          let is : conds ≡ conditions_of o e = first.conds_are ∙ (ap (λ (x : Effect). conditions_of first.operator x) (sym se) ∙ ap (λ (q : Operator). conditions_of q e) (sym so)) in
          absurd (none (record {
            gives = subst (λ (x : Effect). has node x.fact ≡ true) (sym se) first.gives;
            reached = λ f asked. first.reached f (subst (λ cs. has cs f ≡ true) (sym is) asked);
          }))
    ];
  }

-- on to the next operator
pub firsts_next : (parts : Parts) (node : List Fact) (done : List ℕ) (op n next : ℕ) (o : Operator) (lists : List (List Fact)) → slice_get parts.operators op ≡ Some o → length o.effects ≤ n → HasFirsts parts node done op n lists →
    HasFirsts parts node (done ++ op ∷ []) next 0 lists
firsts_next parts node done op n next o lists at all h = record {
  each = h.each;
  all = λ conds first in_it. h.all conds first (elim in_it [
    | inl there ↦ by conds first (or_cases (is_among done first.op) (is_among (op ∷ []) first.op) (sym (list_any-append (nat_eq first.op) done (op ∷ [])) ∙ there))
    | inr p ↦ let lt = p.1 in absurd (omega (arith, lt))
  ]);
}
  where
    by : (conds : List Fact) (first : IsPossibleFirst parts node conds) → (is_among done first.op ≡ true) ⊎ (is_among (op ∷ []) first.op ≡ true) → IsIn done op n first.op first.place
    by conds first (inl there) = inl there
    by conds first (inr own) =
        let e : first.op ≡ op = elim (or_cases (nat_eq first.op op) false own) [ inl is ↦ eqb-true first.op op is | inr none ↦ absurd (cc) ] in
        let so : o ≡ first.operator = same_Some _ _ (sym at ∙ (ap (slice_get parts.operators) (sym e) ∙ first.at)) in
        let lt = slice_get_within first.operator.effects first.place first.effect first.effect_at in
        let same = ap (λ (q : Operator). length q.effects) so in
        inr (e, omega (arith, lt, same, all))

pub firsts_done : (parts : Parts) (node : List Fact) (ops : List ℕ) (lists : List (List Fact)) → AreGivers parts node ops → HasFirsts parts node ops 0 0 lists → AreFirsts parts node lists
firsts_done parts node ops lists are h = record {
  each = h.each;
  all = λ conds first. h.all conds first (inl (given_there parts node ops first.op first.place first.operator first.effect are first.at first.effect_at first.gives));
}

-- the initial state has a value for each variable
pub start_long : (parts : Parts) (start : List ℕ) → IsWellFormed parts → start ≡ start_of parts → length start ≡ length parts.variables
start_long parts start formed is = ap length is ∙ (start-state parts formed).long
