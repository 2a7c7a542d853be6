-- Where a node holds first, a possible first achiever was taken.
use Rattle.std.proofs.Common.{◌≡◌, ◌∙◌, sym, ap, refl, subst, ℕ, zero, suc, ◌<◌, List, Bool, true, false, ◌&&◌, not, nat_eq, Option, Some, None, slice_get, inl, inr, ◌⊎◌, arith, length}
use Rattle.std.specs.List.{list_all}
use Rattle.std.proofs.lemmas.Bool.{and_parts, and_from, not-true, not_from_false, both_ways, false_from_ne_true, cases_eq}
use Rattle.std.proofs.lemmas.List.Folds.{list_all-append}
use Rattle.std.proofs.lemmas.Option.{same_Some, none-some}
use Rattle.lama_num.proofs.ListLaws.{list_all_get}
use Rattle.sas_task.proofs.RunLaws.{start-state, step-by, step-state, operator-at, effect-tests, settled-stays, length-written}
use Rattle.sas_task.specs.Runs.{start_of, states_of}
use Rattle.sas_task.specs.States.{IsState, holds, written, step}
use Rattle.sas_task.specs.WellFormed.{IsWellFormed, is_fact, is_effect, is_derived}
use Rattle.sas_task.specs.declared.contents.Effect.{Effect}
use Rattle.sas_task.specs.declared.contents.Fact.{Fact}
use Rattle.sas_task.specs.declared.contents.Operator.{Operator}
use Rattle.sas_task.specs.declared.contents.Parts.{Parts}
use Rattle.relaxed_task.specs.Facts.{over_facts}
use Rattle.relaxed_task.proofs.NumberLaws.{fact_within}
use Rattle.relaxed_task.proofs.PlanLaws.{all_has, all_from}
use Rattle.relaxed_task.proofs.ReachLaws.{AllReached, none_hold, are_plain, start_reached, step_reached, gained_reached}
use Rattle.relaxed_task.specs.Reached.{IsReached}
use Rattle.lm_backchain.specs.Backchain.{has, is_open, conditions_of, IsPossibleFirst}
use Rattle.lm_backchain.specs.Landmarks.{node_holds, HoldsFirstAt}
use Rattle.lm_backchain.proofs.FactLists.{any_has, has_any}
use Rattle.lm_backchain.proofs.Runs.{run_first, run_step}
use Rattle.lm_backchain.proofs.Sources.{written_source}
use Rattle.relaxed_task.proofs.ReachLaws.{Source}

-- what an open fact isn't
pub open_fact : (parts : Parts) (b : List Fact) (f : Fact) → is_open parts b ≡ true → has b f ≡ true → (is_derived parts.variables f.var ≡ false) × (holds (start_of parts) f ≡ false)
open_fact parts b f free h =
    let both = and_parts (not (is_derived parts.variables f.var)) _ (all_has over_facts (λ g. not (is_derived parts.variables g.var) && not (holds (start_of parts) g)) b f free h) in
    (not-true _ both.0, not-true _ both.1)

pub open_plain : (parts : Parts) (b : List Fact) → is_open parts b ≡ true → are_plain parts b ≡ true
open_plain parts b free = all_from over_facts (λ g. not (is_derived parts.variables g.var)) b (λ f h. not_from_false _ (open_fact parts b f free h).0)

-- an open node doesn't hold at the start
pub open_start : (parts : Parts) (b : List Fact) → is_open parts b ≡ true → node_holds (start_of parts) b ≡ false
open_start parts b free = false_from_ne_true _ (λ h.
    let r = has_any (holds (start_of parts)) b h in
    both_ways _ (open_fact parts b r.0 free r.1).1 r.2)

-- no fact of a node that doesn't hold holds
pub none_of : (b : List Fact) (state : List ℕ) → node_holds state b ≡ false → none_hold b state ≡ true
none_of b state none = all_from over_facts (λ f. not (holds state f)) b (λ f h. not_from_false _ (false_from_ne_true _ (λ held. both_ways _ none (any_has (holds state) b f h held))))

-- A step that makes a fact true took an operator with an effect that gives it, and all their conditions held before.
pub record Gained (parts : Parts) (state : List ℕ) (f : Fact) : Type 0 where
  pub op : ℕ
  pub operator : Operator
  pub at : slice_get parts.operators op ≡ Some operator
  pub place : ℕ
  pub effect : Effect
  pub effect_at : slice_get operator.effects place ≡ Some effect
  pub gives : effect.fact ≡ f
  pub hold : list_all (holds state) (conditions_of operator effect) ≡ true
  pub there : list_all (is_fact parts.variables) (conditions_of operator effect) ≡ true

gained_from : (parts : Parts) (state : List ℕ) (op : ℕ) (o : Operator) (f : Fact) → IsWellFormed parts → slice_get parts.operators op ≡ Some o → list_all (holds state) o.pre ≡ true → Source state o.effects f → Gained parts state f
gained_from parts state op o f formed at hold s =
    let tests = operator-at parts op o formed at in
    let own = effect-tests parts.variables s.effect (list_all_get (is_effect parts.variables) o.effects s.place s.effect tests.effects s.at) in
    record {
      op = op;
      operator = o;
      at = at;
      place = s.place;
      effect = s.effect;
      effect_at = s.at;
      gives = s.gives;
      hold = list_all-append (holds state) o.pre s.effect.conds ∙ and_from _ _ hold s.fires;
      there = list_all-append (is_fact parts.variables) o.pre s.effect.conds ∙ and_from _ _ tests.pre own.conds;
    }

gained : (parts : Parts) (state next : List ℕ) (op : ℕ) (f : Fact) → IsWellFormed parts → IsState parts.variables state → step parts state op ≡ Some next → is_fact parts.variables f ≡ true → is_derived parts.variables f.var ≡ false →
    holds state f ≡ false → holds next f ≡ true → Gained parts state f
gained parts state next op f formed of taken there plain before after =
    let by = step-by parts state op next taken in
    let long : length (written state by.operator.effects) ≡ length state = length-written state by.operator.effects in
    let within = fact_within parts.variables f there in
    let stays = settled-stays parts (written state by.operator.effects) f.var (omega (arith, long, within, of.long)) plain in
    let written_too : holds (written state by.operator.effects) f ≡ true = ap (λ v. nat_eq v f.val) (sym stays) ∙ (ap (λ (s : List ℕ). holds s f) (sym by.is) ∙ after) in
    elim (written_source state by.operator.effects f written_too) [
      | inl held ↦ absurd (both_ways _ before held)
      | inr source ↦ gained_from parts state op by.operator f formed by.at by.holds source
    ]

-- the node holds in no state of the run up to a place
pub record HoldsNotTo (states : List (List ℕ)) (b : List Fact) (place : ℕ) : Type 0 where
  pub each : (i : ℕ) (state : List ℕ) → i < place → slice_get states i ≡ Some state → node_holds state b ≡ false

module _ (parts : Parts) (formed : IsWellFormed parts) (ops : List ℕ) (states : List (List ℕ)) (run : states_of parts (start_of parts) ops ≡ Some states) where
  -- all states of a run are states of the task
  state_at : (i : ℕ) (state : List ℕ) → slice_get states i ≡ Some state → IsState parts.variables state
  state_at zero state at = subst (IsState parts.variables) (same_Some _ _ (sym (run_first parts (start_of parts) ops states run) ∙ at)) (start-state parts formed)
  state_at (suc i) state at =
      let s = run_step parts (start_of parts) ops states run i state at in
      step-state parts s.before s.op state formed (state_at i s.before s.at) s.taken

  -- All facts of a run's states before the node holds are reached without the node's facts.
  pub reached_at : (b : List Fact) → are_plain parts b ≡ true → (i : ℕ) (state : List ℕ) → slice_get states i ≡ Some state → HoldsNotTo states b (suc i) → AllReached parts (start_of parts) b state
  reached_at b plain zero state at none =
      let first : start_of parts ≡ state = same_Some _ _ (sym (run_first parts (start_of parts) ops states run) ∙ at) in
      let nothing : node_holds (start_of parts) b ≡ false = none.each 0 (start_of parts) (omega arith) (run_first parts (start_of parts) ops states run) in
      subst (AllReached parts (start_of parts) b) first (start_reached parts (start_of parts) b formed (start-state parts formed) plain (none_of b (start_of parts) nothing))
  reached_at b plain (suc i) state at none =
      let s = run_step parts (start_of parts) ops states run i state at in
      let before = reached_at b plain i s.before s.at (record { each = λ k other lt. none.each k other (omega arith) }) in
      step_reached parts (start_of parts) b formed (start-state parts formed) plain s.before s.op state (state_at i s.before s.at) before s.taken (none_of b state (none.each (suc i) state (omega arith) at))

  -- where an open node holds first past the start, one of its facts was gained in the step there
  pub record First (b : List Fact) (i : ℕ) : Type 0 where
    pub state : List ℕ
    pub at : slice_get states i ≡ Some state
    pub fact : Fact
    pub own : has b fact ≡ true
    pub gain : Gained parts state fact

  pub first : (b : List Fact) → is_open parts b ≡ true → list_all (is_fact parts.variables) b ≡ true → (i : ℕ) → HoldsFirstAt states b (suc i) → First b i
  first b free there i h =
      let s = run_step parts (start_of parts) ops states run i h.here.state h.here.at in
      let f = has_any (holds h.here.state) b h.here.holds in
      let none = h.before i s.before (omega arith) s.at in
      let before = false_from_ne_true _ (λ held. both_ways _ none (any_has (holds s.before) b f.0 f.1 held)) in
      record {
        state = s.before;
        at = s.at;
        fact = f.0;
        own = f.1;
        gain = gained parts s.before h.here.state s.op f.0 formed (state_at i s.before s.at) s.taken (all_has over_facts (is_fact parts.variables) b f.0 there f.1) (open_fact parts b f.0 free f.1).0 before f.2;
      }

  -- and by a possible first achiever
  pub possible : (b : List Fact) → is_open parts b ≡ true → (i : ℕ) → HoldsFirstAt states b (suc i) → (s : First b i) → IsPossibleFirst parts b (conditions_of s.gain.operator s.gain.effect)
  possible b free i h s =
      let all = reached_at b (open_plain parts b free) i s.state s.at (record { each = h.before }) in
      record {
        op = s.gain.op;
        operator = s.gain.operator;
        at = s.gain.at;
        place = s.gain.place;
        effect = s.gain.effect;
        effect_at = s.gain.effect_at;
        gives = subst (λ f. has b f ≡ true) (sym s.gain.gives) s.own;
        conds_are = refl;
        reached = λ c own. all.each c
            (all_has over_facts (is_fact parts.variables) (conditions_of s.gain.operator s.gain.effect) c s.gain.there own)
            (all_has over_facts (holds s.state) (conditions_of s.gain.operator s.gain.effect) c s.gain.hold own);
      }

  -- A plain fact that isn't one of the node's and holds directly after states in which the node doesn't is reached without the node's.
  pub reached_next : (b : List Fact) → are_plain parts b ≡ true → (i : ℕ) (next : List ℕ) → slice_get states (suc i) ≡ Some next → HoldsNotTo states b (suc i) →
      (f : Fact) → is_fact parts.variables f ≡ true → is_derived parts.variables f.var ≡ false → holds next f ≡ true → has b f ≡ false → IsReached parts (start_of parts) b f
  reached_next b plain i next at none f there plain_var held out =
      let s = run_step parts (start_of parts) ops states run i next at in
      gained_reached parts (start_of parts) b formed (start-state parts formed) plain s.before s.op next f (state_at i s.before s.at) (reached_at b plain i s.before s.at none) s.taken there held plain_var out

-- A node holds first somewhere below a place, or nowhere below it.
pub first_or_none : (states : List (List ℕ)) (b : List Fact) (n : ℕ) → ((k : ℕ) × (k < n) × HoldsFirstAt states b k) ⊎ HoldsNotTo states b n
first_or_none states b zero = inr (record { each = λ i state lt at. absurd (omega arith) })
first_or_none states b (suc n) = elim (first_or_none states b n) [
  | inl found ↦ inl (found.0, omega (arith, found.1), found.2)
  | inr none ↦ by none (slice_get states n) refl
]
  where
    more : HoldsNotTo states b n → ((state : List ℕ) → slice_get states n ≡ Some state → node_holds state b ≡ false) → HoldsNotTo states b (suc n)
    more none here = record {
      each = λ i state lt at. elim (cases_eq i n) [
        | inl e ↦ here state (subst (λ j. slice_get states j ≡ Some state) e at)
        | inr ne ↦ none.each i state (omega (arith, ne)) at
      ];
    }

    inner : HoldsNotTo states b n → (state : List ℕ) → slice_get states n ≡ Some state → (v : Bool) → node_holds state b ≡ v → ((k : ℕ) × (k < suc n) × HoldsFirstAt states b k) ⊎ HoldsNotTo states b (suc n)
    inner none state at true is = inl (n, omega arith, record { here = record { state = state; at = at; holds = is }; before = none.each })
    inner none state at false is = inr (more none (λ s there. subst (λ t. node_holds t b ≡ false) (same_Some _ _ (sym at ∙ there)) is))

    by : HoldsNotTo states b n → (o : Option (List ℕ)) → slice_get states n ≡ o → ((k : ℕ) × (k < suc n) × HoldsFirstAt states b k) ⊎ HoldsNotTo states b (suc n)
    by none None at = inr (more none (λ s there. absurd (none-some s (sym at ∙ there))))
    by none (Some state) at = inner none state at (node_holds state b) refl
