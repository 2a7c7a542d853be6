-- Nodes are landmarks, and what the rules give holds in every plan.
use Rattle.std.proofs.Common.{◌≡◌, ◌∙◌, sym, ap, subst, refl, ℕ, zero, suc, List, [], ◌∷◌, ◌++◌, ◌||◌, length, Bool, true, false, slice_get, inl, inr, arith}
use Rattle.std.specs.List.{list_all}
use Rattle.std.proofs.lemmas.Bool.{and_from, both_ways, false_from_ne_true}
use Rattle.std.proofs.lemmas.List.Folds.{list_all-append}
use Rattle.std.proofs.lemmas.Option.{same_Some}
use Rattle.lama_num.proofs.ListLaws.{list_all_get, slice_get-append_last}
use Rattle.sas_task.proofs.RunLaws.{states_of-join, goal-facts, operator-at, effect-tests}
use Rattle.sas_task.specs.Runs.{start_of}
use Rattle.sas_task.specs.States.{holds}
use Rattle.sas_task.specs.WellFormed.{IsWellFormed, is_fact, is_effect}
use Rattle.sas_task.specs.declared.contents.Fact.{Fact}
use Rattle.sas_task.specs.declared.contents.Parts.{Parts}
use Rattle.relaxed_task.specs.Facts.{over_facts}
use Rattle.relaxed_task.proofs.PlanLaws.{all_has, all_from}
use Rattle.lm_backchain.specs.Backchain.{has, is_open, conditions_of, IsPossibleFirst, GivesGreedy, shared, one_of, GivesNatural, unreached, IsNode, goal, back}
use Rattle.lm_backchain.specs.Landmarks.{node_holds, HoldsAt, HoldsFirstAt, Landmark, GreedyNecessary, Natural}
use Rattle.lm_backchain.proofs.FactLists.{any_has, has_one, has_self}
use Rattle.lm_backchain.proofs.Runs.{run_first}
use Rattle.lm_backchain.proofs.FirstHolding.{first, possible, reached_next, first_or_none, open_plain, open_start, open_fact}

-- conditions of a possible first achiever are facts of the task
pub first_facts : (parts : Parts) (node conds : List Fact) → IsWellFormed parts → IsPossibleFirst parts node conds → list_all (is_fact parts.variables) conds ≡ true
first_facts parts node conds formed p =
    let tests = operator-at parts p.op p.operator formed p.at in
    let own = effect-tests parts.variables p.effect (list_all_get (is_effect parts.variables) p.operator.effects p.place p.effect tests.effects p.effect_at) in
    ap (list_all (is_fact parts.variables)) p.conds_are ∙ (list_all-append (is_fact parts.variables) p.operator.pre p.effect.conds ∙ and_from _ _ tests.pre own.conds)

pub greedy_facts : (parts : Parts) (a b : List Fact) → IsWellFormed parts → GivesGreedy parts a b → list_all (is_fact parts.variables) a ≡ true
greedy_facts parts a b formed (shared {fact = f} free s) =
    and_from _ _ (all_has over_facts (is_fact parts.variables) s.some f (first_facts parts b s.some formed s.possible) (s.every s.some s.possible)) refl
greedy_facts parts a b formed (one_of free s) = all_from over_facts (is_fact parts.variables) a (λ f h.
    let w = s.only f h in
    all_has over_facts (is_fact parts.variables) w.conds f (first_facts parts b w.conds formed w.possible) w.asked)

-- so are those of each node
pub node_facts : (parts : Parts) (a : List Fact) → IsWellFormed parts → IsNode parts a → list_all (is_fact parts.variables) a ≡ true
node_facts parts a formed (goal {fact = f} h) = all_from over_facts (is_fact parts.variables) (f ∷ []) (λ g own.
    all_has over_facts (is_fact parts.variables) parts.goal g (goal-facts parts formed) (subst (λ x. has parts.goal x ≡ true) (sym (has_one f g own)) h))
node_facts parts a formed (back {b = b} d g) = greedy_facts parts a b formed g

-- what the first two rules give holds directly before
pub greedy_sound : (parts : Parts) (a b : List Fact) → IsWellFormed parts → IsNode parts b → GivesGreedy parts a b → GreedyNecessary parts a b
greedy_sound parts a b formed node (shared {fact = f} free s) ops states plan i h =
    let w = first parts formed ops states plan.run b free (node_facts parts b formed node) i h in
    let p = possible parts formed ops states plan.run b free i h w in
    record { state = w.state; at = w.at; holds = any_has (holds w.state) (f ∷ []) f (has_self f) (all_has over_facts (holds w.state) (conditions_of w.gain.operator w.gain.effect) f w.gain.hold (s.every (conditions_of w.gain.operator w.gain.effect) p)) }
greedy_sound parts a b formed node (one_of free s) ops states plan i h =
    let w = first parts formed ops states plan.run b free (node_facts parts b formed node) i h in
    let p = possible parts formed ops states plan.run b free i h w in
    let conds = conditions_of w.gain.operator w.gain.effect in
    let c = s.every conds p in
    let own = s.all c.0 (record { is_of = c.2; conds = conds; possible = p; asked = c.1 }) in
    record { state = w.state; at = w.at; holds = any_has (holds w.state) a c.0 own (all_has over_facts (holds w.state) conds c.0 w.gain.hold c.1) }

-- what the third rule gives holds some time before
pub natural_sound : (parts : Parts) (a b : List Fact) → IsWellFormed parts → IsNode parts b → GivesNatural parts a b → Natural parts a b
natural_sound parts a b formed node (unreached {b = x} {c = y} free other_free ne never) ops states plan i h =
    elim (first_or_none states (x ∷ []) (suc i)) [
      | inl found ↦ (found.0, omega (arith, found.1), found.2.here)
      | inr none ↦
          let there = all_has over_facts (is_fact parts.variables) (y ∷ []) y (node_facts parts (y ∷ []) formed node) (has_self y) in
          let held : holds h.here.state y ≡ true = one_holds h.here.state y h.here.holds in
          let out : has (x ∷ []) y ≡ false = false_from_ne_true _ (λ own. ne (sym (has_one x y own))) in
          absurd (never (reached_next parts formed ops states plan.run (x ∷ []) (open_plain parts (x ∷ []) free) i h.here.state h.here.at none y there (open_fact parts (y ∷ []) y other_free (has_self y)).0 held out))
    ]
  where
    one_holds : (state : List ℕ) (f : Fact) → node_holds state (f ∷ []) ≡ true → holds state f ≡ true
    one_holds state f h = by (holds state f) h
      where
        by : (b : Bool) → (b || false) ≡ true → b ≡ true
        by true h = h
        by false h = h

-- what holds directly before an open landmark is a landmark
back_sound : (parts : Parts) (a b : List Fact) → is_open parts b ≡ true → GreedyNecessary parts a b → Landmark parts b → Landmark parts a
back_sound parts a b free order mark ops states plan =
    let m = mark ops states plan in
    elim (first_or_none states b (suc m.0)) [
      | inl found ↦ by found.0 found.2
      | inr none ↦ absurd (both_ways _ (none.each m.0 m.1.state (omega arith) m.1.at) m.1.holds)
    ]
  where
    by : (k : ℕ) → HoldsFirstAt states b k → (i : ℕ) × HoldsAt states a i
    by zero h =
        let e : start_of parts ≡ h.here.state = same_Some _ _ (sym (run_first parts (start_of parts) ops states plan.run) ∙ h.here.at) in
        absurd (both_ways _ (subst (λ s. node_holds s b ≡ false) e (open_start parts b free)) h.here.holds)
    by (suc i) h = (i, order ops states plan i h)

pub greedy_open : (parts : Parts) (a b : List Fact) → GivesGreedy parts a b → is_open parts b ≡ true
greedy_open parts a b (shared free s) = free
greedy_open parts a b (one_of free s) = free

-- each node is a landmark
pub node_sound : (parts : Parts) (a : List Fact) → IsWellFormed parts → IsNode parts a → Landmark parts a
node_sound parts a formed (goal {fact = f} h) = λ ops states plan.
    let e = states_of-join parts (start_of parts) ops plan.plan.last plan.plan.leads in
    let same : e.before ++ plan.plan.last ∷ [] ≡ states = same_Some _ _ (sym e.states ∙ plan.run) in (
      length e.before,
      record {
        state = plan.plan.last;
        at = ap (λ ss. slice_get ss (length e.before)) (sym same) ∙ slice_get-append_last e.before plan.plan.last;
        holds = any_has (holds plan.plan.last) (f ∷ []) f (has_self f) (all_has over_facts (holds plan.plan.last) parts.goal f plan.plan.goal h);
      },
    )
node_sound parts a formed (back {b = b} d g) = back_sound parts a b (greedy_open parts a b g) (greedy_sound parts a b formed d g) (node_sound parts b formed d)
