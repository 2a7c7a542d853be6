-- What steps and runs of a well-formed task need.
use Rattle.std.proofs.Common.{◌≡◌, ◌∙◌, refl, ℕ, ◌+◌, ◌-◌, ◌<◌, ◌≤◌, List, [], ◌∷◌, length, take, get_or, true, false, Some, IsTrue, arith, slice_get}
use Rattle.std.specs.List.{list_all}
use Rattle.std.proofs.lemmas.List.{take_more}
use Rattle.lama_num.proofs.ListLaws.{both}
use Rattle.sas_task.specs.declared.contents.Variable.{Variable}
use Rattle.sas_task.specs.declared.contents.Effect.{Effect}
use Rattle.sas_task.specs.declared.contents.Operator.{Operator}
use Rattle.sas_task.specs.declared.contents.Parts.{Parts}
use Rattle.sas_task.specs.WellFormed.{IsWellFormed, is_effect, are_facts}
use Rattle.sas_task.specs.States.{step}
use Rattle.sas_task.specs.Runs.{start_of, end_of, cost_of, cost_at}
use Rattle.sas_task.proofs.RunLaws.{operator-at, effect-fact, end_of-append, cost_of-append}
use Rattle.axiom_eval.specs.Within.{is_within}
use Rattle.sas_task.proofs.WithinLaws.{facts_within}
use Rattle.sas_task.proofs.WithinLaws.{all_facts_within}
use Rattle.sas_task.proofs.WithinLaws.{fact_within}
use Rattle.state_step.specs.Steps.{effect_is_within, is_applicable}
use Rattle.state_step.specs.RunEnds.{StopsAt}

pub pre_within : (parts : Parts) (n op : ℕ) (o : Operator) → IsWellFormed parts → n ≡ length parts.variables → slice_get parts.operators op ≡ Some o → IsTrue (list_all (is_within n) o.pre)
pre_within parts n op o formed is at = rw is (all_facts_within parts.variables o.pre (operator-at parts op o formed at).pre)

all_effects_within : (variables : List Variable) (effects : List Effect) → list_all (is_effect variables) effects ≡ true → list_all (effect_is_within (length variables)) effects ≡ true
all_effects_within variables [] are = refl
all_effects_within variables (effect ∷ effects) are =
    let split = both (is_effect variables effect) (list_all (is_effect variables) effects) are in
    let conds = (both (are_facts variables effect.conds) _ split.0).0 in
    rw (facts_within variables effect.conds conds, fact_within variables effect.fact (effect-fact variables effect split.0), all_effects_within variables effects split.1) refl

pub effects_within : (parts : Parts) (n op : ℕ) (o : Operator) → IsWellFormed parts → n ≡ length parts.variables → slice_get parts.operators op ≡ Some o → IsTrue (list_all (effect_is_within n) o.effects)
effects_within parts n op o formed is at = rw is (all_effects_within parts.variables o.effects (operator-at parts op o formed at).effects)

pub goal_within : (parts : Parts) (n : ℕ) → IsWellFormed parts → n ≡ length parts.variables → IsTrue (list_all (is_within n) parts.goal)
goal_within parts n formed is = rw is (facts_within parts.variables parts.goal formed.goal)

-- a run goes on by one step
pub run_goes_on : (parts : Parts) (start ops : List ℕ) (i : ℕ) (mid next : List ℕ) → i < length ops → end_of parts start (take i ops) ≡ Some mid → step parts mid (get_or ops i 0) ≡ Some next →
    end_of parts start (take (i + 1) ops) ≡ Some next
run_goes_on parts start ops i mid next lt is steps = rw (take_more ops i 0 lt) (end_of-append parts start (take i ops) (get_or ops i 0) mid is ∙ steps)

pub cost_goes_on : (parts : Parts) (ops : List ℕ) (i : ℕ) (o : Operator) (cost : ℕ) → i < length ops → slice_get parts.operators (get_or ops i 0) ≡ Some o → cost ≡ cost_of parts (take i ops) → cost + o.cost ≡ cost_of parts (take (i + 1) ops)
cost_goes_on parts ops i o cost lt at is =
    let split = cost_of-append parts (take i ops) (get_or ops i 0 ∷ []) in
    let own : cost_at parts (get_or ops i 0) ≡ o.cost = rw at refl in
    rw (take_more ops i 0 lt) (omega (arith, split, own, is))

pub cost_small : (parts : Parts) (op : ℕ) (o : Operator) → IsWellFormed parts → slice_get parts.operators op ≡ Some o → o.cost ≤ 2147483647
cost_small parts op o formed at = (operator-at parts op o formed at).cost

-- a run stops at the next step
pub stops_at : (parts : Parts) (ops : List ℕ) (i : ℕ) (last : List ℕ) → i < length ops → end_of parts (start_of parts) (take i ops) ≡ Some last → is_applicable parts last (get_or ops i 0) ≡ false → StopsAt parts ops (i + 1)
stops_at parts ops i last lt leads stops =
    let back : i + 1 - 1 ≡ i = omega arith in
    record {
      last = last;
      from_one = omega arith;
      within = omega arith;
      leads = rw back leads;
      stops = rw back stops;
    }
