-- What well-formed parts tell of operators and rules.
use Rattle.std.proofs.Common.{◌≡◌, ℕ, ◌<◌, length, Some, arith}
use Rattle.std.specs.Prelude.{slice_get}
use Rattle.lama_num.proofs.ListLaws.{list_all_get}
use Rattle.sas_task.proofs.TestLaws.{all-one}
use Rattle.sas_task.specs.Within.{is_within}
use Rattle.sas_task.proofs.WithinLaws.{fact_within, all_facts_within}
use Rattle.sas_task.specs.WellFormed.{IsWellFormed, is_effect, is_operator, is_rule}
use Rattle.sas_task.specs.declared.contents.Operator.{Operator}
use Rattle.sas_task.specs.declared.contents.Rule.{Rule}
use Rattle.sas_task.specs.declared.contents.Parts.{Parts}
use Rattle.task_gen.specs.Waiting.{CanWait}
use Rattle.task_gen.proofs.Tested.{lt-from_test, passes_effect, passes_operator, passes_rule, passes_start}

pub can_wait : (parts : Parts) (i : ℕ) (o : Operator) → IsWellFormed parts → slice_get parts.operators i ≡ Some o → CanWait (length parts.variables) o
can_wait parts i o formed at =
    let vs = parts.variables in
    let passes = passes_operator vs o (list_all_get (is_operator vs) parts.operators i o formed.operators at) in
    record {
      pre = all_facts_within vs o.pre passes.pre;
      effects = all-one (is_effect vs) (λ e. is_within (length vs) e.fact) o.effects (λ e is. fact_within vs e.fact (passes_effect vs e is).fact) passes.effects;
      once = (formed.order i o at).once;
    }

pub has_default : (parts : Parts) (i : ℕ) (r : Rule) → IsWellFormed parts → slice_get parts.rules i ≡ Some r → r.head.var < length parts.init
has_default parts i r formed at =
    let vs = parts.variables in
    let passes = passes_rule vs parts.init r (list_all_get (is_rule vs parts.init) parts.rules i r formed.rules at) in
    let within = lt-from_test r.head.var (length vs) (fact_within vs r.head passes.head) in
    let long = (passes_start vs parts.init formed.init).long in
    omega (arith, within, long)
