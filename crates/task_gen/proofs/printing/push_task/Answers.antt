use Rattle.std.proofs.Common.{◌∙◌, sym, ap, subst, ◌<◌, ◌++◌, length}
use Rattle.std.specs.Prelude.{slice_get}
use Rattle.text_lines.specs.Texts.{text_of}
use Rattle.task_gen.specs.Printed.{counted, version_lines, metric_lines, variable_lines, group_lines, state_lines, goal_lines, operator_lines, rule_lines, task_lines}
use Rattle.task_gen.specs.Waiting.{CanWait}
use Rattle.task_gen.proofs.FittingParts.{can_wait, has_default}
use Rattle.task_gen.proofs.Grown.{printed_then, on_ok}
use Rattle.task_gen.proofs.printing.push_task.Goals as goal

pub push_operators-requires-clause-fits : goal.push_operators-requires-clause-fits
push_operators-requires-clause-fits c = λ i o at.
    let many = ap length c.deref_mut.ensures.value ∙ c.in_ok-waiting.ensures.many ∙ c.len.ensures in
    subst (λ n. CanWait n o) (sym many) (can_wait c.args.parts.now i o c.requires (ap (λ os. slice_get os i) (sym c.deref-5.ensures) ∙ at))

pub push_rules-requires : goal.push_rules-requires
push_rules-requires c = λ i r at.
    subst (λ init. r.head.var < length init) (sym c.deref-6.ensures) (has_default c.args.parts.now i r c.requires (ap (λ rs. slice_get rs i) (sym c.deref-7.ensures) ∙ at))

pub returns : goal.returns
unfolding task_lines
returns c =
    let parts = c.args.parts.now in
    let before = c.push_operators.new.text.items in
    let rules = counted (rule_lines parts.init) parts.rules in
    let operators = counted operator_lines parts.operators in
    let goal = goal_lines parts.goal in
    let state = state_lines parts.init in
    let groups = counted group_lines parts.groups in
    let variables = counted variable_lines parts.variables in
    on_ok c.push_rules.result
    (λ last.
    printed_then c.args.text.now.items (version_lines ++ metric_lines parts.metric) (variables ++ (groups ++ (state ++ (goal ++ (operators ++ rules))))) _ _ c.in_ok-push_opening.ensures
    (printed_then c.push_opening.new.text.items variables (groups ++ (state ++ (goal ++ (operators ++ rules)))) _ _ (rw c.deref.ensures at c.in_ok-push_variables.ensures)
    (printed_then c.push_variables.new.text.items groups (state ++ (goal ++ (operators ++ rules))) _ _ (rw c.deref-2.ensures at c.in_ok-push_groups.ensures)
    (printed_then c.push_groups.new.text.items state (goal ++ (operators ++ rules)) _ _ (rw c.deref-3.ensures at c.in_ok-push_state.ensures)
    (printed_then c.push_state.new.text.items goal (operators ++ rules) _ _ (rw c.deref-4.ensures at c.in_ok-push_goal.ensures)
    (printed_then c.push_goal.new.text.items operators rules _ _ (rw c.deref-5.ensures at c.in_ok-push_operators.ensures)
    (last ∙ ap (λ init. before ++ text_of (counted (rule_lines init) c.deref-7.result.now)) c.deref-6.ensures ∙ ap (λ rs. before ++ text_of (counted (rule_lines parts.init) rs)) c.deref-7.ensures)))))))
    c.push_rules.ensures
