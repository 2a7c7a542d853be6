use Rattle.std.proofs.Common.{◌≡◌, ◌∙◌, sym, ap, Err, arith, drop, length}
use Rattle.std.proofs.lemmas.Grind.{common_steps}
use Rattle.std.specs.List.{prefix_len}
use Rattle.text_lines.specs.Lines.{lines_of}
use Rattle.plan_text.specs.PlanLines.{is_finished as finished_test, is_step, names_in_front, plan_lines}
use Rattle.plan_text.proofs.Fronts.{plan_none, plan_ok, plan_err, behind_none}
use Rattle.plan_text.proofs.reading.read_lines.Goals as goal

pub returns-in_default : goal.returns-in_default
returns-in_default c =
    let next = rw c.in_default.is at c.in_ok-line.ensures.next in
    let start = ap (λ p. p.left) c.new-cursor.ensures in
    plan_none (finished_test c.args.bytes.now) (lines_of c.args.bytes.now) (ap (λ t. drop (prefix_len is_step t) t) (sym start) ∙ next)

pub returns-in_err-cost : goal.returns-in_err-cost
returns-in_err-cost c =
    let lines = lines_of c.args.bytes.now in
    let next = rw c.in-Some.is at c.in_ok-line.ensures.next in
    let start = ap (λ p. p.left) c.new-cursor.ensures in
    let names = behind_none c.new-names.result.items (names_in_front c.new-cursor.result.left) c.read_steps.new.names.items c.new-names.ensures.items c.in_ok-line.ensures.names in
    let long : c.len-steps.result ≡ length c.read_steps.new.names.items = omega (arith, c.read_steps.new.names.ok.0, c.len-steps.ensures) in
    let fault : plan_lines (finished_test c.args.bytes.now) (lines_of c.args.bytes.now) ≡ Err c.in_err-cost.field-0.0 =
    plan_err (finished_test c.args.bytes.now) lines c.read_steps.new.cursor.left c.read_steps.new.names.items c.in-Some.line.now
    (ap (λ t. drop (prefix_len is_step t) t) (sym start) ∙ next.0) (names ∙ ap names_in_front start)
    c.is_finished.result c.len-steps.result c.in_err-cost.field-0.0 c.is_finished.ensures long c.in_err-cost.ensures in
    grind (arith, common_steps, fault)

pub returns : goal.returns
returns c =
    let lines = lines_of c.args.bytes.now in
    let next = rw c.in-Some.is at c.in_ok-line.ensures.next in
    let start = ap (λ p. p.left) c.new-cursor.ensures in
    let names = behind_none c.new-names.result.items (names_in_front c.new-cursor.result.left) c.read_steps.new.names.items c.new-names.ensures.items c.in_ok-line.ensures.names in
    let long : c.len-steps.result ≡ length c.read_steps.new.names.items = omega (arith, c.read_steps.new.names.ok.0, c.len-steps.ensures) in
    let whole = plan_ok (finished_test c.args.bytes.now) lines c.read_steps.new.cursor.left c.read_steps.new.names.items c.in-Some.line.now
    (ap (λ t. drop (prefix_len is_step t) t) (sym start) ∙ next.0) (names ∙ ap names_in_front start)
    c.is_finished.result c.len-steps.result c.in_ok-cost.cost c.in_ok-cost.unit c.is_finished.ensures long c.in_ok-cost.ensures in
    rw c.from.ensures whole
