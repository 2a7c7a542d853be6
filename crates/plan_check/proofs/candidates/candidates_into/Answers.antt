use Rattle.std.proofs.Common.{◌≡◌, ◌∙◌, ◌<◌, ◌+◌, sym, ap, arith, length, Some, subst}
use Rattle.std.proofs.lemmas.Option.{slice_get_within}
use Rattle.plan_check.specs.Names.{next_of}
use Rattle.plan_check.proofs.NamedOperators.{IsNext, LeadsOn, left_of, leads_first, leads_here, leads_on, left_less, named_is, next_read}
use Rattle.plan_check.proofs.candidates.candidates_into.Goals as goal
use Rattle.plan_check.proofs.candidates.candidates_into.Goals.{then-applicable+in_ok-push, else-applicable}

pub loop-at-init : goal.loop-at-init
loop-at-init c =
    let task = c.args.task.now in
    let first : c.copied-at.result ≡ next_of c.args.name.now 0 c.args.task.now.operators = c.copied-at.ensures ∙ c.get.ensures.value ∙ c.requires.index.first c.args.name.now in
    rw c.clear.ensures.items (subst (LeadsOn task c.args.state.now c.args.name.now _) (sym first) (leads_first task c.args.state.now c.args.name.now))

pub applicable-requires-clause-op : goal.applicable-requires-clause-op
applicable-requires-clause-op c =
    let next : IsNext c.args.task.now c.args.state.now c.args.name.now c.loop-at.out.items c.in-Some.op = subst (LeadsOn c.args.task.now c.args.state.now c.args.name.now c.loop-at.out.items) c.in-Some.is c.loop-at.invariant in
    slice_get_within c.args.task.now.operators c.in-Some.op next.operator next.at

pub index-at-requires : goal.index-at-requires
index-at-requires c =
    let next : IsNext c.args.task.now c.args.state.now c.args.name.now c.loop-at.out.items c.in-Some.op = subst (LeadsOn c.args.task.now c.args.state.now c.args.name.now c.loop-at.out.items) c.in-Some.is c.loop-at.invariant in
    let there = c.requires.index.next c.in-Some.op next.operator next.at in
    let within : c.in-Some.op < length c.args.by_name.now.next.items = slice_get_within c.args.by_name.now.next.items c.in-Some.op _ there in
    omega (arith, within, c.args.by_name.now.next.ok.0)

pub loop-at-smaller : goal.loop-at-smaller
loop-at-smaller c =
    let task = c.args.task.now in
    let next : IsNext c.args.task.now c.args.state.now c.args.name.now c.loop-at.out.items c.in-Some.op = subst (LeadsOn c.args.task.now c.args.state.now c.args.name.now c.loop-at.out.items) c.in-Some.is c.loop-at.invariant in
    let there = c.requires.index.next c.in-Some.op next.operator next.at in
    let read = next_read c.args.by_name.now.next.items c.in-Some.op (next_of next.operator.name (c.in-Some.op + 1) task.operators) c.index-at.result.now there c.index-at.ensures in
    let lt = slice_get_within c.args.task.now.operators c.in-Some.op next.operator next.at in
    let n = length c.args.task.now.operators in
    let less = left_less c.args.task.now.operators next.operator.name c.in-Some.op lt in
    let now : left_of (length c.args.task.now.operators) c.index-at.result.now ≡ left_of (length c.args.task.now.operators) (next_of next.operator.name (c.in-Some.op + 1) c.args.task.now.operators) = ap (left_of n) read in
    let before : left_of (length c.args.task.now.operators) c.loop-at.at ≡ left_of (length c.args.task.now.operators) (Some c.in-Some.op) = ap (left_of n) c.in-Some.is in
    let whole : left_of (length c.args.task.now.operators) c.index-at.result.now < left_of (length c.args.task.now.operators) c.loop-at.at = omega (arith, less, now, before) in
    whole

pub loop-at-preserved : goal.loop-at-preserved
loop-at-preserved c =
    let task = c.args.task.now in
    let state = c.args.state.now in
    let name = c.args.name.now in
    let found = c.loop-at.out.items in
    let op = c.in-Some.op in
    let next : IsNext c.args.task.now c.args.state.now c.args.name.now c.loop-at.out.items c.in-Some.op = subst (LeadsOn task state name found) c.in-Some.is c.loop-at.invariant in
    let there = c.requires.index.next c.in-Some.op next.operator next.at in
    let read = next_read c.args.by_name.now.next.items c.in-Some.op (next_of next.operator.name (c.in-Some.op + 1) task.operators) c.index-at.result.now there c.index-at.ensures in
    let named = named_is c.args.name.now next.operator next.named in
    let now : c.index-at.result.now ≡ next_of c.args.name.now (c.in-Some.op + 1) c.args.task.now.operators = read ∙ ap (λ name. next_of name (c.in-Some.op + 1) c.args.task.now.operators) named in
    elim c.if-applicable.branch [
      | then-applicable+in_ok-push w ↦
          let on = leads_here task state name found op next (sym c.applicable.ensures ∙ w.if-applicable.true) in
          rw (w.out-is, w.in_ok-push.ensures.items) (subst (LeadsOn task state name _) (sym now) on)
      | else-applicable w ↦
          let on = leads_on task state name found op next (sym c.applicable.ensures ∙ w.if-applicable.false) in
          rw w.out-is (subst (LeadsOn task state name _) (sym now) on)
    ]
