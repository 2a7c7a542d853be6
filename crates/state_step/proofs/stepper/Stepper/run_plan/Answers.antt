use Rattle.std.proofs.Common.{◌≡◌, ◌∙◌, ◌<◌, ◌++◌, false, length, ap, arith, rules, slice_get, get_or, Some, sym}
use Rattle.std.proofs.Math.Seq.{take-length, drop-length}
use Rattle.std.proofs.lemmas.List.{append-nil}
use Rattle.sas_task.specs.States.{step}
use Rattle.sas_task.specs.Runs.{start_of}
use Rattle.state_step.specs.Steps.{is_applicable}
use Rattle.state_step.proofs.RunLaws.{run_goes_on, cost_goes_on, cost_small, stops_at}
use Rattle.state_step.proofs.stepper.Stepper.run_plan.Goals as goal

pub returns-then-not-applicable-clause-end : goal.returns-then-not-applicable-clause-end
returns-then-not-applicable-clause-end c =
    let task = c.args.task.now in
    let ops = c.args.ops.now in
    let lt : c.loop-i.i < length c.args.ops.now = omega arith in
    let test = rw (take-length c.loop-i.here.now) at c.applicable.ensures in
    let stops : is_applicable c.args.task.now c.loop-i.here.now (get_or c.args.ops.now c.loop-i.i 0) ≡ false = sym test ∙ c.if-not-applicable.true in
    stops_at task ops c.loop-i.i c.loop-i.here.now lt c.loop-i.invariant.leads stops

pub loop-i-preserved : goal.loop-i-preserved
loop-i-preserved c =
    let task = c.args.task.now in
    let ops = c.args.ops.now in
    let lt : c.loop-i.i < length c.args.ops.now = omega arith in
    let at : slice_get c.args.task.now.operators (get_or c.args.ops.now c.loop-i.i 0) ≡ Some c.index.result.now = rw c.parts.ensures.parts at c.index.ensures in
    let small = cost_small task (get_or ops c.loop-i.i 0) c.index.result.now c.parts.ensures.well_formed at in
    let taken : step c.args.task.now c.loop-i.here.now (get_or c.args.ops.now c.loop-i.i 0) ≡ Some c.apply_into.new.out = rw (take-length c.loop-i.here.now) at c.apply_into.ensures.state in
    let there = run_goes_on task (start_of task) ops c.loop-i.i c.loop-i.here.now c.apply_into.new.out lt c.loop-i.invariant.leads taken in
    let swapped : c.swap.new.x.now ≡ c.apply_into.new.out =
    ap (λ r. r.now) c.swap.ensures.x_after ∙ ap (λ xs. c.apply_into.new.out ++ xs) (drop-length c.loop-i.next.now) ∙ append-nil c.apply_into.new.out in
    record {
      same_task = c.apply_into.ensures.same_task;
      leads = rw swapped there;
      here_long = search rules;
      next_long = search rules;
      cost_is = rw c.from-cost.ensures (cost_goes_on task ops c.loop-i.i c.index.result.now c.loop-i.cost lt at c.loop-i.invariant.cost_is);
      cost_fits = omega (arith, small, c.from-cost.ensures);
    }
