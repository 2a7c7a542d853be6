use Rattle.std.proofs.Common.{◌≡◌, ◌-◌, ◌+◌, sym, subst, arith, suc, length, None}
use Rattle.plan_check.specs.Verdicts.{first_fault}
use Rattle.plan_check.specs.Layers.{IsAfter}
use Rattle.plan_check.proofs.choosing.follow_by_layers.Goals as goal

pub loop-count-init : goal.loop-count-init
loop-count-init c =
    let done : c.len-done.result ≡ length c.args.links.now.items = omega (arith, c.len-done.ensures, c.args.links.now.ok.0) in
    record {
      ready = c.requires.ready;
      together = omega (arith, c.requires.done, c.requires.few);
      after =
          subst (λ n. IsAfter c.args.setup.now.task.now c.args.setup.now.layout c.args.names.now c.args.links.now.items n c.len-done.result c.args.start) (sym c.saturating_sub.ensures)
          (subst (λ n. IsAfter c.args.setup.now.task.now c.args.setup.now.layout c.args.names.now c.args.links.now.items (n - 1) n c.args.start) (sym done) c.requires.start);
      no_fault = subst (λ n. first_fault c.args.setup.now.task.now c.args.names.now n ≡ None) (sym done) c.requires.no_fault;
    }

pub loop-count-preserved : goal.loop-count-preserved
loop-count-preserved c =
    let next_place : suc c.loop-count.count ≡ c.loop-count.count + 1 = omega arith in
    record {
      ready = c.next_layer.ensures.ready;
      together = c.in_ok-last.ensures.together;
      after = subst (λ n. IsAfter c.args.setup.now.task.now c.args.setup.now.layout c.args.names.now c.next_layer.new.links.items c.in_ok-last.last.first n c.in_ok-last.last.layer) next_place c.in_ok-last.ensures.next;
      no_fault = subst (λ n. first_fault c.args.setup.now.task.now c.args.names.now n ≡ None) next_place c.in_ok-last.ensures.no_fault;
    }
