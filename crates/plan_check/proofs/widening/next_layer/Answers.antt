use Rattle.std.proofs.Common.{◌≡◌, ◌∙◌, ◌+◌, ap, subst, refl, arith, suc, length}
use Rattle.std.proofs.lemmas.Option.{slice_get_read}
use Rattle.plan_check.specs.Layers.{IsAfter, told_fault}
use Rattle.plan_check.proofs.Faults.{next_refused, next_faultless, next_after, next_few}
use Rattle.plan_check.proofs.widening.next_layer.Goals as goal

pub returns-in-Some-clause-fault : goal.returns-in-Some-clause-fault
returns-in-Some-clause-fault c =
    next_refused c.args.setup.now.task.now c.args.setup.now.layout c.args.names.now c.args.links.now.items c.fill.new.links.items c.args.last.now.first c.args.count c.args.last.now.layer c.fill.new.layer c.index-names-count.result
    (slice_get_read c.args.names.now (length c.args.names.now) c.args.count c.index-names-count.result refl c.requires.count c.index-names-count.is) c.requires.last c.in_ok-room.room c.in_ok-room.ensures.filled
    (c.args.count + 1) c.len.result c.len-2.result c.fault_of_step.result c.requires.no_fault (omega arith) c.len.ensures (omega (arith, c.len-2.ensures, c.fill.new.links.ok.0))
    (c.fault_of_step.ensures ∙ ap (λ n. told_fault c.args.setup.now.task.now n (c.args.count + 1) c.in_ok-room.room c.len.result c.len-2.result) c.deref.ensures)
    c.in-Some.fault c.in-Some.is c.requires.count

pub returns-in-None-clause-next : goal.returns-in-None-clause-next
returns-in-None-clause-next c =
    let first : length c.args.links.now.items ≡ c.len-first.result = omega (arith, c.len-first.ensures, c.args.links.now.ok.0) in
    subst (λ n. IsAfter c.args.setup.now.task.now c.args.setup.now.layout c.args.names.now c.fill.new.links.items n (suc c.args.count) c.fill.new.layer) first
    (next_after c.args.setup.now.task.now c.args.setup.now.layout c.args.names.now c.args.links.now.items c.fill.new.links.items c.args.last.now.first c.args.count c.args.last.now.layer c.fill.new.layer c.index-names-count.result
    (slice_get_read c.args.names.now (length c.args.names.now) c.args.count c.index-names-count.result refl c.requires.count c.index-names-count.is) c.requires.last c.in_ok-room.room c.in_ok-room.ensures.filled
    (c.args.count + 1) c.len.result c.len-2.result c.fault_of_step.result c.requires.no_fault (omega arith) c.len.ensures (omega (arith, c.len-2.ensures, c.fill.new.links.ok.0))
    (c.fault_of_step.ensures ∙ ap (λ n. told_fault c.args.setup.now.task.now n (c.args.count + 1) c.in_ok-room.room c.len.result c.len-2.result) c.deref.ensures)
    c.in-None.is)

pub returns-in-None-clause-together : goal.returns-in-None-clause-together
returns-in-None-clause-together c =
    next_few c.args.setup.now.task.now c.args.setup.now.layout c.args.names.now c.args.links.now.items c.fill.new.links.items c.args.last.now.first c.args.count c.args.last.now.layer c.fill.new.layer c.index-names-count.result
    (slice_get_read c.args.names.now (length c.args.names.now) c.args.count c.index-names-count.result refl c.requires.count c.index-names-count.is) c.requires.last c.in_ok-room.room c.in_ok-room.ensures.filled
    (c.args.count + 1) c.len.result c.len-2.result c.fault_of_step.result c.requires.no_fault (omega arith) c.len.ensures (omega (arith, c.len-2.ensures, c.fill.new.links.ok.0))
    (c.fault_of_step.ensures ∙ ap (λ n. told_fault c.args.setup.now.task.now n (c.args.count + 1) c.in_ok-room.room c.len.result c.len-2.result) c.deref.ensures)
    c.in-None.is

pub returns-in-None-clause-no_fault : goal.returns-in-None-clause-no_fault
returns-in-None-clause-no_fault c =
    next_faultless c.args.setup.now.task.now c.args.setup.now.layout c.args.names.now c.args.links.now.items c.fill.new.links.items c.args.last.now.first c.args.count c.args.last.now.layer c.fill.new.layer c.index-names-count.result
    (slice_get_read c.args.names.now (length c.args.names.now) c.args.count c.index-names-count.result refl c.requires.count c.index-names-count.is) c.requires.last c.in_ok-room.room c.in_ok-room.ensures.filled
    (c.args.count + 1) c.len.result c.len-2.result c.fault_of_step.result c.requires.no_fault (omega arith) c.len.ensures (omega (arith, c.len-2.ensures, c.fill.new.links.ok.0))
    (c.fault_of_step.ensures ∙ ap (λ n. told_fault c.args.setup.now.task.now n (c.args.count + 1) c.in_ok-room.room c.len.result c.len-2.result) c.deref.ensures)
    c.in-None.is
