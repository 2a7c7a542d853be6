use Rattle.std.proofs.Common.{sym, subst}
use Rattle.packed_state.specs.Packing.{CanHold}
use Rattle.plan_check.proofs.Faults.{alone_held, first_layer}
use Rattle.plan_check.proofs.choosing.follow_names.Goals as goal

pub add-requires : goal.add-requires
add-requires c =
    subst (CanHold c.args.setup.now.layout) (sym c.deref.ensures.value)
    (alone_held c.args.setup.now.task.now c.args.setup.now.layout c.args.names.now c.go_alone.new.links.items _ c.in_ok-cost.cost c.go_alone.new.walker.here.items c.requires.ready.steps.well_formed c.requires.made.laid c.in_ok-cost.ensures.alone)

pub follow_by_layers-requires-clause-start : goal.follow_by_layers-requires-clause-start
follow_by_layers-requires-clause-start c =
    first_layer c.args.setup.now.task.now c.args.setup.now.layout c.args.names.now c.go_alone.new.links.items _ c.in_ok-cost.cost c.go_alone.new.walker.here.items c.deref.result.now c.in_ok-cost.ensures.alone c.deref.ensures.value
    c.new-start.result c.add.new.self c.in_ok-add.field-0 c.new-start.ensures c.in_ok-add.ensures.new c.in_ok-add.ensures.added
