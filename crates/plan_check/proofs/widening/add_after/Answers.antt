use Rattle.std.proofs.Common.{◌≡◌, ◌∙◌, ◌+◌, sym, ap, subst, Some}
use Rattle.std.specs.List.{list_any}
use Rattle.std.specs.Str.{bytes_eq}
use Rattle.sas_task.specs.States.{step}
use Rattle.sas_task.proofs.RunLaws.{step-state}
use Rattle.packed_state.specs.Packing.{CanHold}
use Rattle.plan_check.specs.Layers.{pair_words}
use Rattle.plan_check.proofs.LinkPaths.{kept_more}
use Rattle.plan_check.proofs.LayerPairs.{step_more}
use Rattle.plan_check.proofs.widening.add_after.Goals as goal

pub add_pair-requires : goal.add_pair-requires
add_pair-requires c =
    subst (CanHold c.args.setup.now.layout) (sym c.deref.ensures.value)
    (c.requires.made.laid.holds c.make_next.new.self.next.items
    (step-state c.args.setup.now.task.now c.args.walker.now.here.items c.args.link.op c.make_next.new.self.next.items c.requires.ready.steps.well_formed c.requires.state c.make_next.ensures.next))

pub returns-clause-kept : goal.returns-clause-kept
returns-clause-kept c =
    kept_more c.args.links.now.items c.add_pair.new.links.items c.args.link (list_any (bytes_eq (pair_words c.args.setup.now.layout c.deref.result.now (c.args.cost + c.make_next.result))) c.args.layer.now) c.in_ok-add_pair.ensures.links

pub returns-clause-grown : goal.returns-clause-grown
returns-clause-grown c =
    let taken : step c.args.setup.now.task.now c.args.walker.now.here.items c.args.link.op ≡ Some c.deref.result.now = c.make_next.ensures.next ∙ ap Some (sym c.deref.ensures.value) in
    λ choice done first steps end growing.
    step_more c.args.setup.now.task.now c.args.setup.now.layout c.requires.ready.steps.well_formed c.requires.made.laid c.args.links.now.items c.add_pair.new.links.items first steps c.args.cost c.make_next.result c.args.layer.now c.add_pair.new.layer done choice
    c.args.walker.now.here.items c.deref.result.now c.args.link end growing taken c.make_next.ensures.cost c.in_ok-add_pair.ensures.links c.in_ok-add_pair.ensures.pairs
