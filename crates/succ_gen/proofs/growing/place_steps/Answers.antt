use Rattle.std.proofs.Common.{refl, subst, ◌+◌, length, get_or}
use Rattle.std.proofs.lemmas.Option.{slice_get-get_or}
use Rattle.succ_gen.specs.declared.growing.Step.{Step}
use Rattle.succ_gen.specs.Branches.{IsPlaced}
use Rattle.succ_gen.proofs.Levels.{between_start, between_more, between_all}
use Rattle.succ_gen.proofs.growing.place_steps.Goals as goal

pub loop-step-init : goal.loop-step-init
loop-step-init c = between_start c.args.conditions.now c.args.depth c.args.steps.now _ _ _ _ c.requires.level refl c.requires.none

pub place-requires : goal.place-requires
place-requires c = (c.loop-step.invariant.comes c.loop-step.step-index _ (slice_get-get_or c.args.steps.now c.loop-step.step-index _ c.loop-step-test.true)).operator

pub loop-step-preserved : goal.loop-step-preserved
loop-step-preserved c =
    let s : Step = get_or c.args.steps.now c.loop-step.step-index (record { node = 0; fact = record { var = 0; val = 0 }; operator = 0 }) in
    let placed = subst (λ n. IsPlaced c.args.conditions.now (c.args.depth + 1) n s.operator c.loop-step.homes.items c.place.new.homes.items c.loop-step.next.items c.place.new.steps.items) c.in-Ok.ensures.node c.in_ok-place.ensures in
    between_more c.args.conditions.now c.args.depth c.args.steps.now (length c.args.branches.now.items) c.loop-step.step-index c.loop-step.branches.items c.node_for.new.branches.items c.loop-step.homes.items c.place.new.homes.items c.loop-step.next.items c.place.new.steps.items s
    c.loop-step.invariant c.requires.order (slice_get-get_or c.args.steps.now c.loop-step.step-index _ c.loop-step-test.true) c.in-Ok.ensures.branches placed

pub returns : goal.returns
returns c = between_all c.args.conditions.now c.args.depth c.args.steps.now _ c.loop-step.step-index _ _ _ c.loop-step-test.false c.loop-step.invariant
