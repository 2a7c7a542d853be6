use Rattle.std.proofs.lemmas.Option.{slice_get-get_or}
use Rattle.succ_gen.specs.Growing.{parent_of}
use Rattle.succ_gen.proofs.NodeLayout.{below_more, cut_at, cut_length}
use Rattle.succ_gen.proofs.nodes.skip_branches.Goals as goal

pub returns-then-branches-place : goal.returns-then-branches-place
returns-then-branches-place c =
    cut_at parent_of c.args.branches.now c.args.number c.loop-place.place _ c.requires.rising c.loop-place.invariant (slice_get-get_or c.args.branches.now c.loop-place.place _ c.loop-place-test.true) c.if-branches-place.true

pub loop-place-preserved : goal.loop-place-preserved
loop-place-preserved c =
    below_more parent_of c.args.branches.now c.args.number c.loop-place.place _ c.loop-place.invariant (slice_get-get_or c.args.branches.now c.loop-place.place _ c.loop-place-test.true) c.if-branches-place.false

pub returns : goal.returns
returns c = cut_length parent_of c.args.branches.now c.args.number c.loop-place.place c.loop-place-test.false c.loop-place.invariant
