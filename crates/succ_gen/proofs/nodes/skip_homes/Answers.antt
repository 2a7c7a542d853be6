use Rattle.std.proofs.lemmas.Option.{slice_get-get_or}
use Rattle.succ_gen.specs.Growing.{node_of}
use Rattle.succ_gen.proofs.NodeLayout.{below_more, cut_at, cut_length}
use Rattle.succ_gen.proofs.nodes.skip_homes.Goals as goal

pub returns-then-homes-place : goal.returns-then-homes-place
returns-then-homes-place c =
    cut_at node_of c.args.homes.now c.args.number c.loop-place.place _ c.requires.rising c.loop-place.invariant (slice_get-get_or c.args.homes.now c.loop-place.place _ c.loop-place-test.true) c.if-homes-place.true

pub loop-place-preserved : goal.loop-place-preserved
loop-place-preserved c =
    below_more node_of c.args.homes.now c.args.number c.loop-place.place _ c.loop-place.invariant (slice_get-get_or c.args.homes.now c.loop-place.place _ c.loop-place-test.true) c.if-homes-place.false

pub returns : goal.returns
returns c = cut_length node_of c.args.homes.now c.args.number c.loop-place.place c.loop-place-test.false c.loop-place.invariant
