use Rattle.std.proofs.Common.{◌≡◌, ◌∙◌, ◌++◌, ◌∷◌, [], ◌+◌, ◌<◌, ◌≤◌, ap, length, slice_index, arith}
use Rattle.std.proofs.lemmas.List.{get_or_read}
use Rattle.succ_gen.specs.Trees.{node_at}
use Rattle.succ_gen.proofs.TreeWalk.{walking_start, walking_more, walking_all}
use Rattle.succ_gen.proofs.walking.walk.Goals as goal

pub loop-place-init : goal.loop-place-init
loop-place-init c = record {
  walking = walking_start c.args.nodes.now c.args.operators.now c.args.state.now _ _ c.requires.tree (c.push_reserved.ensures.items ∙ ap (λ xs. xs ++ 0 ∷ []) c.clear.ensures.items) c.clear-2.ensures.items;
  reached_room = c.push_reserved.ensures.capacity ∙ c.clear.ensures.capacity;
  room = c.clear-2.ensures.capacity;
}

pub loop-place-preserved : goal.loop-place-preserved
loop-place-preserved c =
    let reached = c.loop-place.reached.items in
    let lt : c.loop-place.place < length c.loop-place.reached.items = omega (arith, c.loop-place.reached.ok.0) in
    let at : c.index.result.now ≡ slice_index c.loop-place.reached.items c.loop-place.place = get_or_read reached c.loop-place.place c.index.result.now lt c.index.ensures 0 in
    let few : length c.reach_children.new.reached.items ≤ (node_at c.args.nodes.now (c.index.result.now + 1)).children = omega (arith, c.reach_children.new.reached.ok.0, c.reach_children.ensures.few) in
    record {
      walking = walking_more c.args.nodes.now c.args.operators.now c.args.state.now reached _ c.loop-place.out.items _ c.loop-place.place c.index.result.now c.requires.tree lt at c.loop-place.invariant.walking c.reach_children.ensures.reached few c.add_operators.ensures.out;
      reached_room = c.reach_children.ensures.room ∙ c.loop-place.invariant.reached_room;
      room = c.add_operators.ensures.room ∙ c.loop-place.invariant.room;
    }

pub returns-clause-operators : goal.returns-clause-operators
returns-clause-operators c =
    let past : length c.loop-place.reached.items ≤ c.loop-place.place = omega (arith, c.loop-place.reached.ok.0) in
    walking_all c.args.nodes.now c.args.operators.now c.args.state.now c.loop-place.reached.items c.loop-place.out.items c.loop-place.place past c.loop-place.invariant.walking
