use Rattle.std.proofs.Common.{◌≡◌, ◌∙◌, ap, arith, ◌≤◌, ◌<◌, length}
use Rattle.std.proofs.lemmas.List.{length-replicate}
use Rattle.lm_graph.proofs.MarkLaws.{none_in_step, flood_begins, flood_goes_on, flood_ends, next_within, row_within}
use Rattle.lm_graph.proofs.reach.flood.Goals as goal

pub mark_row-requires-clause-within : goal.mark_row-requires-clause-within
mark_row-requires-clause-within c place edge at =
    let long : length c.in_ok-seen.seen.items ≡ length c.args.rows.now = ap length c.in_ok-seen.ensures ∙ length-replicate (length c.args.rows.now) _ in
    omega (arith, long, row_within c.args.rows.now c.args.last place _ edge c.requires.within c.edges_at.ensures.edges c.edges_at.ensures.ascending at)

pub mark_row-requires-clause-in_step : goal.mark_row-requires-clause-in_step
mark_row-requires-clause-in_step c = rw (c.in_ok-seen.ensures, c.new-queue.ensures.items) (none_in_step _)

pub loop-place-init : goal.loop-place-init
loop-place-init c = flood_begins _ _ _ _ _ _ _ _ c.in_ok-seen.ensures c.new-queue.ensures.items c.edges_at.ensures.edges c.edges_at.ensures.ascending c.in_ok-mark_row.ensures

pub edges_at-requires-in-loop-place : goal.edges_at-requires-in-loop-place
edges_at-requires-in-loop-place c =
    let lt : c.loop-place.place < length c.loop-place.queue.items = omega arith in
    next_within _ _ _ _ _ _ _ c.loop-place.invariant lt c.index.ensures

pub mark_row-requires-in-loop-place-clause-within : goal.mark_row-requires-in-loop-place-clause-within
mark_row-requires-in-loop-place-clause-within c place edge at =
    omega (arith, c.loop-place.invariant.long, row_within c.args.rows.now c.index.result.now place _ edge c.requires.within c.edges_at-in-loop-place.ensures.edges c.edges_at-in-loop-place.ensures.ascending at)

pub loop-place-preserved : goal.loop-place-preserved
loop-place-preserved c =
    let lt : c.loop-place.place < length c.loop-place.queue.items = omega arith in
    flood_goes_on _ _ _ _ _ _ _ _ _ _ c.loop-place.invariant lt c.index.ensures c.edges_at-in-loop-place.ensures.edges c.edges_at-in-loop-place.ensures.ascending c.in_ok-mark_row-2.ensures

pub returns-clause-leads : goal.returns-clause-leads
returns-clause-leads c i =
    let all : length c.loop-place.queue.items ≤ c.loop-place.place = omega arith in
    flood_ends _ _ _ _ _ _ i c.loop-place.invariant all
