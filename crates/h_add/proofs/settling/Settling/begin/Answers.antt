use Rattle.std.proofs.Common.{◌∙◌, ◌≡◌, length, true}
use Rattle.std.specs.List.{list_all}
use Rattle.std.proofs.lemmas.List.Folds.{list_all-append}
use Rattle.relaxed_task.proofs.Elements.{join}
use Rattle.relaxed_task.specs.Numbers.{numbers_by, is_below}
use Rattle.relaxed_task.proofs.NumberLaws.{numbers_by-is, state_below, start_numbers}
use Rattle.h_add.proofs.Steps.{fresh_way, counted_marked, marked_more, begun}
use Rattle.h_add.proofs.settling.Settling.begin.Goals as goal

pub walk-requires-clause-way : goal.walk-requires-clause-way
walk-requires-clause-way c = fresh_way _ _ _ c.free.ensures.free c.requires.fresh

pub returns-clause-from : goal.returns-clause-from
returns-clause-from c parts kind without is of flags =
    let all = marked_more _ _ _ _ _ _ (marked_more _ _ _ _ _ _ (counted_marked _ c.args.self.now _ c.walk.ensures.way c.walk.ensures.counted) c.mark_state.ensures) c.mark_all.ensures in
    let below : list_all (is_below (length c.args.self.now.costs)) (numbers_by c.args.network.now.offsets c.args.state.now) ≡ true = rw (← c.requires.facts, numbers_by-is parts.variables c.args.network.now.offsets c.args.state.now is.offsets of, is.facts) (state_below parts.variables c.args.state.now of) in
    let there : list_all (is_below (length c.args.self.now.costs)) c.defaults.result.now ≡ true = rw (← c.requires.facts, ← c.relaxed.ensures) c.defaults.ensures.facts in
    let first = list_all-append (is_below (length c.args.self.now.costs)) (numbers_by c.args.network.now.offsets c.args.state.now) c.defaults.result.now in
    rw (← start_numbers parts kind c.args.network.now c.args.state.now is of, ← (rw c.relaxed.ensures at c.defaults.ensures.defaults)) (begun _ without _ c.args.self.now _ c.requires.fresh flags (first ∙ join _ _ below there) all)
