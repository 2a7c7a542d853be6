use Rattle.std.proofs.Common.{ap, ◌∙◌, arith}
use Rattle.search_log.specs.Pending.{pending}
use Rattle.lazy_search.specs.declared.rows.LatestVisit.{LatestVisit}
use Rattle.lazy_search.specs.Machines.{past_in}
use Rattle.lazy_search.specs.Phases.{phase_of}
use Rattle.lazy_search.proofs.TakenEntries.{sound_of, numbers_of, entry_goes, counters_high, visit_within, parent_read, row_within, row_read, costs_small, nothing_held, reaches}
use Rattle.lazy_search.proofs.machine.Machine.pop_entry.Goals as goal

pub pop-requires : goal.pop-requires
pop-requires c =
    let m = c.args.self.now in
    let phase = phase_of c.args.phase.now.task.now c.args.phase.now.setting.now c.args.phase.now.shape in
    let past = past_in phase m in
    counters_high phase m.lists past c.args.phase.now.is_phase (numbers_of phase m.log.visits m.log.pops past c.requires.rests.kept.logged) c.requires.rests.lists

pub returns-in_err-popped-clause-empty : goal.returns-in_err-popped-clause-empty
returns-in_err-popped-clause-empty c =
    let m = c.args.self.now in
    let phase = phase_of c.args.phase.now.task.now c.args.phase.now.setting.now c.args.phase.now.shape in
    rw c.from_residual.ensures (λ k l. nothing_held m.lists k (pending phase (past_in phase m) k) (c.requires.rests.lists.holds k l) (c.in_err-popped.ensures.none k))

pub visit-parent-requires : goal.visit-parent-requires
visit-parent-requires c =
    let m = c.args.self.now in
    let phase = phase_of c.args.phase.now.task.now c.args.phase.now.setting.now c.args.phase.now.shape in
    let past = past_in phase m in
    let sound = sound_of phase m.log.visits m.log.pops past c.args.phase.now.is_phase c.requires.rests.kept.logged in
    let g = entry_goes phase past m.lists c.pop.new.self c.in_ok-popped.popped sound c.requires.rests.lists c.in_ok-popped.ensures.popped in
    visit_within phase m m.states.registry.states past c.in_ok-popped.popped.entry c.requires.rests.kept g

pub index-row-requires : goal.index-row-requires
index-row-requires c =
    let m = c.args.self.now in
    let phase = phase_of c.args.phase.now.task.now c.args.phase.now.setting.now c.args.phase.now.shape in
    let past = past_in phase m in
    let sound = sound_of phase m.log.visits m.log.pops past c.args.phase.now.is_phase c.requires.rests.kept.logged in
    let g = entry_goes phase past m.lists c.pop.new.self c.in_ok-popped.popped sound c.requires.rests.lists c.in_ok-popped.ensures.popped in
    let id = parent_read phase m m.states.registry.states past c.in_ok-popped.popped.entry _ c.requires.rests.kept g c.visit-parent.ensures in
    omega (arith, row_within phase m m.states.registry.states past c.in_ok-popped.popped.entry c.visit-parent.result.id c.requires.rests.kept g id, m.rows.ok.0)

pub overflow_add-result : goal.overflow_add-result
overflow_add-result c =
    let m = c.args.self.now in
    let phase = phase_of c.args.phase.now.task.now c.args.phase.now.setting.now c.args.phase.now.shape in
    let past = past_in phase m in
    let sound = sound_of phase m.log.visits m.log.pops past c.args.phase.now.is_phase c.requires.rests.kept.logged in
    let g = entry_goes phase past m.lists c.pop.new.self c.in_ok-popped.popped sound c.requires.rests.lists c.in_ok-popped.ensures.popped in
    let id = parent_read phase m m.states.registry.states past c.in_ok-popped.popped.entry _ c.requires.rests.kept g c.visit-parent.ensures in
    let r = row_read phase m m.states.registry.states past c.in_ok-popped.popped.entry c.visit-parent.result.id c.index-row.result.now c.requires.rests.kept g id c.index-row.ensures in
    let small = costs_small phase past c.in_ok-popped.popped.entry c.args.phase.now.is_phase sound g in
    record { fits = omega (arith, small.0, ap (λ (x : LatestVisit). x.g) r, c.from.ensures, c.adjusted_cost-adjusted.type_inv) }

pub overflow_add-result-2 : goal.overflow_add-result-2
overflow_add-result-2 c =
    let m = c.args.self.now in
    let phase = phase_of c.args.phase.now.task.now c.args.phase.now.setting.now c.args.phase.now.shape in
    let past = past_in phase m in
    let sound = sound_of phase m.log.visits m.log.pops past c.args.phase.now.is_phase c.requires.rests.kept.logged in
    let g = entry_goes phase past m.lists c.pop.new.self c.in_ok-popped.popped sound c.requires.rests.lists c.in_ok-popped.ensures.popped in
    let id = parent_read phase m m.states.registry.states past c.in_ok-popped.popped.entry _ c.requires.rests.kept g c.visit-parent.ensures in
    let r = row_read phase m m.states.registry.states past c.in_ok-popped.popped.entry c.visit-parent.result.id c.index-row.result.now c.requires.rests.kept g id c.index-row.ensures in
    let small = costs_small phase past c.in_ok-popped.popped.entry c.args.phase.now.is_phase sound g in
    record { fits = omega (arith, small.1, ap (λ (x : LatestVisit). x.real) r, c.from-2.ensures, c.adjusted_cost-cost.type_inv) }

pub returns-clause-reaches : goal.returns-clause-reaches
returns-clause-reaches c =
    let m = c.args.self.now in
    let phase = phase_of c.args.phase.now.task.now c.args.phase.now.setting.now c.args.phase.now.shape in
    reaches phase m (past_in phase m) c.in_ok-popped.popped c.pop.new.self _ c.index-row.result.now c.from.result c.from-2.result c.args.phase.now.is_phase c.requires.rests c.in_ok-popped.ensures.popped
    c.visit-parent.ensures c.index-row.ensures (c.from.ensures ∙ c.adjusted_cost-adjusted.ensures) (c.from-2.ensures ∙ c.adjusted_cost-cost.ensures)
    (omega (arith, c.from.ensures, c.adjusted_cost-adjusted.type_inv)) (omega (arith, c.from-2.ensures, c.adjusted_cost-cost.type_inv))
