use Rattle.std.proofs.Common.{◌-◌, ℕ, List, length, ap, sym, subst, arith}
use Rattle.lazy_search.specs.declared.paths.Origin.{Origin}
use Rattle.lazy_search.specs.Origins.{AreEarlier, Traced}
use Rattle.lazy_search.specs.Machines.{past_in}
use Rattle.lazy_search.specs.Phases.{phase_of}
use Rattle.lazy_search.proofs.PlanAndSpace.{ends_in_plan, last_visit_there, row_of_last, origins_earlier}
use Rattle.lazy_search.proofs.searching.plan_of.Goals as goal

pub overflow_sub-visit : goal.overflow_sub-visit
overflow_sub-visit c =
    let phase = phase_of c.args.phase.now.task.now c.args.phase.now.setting.now c.args.phase.now.shape in
    let m = c.args.machine.now in
    let past = past_in phase m in
    omega (arith, last_visit_there phase m past c.args.phase.now.is_phase c.requires.rests)

pub path_to-requires : goal.path_to-requires
path_to-requires c =
    let phase = phase_of c.args.phase.now.task.now c.args.phase.now.setting.now c.args.phase.now.shape in
    let m = c.args.machine.now in
    let past = past_in phase m in
    let l = last_visit_there phase m past c.args.phase.now.is_phase c.requires.rests in
    record {
      visit = omega (arith, l.0, l.1, c.visits-visit.ensures.count, ap length c.deref.ensures.value);
      earlier = subst AreEarlier (sym c.deref.ensures.value) (origins_earlier past.nodes m.origins.items c.requires.rests.kept.origins);
    }

pub visit-id-requires : goal.visit-id-requires
visit-id-requires c =
    let phase = phase_of c.args.phase.now.task.now c.args.phase.now.setting.now c.args.phase.now.shape in
    let m = c.args.machine.now in
    let past = past_in phase m in
    omega (arith, last_visit_there phase m past c.args.phase.now.is_phase c.requires.rests)

pub index-row-requires : goal.index-row-requires
index-row-requires c =
    let phase = phase_of c.args.phase.now.task.now c.args.phase.now.setting.now c.args.phase.now.shape in
    let m = c.args.machine.now in
    let past = past_in phase m in
    omega (arith, row_of_last phase m past (c.visits-visit.result - 1) _ c.args.phase.now.is_phase c.requires.rests c.visit-id.ensures, m.rows.ok.0)

pub returns : goal.returns
returns c =
    let phase = phase_of c.args.phase.now.task.now c.args.phase.now.setting.now c.args.phase.now.shape in
    let m = c.args.machine.now in
    let visit = c.visits-visit.result - 1 in
    let row = c.index-row.result.now in
    let path = c.in_ok-ops.ops.items in
    let traced = subst (λ (t : List Origin). Traced t visit path) c.deref.ensures.value c.in_ok-ops.ensures in
    ends_in_plan phase m visit path _ row c.args.phase.now.is_phase c.requires.rests c.requires.goal (ap (λ (n : ℕ). n - 1) c.visits-visit.ensures.count) (omega (arith, c.visits-visit.ensures.count, c.visits-visit.ensures.few)) traced c.visit-id.ensures c.index-row.ensures
