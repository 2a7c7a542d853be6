use Rattle.std.proofs.Common.{◌≡◌, length, map, refl, ap, sym, ◌∙◌, arith}
use Rattle.std.proofs.lemmas.Option.{get_or_from_slice_get}
use Rattle.sas_task.specs.declared.contents.Parts.{Parts}
use Rattle.search_log.specs.Places.{latest}
use Rattle.search_log.specs.Spaces.{node_member}
use Rattle.lazy_search.specs.declared.rows.LatestVisit.{LatestVisit}
use Rattle.lazy_search.specs.Machines.{past_in, row_of}
use Rattle.lazy_search.specs.Phases.{phase_of}
use Rattle.lazy_search.proofs.TakenEntries.{row_there}
use Rattle.lazy_search.proofs.LookUps.{rows_count, words_there}
use Rattle.lazy_search.proofs.PlanAndSpace.{space_more, space_few, node_there, take_front, take_whole, rows_few, is_kept, state_there}
use Rattle.lazy_search.proofs.searching.space_of.Goals as goal

pub loop-id-init : goal.loop-id-init
loop-id-init c = record { long = omega (arith, c.in_ok-state.ensures.len, c.len.ensures, ap (λ (p : Parts). length p.variables) c.parts.ensures.parts, c.in_ok-state.state.ok.0); so_far = c.empty-space.ensures }

pub overflow_cast-id : goal.overflow_cast-id
overflow_cast-id c =
    let phase = phase_of c.args.phase.now.task.now c.args.phase.now.setting.now c.args.phase.now.shape in
    let m = c.args.machine.now in
    let past = past_in phase m in
    omega (arith, rows_few phase m past c.args.phase.now.is_phase c.requires.rests)

pub state_into-requires : goal.state_into-requires
state_into-requires c =
    let phase = phase_of c.args.phase.now.task.now c.args.phase.now.setting.now c.args.phase.now.shape in
    let m = c.args.machine.now in
    let past = past_in phase m in
    let n = node_there phase m past c.loop-id.id c.requires.rests.kept (omega (arith, c.loop-id-test.true, c.len-id-end.ensures, m.rows.ok.0)) in
    record {
      ready = c.requires.rests.kept.ready;
      kept = is_kept phase m past c.loop-id.id n.0 c.args.phase.now.is_phase c.requires.rests n.1;
      long = ap length c.deref_mut.ensures.value ∙ c.loop-id.invariant.long;
    }

pub push-requires : goal.push-requires
push-requires c =
    let phase = phase_of c.args.phase.now.task.now c.args.phase.now.setting.now c.args.phase.now.shape in
    let m = c.args.machine.now in
    let past = past_in phase m in
    omega (arith, rows_few phase m past c.args.phase.now.is_phase c.requires.rests, space_few (latest past.nodes) c.loop-id.space c.loop-id.id c.loop-id.invariant.so_far, c.loop-id-test.true, c.len-id-end.ensures, m.rows.ok.0)

pub same-space : goal.same-space
same-space c = refl

pub loop-id-preserved : goal.loop-id-preserved
loop-id-preserved c =
    let phase = phase_of c.args.phase.now.task.now c.args.phase.now.setting.now c.args.phase.now.shape in
    let m = c.args.machine.now in
    let past = past_in phase m in
    let id = c.loop-id.id in
    let kept = c.requires.rests.kept in
    let n = node_there phase m past id kept (omega (arith, c.loop-id-test.true, c.len-id-end.ensures, m.rows.ok.0)) in
    let long : length c.state_into.new.out ≡ c.loop-id.state.len = omega (arith, c.state_into.auto.out, c.deref_mut.ensures.len, c.loop-id.state.ok.0) in
    let whole = take_front c.state_into.new.out _ c.loop-id.state.len (sym long) in
    let copied = c.state_into.ensures n.0.place.state (state_there phase m past id n.0 c.args.phase.now.is_phase c.requires.rests n.1) (words_there phase m m.states.registry.states past id n.0 kept n.1) in
    let row = c.index.ensures ∙ get_or_from_slice_get m.rows.items id (row_of n.0) c.index.result.now (row_there phase m m.states.registry.states past id n.0 kept n.1) in
    record {
      long = omega (arith, ap length whole, long, c.loop-id.state.ok.0, c.loop-id.invariant.long);
      so_far = space_more (latest past.nodes) c.loop-id.space c.push.new.self id n.0 c.deref.result.now c.index.result.now.real n.1 (c.deref.ensures.value ∙ whole ∙ copied) (ap (λ (r : LatestVisit). r.real) row) c.loop-id.invariant.so_far c.in_ok-push.ensures.ok;
    }

pub returns : goal.returns
returns c =
    let phase = phase_of c.args.phase.now.task.now c.args.phase.now.setting.now c.args.phase.now.shape in
    let m = c.args.machine.now in
    let past = past_in phase m in
    c.loop-id.invariant.so_far ∙ ap (map node_member) (take_whole (latest past.nodes) c.loop-id.id (omega (arith, rows_count phase m m.states.registry.states past c.requires.rests.kept, c.loop-id-test.false, c.len-id-end.ensures, m.rows.ok.0)))
