use Rattle.std.proofs.Common.{◌∙◌, ◌<◌, sym, ap, subst, refl, arith, length, take, Vec, ℕ}
use Rattle.std.specs.declared.alloc.Global.{Global}
use Rattle.std.proofs.lemmas.Option.{slice_get_read}
use Rattle.plan_check.specs.Choices.{candidates}
use Rattle.plan_check.specs.Verdicts.{ends}
use Rattle.plan_check.specs.Layers.{IsEnd}
use Rattle.plan_check.proofs.Ends.{applicable_of}
use Rattle.plan_check.proofs.LayerPairs.{place_in, part_none, part_more, part_all, room_yes, room_no}
use Rattle.plan_check.proofs.widening.fill.Goals as goal

pub loop-place-init : goal.loop-place-init
loop-place-init c = record {
  ready = c.requires.ready;
  part = part_none c.args.setup.now.task.now c.args.setup.now.layout c.args.names.now c.args.links.now.items c.args.count c.args.layer.now c.requires.none;
}

pub restore-cost-requires-clause-ends : goal.restore-cost-requires-clause-ends
restore-cost-requires-clause-ends c = (ends c.args.setup.now.task.now (take c.args.count c.args.names.now), c.requires.last.words)

pub widen-requires-clause-state : goal.widen-requires-clause-state
widen-requires-clause-state c =
    let lt : c.loop-place.place < length c.args.last.now.layer = omega (arith, c.loop-place-test.true, c.len-place-end.ensures) in
    (place_in c.args.setup.now.task.now c.args.setup.now.layout c.args.links.now.items c.args.last.now.first c.args.count c.loop-place.place c.restore-cost.result c.args.last.now.layer (ends c.args.setup.now.task.now (take c.args.count c.args.names.now)) c.find_candidates.new.self.here.items
    c.requires.ready.steps.well_formed c.requires.last lt
    (λ all choice are at. subst (λ (v : Vec ℕ Global). IsEnd c.args.setup.now.task.now choice v.items c.restore-cost.result) (sym c.find_candidates.ensures.here) (c.restore-cost.ensures.end all choice are at))).2.is_state

pub widen-requires-clause-low : goal.widen-requires-clause-low
widen-requires-clause-low c =
    let lt : c.loop-place.place < length c.args.last.now.layer = omega (arith, c.loop-place-test.true, c.len-place-end.ensures) in
    (place_in c.args.setup.now.task.now c.args.setup.now.layout c.args.links.now.items c.args.last.now.first c.args.count c.loop-place.place c.restore-cost.result c.args.last.now.layer (ends c.args.setup.now.task.now (take c.args.count c.args.names.now)) c.find_candidates.new.self.here.items
    c.requires.ready.steps.well_formed c.requires.last lt
    (λ all choice are at. subst (λ (v : Vec ℕ Global). IsEnd c.args.setup.now.task.now choice v.items c.restore-cost.result) (sym c.find_candidates.ensures.here) (c.restore-cost.ensures.end all choice are at))).2.low (omega (arith, c.requires.count, c.requires.few))

pub widen-requires-clause-found : goal.widen-requires-clause-found
widen-requires-clause-found c = applicable_of c.args.setup.now.task.now c.find_candidates.new.self.here.items c.deref.result.now c.find_candidates.new.self.candidates.items c.in_ok-find_candidates.ensures.found

pub loop-place-preserved : goal.loop-place-preserved
loop-place-preserved c =
    let lt : c.loop-place.place < length c.args.last.now.layer = omega (arith, c.loop-place-test.true, c.len-place-end.ensures) in
    record {
      ready = c.in_ok-widen.ensures.ready;
      part = room_yes _ _ c.in_ok-widen.field-0 c.if-not-branch.false
          (part_more c.args.setup.now.task.now c.args.setup.now.layout c.args.names.now c.args.links.now.items c.loop-place.links.items c.widen.new.links.items c.args.last.now.first c.args.count c.loop-place.place c.restore-cost.result c.args.last.now.layer c.loop-place.layer c.widen.new.layer
          c.find_candidates.new.self.here.items c.index-names-count.result c.find_candidates.new.self.candidates.items c.in_ok-widen.field-0 c.requires.ready.steps.well_formed c.requires.last lt
          (λ all choice are at. subst (λ (v : Vec ℕ Global). IsEnd c.args.setup.now.task.now choice v.items c.restore-cost.result) (sym c.find_candidates.ensures.here) (c.restore-cost.ensures.end all choice are at))
          (slice_get_read c.args.names.now (length c.args.names.now) c.args.count c.index-names-count.result refl c.requires.count c.index-names-count.is)
          (c.in_ok-find_candidates.ensures.found ∙ ap (candidates c.args.setup.now.task.now c.find_candidates.new.self.here.items) c.deref.ensures)
          c.loop-place.invariant.part c.in_ok-widen.ensures.kept c.in_ok-widen.ensures.few c.in_ok-widen.ensures.wider);
    }

pub returns-then-not-branch-clause-filled : goal.returns-then-not-branch-clause-filled
returns-then-not-branch-clause-filled c =
    let lt : c.loop-place.place < length c.args.last.now.layer = omega (arith, c.loop-place-test.true, c.len-place-end.ensures) in
    room_no _ _ c.in_ok-widen.field-0 c.if-not-branch.true
    (part_more c.args.setup.now.task.now c.args.setup.now.layout c.args.names.now c.args.links.now.items c.loop-place.links.items c.widen.new.links.items c.args.last.now.first c.args.count c.loop-place.place c.restore-cost.result c.args.last.now.layer c.loop-place.layer c.widen.new.layer
    c.find_candidates.new.self.here.items c.index-names-count.result c.find_candidates.new.self.candidates.items c.in_ok-widen.field-0 c.requires.ready.steps.well_formed c.requires.last lt
    (λ all choice are at. subst (λ (v : Vec ℕ Global). IsEnd c.args.setup.now.task.now choice v.items c.restore-cost.result) (sym c.find_candidates.ensures.here) (c.restore-cost.ensures.end all choice are at))
    (slice_get_read c.args.names.now (length c.args.names.now) c.args.count c.index-names-count.result refl c.requires.count c.index-names-count.is)
    (c.in_ok-find_candidates.ensures.found ∙ ap (candidates c.args.setup.now.task.now c.find_candidates.new.self.here.items) c.deref.ensures)
    c.loop-place.invariant.part c.in_ok-widen.ensures.kept c.in_ok-widen.ensures.few c.in_ok-widen.ensures.wider)

pub returns-clause-filled : goal.returns-clause-filled
returns-clause-filled c =
    part_all c.args.setup.now.task.now c.args.setup.now.layout c.args.names.now c.args.links.now.items c.loop-place.links.items c.args.last.now.first c.args.count c.loop-place.place c.args.last.now.layer c.loop-place.layer c.requires.count c.requires.last
    (omega (arith, c.loop-place-test.false, c.len-place-end.ensures)) c.loop-place.invariant.part
