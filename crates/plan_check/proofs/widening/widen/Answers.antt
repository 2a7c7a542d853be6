use Rattle.std.proofs.Common.{◌≡◌, ◌∙◌, ◌<◌, ◌+◌, ◌++◌, sym, subst, refl, arith, suc, length, take, drop, true, append-nil, Vec, ℕ, Some}
use Rattle.std.specs.Prelude.{slice_get}
use Rattle.std.specs.declared.alloc.Global.{Global}
use Rattle.std.proofs.lemmas.List.{take_all}
use Rattle.lama_num.proofs.ListLaws.{list_all_get}
use Rattle.sas_task.specs.States.{IsState}
use Rattle.state_step.specs.Steps.{is_applicable}
use Rattle.plan_check.specs.Layers.{EndsAt, IsGrowing, longer}
use Rattle.plan_check.proofs.LayerPairs.{longer_more, still_many, longer_split, end_kept, taken_at}
use Rattle.plan_check.proofs.widening.widen.Goals as goal

pub loop-i-init : goal.loop-i-init
loop-i-init c = record {
  ready = c.requires.ready;
  here = refl;
  candidates = refl;
  few = c.requires.few;
  kept = λ steps place choice leads. leads;
  grown = λ choice done first steps end growing. subst (IsGrowing c.args.setup.now.task.now c.args.setup.now.layout c.args.links.now.items first (suc steps) c.args.layer.now) (sym (append-nil done)) growing;
}

pub add_after-requires-clause-state : goal.add_after-requires-clause-state
add_after-requires-clause-state c = subst (λ (v : Vec ℕ Global). IsState c.args.setup.now.task.now.variables v.items) (sym c.loop-i.invariant.here) c.requires.state

pub add_after-requires-clause-applicable : goal.add_after-requires-clause-applicable
add_after-requires-clause-applicable c =
    let at : slice_get c.args.walker.now.candidates.items c.loop-i.i ≡ Some c.index-op.result.now =
    taken_at c.loop-i.walker.candidates c.args.walker.now.candidates c.loop-i.i c.index-op.result.now c.len-i-end.result c.loop-i.invariant.candidates (omega (arith, c.len-i-end.ensures, c.args.walker.now.candidates.ok.0)) c.loop-i-test.true c.index-op.ensures in
    subst (λ (v : Vec ℕ Global). is_applicable c.args.setup.now.task.now v.items c.index-op.result.now ≡ true) (sym c.loop-i.invariant.here)
    (list_all_get (is_applicable c.args.setup.now.task.now c.args.walker.now.here.items) c.args.walker.now.candidates.items c.loop-i.i c.index-op.result.now c.requires.found at)

pub returns-then-len-gt-MOST_PAIRS-clause-kept : goal.returns-then-len-gt-MOST_PAIRS-clause-kept
returns-then-len-gt-MOST_PAIRS-clause-kept c = λ steps place choice leads. c.in_ok-add_after.ensures.kept steps place choice (c.loop-i.invariant.kept steps place choice leads)

pub returns-then-len-gt-MOST_PAIRS-clause-wider : goal.returns-then-len-gt-MOST_PAIRS-clause-wider
returns-then-len-gt-MOST_PAIRS-clause-wider c =
    let at : slice_get c.args.walker.now.candidates.items c.loop-i.i ≡ Some c.index-op.result.now =
    taken_at c.loop-i.walker.candidates c.args.walker.now.candidates c.loop-i.i c.index-op.result.now c.len-i-end.result c.loop-i.invariant.candidates (omega (arith, c.len-i-end.ensures, c.args.walker.now.candidates.ok.0)) c.loop-i-test.true c.index-op.ensures in
    let many : 65536 < length c.add_after.new.layer = omega (arith, c.if-len-gt-MOST_PAIRS.true, c.len.ensures) in
    λ choice done first steps end growing.
    still_many c.args.setup.now.task.now c.args.setup.now.layout c.requires.ready.steps.well_formed c.requires.made.laid c.add_after.new.links.items first (suc steps) c.add_after.new.layer
    (done ++ longer choice (take (c.loop-i.i + 1) c.args.walker.now.candidates.items)) (done ++ longer choice c.args.walker.now.candidates.items) (longer choice (drop (c.loop-i.i + 1) c.args.walker.now.candidates.items))
    (subst (IsGrowing c.args.setup.now.task.now c.args.setup.now.layout c.add_after.new.links.items first (suc steps) c.add_after.new.layer) (longer_more choice c.args.walker.now.candidates.items done c.loop-i.i c.index-op.result.now at)
    (c.in_ok-add_after.ensures.grown choice (done ++ longer choice (take c.loop-i.i c.args.walker.now.candidates.items)) first steps
    (subst (λ (v : Vec ℕ Global). EndsAt c.args.setup.now.task.now c.loop-i.links.items steps c.args.from choice v.items c.args.cost) (sym c.loop-i.invariant.here)
    (end_kept c.args.setup.now.task.now c.args.links.now.items c.loop-i.links.items steps c.args.from choice c.args.walker.now.here.items c.args.cost c.loop-i.invariant.kept end))
    (c.loop-i.invariant.grown choice done first steps end growing)))
    many (longer_split choice c.args.walker.now.candidates.items done (c.loop-i.i + 1))

pub loop-i-preserved : goal.loop-i-preserved
loop-i-preserved c =
    let at : slice_get c.args.walker.now.candidates.items c.loop-i.i ≡ Some c.index-op.result.now =
    taken_at c.loop-i.walker.candidates c.args.walker.now.candidates c.loop-i.i c.index-op.result.now c.len-i-end.result c.loop-i.invariant.candidates (omega (arith, c.len-i-end.ensures, c.args.walker.now.candidates.ok.0)) c.loop-i-test.true c.index-op.ensures in
    record {
      ready = c.in_ok-add_after.ensures.ready;
      here = c.in_ok-add_after.ensures.here ∙ c.loop-i.invariant.here;
      candidates = c.in_ok-add_after.ensures.candidates ∙ c.loop-i.invariant.candidates;
      few = omega (arith, c.if-len-gt-MOST_PAIRS.false, c.len.ensures);
      kept = λ steps place choice leads. c.in_ok-add_after.ensures.kept steps place choice (c.loop-i.invariant.kept steps place choice leads);
      grown = λ choice done first steps end growing.
          subst (IsGrowing c.args.setup.now.task.now c.args.setup.now.layout c.add_after.new.links.items first (suc steps) c.add_after.new.layer) (longer_more choice c.args.walker.now.candidates.items done c.loop-i.i c.index-op.result.now at)
          (c.in_ok-add_after.ensures.grown choice (done ++ longer choice (take c.loop-i.i c.args.walker.now.candidates.items)) first steps
          (subst (λ (v : Vec ℕ Global). EndsAt c.args.setup.now.task.now c.loop-i.links.items steps c.args.from choice v.items c.args.cost) (sym c.loop-i.invariant.here)
          (end_kept c.args.setup.now.task.now c.args.links.now.items c.loop-i.links.items steps c.args.from choice c.args.walker.now.here.items c.args.cost c.loop-i.invariant.kept end))
          (c.loop-i.invariant.grown choice done first steps end growing));
    }

pub returns-clause-wider : goal.returns-clause-wider
returns-clause-wider c =
    let all : take c.loop-i.i c.args.walker.now.candidates.items ≡ c.args.walker.now.candidates.items = take_all c.loop-i.i c.args.walker.now.candidates.items (omega (arith, c.loop-i-test.false, c.len-i-end.ensures, c.args.walker.now.candidates.ok.0)) in
    λ choice done first steps end growing.
    subst (λ os. IsGrowing c.args.setup.now.task.now c.args.setup.now.layout c.loop-i.links.items first (suc steps) c.loop-i.layer (done ++ longer choice os)) all (c.loop-i.invariant.grown choice done first steps end growing)
