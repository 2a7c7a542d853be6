use Rattle.std.proofs.Common.{◌++◌, ℕ, List, ap, sym, ◌∙◌, subst, arith, reverse, get_or}
use Rattle.std.proofs.lemmas.List.{append-nil}
use Rattle.std.proofs.lemmas.Option.{slice_get-get_or}
use Rattle.lazy_search.specs.declared.paths.Origin.{Origin}
use Rattle.lazy_search.specs.Origins.{Traced}
use Rattle.lazy_search.proofs.Loops.{traced_back, traced_whole}
use Rattle.lazy_search.proofs.paths.path_to.Goals as goal

pub loop-at-init : goal.loop-at-init
loop-at-init c = record {
  inside = c.requires.visit;
  traced = λ front t. subst (Traced c.args.origins.now c.args.visit) (sym (ap (λ (ops : List ℕ). front ++ reverse ops) c.new-path.ensures.items ∙ append-nil front)) t;
}

pub loop-at-smaller : goal.loop-at-smaller
loop-at-smaller c =
    let origins = c.args.origins.now in
    let d : Origin = record { origin = 0; op = 0 } in
    c.requires.earlier.earlier c.loop-at.at (get_or origins c.loop-at.at d) c.loop-at-test.true (slice_get-get_or origins c.loop-at.at d c.loop-at.invariant.inside)

pub loop-at-preserved : goal.loop-at-preserved
loop-at-preserved c =
    let origins = c.args.origins.now in
    let d : Origin = record { origin = 0; op = 0 } in
    let came = get_or origins c.loop-at.at d in
    let read = slice_get-get_or origins c.loop-at.at d c.loop-at.invariant.inside in
    let before = c.requires.earlier.earlier c.loop-at.at came c.loop-at-test.true read in
    let ok = c.in_ok-push.ensures in
    record {
      inside = omega (arith, before, c.loop-at.invariant.inside);
      traced = traced_back origins c.args.visit c.loop-at.at came c.loop-at.path.items c.push.new.self.items c.loop-at-test.true read c.loop-at.invariant.traced ok.items;
    }

pub returns : goal.returns
returns c = rw c.reverse.ensures.items (traced_whole c.args.origins.now c.args.visit c.loop-at.at c.loop-at.path.items (omega arith) c.loop-at.invariant.traced)
