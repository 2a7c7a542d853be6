use Rattle.std.proofs.Common.{◌≡◌, ◌∙◌, ℕ, [], ap, subst, sym, refl, length, arith}
use Rattle.sas_task.specs.declared.contents.CostKind.TheVariants.{One}
use Rattle.relaxed_task.specs.Relaxations.{IsRelaxed}
use Rattle.lm_backchain.specs.Growth.{Works}
use Rattle.lm_backchain.proofs.NewNodes.{none_kept}
use Rattle.lm_backchain.proofs.growing.grow.Goals as goal

pub places-init : goal.places-init
places-init c = record {
  works = c.requires.works;
  long = ap length c.new-singles.ensures.items;
  kept = none_kept c.args.task.now c.args.graph.now _ c.new-singles.ensures.items;
  relaxed = refl;
  within = omega arith;
}

pub backchain_from-requires-clause-place : goal.backchain_from-requires-clause-place
backchain_from-requires-clause-place c = let n = ap length c.nodes.ensures.nodes in omega (arith, n)

pub backchain_from-requires-clause-add : goal.backchain_from-requires-clause-add
backchain_from-requires-clause-add c = subst (IsRelaxed c.args.task.now One) (sym c.places.invariant.relaxed) c.requires.add

pub backchain_from-requires-clause-works : goal.backchain_from-requires-clause-works
backchain_from-requires-clause-works c = c.places.invariant.works

pub backchain_from-requires-clause-kept : goal.backchain_from-requires-clause-kept
backchain_from-requires-clause-kept c = c.places.invariant.kept

pub places-preserved : goal.places-preserved
places-preserved c = let lt = c.in_ok-backchain_from.ensures.place in record {
  works = c.in_ok-backchain_from.ensures.works;
  long = c.in_ok-backchain_from.ensures.long;
  kept = c.in_ok-backchain_from.ensures.kept;
  relaxed = c.backchain_from.ensures.add ∙ c.places.invariant.relaxed;
  within = omega (arith, lt);
}

pub returns-clause-works : goal.returns-clause-works
returns-clause-works c =
    let n = ap length c.nodes.ensures.nodes in
    let all : c.places.place ≡ length c.places.graph.nodes = omega (arith, n, c.places.invariant.within) in
    subst (λ (k : ℕ). Works c.args.task.now c.places.graph k []) all c.places.invariant.works

pub returns-clause-long : goal.returns-clause-long
returns-clause-long c = let n = ap length c.nodes.ensures.nodes in omega (arith, n, c.places.invariant.within, c.places.invariant.long)

pub returns-clause-kept : goal.returns-clause-kept
returns-clause-kept c = c.places.invariant.kept
