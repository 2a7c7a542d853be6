use Rattle.std.proofs.Common.{◌≡◌, ◌∙◌, sym, true, false}
use Rattle.std.proofs.lemmas.Bool.{both_ways}
use Rattle.lm_backchain.proofs.FirstAchievers.{both_reached, pre_reached, own_reached, front_facts}
use Rattle.lm_backchain.proofs.firsts.achieves.Goals as goal

pub returns-then-not-has : goal.returns-then-not-has
returns-then-not-has c parts knows there = (
  λ h. (let k : false ≡ true = h in cc),
  λ a. absurd (both_ways _ (sym c.has.ensures ∙ c.if-not-has.true) a.gives),
)

pub returns-then-not-all_reached : goal.returns-then-not-all_reached
returns-then-not-all_reached c parts knows there =
    let facts = front_facts parts c.args.operator.now c.args.effect.now there in
    let test = rw c.deref.ensures at (c.all_reached.ensures parts c.args.node.now knows) in (
      λ h. (let k : false ≡ true = h in cc),
      λ a. absurd (both_ways _ c.if-not-all_reached.true ((test facts.0).1 (pre_reached parts c.args.node.now c.args.operator.now c.args.effect.now a.reached))),
    )

pub returns : goal.returns
returns c parts knows there =
    let facts = front_facts parts c.args.operator.now c.args.effect.now there in
    let pre = rw c.deref.ensures at (c.all_reached.ensures parts c.args.node.now knows) in
    let own = rw c.deref-2.ensures at (c.all_reached-2.ensures parts c.args.node.now knows) in (
      λ h. record {
        gives = sym c.has.ensures ∙ c.if-not-has.false;
        reached = both_reached parts c.args.node.now c.args.operator.now c.args.effect.now ((pre facts.0).0 c.if-not-all_reached.false) ((own facts.1).0 h);
      },
      λ a. (own facts.1).1 (own_reached parts c.args.node.now c.args.operator.now c.args.effect.now a.reached),
    )
