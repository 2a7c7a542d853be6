use Rattle.std.proofs.Common.{◌≡◌, ◌≤◌, ◌∙◌, sym, false, true, length, arith}
use Rattle.std.proofs.lemmas.Bool.{both_ways}
use Rattle.lm_backchain.proofs.SharedConditions.{set_from}
use Rattle.lm_backchain.proofs.taking_back.is_set_for.Goals as goal

pub returns-then-count-lt2 : goal.returns-then-count-lt2
returns-then-count-lt2 c = (λ h. (let k : false ≡ true = h in cc), λ s. absurd (let two = s.some in omega (arith, two)))

pub returns-then-count-gt4 : goal.returns-then-count-gt4
returns-then-count-gt4 c = (λ h. (let k : false ≡ true = h in cc), λ s. absurd (let four = s.few in omega (arith, four)))

pub returns-then-not-is_open : goal.returns-then-not-is_open
returns-then-not-is_open c = (λ h. (let k : false ≡ true = h in cc), λ s. absurd (both_ways _ (sym c.is_open.ensures ∙ c.if-not-is_open.true) s.are_open))

pub returns : goal.returns
returns c =
    let some : 2 ≤ length c.args.set.now = omega arith in
    let few : length c.args.set.now ≤ 4 = omega arith in (
      λ h. set_from c.args.task.now c.args.lists.now c.args.predicate.now c.args.set.now c.requires.collected (c.all_ask.ensures.0 h) some few (sym c.is_open.ensures ∙ c.if-not-is_open.false),
      λ s. c.all_ask.ensures.1 s.every,
    )
