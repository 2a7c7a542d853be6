use Rattle.std.proofs.Common.{◌≡◌, ◌∙◌, ◌+◌, ◌-◌, ◌^◌, min, ap, sym, refl, take, arith}
use Rattle.host_mem.specs.Times.{greatest}
use Rattle.host_mem.proofs.Ticks.{next_within}
use Rattle.host_mem.proofs.clock.answer_at.Goals as goal

pub returns-then-asked-times-clause-answer : goal.returns-then-asked-times-clause-answer
returns-then-asked-times-clause-answer c = c.max.ensures ∙ next_within _ _ _ _ (omega arith) refl c.requires

pub returns-then-asked-times-clause-next : goal.returns-then-asked-times-clause-next
returns-then-asked-times-clause-next c =
    let e : min (c.args.asked + 1) (2 ^ 64 - 1) ≡ c.args.asked + 1 = omega arith in
    c.max.ensures ∙ next_within _ _ _ _ (omega arith) refl c.requires ∙ ap (λ n. greatest (take n c.args.times.now)) (sym e)
