use Rattle.std.proofs.Common.{◌≡◌, ◌∙◌, Bool, true, false, List, length, replicate, refl, sym, ap, arith}
use Rattle.driver_core.proofs.Steps.{stands_first}
use Rattle.driver_core.proofs.driver.Core.new.Goals as goal

pub returns-clause-stands : goal.returns-clause-stands
returns-clause-stands c =
    let same = ap length (c.from-shares.ensures ∙ c.in_ok-duplicate_items.ensures) in
    stands_first _ refl refl refl (omega (arith, same, c.requires.some))
    (c.in_ok-running.ensures.items_if_clones_equal (λ y e. e) ∙ ap (λ n. replicate n true) (sym same))
    (c.in_ok-keepers.ensures.items_if_clones_equal (λ y e. e) ∙ ap (λ n. replicate n false) (sym same))
    c.len-unended.ensures refl refl c.none.ensures
