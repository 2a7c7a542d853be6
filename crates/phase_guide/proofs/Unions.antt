-- Operators that some preferred guide prefers.
use Rattle.std.proofs.Common.{◌≡◌, ◌∙◌, ap, refl, ℕ, List, [], ◌∷◌, Bool, true, false, cond, ◌&&◌, ◌||◌}
use Rattle.std.specs.List.{list_any}
use Rattle.conf_text.specs.Grammar.{has_guide}
use Rattle.conf_text.specs.declared.config.GuideKind.{GuideKind}
use Rattle.conf_text.specs.declared.config.GuideKind.TheVariants.{Add, Ff, Lm}
use Rattle.guide.specs.Operators.{is_among}

again : (a h m : Bool) → (a || ((h && a) || m)) ≡ ((true && a) || m)
again true h m = refl
again false true m = refl
again false false m = refl

again_last : (b f h : Bool) → (b || (f || (h && b))) ≡ (f || (true && b))
again_last true true h = refl
again_last true false h = refl
again_last false true h = refl
again_last false false true = refl
again_last false false false = refl

-- The additive estimate prefers nothing, so that there are two to ask.
pub any_of_two : (test : GuideKind → Bool) → test Add ≡ false → (guides : List GuideKind) →
    list_any test guides ≡ ((has_guide guides Ff && test Ff) || (has_guide guides Lm && test Lm))
any_of_two test none [] = refl
any_of_two test none (Add ∷ guides) = rw none (any_of_two test none guides)
any_of_two test none (Ff ∷ guides) = ap (λ b. test Ff || b) (any_of_two test none guides) ∙ again (test Ff) (has_guide guides Ff) (has_guide guides Lm && test Lm)
any_of_two test none (Lm ∷ guides) = ap (λ b. test Lm || b) (any_of_two test none guides) ∙ again_last (test Lm) (has_guide guides Ff && test Ff) (has_guide guides Lm)

-- among a list that is taken, if so
pub among_if : (b : Bool) (ops : List ℕ) (op : ℕ) → is_among (cond b ops []) op ≡ (b && is_among ops op)
among_if true ops op = refl
among_if false ops op = refl
