-- There are three kinds of guides, so a list that has each once has at most so many.
use Rattle.std.proofs.Common.{◌≡◌, ◌∙◌, refl, sym, ap, subst, ℕ, ◌+◌, ◌≤◌, Bool, true, false, List, [], ◌∷◌, ◌++◌, length, arith}
use Rattle.std.specs.Prelude.{not, ◌&&◌, ◌||◌}
use Rattle.std.proofs.lemmas.Bool.{not-true}
use Rattle.std.proofs.lemmas.List.Folds.{list_any-append}
use Rattle.lama_num.proofs.ListLaws.{both}
use Rattle.lama_num.proofs.BoolLaws.{or-false}
use Rattle.conf_text.specs.Grammar.{same_guide, has_guide, every_guide}
use Rattle.conf_text.specs.Accepted.{each_once}
use Rattle.conf_text.specs.declared.config.GuideKind.{GuideKind}
use Rattle.conf_text.specs.declared.config.GuideKind.TheVariants.{Add, Ff, Lm}

-- how many kinds of guides aren't among some
missing : Bool → ℕ
missing true = 0
missing false = 1

pub kinds_left : List GuideKind → ℕ
kinds_left front = missing (has_guide front Add) + (missing (has_guide front Ff) + missing (has_guide front Lm))

among : (front : List GuideKind) (g h : GuideKind) → has_guide (front ++ g ∷ []) h ≡ (has_guide front h || (same_guide h g || false))
among front g h = list_any-append (same_guide h) front (g ∷ [])

-- one kind less is left behind a new guide
pub one_less : (front : List GuideKind) (g : GuideKind) → has_guide front g ≡ false → kinds_left front ≡ kinds_left (front ++ g ∷ []) + 1
unfolding kinds_left missing
one_less front Add new = rw (among front Add Add, among front Add Ff, among front Add Lm, new, or-false (has_guide front Ff), or-false (has_guide front Lm)) (omega arith)
one_less front Ff new = rw (among front Ff Add, among front Ff Ff, among front Ff Lm, new, or-false (has_guide front Add), or-false (has_guide front Lm)) (omega arith)
one_less front Lm new = rw (among front Lm Add, among front Lm Ff, among front Lm Lm, new, or-false (has_guide front Add), or-false (has_guide front Ff)) (omega arith)

-- what a list of guides tells of its first
pub record Begins (allowed front : List GuideKind) (g : GuideKind) (gs : List GuideKind) : Type 0 where
  pub new : has_guide front g ≡ false
  pub may : has_guide allowed g ≡ true
  pub more : each_once allowed (front ++ g ∷ []) gs ≡ true

pub begins : (allowed front : List GuideKind) (g : GuideKind) (gs : List GuideKind) → each_once allowed front (g ∷ gs) ≡ true → Begins allowed front g gs
begins allowed front g gs once =
    let parts = both (not (has_guide front g) && has_guide allowed g) (each_once allowed (front ++ g ∷ []) gs) once in
    let two = both (not (has_guide front g)) (has_guide allowed g) parts.0 in
    record { new = not-true (has_guide front g) two.0; may = two.1; more = parts.1 }

pub few_guides : (allowed front gs : List GuideKind) → each_once allowed front gs ≡ true → length gs ≤ kinds_left front
few_guides allowed front [] once = omega arith
few_guides allowed front (g ∷ gs) once =
    let is = begins allowed front g gs once in
    omega (arith, one_less front g is.new, few_guides allowed (front ++ g ∷ []) gs is.more)

pub three_left : kinds_left [] ≡ 3
unfolding kinds_left missing
three_left = refl

pub at_most_three : (gs : List GuideKind) → each_once every_guide [] gs ≡ true → length gs ≤ 3
at_most_three gs once = omega (arith, few_guides every_guide [] gs once, three_left)
