-- The guides of a phase.
use Rattle.std.specs.Prelude.{ℕ, ◌≤◌, List, [], ◌∷◌, length, Bool, false, ◌||◌, nat_eq, slice_index}
use Rattle.conf_text.specs.Grammar.{has_guide}
use Rattle.conf_text.specs.declared.config.GuideKind.{GuideKind}
use Rattle.conf_text.specs.declared.config.GuideKind.TheVariants.{Add, Ff, Lm}
use Rattle.conf_text.specs.declared.config.Phase.{Phase}
use Rattle.phase_guide.specs.declared.kinds.Values.{Values}

-- a guide of the phase goes by the relaxation, and so finds dead states
abbrev pub is_relaxing : Phase → Bool
is_relaxing phase = has_guide phase.guides Add || has_guide phase.guides Ff

-- one to three guides
pub record HasFew (guides : List GuideKind) : Type 0 where
  pub some : 1 ≤ length guides
  pub few : length guides ≤ 3

abbrev pub value_of : Values → GuideKind → ℕ
value_of values Add = values.add
value_of values Ff = values.ff
value_of values Lm = values.lm

-- the first three of some numbers; 0 in place of those that aren't there
abbrev pub three_of : List ℕ → List ℕ
three_of xs = slice_index xs 0 ∷ slice_index xs 1 ∷ slice_index xs 2 ∷ []

-- the list begins with the operator
abbrev pub is_first : List ℕ → ℕ → Bool
is_first [] op = false
is_first (x ∷ ops) op = nat_eq x op
