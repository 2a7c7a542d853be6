-- Lists in which each element is looked at together with those before it.
use Rattle.std.proofs.Common.{Bool, if◌then◌else◌, List, [], ◌∷◌, ◌++◌}

-- what f gives of each element, given those before it
abbrev pub each_after : {X Y : Type 0} → (List X → X → Y) → List X → List X → List Y
each_after f past [] = []
each_after f past (x ∷ xs) = f past x ∷ each_after f (past ++ x ∷ []) xs

-- the elements that pass a test, given those before each
abbrev pub filter_after : {X : Type 0} → (List X → X → Bool) → List X → List X → List X
filter_after test past [] = []
filter_after test past (x ∷ xs) =
    if test past x then x ∷ filter_after test (past ++ x ∷ []) xs else filter_after test (past ++ x ∷ []) xs

-- P holds of each element, given those before it
abbrev pub AllAfter : {X : Type 0} → (List X → X → Type 0) → List X → List X → Type 0
AllAfter P past [] = Unit {0}
AllAfter P past (x ∷ xs) = P past x × AllAfter P (past ++ x ∷ []) xs
