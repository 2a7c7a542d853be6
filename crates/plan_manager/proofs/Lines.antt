-- The next line of a plan's text.
use Rattle.std.proofs.Common.{◌≡◌, sym, refl, ℕ, ◌+◌, ◌-◌, ◌<◌, List, [], ◌∷◌, ◌++◌, length, take, drop, get_or, true, false, IsTrue, arith, append_assoc, append-nil, not}
use Rattle.std.specs.Bool.{◌==◌}
use Rattle.std.proofs.lemmas.Bool.Decides.{nat_tests}
use Rattle.std.proofs.lemmas.List.{take_all}
use Rattle.sas_task.specs.declared.contents.Parts.{Parts}
use Rattle.plan_text.specs.PlanText.{name_at, step_line}
use Rattle.plan_manager.specs.TextRests.{steps_text}

rest_of : (op : ℕ) (ops : List ℕ) → take (length (op ∷ ops) - 1) (drop 1 (op ∷ ops)) ≡ ops
rest_of op ops = take_all (length (op ∷ ops) - 1) ops (omega arith)

-- a step's
pub next_step : (parts : Parts) (ops cost name : List ℕ) → (length ops == 0) ≡ false → name ≡ name_at parts (get_or ops 0 0) →
    ((40 ∷ []) ++ name ++ 41 ∷ 10 ∷ []) ++ (steps_text parts (take (length ops - 1) (drop 1 ops)) ++ cost) ≡ steps_text parts ops ++ cost
next_step parts [] cost name some is = let k : true ≡ false = some in cc
next_step parts (op ∷ ops) cost name some is =
    rw (rest_of op ops, is) (sym (append_assoc (step_line (name_at parts op)) (steps_text parts ops) cost))

pub one_fewer : (ops cost : List ℕ) → (length ops == 0) ≡ false → length (take (length ops - 1) (drop 1 ops)) + length cost < length ops + length cost
one_fewer [] cost some = let k : true ≡ false = some in cc
one_fewer (op ∷ ops) cost some = rw (rest_of op ops) (omega arith)

pub nothing_at_hand : (a b c : List ℕ) → a ++ b ++ c ≡ [] → (a ≡ []) × (b ≡ []) × (c ≡ [])
nothing_at_hand [] [] [] is = (refl, refl, refl)
nothing_at_hand [] [] (z ∷ zs) is = let k : ◌≡◌ {A = List ℕ} (z ∷ zs) [] = is in cc
nothing_at_hand [] (y ∷ ys) c is = let k : ◌≡◌ {A = List ℕ} (y ∷ (ys ++ c)) [] = is in cc
nothing_at_hand (x ∷ xs) b c is = let k : ◌≡◌ {A = List ℕ} (x ∷ ((xs ++ b) ++ c)) [] = is in cc

pub is_nothing : (ops : List ℕ) → (length ops == 0) ≡ true → ops ≡ []
is_nothing [] none = refl
is_nothing (op ∷ ops) none = absurd (grind (arith, nat_tests, none))

-- the last
pub next_cost : (parts : Parts) (a b c ops cost : List ℕ) → a ++ b ++ c ≡ [] → (length ops == 0) ≡ true → (cost ++ b ++ c) ++ (steps_text parts ops ++ []) ≡ (a ++ b ++ c) ++ (steps_text parts ops ++ cost)
next_cost parts a b c ops cost hand none =
    let at_hand = nothing_at_hand a b c hand in
    rw (at_hand.0, at_hand.1, at_hand.2, is_nothing ops none) (simp append-nil)

pub none_fewer : (ops cost : List ℕ) → IsTrue (not (length cost == 0)) → length ops + 0 < length ops + length cost
none_fewer ops [] some = let k : false ≡ true = some in cc
none_fewer ops (c ∷ cs) some = omega arith

pub nothing_left : (parts : Parts) (a b c ops cost : List ℕ) → a ++ b ++ c ≡ [] → (length ops == 0) ≡ true → not (length cost == 0) ≡ false → (a ++ b ++ c) ++ (steps_text parts ops ++ cost) ≡ []
nothing_left parts a b c ops [] hand none last = rw (hand, is_nothing ops none) refl
nothing_left parts a b c ops (d ∷ ds) hand none last = absurd (grind (arith, nat_tests, last))
