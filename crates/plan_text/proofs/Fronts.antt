-- The steps in front of a text, and what the whole of it gives.
use Rattle.std.proofs.Common.{◌≡◌, ◌∙◌, sym, ap, refl, ℕ, suc, ◌+◌, List, [], ◌∷◌, ◌++◌, length, drop, map, Bool, true, false, cond, Some, Result, Ok, Err, arith, one-add, append_assoc}
use Rattle.std.specs.Prelude.{is_some, unwrap_or}
use Rattle.std.specs.List.{take_while, prefix_len}
use Rattle.std.proofs.lemmas.List.Sums.{take_while-cons}
use Rattle.std.proofs.lemmas.List.Folds.{length-prefix_len}
use Rattle.std.proofs.lemmas.List.{length-map}
use Rattle.lama_num.specs.Gives.{◌>>=◌}
use Rattle.plan_text.specs.PlanLines.{step_name, is_step, name_in, names_in_front, ending, plan_lines}
use Rattle.plan_text.specs.declared.reading.PlanLines.{PlanLines}
use Rattle.plan_text.specs.declared.faults.PlanTextFault.{PlanTextFault}
use Rattle.plan_text.specs.declared.faults.PlanTextFault.TheVariants.{CutShort}

module _ {X : Type 0} (p : X → Bool) (x : X) (xs : List X) where
  pub passes_len : p x ≡ true → prefix_len p (x ∷ xs) ≡ suc (prefix_len p xs)
  passes_len is = rw is (one-add (prefix_len p xs))

  pub passes_rest : p x ≡ true → drop (prefix_len p (x ∷ xs)) (x ∷ xs) ≡ drop (prefix_len p xs) xs
  passes_rest is = rw (passes_len is) refl

  pub passes_front : p x ≡ true → take_while p (x ∷ xs) ≡ x ∷ take_while p xs
  passes_front is = take_while-cons p x xs ∙ ap (λ b. cond b (x ∷ take_while p xs) []) is

  pub fails_len : p x ≡ false → prefix_len p (x ∷ xs) ≡ 0
  fails_len is = rw is refl

  pub fails_rest : p x ≡ false → drop (prefix_len p (x ∷ xs)) (x ∷ xs) ≡ x ∷ xs
  fails_rest is = rw (fails_len is) refl

  pub fails_front : p x ≡ false → take_while p (x ∷ xs) ≡ []
  fails_front is = take_while-cons p x xs ∙ ap (λ b. cond b (x ∷ take_while p xs) []) is

-- one more step
module _ (left rest : List (List ℕ)) (line name : List ℕ) (cut : left ≡ line ∷ rest) (is : Some name ≡ step_name line) where
  is_one : is_step line ≡ true
  is_one = sym (ap (λ o. is_some o) is)

  named : name_in line ≡ name
  named = sym (ap (λ o. unwrap_or o []) is)

  pub more_names : (names whole : List (List ℕ)) → names ++ names_in_front left ≡ whole → (names ++ name ∷ []) ++ names_in_front rest ≡ whole
  more_names names whole so =
      let front : names_in_front left ≡ name ∷ names_in_front rest = ap names_in_front cut ∙ ap (map name_in) (passes_front is_step line rest is_one) ∙ ap (λ n. n ∷ names_in_front rest) named in
      append_assoc names (name ∷ []) (names_in_front rest) ∙ ap (λ t. names ++ t) (sym front) ∙ so

  pub more_rest : drop (prefix_len is_step rest) rest ≡ drop (prefix_len is_step left) left
  more_rest = sym (ap (λ t. drop (prefix_len is_step t) t) cut ∙ passes_rest is_step line rest is_one)

  pub more_place : (n : ℕ) → n + 1 + prefix_len is_step rest ≡ n + prefix_len is_step left
  more_place n = let one : prefix_len is_step left ≡ suc (prefix_len is_step rest) = ap (prefix_len is_step) cut ∙ passes_len is_step line rest is_one in omega (arith, one)

-- so many names
pub names_long : (lines : List (List ℕ)) → length (names_in_front lines) ≡ prefix_len is_step lines
names_long lines = mapped (take_while is_step lines) ∙ length-prefix_len is_step lines
  where
    mapped : (xs : List (List ℕ)) → length (map name_in xs) ≡ length xs
    mapped xs = simp length-map

-- the names behind none
pub behind_none : (names front all : List (List ℕ)) → names ≡ [] → all ≡ names ++ front → all ≡ front
behind_none names front all none is = is ∙ ap (λ t. t ++ front) none

-- what a whole text gives
abbrev with_names : List (List ℕ) → ℕ × Bool → Result PlanLines PlanTextFault
with_names names cost = Ok (record { names = names; cost = cost.0; unit = cost.1 })

pub plan_none : (finished : Bool) (lines : List (List ℕ)) → drop (prefix_len is_step lines) lines ≡ [] → plan_lines finished lines ≡ Err CutShort
unfolding plan_lines
plan_none finished lines is = ap (λ rest. ending finished (prefix_len is_step lines) rest >>= with_names (names_in_front lines)) is

module _ (finished : Bool) (lines left names : List (List ℕ)) (line : List ℕ) (rest : drop (prefix_len is_step lines) lines ≡ line ∷ left) (named : names ≡ names_in_front lines) where
  plan_is : plan_lines finished lines ≡ (ending finished (length names) (line ∷ left) >>= with_names names)
  unfolding plan_lines
  plan_is =
      let long : length names ≡ prefix_len is_step lines = ap (λ t. length t) named ∙ names_long lines in
      ap (λ t. ending finished (prefix_len is_step lines) t >>= with_names (names_in_front lines)) rest
      ∙ ap (λ n. ending finished n (line ∷ left) >>= with_names (names_in_front lines)) (sym long)
      ∙ ap (λ t. ending finished (length names) (line ∷ left) >>= with_names t) (sym named)

  ending_is : (end : Bool) (n : ℕ) → end ≡ finished → n ≡ length names → ending finished (length names) (line ∷ left) ≡ ending end n (line ∷ left)
  ending_is end n same long = sym (ap (λ b. ending b n (line ∷ left)) same ∙ ap (λ m. ending finished m (line ∷ left)) long)

  pub plan_ok : (end : Bool) (n cost : ℕ) (unit : Bool) → end ≡ finished → n ≡ length names → Ok (cost, unit) ≡ ending end n (line ∷ left) → plan_lines finished lines ≡ Ok (record { names = names; cost = cost; unit = unit })
  plan_ok end n cost unit same long is = plan_is ∙ ap (λ r. r >>= with_names names) (ending_is end n same long ∙ sym is)

  pub plan_err : (end : Bool) (n : ℕ) (fault : PlanTextFault) → end ≡ finished → n ≡ length names → Err fault ≡ ending end n (line ∷ left) → plan_lines finished lines ≡ Err fault
  plan_err end n fault same long is = plan_is ∙ ap (λ r. r >>= with_names names) (ending_is end n same long ∙ sym is)
