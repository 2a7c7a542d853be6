-- The present bound tells which plans improve.
use Rattle.std.proofs.Common.{◌≡◌, ℕ, ◌<◌, Bool, true, false, ◌&&◌, nat_lt, List, [], ◌∷◌, ◌++◌, length, Option, Some, None, refl, sym, ap, ◌∙◌, arith, inl, inr, append_assoc}
use Rattle.std.proofs.lemmas.Bool.{cases_Bool}
use Rattle.std.proofs.lemmas.Bool.Decides.{nat_tests}
use Rattle.std.proofs.lemmas.List.{append-nil, length-take, take_all}
use Rattle.std.proofs.lemmas.List.Folds.{list_all-append}
use Rattle.std.proofs.Math.Bool.{and-true}
use Rattle.std.specs.List.{list_all, last_or}
use Rattle.driver_core.specs.declared.events.Event.{Event}
use Rattle.driver_core.specs.declared.settings.Setting.{Setting}
use Rattle.driver_core.specs.Pasts.{filter_after}
use Rattle.driver_core.specs.Settings.{most_plans}
use Rattle.driver_core.specs.Keeping.{plan_costs, improves, improvements, kept_costs, bound_of}
use Rattle.lama_num.specs.Bounds.{is_below}

and_assoc : (a b c : Bool) → (a && (b && c)) ≡ ((a && b) && c)
and_assoc true b c = refl
and_assoc false b c = refl

improves-push : (given : Option ℕ) (past : List ℕ) (x cost : ℕ) → improves given (past ++ x ∷ []) cost ≡ (improves given past cost && nat_lt cost x)
improves-push given past x cost =
    ap (λ b. is_below given cost && b) (list_all-append (λ other. nat_lt cost other) past (x ∷ []) ∙ ap (λ b. list_all (λ other. nat_lt cost other) past && b) (and-true (nat_lt cost x)))
    ∙ and_assoc (is_below given cost) (list_all (λ other. nat_lt cost other) past) (nat_lt cost x)

-- a bound that is met by x is not the lower of the two
lower_than_met : (present : Option ℕ) (x cost : ℕ) → is_below present x ≡ true → nat_lt cost x ≡ (is_below present cost && nat_lt cost x)
lower_than_met None x cost met = refl
lower_than_met (Some bound) x cost met = grind (arith, nat_tests)

lower_than_missed : (present : Option ℕ) (x cost : ℕ) → is_below present x ≡ false → is_below present cost ≡ (is_below present cost && nat_lt cost x)
lower_than_missed None x cost missed = let k : true ≡ false = missed in cc
lower_than_missed (Some bound) x cost missed = grind (arith, nat_tests)

-- What is below the last improvement, else below the present bound, improves on all that came before.
pub is_below-last_or : (given present : Option ℕ) (past xs : List ℕ) → ((cost : ℕ) → is_below present cost ≡ improves given past cost) → (cost : ℕ) → is_below (last_or present (filter_after (improves given) past xs)) cost ≡ improves given (past ++ xs) cost
is_below-last_or given present past [] told cost = told cost ∙ ap (λ whole. improves given whole cost) (sym (append-nil past))
is_below-last_or given present past (x ∷ xs) told cost =
    let after : List ℕ = past ++ x ∷ [] in
    let whole : improves given (after ++ xs) cost ≡ improves given (past ++ x ∷ xs) cost = ap (λ all. improves given all cost) (append_assoc past (x ∷ []) xs) in
    let more : (c : ℕ) → (is_below present c && nat_lt c x) ≡ improves given after c = λ c. ap (λ b. b && nat_lt c x) (told c) ∙ sym (improves-push given past x c) in
    elim (cases_Bool (improves given past x)) [
      | inl yes' ↦
          let rest = is_below-last_or given (Some x) after xs (λ c. lower_than_met present x c (told x ∙ yes') ∙ more c) cost in
          rw yes' (rest ∙ whole)
      | inr no' ↦
          let rest = is_below-last_or given present after xs (λ c. lower_than_missed present x c (told x ∙ no') ∙ more c) cost in
          rw no' (rest ∙ whole)
    ]

-- While fewer plans are kept than may be, what is below the present bound is what improves.
pub is_below-bound_of : (setting : Setting) (events : List Event) → length (kept_costs setting events) < most_plans setting.single → (cost : ℕ) → is_below (bound_of setting events) cost ≡ improves setting.bound (plan_costs events) cost
is_below-bound_of setting events few cost =
    let found = improvements setting events in
    let all : kept_costs setting events ≡ found = take_all (most_plans setting.single) found (omega (arith, length-take (most_plans setting.single) found)) in
    ap (λ costs. is_below (last_or setting.bound costs) cost) all
    ∙ is_below-last_or setting.bound setting.bound [] (plan_costs events) (λ c. sym (and-true (is_below setting.bound c))) cost
