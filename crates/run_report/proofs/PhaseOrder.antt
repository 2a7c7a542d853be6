-- The phases of a search are those of the configuration, in its order, and the last one may be begun again.
use Rattle.std.proofs.Common.{◌≡◌, ℕ, zero, suc, ◌+◌, ◌-◌, ◌<◌, min, Bool, true, false, List, [], ◌∷◌, length, Option, Some, None, refl, sym, ap, ◌∙◌, arith}
use Rattle.std.specs.Prelude.{nat_lt, if◌then◌else◌}
use Rattle.std.proofs.lemmas.Bool.{ltb-true, ltb-false}
use Rattle.sas_task.specs.declared.plans.Kept.{Kept}
use Rattle.search_log.specs.Logs.{Content}
use Rattle.conf_text.specs.declared.config.Config.{Config}
use Rattle.iterated.specs.declared.ends.PhaseEnd.{PhaseEnd}
use Rattle.iterated.specs.declared.ends.PhaseEnd.TheVariants as ended
use Rattle.iterated.specs.Ends.{next_from}
use Rattle.iterated.specs.Following.{begun, place_after, place_after_plan}
use Rattle.run_report.specs.declared.report.Past.{Past}
use Rattle.run_report.specs.declared.report.Past.TheVariants as item
use Rattle.run_report.specs.Searches.{Search, Standing, Went, after_plan, after_space}

same_place : (p q : ℕ) → Some p ≡ Some q → p ≡ q
same_place p q is = cc

-- the place behind one, or the last one again
after_plan_is : (config : Config) (p q : ℕ) → p < length config.phases → place_after_plan config p ≡ Some q → q ≡ min (p + 1) (length config.phases - 1)
after_plan_is config p q lt is = by_test (nat_lt (p + 1) (length config.phases)) refl config.repeat_last is
  where
    by_test : (more : Bool) → nat_lt (p + 1) (length config.phases) ≡ more → (again : Bool) → (if more then Some (p + 1) else (if again then Some p else None)) ≡ Some q → q ≡ min (p + 1) (length config.phases - 1)
    by_test true more again e = omega (arith, same_place (p + 1) q e, ltb-true (p + 1) (length config.phases) more)
    by_test false more true e = omega (arith, same_place p q e, ltb-false (p + 1) (length config.phases) more, lt)
    by_test false more false e = let k : ◌≡◌ {A = Option ℕ} None (Some q) = e in cc

after_is : (config : Config) (p q : ℕ) → p < length config.phases → place_after config p ≡ Some q → q ≡ min (p + 1) (length config.phases - 1)
after_is config p q lt is = by_test (nat_lt (p + 1) (length config.phases)) refl is
  where
    by_test : (more : Bool) → nat_lt (p + 1) (length config.phases) ≡ more → (if more then Some (p + 1) else None) ≡ Some q → q ≡ min (p + 1) (length config.phases - 1)
    by_test true more e = omega (arith, same_place (p + 1) q e, ltb-true (p + 1) (length config.phases) more)
    by_test false more e = let k : ◌≡◌ {A = Option ℕ} None (Some q) = e in cc

none_some : (q : ℕ) (P : Type 0) → ◌≡◌ {A = Option ℕ} None (Some q) → P
none_some q P is = cc

plan_next : (config : Config) (p q : ℕ) (bound : Option ℕ) (ops : List ℕ) (cost : ℕ) (log : Content) → p < length config.phases → next_from config (begun (Some p) bound) (ended.Plan ops cost log) ≡ Some q → q ≡ min (p + 1) (length config.phases - 1)
plan_next config p q None ops cost log lt is = after_plan_is config p q lt is
plan_next config p q (Some zero) ops cost log lt is = none_some q _ is
plan_next config p q (Some (suc n)) ops cost log lt is = after_plan_is config p q lt is

space_next : (config : Config) (p q : ℕ) (bound : Option ℕ) (end : PhaseEnd) → ((q : ℕ) → next_from config (begun (Some p) None) end ≡ Some q → q ≡ min (p + 1) (length config.phases - 1)) → next_from config (begun (Some p) bound) end ≡ Some q → q ≡ min (p + 1) (length config.phases - 1)
space_next config p q None end so is = so q is
space_next config p q (Some zero) end so is = none_some q _ is
space_next config p q (Some (suc n)) end so is = so q is

-- behind the last phase there is none
none_goes : (search : Search) (at to : Standing) (past : List Past) (plans : List Kept) → at.next ≡ None → Went search at past plans to → to.next ≡ None
none_goes search at to [] [] none went = ap (λ (s : Standing). s.next) (sym went) ∙ none
none_goes search at to [] (plan ∷ plans) none went = absurd went
none_goes search at to (item.Plan index log ∷ more) [] none went = absurd went
none_goes search at to (item.Plan index log ∷ more) (plan ∷ plans) none went =
    none_goes search (after_plan search at plan.cost (ended.Plan plan.ops plan.cost log)) to more plans (ap (λ (n : Option ℕ). next_from search.config (begun n at.bound) (ended.Plan plan.ops plan.cost log)) none) went.2
none_goes search at to (item.Unsolved space bound log ∷ more) plans none went =
    none_goes search (after_space search at (ended.Unsolved space log false)) to more plans (ap (λ (n : Option ℕ). next_from search.config (begun n at.bound) (ended.Unsolved space log false)) none) went.2

-- After as many phases as are past, the next one is at the place so far behind, or the last one again.
order_from : (search : Search) (at to : Standing) (past : List Past) (plans : List Kept) (p place : ℕ) → at.next ≡ Some p → p < length search.config.phases → Went search at past plans to → to.next ≡ Some place → place ≡ min (p + length past) (length search.config.phases - 1)
order_from search at to [] [] p place first lt went next = omega (arith, same_place p place (sym first ∙ ap (λ (s : Standing). s.next) went ∙ next), lt)
order_from search at to [] (plan ∷ plans) p place first lt went next = absurd went
order_from search at to (item.Plan index log ∷ more) [] p place first lt went next = absurd went
order_from search at to (item.Plan index log ∷ more) (plan ∷ plans) p place first lt went next =
    by_next (after_plan search at plan.cost (ended.Plan plan.ops plan.cost log)).next refl (λ q is here. order_from search (after_plan search at plan.cost (ended.Plan plan.ops plan.cost log)) to more plans q place is here went.2 next)
  where
    by_next : (n : Option ℕ) → (after_plan search at plan.cost (ended.Plan plan.ops plan.cost log)).next ≡ n →
        ((q : ℕ) → (after_plan search at plan.cost (ended.Plan plan.ops plan.cost log)).next ≡ Some q → q < length search.config.phases → place ≡ min (q + length more) (length search.config.phases - 1)) →
        place ≡ min (p + length (item.Plan index log ∷ more)) (length search.config.phases - 1)
    by_next None is rest = none_some place _ (sym (none_goes search (after_plan search at plan.cost (ended.Plan plan.ops plan.cost log)) to more plans is went.2) ∙ next)
    by_next (Some q) is rest =
        let here = plan_next search.config p q at.bound plan.ops plan.cost log lt (ap (λ (n : Option ℕ). next_from search.config (begun n at.bound) (ended.Plan plan.ops plan.cost log)) (sym first) ∙ is) in
        omega (arith, here, lt, rest q is (omega (arith, here, lt)))
order_from search at to (item.Unsolved space bound log ∷ more) plans p place first lt went next =
    by_next (after_space search at (ended.Unsolved space log false)).next refl (λ q is here. order_from search (after_space search at (ended.Unsolved space log false)) to more plans q place is here went.2 next)
  where
    by_next : (n : Option ℕ) → (after_space search at (ended.Unsolved space log false)).next ≡ n →
        ((q : ℕ) → (after_space search at (ended.Unsolved space log false)).next ≡ Some q → q < length search.config.phases → place ≡ min (q + length more) (length search.config.phases - 1)) →
        place ≡ min (p + length (item.Unsolved space bound log ∷ more)) (length search.config.phases - 1)
    by_next None is rest = none_some place _ (sym (none_goes search (after_space search at (ended.Unsolved space log false)) to more plans is went.2) ∙ next)
    by_next (Some q) is rest =
        let here = space_next search.config p q at.bound (ended.Unsolved space log false) (λ r e. after_is search.config p r lt e) (ap (λ (n : Option ℕ). next_from search.config (begun n at.bound) (ended.Unsolved space log false)) (sym first) ∙ is) in
        omega (arith, here, lt, rest q is (omega (arith, here, lt)))

pub in_order : (search : Search) (from to : Standing) (past : List Past) (plans : List Kept) (place : ℕ) → from.next ≡ Some 0 → 0 < length search.config.phases → Went search from past plans to → to.next ≡ Some place → place ≡ min (length past) (length search.config.phases - 1)
in_order search from to past plans place first some went next = omega (arith, order_from search from to past plans 0 place first some went next)
