-- One phase more of a search.
use Rattle.std.proofs.Common.{◌≡◌, sym, subst, refl, ℕ, List, [], ◌∷◌, ◌++◌, false, Some}
use Rattle.sas_task.specs.declared.plans.Kept.{Kept}
use Rattle.search_log.specs.Logs.{Content}
use Rattle.search_log.specs.Members.{Member}
use Rattle.run_report.specs.declared.report.Past.{Past}
use Rattle.run_report.specs.declared.report.Past.TheVariants as item
use Rattle.iterated.specs.declared.ends.PhaseEnd.TheVariants as ended
use Rattle.run_report.specs.Searches.{Search, Standing, Went, Ends, after_plan, after_space}

-- After these phases one more found a plan, which is kept at the next place.
pub went_plan : (search : Search) (at : Standing) (done : List Past) (plans : List Kept) (mid : Standing) (log : Content) (plan : Kept) →
    Went search at done plans mid → Ends search mid (ended.Plan plan.ops plan.cost log) →
    Went search at (done ++ item.Plan mid.plans log ∷ []) (plans ++ plan ∷ []) (after_plan search mid plan.cost (ended.Plan plan.ops plan.cost log))
went_plan search at [] [] mid log plan went finds =
    subst (λ (there : Standing). Went search there (item.Plan mid.plans log ∷ []) (plan ∷ []) (after_plan search mid plan.cost (ended.Plan plan.ops plan.cost log))) (sym went) (refl, finds, refl)
went_plan search at [] (first ∷ plans) mid log plan went finds = absurd went
went_plan search at (item.Plan index other ∷ done) [] mid log plan went finds = absurd went
went_plan search at (item.Plan index other ∷ done) (first ∷ plans) mid log plan went finds =
    (went.0, went.1, went_plan search (after_plan search at first.cost (ended.Plan first.ops first.cost other)) done plans mid log plan went.2 finds)
went_plan search at (item.Unsolved space bound other ∷ done) plans mid log plan went finds =
    (went.0, went.1, went_plan search (after_space search at (ended.Unsolved space other false)) done plans mid log plan went.2 finds)

-- After these phases one more found nothing below the bound, and another follows.
pub went_space : (search : Search) (at : Standing) (done : List Past) (plans : List Kept) (mid : Standing) (log : Content) (space : List Member) (bound : ℕ) →
    Went search at done plans mid → mid.bound ≡ Some bound → Ends search mid (ended.Unsolved space log false) →
    Went search at (done ++ item.Unsolved space bound log ∷ []) plans (after_space search mid (ended.Unsolved space log false))
went_space search at [] [] mid log space bound went is ends =
    subst (λ (there : Standing). Went search there (item.Unsolved space bound log ∷ []) [] (after_space search mid (ended.Unsolved space log false))) (sym went) (is, ends, refl)
went_space search at [] (first ∷ plans) mid log space bound went is ends = absurd went
went_space search at (item.Plan index other ∷ done) [] mid log space bound went is ends = absurd went
went_space search at (item.Plan index other ∷ done) (first ∷ plans) mid log space bound went is ends =
    (went.0, went.1, went_space search (after_plan search at first.cost (ended.Plan first.ops first.cost other)) done plans mid log space bound went.2 is ends)
went_space search at (item.Unsolved other_space other_bound other ∷ done) plans mid log space bound went is ends =
    (went.0, went.1, went_space search (after_space search at (ended.Unsolved other_space other false)) done plans mid log space bound went.2 is ends)
