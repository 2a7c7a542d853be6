-- What is left of a run tells it.
use Rattle.std.proofs.Common.{◌≡◌, ◌≢◌, ◌∙◌, sym, ap, subst, refl, ℕ, ◌+◌, ◌<◌, ◌≤◌, ◌^◌, zero, suc, List, [], ◌∷◌, ◌++◌, length, map, All, Bool, true, false, slice_get, Option, Some, None, nat_eq, if◌then◌else◌, arith}
use Rattle.std.proofs.lemmas.List.Elements.{All-head, All-tail, All-cons, All-nil}
use Rattle.sas_task.specs.declared.contents.Parts.{Parts}
use Rattle.sas_task.specs.declared.plans.Kept.{Kept}
use Rattle.sas_task.specs.Runs.{IsPlanOf}
use Rattle.conf_text.specs.declared.config.Config.{Config}
use Rattle.driver_core.specs.declared.settings.Setting.{Setting}
use Rattle.driver_core.specs.States.{CoreState}
use Rattle.plan_manager.specs.Sealing.{HaveFewSteps}
use Rattle.run_report.specs.declared.report.Report.{Report}
use Rattle.run_report.specs.declared.report.Why.{Why}
use Rattle.run_report.specs.declared.report.Why.TheVariants.{Finished, PlanLimit, Fault}
use Rattle.run_report.specs.Clocks.{StandInOrder, moments_of, has_memory}
use Rattle.run_report.specs.Events.{IsRunToEnd}
use Rattle.run_report.specs.Runs.{IsUnderWay, TellsRun}
use Rattle.run_report.specs.Searches.{Run}
use Rattle.run_report.specs.Tells.{Turns}
use Rattle.run_report.specs.Turns.{ToldTurn}
use Rattle.driver_run.specs.declared.progress.Progress.{Progress}
use Rattle.driver_run.specs.declared.running.Left.{Left}
use Rattle.driver_run.specs.Searching.{run_by, turns_on, turns_ended, HasRun, IsStopped, AsksForTurn}
use Rattle.driver_run.specs.Ending.{AsksAfter, IsLeft, IsLeftSo, end_by, report_by}

-- plans have few steps
pub few_steps : (parts : Parts) (kept : List Kept) → All (λ (plan : Kept). IsPlanOf parts plan.ops plan.cost) kept → HaveFewSteps kept
few_steps parts [] all i plan at = cc
few_steps parts (first ∷ more) all zero plan at = subst (λ (p : Kept). length p.ops < 2 ^ 32) (same first plan at) (All-head (λ (p : Kept). IsPlanOf parts p.ops p.cost) first more all).few
  where
    same : (x y : Kept) → Some x ≡ Some y → x ≡ y
    same x y e = cc
few_steps parts (first ∷ more) all (suc i) plan at = few_steps parts more (All-tail (λ (p : Kept). IsPlanOf parts p.ops p.cost) first more all) i plan at

-- it came to its end
ended_so : (kept : ℕ) (end : Why) → end ≡ end_by kept → IsRunToEnd end
ended_so kept end is = rw is (by_full (nat_eq kept 9999))
  where
    by_full : (full : Bool) → IsRunToEnd (if full then PlanLimit else Finished)
    by_full true = tt
    by_full false = tt

-- the clock was asked as the one turn began
asks_after : (memory : Bool) (began before now : ℕ) (told_before told_now : Option (List ℕ)) (turns : Turns) → moments_of turns ≡ began ∷ [] → (All (λ (turn : ToldTurn). has_memory turn.end.outcome ≡ true) turns.ended → memory ≡ true) →
    AsksForTurn memory began before now told_before told_now → AsksAfter before now told_before told_now turns
asks_after memory began before now told_before told_now turns moments has is = record {
  later = omega (arith, is.later, is.last);
  moments = rw moments (All-cons (λ moment. (before ≤ moment) × (moment ≤ now)) began [] (is.later, is.last) (All-nil (λ moment. (before ≤ moment) × (moment ≤ now))));
  answers = λ all told.
      let a = is.answers all told in
      (a.0, began ∷ a.1, a.2, a.3, rw moments ([], a.1, refl, tt), λ every. ap (λ more. began ∷ more) (a.4 (has every)) ∙ sym moments);
}

asks_ended : (turn : ToldTurn) (before now : ℕ) (told_before told_now : Option (List ℕ)) → AsksForTurn (has_memory turn.end.outcome) turn.end.began before now told_before told_now → AsksAfter before now told_before told_now (turns_ended turn)
asks_ended turn before now told_before told_now =
    asks_after (has_memory turn.end.outcome) turn.end.began before now told_before told_now (turns_ended turn) refl (All-head (λ (t : ToldTurn). has_memory t.end.outcome ≡ true) turn [])

-- what is left of a run that came to its end
pub left_ended : (parts : Parts) (config : Config) (setting now_set : Setting) (many : Bool) (progress : Progress) (turn : ToldTurn) (left : Left) (before now : ℕ) (told_before told_now : Option (List ℕ)) → now_set ≡ setting →
    HasRun (run_by parts config setting) progress turn → AsksForTurn (has_memory turn.end.outcome) turn.end.began before now told_before told_now →
    (HasRun (run_by parts config now_set) progress turn → IsLeft (run_by parts config now_set) many left (turns_ended turn)) → IsLeftSo (run_by parts config setting) many before now told_before told_now left
left_ended parts config setting now_set many progress turn left before now told_before told_now same is asks told = (
  turns_ended turn,
  subst (λ s. IsLeft (run_by parts config s) many left (turns_ended turn)) same (told (subst (λ s. HasRun (run_by parts config s) progress turn) (sym same) is)),
  asks_ended turn before now told_before told_now asks,
)

-- and of one in which a call of the folder failed
pub left_stopped : (parts : Parts) (config : Config) (setting : Setting) (many : Bool) (progress : Progress) (left : Left) (began before now : ℕ) (told_before told_now : Option (List ℕ)) →
    left ≡ record { kept = progress.kept.items; candidates = progress.candidates.items; ends = progress.ends.items; why = Fault; code = 35 } → IsStopped (run_by parts config setting) began progress → progress.ends.items ≡ [] →
    AsksForTurn true began before now told_before told_now →
    ((run : Run) (core : CoreState) (turns : Turns) (report : Report) → IsUnderWay run core turns report.kept report.candidates report.ends → run.setting.start ≡ report.start → report.why ≡ Fault → report.code ≡ 35 → TellsRun run report turns) →
    IsLeftSo (run_by parts config setting) many before now told_before told_now left
left_stopped parts config setting many progress left began before now told_before told_now left_is is none asks told =
    let run = run_by parts config setting in
    let rest : Left = record { kept = progress.kept.items; candidates = progress.candidates.items; ends = progress.ends.items; why = Fault; code = 35 } in
    let turns = turns_on began is.offered in (
      turns,
      subst (λ (l : Left). IsLeft run many l turns) (sym left_is) (record {
        tells = told run is.core turns (report_by parts many setting.start rest) (rw none is.under_way) refl refl refl;
        end = λ some. absurd (some refl);
      }),
      asks_after true began before now told_before told_now turns refl (λ every. refl) asks,
    )

-- what tells a run that came to its end, as it was left
pub left_over : (run : Run) (many : Bool) (progress : Progress) (turn : ToldTurn) (left : Left) (end : Why) (code : ℕ) →
    left ≡ record { kept = progress.kept.items; candidates = progress.candidates.items; ends = progress.ends.items; why = end; code = code } → end ≡ end_by (length progress.kept.items) →
    TellsRun run (report_by run.parts many run.setting.start (record { kept = progress.kept.items; candidates = progress.candidates.items; ends = progress.ends.items; why = end; code = code })) (turns_ended turn) →
    IsLeft run many left (turns_ended turn)
left_over run many progress turn left end code left_is ended told =
    subst (λ (l : Left). IsLeft run many l (turns_ended turn)) (sym left_is) (record { tells = told; end = λ some. ended_so (length progress.kept.items) end ended })
