-- What the reports of a run tell, and what they asked of the clock.
use Rattle.std.proofs.Common.{◌≡◌, ◌≢◌, ◌∙◌, sym, ap, refl, ℕ, ◌≤◌, List, [], ◌∷◌, ◌++◌, length, append-nil, append_assoc, Bool, false, Option, Some, None, arith}
use Rattle.std.proofs.lemmas.List.Elements.{All-nil, All-weaker}
use Rattle.lama_host.specs.Streams.{Answers}
use Rattle.sas_task.specs.declared.contents.Parts.{Parts}
use Rattle.run_report.specs.declared.report.Report.{Report}
use Rattle.run_report.specs.declared.report.Why.{Why}
use Rattle.run_report.specs.declared.report.Why.TheVariants as why
use Rattle.run_report.specs.Clocks.{AsksClock, moments_of}
use Rattle.run_report.specs.Complete.{IsComplete}
use Rattle.run_report.specs.Events.{IsRunToEnd, code_of}
use Rattle.run_report.specs.Runs.{TellsRun}
use Rattle.run_report.specs.Searches.{Run}
use Rattle.run_report.specs.Tells.{Turns}
use Rattle.driver_run.specs.declared.aims.Aim.{Aim}
use Rattle.driver_run.specs.declared.running.Left.{Left}
use Rattle.driver_run.specs.Ending.{AsksAfter, IsLeft, IsLeftSo, report_by}
use Rattle.driver_run.specs.Reports.{IsAccepted, IsRunReport}
use Rattle.driver_run.specs.Requests.{is_many, run_of}

-- the report of a run that came to no task
abbrev pub stopped : Bool → ℕ → Why → ℕ → Report
stopped many start end code = record { task = None; many = many; kept = []; candidates = []; ends = []; start = start; why = end; code = code }

-- no turn began
abbrev pub no_turns : Turns
no_turns = record { ended = []; present = None }

report_stopped : (aim : Aim) (start : ℕ) (end : Why) (code : ℕ) → IsAccepted end → (IsRunToEnd end → ⊥) → code ≡ code_of end [] [] → IsRunReport aim start (stopped (is_many aim.chosen) start end code) no_turns
report_stopped aim start end code accepted refused is = record {
  start = refl;
  accepted = accepted;
  many = refl;
  tells = (record { kept = refl; candidates = refl; ends = refl; refused = refused; code = is }, refl);
  completes = tt;
}

not_asked : (start now : ℕ) (told : Option (List ℕ)) → start ≤ now → AsksAfter start now told told no_turns
not_asked start now told later = record {
  later = later;
  moments = All-nil (λ moment. (start ≤ moment) × (moment ≤ now));
  answers = λ all is. (all, [], is, sym (append-nil all), tt, λ memory. refl);
}

-- a run that came to no task tells nothing, and asked nothing more
pub told_nothing : (aim : Aim) (start now : ℕ) (told : Option (List ℕ)) (many : Bool) (end : Why) (code : ℕ) (report : Report) → report ≡ stopped many start end code → many ≡ is_many aim.chosen →
    IsAccepted end → (IsRunToEnd end → ⊥) → code ≡ code_of end [] [] → start ≤ now → (turns : Turns) × IsRunReport aim start report turns × AsksAfter start now told told turns
told_nothing aim start now told many end code report is same accepted refused code_is later =
    (no_turns, rw (is, same) (report_stopped aim start end code accepted refused code_is), not_asked start now told later)

left_accepted : (end : Why) → (end ≢ why.Fault → IsRunToEnd end) → IsAccepted end
left_accepted why.Finished ends = tt
left_accepted why.PlanLimit ends = tt
left_accepted (why.Words fault) ends = absurd (ends (λ e. cc))
left_accepted (why.Config bad) ends = absurd (ends (λ e. cc))
left_accepted (why.NoFile input) ends = tt
left_accepted (why.Task fault) ends = tt
left_accepted why.Fault ends = tt

-- a run with room is complete
abbrev pub CompleteWithRoom : Type 0
CompleteWithRoom = (run : Run) (report : Report) (turns : Turns) → length run.setting.shares ≡ 1 → run.setting.bound ≡ None → run.setting.single ≡ false → TellsRun run report turns → IsComplete run.parts (run.config_of 1) report

report_left : (aim : Aim) (start : ℕ) (parts : Parts) (left : Left) (turns : Turns) → CompleteWithRoom → IsLeft (run_of parts aim start) (is_many aim.chosen) left turns →
    IsRunReport aim start (report_by parts (is_many aim.chosen) start left) turns
report_left aim start parts left turns complete is = record {
  start = refl;
  accepted = left_accepted left.why is.end;
  many = refl;
  tells = is.tells;
  completes = λ none. complete (run_of parts aim start) (report_by parts (is_many aim.chosen) start left) turns refl none refl is.tells;
}

asks_sooner : (start before now : ℕ) (told_before told_now : Option (List ℕ)) (turns : Turns) → start ≤ before → AsksAfter before now told_before told_now turns → AsksAfter start now told_before told_now turns
asks_sooner start before now told_before told_now turns sooner is = record {
  later = omega (arith, sooner, is.later);
  moments = All-weaker (λ moment. (before ≤ moment) × (moment ≤ now)) (λ moment. (start ≤ moment) × (moment ≤ now)) (λ moment m. (omega (arith, sooner, m.0), m.1)) (moments_of turns) is.moments;
  answers = is.answers;
}

-- what is left of a run on a task is told by the report on it
pub told_on_task : (aim : Aim) (start before now : ℕ) (told_before told_now : Option (List ℕ)) (parts : Parts) (many : Bool) (left : Left) (report : Report) → report ≡ report_by parts many start left → many ≡ is_many aim.chosen →
    CompleteWithRoom → start ≤ before → IsLeftSo (run_of parts aim start) (is_many aim.chosen) before now told_before told_now left →
    (turns : Turns) × IsRunReport aim start report turns × AsksAfter start now told_before told_now turns
told_on_task aim start before now told_before told_now parts many left report is same complete sooner so =
    (so.0, rw (is, same) (report_left aim start parts left so.0 complete so.1), asks_sooner start before now told_before told_now so.0 sooner so.2)

asked_first : (before now start : ℕ) (told_before told_mid told_now : Option (List ℕ)) (report : Report) (turns : Turns) → before ≤ start → Answers told_before told_mid start →
    report.start ≡ start → AsksAfter start now told_mid told_now turns → AsksClock before now told_before told_now report turns
asked_first before now start told_before told_mid told_now report turns later answers is asks = record {
  start = omega (arith, later, is);
  moments = All-weaker (λ moment. (start ≤ moment) × (moment ≤ now)) (λ moment. (report.start ≤ moment) × (moment ≤ now)) (λ moment m. (omega (arith, is, m.0), m.1)) (moments_of turns) asks.moments;
  answers = λ all told.
      let a = asks.answers all told in
      let first = answers a.0 a.2 in (
        first.0,
        first.1,
        record {
          added = a.1;
          all_is = a.3 ∙ ap (λ past. past ++ a.1) first.2 ∙ append_assoc first.0 (start ∷ []) a.1 ∙ ap (λ s. first.0 ++ s ∷ a.1) (sym is);
          in_order = a.4;
          only = a.5;
        },
      );
}

-- the clock was asked as the run began, and then for its turns
pub told_from_start : (aim : Aim) (before now start : ℕ) (told_before told_mid told_now : Option (List ℕ)) (report : Report) → before ≤ start → Answers told_before told_mid start →
    ((turns : Turns) × IsRunReport aim start report turns × AsksAfter start now told_mid told_now turns) →
    (turns : Turns) × IsRunReport aim report.start report turns × AsksClock before now told_before told_now report turns
told_from_start aim before now start told_before told_mid told_now report later answers is = (
  is.0,
  record { start = refl; accepted = is.1.accepted; many = is.1.many; tells = is.1.tells; completes = is.1.completes },
  asked_first before now start told_before told_mid told_now report is.0 later answers is.1.start is.2,
)
