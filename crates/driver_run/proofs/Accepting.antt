-- What a run on accepted words was, and on words whose configuration is refused.
use Rattle.std.proofs.Common.{◌≡◌, ◌≢◌, ◌∙◌, sym, ap, subst, refl, ℕ, List, [], ◌∷◌, Bool, true, false, if◌then◌else◌, Option, Some, None, Result, Ok, Err}
use Rattle.std.specs.Prelude.{codes, is_some, not, ◌&&◌}
use Rattle.std.specs.FinMap.{get}
use Rattle.lama_host.specs.Folder.{Told, Rose}
use Rattle.lama_host.specs.Steps.{Leaves, Stays}
use Rattle.lama_host.proofs.StepLaws.{stays_same}
use Rattle.plan_manager.specs.Family.{SameOutside}
use Rattle.lama_num.specs.Gives.{◌>>=◌}
use Rattle.sas_task.specs.declared.contents.Parts.{Parts}
use Rattle.conf_text.specs.declared.faults.ConfBad.{ConfBad}
use Rattle.run_report.specs.declared.report.Ended.{Ended}
use Rattle.run_report.specs.declared.report.Ended.TheVariants as ended
use Rattle.run_report.specs.declared.report.Report.{Report}
use Rattle.run_report.specs.declared.report.Why.{Why}
use Rattle.run_report.specs.declared.report.Why.TheVariants as why
use Rattle.run_report.specs.declared.report.WordsFault.{WordsFault}
use Rattle.run_report.specs.declared.report.WordsFault.TheVariants.{Refused, NameClash}
use Rattle.run_report.specs.Events.{IsRunToEnd, code_of}
use Rattle.run_report.specs.Plans.{KeepsPlans}
use Rattle.run_report.specs.Tells.{Turns}
use Rattle.driver_run.specs.declared.aims.Aim.{Aim}
use Rattle.driver_run.specs.declared.aims.Chosen.{Chosen}
use Rattle.driver_run.specs.Ending.{IsRunOn}
use Rattle.driver_run.specs.Reports.{IfDone, TellsTask, Tells, Completes, refusal, task_in}
use Rattle.driver_run.specs.Requests.{Request, request_of, request_in, request_by, chosen_of, is_many}
use Rattle.driver_run.specs.Runs.{IsRun}
use Rattle.driver_run.specs.Words.{Line, Work, line_of, line_with, asked_of, bound_of, work_of, value_in, words_behind, is_own_name, base_name, is_task_name}

-- the task of a line

asked_own : (alias search limit : Option (List ℕ)) (task : List ℕ) (line : Line) → Ok line ≡ asked_of alias search limit task → is_own_name base_name line.task ≡ false
asked_own alias search limit task line is = by_parts (bound_of limit) (work_of alias search) (is_own_name base_name task) refl is
  where
    by_parts : (bound : Result (Option ℕ) WordsFault) (work : Result Work WordsFault) (own : Bool) → is_own_name base_name task ≡ own →
        Ok line ≡ (bound >>= (λ b. work >>= (λ w. if own then Err NameClash else Ok (record { work = w; bound = b; task = task })))) → is_own_name base_name line.task ≡ false
    by_parts (Err fault) work own o e = let k : ◌≡◌ {A = Result Line WordsFault} (Ok line) (Err fault) = e in cc
    by_parts (Ok b) (Err fault) own o e = let k : ◌≡◌ {A = Result Line WordsFault} (Ok line) (Err fault) = e in cc
    by_parts (Ok b) (Ok w) true o e = let k : ◌≡◌ {A = Result Line WordsFault} (Ok line) (Err NameClash) = e in cc
    by_parts (Ok b) (Ok w) false o e =
        let k : ◌≡◌ {A = Result Line WordsFault} (Ok line) (Ok (record { work = w; bound = b; task = task })) = e in
        let same : line ≡ record { work = w; bound = b; task = task } = cc in
        ap (λ (l : Line). is_own_name base_name l.task) same ∙ o

with_own : (alias search limit : Option (List ℕ)) (words : List (List ℕ)) (line : Line) → Ok line ≡ line_with alias search limit words → is_own_name base_name line.task ≡ false
with_own alias search limit [] line is = let k : ◌≡◌ {A = Result Line WordsFault} (Ok line) (Err Refused) = is in cc
with_own alias search limit (task ∷ []) line is = by_test (not (is_some alias && is_some search) && is_task_name task) is
  where
    by_test : (test : Bool) → Ok line ≡ (if test then asked_of alias search limit task else Err Refused) → is_own_name base_name line.task ≡ false
    by_test true e = asked_own alias search limit task line e
    by_test false e = let k : ◌≡◌ {A = Result Line WordsFault} (Ok line) (Err Refused) = e in cc
with_own alias search limit (task ∷ (second ∷ words)) line is = let k : ◌≡◌ {A = Result Line WordsFault} (Ok line) (Err Refused) = is in cc

-- the name that a line gives isn't one of the run's own
pub line_own : (words : List (List ℕ)) (line : Line) → Ok line ≡ line_of words → is_own_name base_name line.task ≡ false
line_own words line is =
    let named = words_behind (codes "--alias") words in
    let searched = words_behind (codes "--search") named in
    with_own (value_in (codes "--alias") words) (value_in (codes "--search") named) (value_in (codes "--bound") searched) (words_behind (codes "--bound") searched) line is

-- a line is refused just where its configuration is
pub refused_line : (words : List (List ℕ)) (line : Line) (P : Type 0) → Ok line ≡ line_of words → ((bad : ConfBad) → chosen_of line.work ≡ Err bad → P) → (end : Why) → request_of words ≡ Err end → P
refused_line words line P is so end e = by_chosen (chosen_of line.work) refl (ap request_in is ∙ e)
  where
    by_chosen : (chosen : Result Chosen ConfBad) → chosen_of line.work ≡ chosen → request_by line chosen ≡ Err end → P
    by_chosen (Ok chosen) at f = let k : ◌≡◌ {A = Result Request Why} (Ok (record { task = line.task; aim = record { chosen = chosen; bound = line.bound } })) (Err end) = f in cc
    by_chosen (Err bad) at f = so bad at

-- what a report tells

keeps_plans : (aim : Aim) (task : Option Parts) (report : Report) (turns : Turns) → Tells aim task report turns → KeepsPlans task aim.bound report.kept
keeps_plans aim None report turns is = is.0.kept
keeps_plans aim (Some parts) report turns is = is.plans

code_told : (aim : Aim) (task : Option Parts) (report : Report) (turns : Turns) → Tells aim task report turns → report.code ≡ code_of report.why report.kept report.ends
code_told aim None report turns is = is.0.code
code_told aim (Some parts) report turns is = is.events.code

comes_to_end : (held : Option (List ℕ)) (task : Option Parts) (end : Why) (bytes : List ℕ) (parts : Parts) → TellsTask held task end → held ≡ Some bytes → task_in bytes ≡ Ok parts → end ≢ why.Fault → IsRunToEnd end
comes_to_end held task why.Finished bytes parts is at read fine = tt
comes_to_end held task why.PlanLimit bytes parts is at read fine = tt
comes_to_end held task (why.Words fault) bytes parts is at read fine = absurd is
comes_to_end held task (why.Config bad) bytes parts is at read fine = absurd is
comes_to_end held task (why.NoFile input) bytes parts is at read fine = let k : None ≡ Some bytes = sym is.0 ∙ at in cc
comes_to_end held task (why.Task fault) bytes parts is at read fine =
    let k : Some is.0 ≡ Some bytes = sym is.1 ∙ at in
    let same : is.0 ≡ bytes = cc in
    let both = sym is.3 ∙ ap task_in same ∙ read in
    cc
comes_to_end held task why.Fault bytes parts is at read fine = absurd (fine refl)

-- what words ask for is one thing

no_fault : (words : List (List ℕ)) (asked : Request) (fault : WordsFault) → request_of words ≡ Ok asked → line_of words ≡ Err fault → ⊥
no_fault words asked fault is line = let k : ◌≡◌ {A = Result Request Why} (Ok asked) (Err (why.Words fault)) = sym is ∙ ap request_in line in cc

not_bad : (asked : Request) (end : Why) (request : Result Request Why) → request ≡ Ok asked → request ≡ Err end → ⊥
not_bad asked end request is bad = let k : ◌≡◌ {A = Result Request Why} (Ok asked) (Err end) = sym is ∙ bad in cc

same_request : (asked other : Request) (request : Result Request Why) → request ≡ Ok asked → request ≡ Ok other → asked ≡ other
same_request asked other request is at = let k : ◌≡◌ {A = Result Request Why} (Ok asked) (Ok other) = sym is ∙ at in cc

-- accepted words, and a report
accepted_run : (words : List (List ℕ)) (asked : Request) (before now : Told) (last_before last_now : ℕ) (answers_before answers_now : Option (List ℕ)) (report : Report) → request_of words ≡ Ok asked →
    IsRunOn asked.aim asked.task before now last_before last_now answers_before answers_now report → Stays before now → Leaves before now (SameOutside base_name) →
    IsRun words before now last_before last_now answers_before answers_now (ended.Done report)
accepted_run words asked before now last_before last_now answers_before answers_now report is on stays outside =
    let same = λ (other : Request). same_request asked other (request_of words) is in
    record {
      refused = λ fault line. absurd (no_fault words asked fault is line);
      no_config = λ bad at. absurd (not_bad asked (why.Config bad) (request_of words) is at);
      accepted = λ other at. on.told.accepted;
      request = λ other at files idle held. subst (λ (r : Request). TellsTask (get files r.task) report.task report.why) (same other at) (on.task files idle held);
      finishes = λ other at files idle held bytes parts.
          comes_to_end (get files other.task) report.task report.why bytes parts
          (subst (λ (r : Request). TellsTask (get files r.task) report.task report.why) (same other at) (on.task files idle held));
      many = λ other at. on.told.many ∙ ap (λ (r : Request). is_many r.aim.chosen) (same other at);
      plans = λ other at. subst (λ (r : Request). KeepsPlans report.task r.aim.bound report.kept) (same other at) (keeps_plans asked.aim report.task report on.turns on.told.tells);
      files = λ other at. on.files;
      told = λ other at. (on.turns, subst (λ (r : Request). Tells r.aim report.task report on.turns) (same other at) on.told.tells, on.clock);
      complete = λ other at. subst (λ (r : Request). Completes r.aim report.task report) (same other at) on.told.completes;
      code = code_told asked.aim report.task report on.turns on.told.tells;
      fault = on.fault;
      outside = outside;
      stays = stays;
    }

-- accepted words, and want of memory
unfinished_run : (words : List (List ℕ)) (asked : Request) (before now : Told) (last_before last_now : ℕ) (answers_before answers_now : Option (List ℕ)) → request_of words ≡ Ok asked → Stays before now → Leaves before now (SameOutside base_name) →
    IsRun words before now last_before last_now answers_before answers_now ended.NoMemory
unfinished_run words asked before now last_before last_now answers_before answers_now is stays outside = record {
  refused = λ fault line. absurd (no_fault words asked fault is line);
  no_config = λ bad at. absurd (not_bad asked (why.Config bad) (request_of words) is at);
  accepted = λ other at. tt;
  request = λ other at files idle held. tt;
  finishes = λ other at files idle held. tt;
  many = λ other at. tt;
  plans = λ other at. tt;
  files = λ other at. tt;
  told = λ other at. tt;
  complete = λ other at. tt;
  code = tt;
  fault = tt;
  outside = outside;
  stays = stays;
}

-- words whose configuration is refused

other_fault : (words : List (List ℕ)) (bad : ConfBad) (fault : WordsFault) → request_of words ≡ Err (why.Config bad) → line_of words ≡ Err fault → ⊥
other_fault words bad fault is line =
    let k : ◌≡◌ {A = Result Request Why} (Err (why.Config bad)) (Err (why.Words fault)) = sym is ∙ ap request_in line in
    let same : why.Config bad ≡ why.Words fault = cc in
    cc

same_bad : (bad other : ConfBad) (request : Result Request Why) → request ≡ Err (why.Config bad) → request ≡ Err (why.Config other) → bad ≡ other
same_bad bad other request is at =
    let k : ◌≡◌ {A = Result Request Why} (Err (why.Config bad)) (Err (why.Config other)) = sym is ∙ at in
    let same : why.Config bad ≡ why.Config other = cc in
    cc

refused_config : (words : List (List ℕ)) (bad : ConfBad) (before now : Told) (last_before last_now : ℕ) (answers_before answers_now : Option (List ℕ)) (result : Ended) → request_of words ≡ Err (why.Config bad) → now ≡ before →
    IfDone result (λ report. report ≡ refusal (why.Config bad)) → Stays before now → Leaves before now (SameOutside base_name) → IsRun words before now last_before last_now answers_before answers_now result
refused_config words bad before now last_before last_now answers_before answers_now result is same told stays outside =
    let none = λ (other : Request) (at : request_of words ≡ Ok other). not_bad other (why.Config bad) (request_of words) at is in
    record {
      refused = λ fault line. absurd (other_fault words bad fault is line);
      no_config = λ other at. (subst (λ b. IfDone result (λ report. report ≡ refusal (why.Config b))) (same_bad bad other (request_of words) is at) told, same);
      accepted = λ other at. absurd (none other at);
      request = λ other at. absurd (none other at);
      finishes = λ other at. absurd (none other at);
      many = λ other at. absurd (none other at);
      plans = λ other at. absurd (none other at);
      files = λ other at. absurd (none other at);
      told = λ other at. absurd (none other at);
      complete = λ other at. absurd (none other at);
      code = done_so (λ report. report.code ≡ code_of report.why report.kept report.ends) result bad told refl;
      fault = done_so (λ report. report.why ≡ why.Fault → Rose before.faults now.faults) result bad told (λ e. let k : why.Config bad ≡ why.Fault = e in cc);
      outside = outside;
      stays = stays;
    }
  where
    done_so : (P : Report → Type 0) (result : Ended) (bad : ConfBad) → IfDone result (λ report. report ≡ refusal (why.Config bad)) → P (refusal (why.Config bad)) → IfDone result P
    done_so P (ended.Done report) bad told so = subst P (sym told) so
    done_so P ended.NoMemory bad told so = tt

-- a line that was read
pub run_on_line : (words : List (List ℕ)) (line : Line) (before now : Told) (last_before last_now : ℕ) (answers_before answers_now : Option (List ℕ)) (result : Ended) → Ok line ≡ line_of words →
    ((bad : ConfBad) → chosen_of line.work ≡ Err bad → (now ≡ before) × IfDone result (λ report. report ≡ refusal (why.Config bad))) →
    ((chosen : Chosen) → chosen_of line.work ≡ Ok chosen → IfDone result (IsRunOn (record { chosen = chosen; bound = line.bound }) line.task before now last_before last_now answers_before answers_now)) →
    Stays before now → Leaves before now (SameOutside base_name) → IsRun words before now last_before last_now answers_before answers_now result
run_on_line words line before now last_before last_now answers_before answers_now result is refused accepted stays outside = by_chosen (chosen_of line.work) refl
  where
    by_report : (chosen : Chosen) (result : Ended) → request_of words ≡ Ok (record { task = line.task; aim = record { chosen = chosen; bound = line.bound } }) →
        IfDone result (IsRunOn (record { chosen = chosen; bound = line.bound }) line.task before now last_before last_now answers_before answers_now) → IsRun words before now last_before last_now answers_before answers_now result
    by_report chosen (ended.Done report) asks on =
        accepted_run words (record { task = line.task; aim = record { chosen = chosen; bound = line.bound } }) before now last_before last_now answers_before answers_now report asks on stays outside
    by_report chosen ended.NoMemory asks on =
        unfinished_run words (record { task = line.task; aim = record { chosen = chosen; bound = line.bound } }) before now last_before last_now answers_before answers_now asks stays outside

    by_chosen : (chosen : Result Chosen ConfBad) → chosen_of line.work ≡ chosen → IsRun words before now last_before last_now answers_before answers_now result
    by_chosen (Ok chosen) at = by_report chosen result (ap request_in (sym is) ∙ ap (request_by line) at) (accepted chosen at)
    by_chosen (Err bad) at = let r = refused bad at in refused_config words bad before now last_before last_now answers_before answers_now result (ap request_in (sym is) ∙ ap (request_by line) at) r.0 r.1 stays outside

-- words that aren't a line

same_fault : (fault other : WordsFault) → ◌≡◌ {A = Result Line WordsFault} (Err fault) (Err other) → fault ≡ other
same_fault fault other is = cc

pub refused_words : (words : List (List ℕ)) (fault : WordsFault) (told : Told) (last : ℕ) (answers : Option (List ℕ)) (report : Report) → Err fault ≡ line_of words → report ≡ refusal (why.Words fault) →
    IsRun words told told last last answers answers (ended.Done report)
refused_words words fault told last answers report is so =
    let none = λ (other : Request) (at : request_of words ≡ Ok other). no_fault words other fault at (sym is) in
    record {
      refused = λ other line. (ap ended.Done (so ∙ ap (λ (f : WordsFault). refusal (why.Words f)) (same_fault fault other (is ∙ line))), refl);
      no_config = λ bad at. absurd (other_fault words bad fault at (sym is));
      accepted = λ other at. absurd (none other at);
      request = λ other at. absurd (none other at);
      finishes = λ other at. absurd (none other at);
      many = λ other at. absurd (none other at);
      plans = λ other at. absurd (none other at);
      files = λ other at. absurd (none other at);
      told = λ other at. absurd (none other at);
      complete = λ other at. absurd (none other at);
      code = subst (λ (r : Report). r.code ≡ code_of r.why r.kept r.ends) (sym so) refl;
      fault = subst (λ (r : Report). r.why ≡ why.Fault → Rose told.faults told.faults) (sym so) (λ e. let k : why.Words fault ≡ why.Fault = e in cc);
      outside = λ files idle held. (files, held, λ name other part. refl);
      stays = stays_same told;
    }
