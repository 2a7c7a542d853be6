-- A child's files are judged one after another.
use Rattle.std.specs.Prelude.{option_map}
use Rattle.std.proofs.Common.{◌≡◌, ◌≢◌, ℕ, zero, suc, ◌+◌, ◌≤◌, Bool, true, false, List, [], ◌∷◌, ◌++◌, length, map, Option, Some, None, Result, Ok, Err, refl, sym, ap, ◌∙◌, subst, arith, append_assoc, append-nil, length-append}
use Rattle.std.specs.FinMap.{get}
use Rattle.lama_host.specs.Folder.{Told, Files, WhereTold, IsUntouched, last_of}
use Rattle.lama_num.specs.Names.{part_name, child_name}
use Rattle.lama_num.proofs.NameLaws.{child≢base, child≢part, child≢numbered, child_numbered≢base, child_numbered≢part, child_numbered≢numbered}
use Rattle.sas_task.specs.declared.contents.Parts.{Parts}
use Rattle.sas_task.specs.declared.plans.Kept.{Kept}
use Rattle.plan_check.specs.declared.verdicts.Verdict.{Verdict}
use Rattle.plan_check.specs.Verdicts.{verdict_of}
use Rattle.plan_manager.specs.Family.{family_name}
use Rattle.plan_manager.proofs.FamilyLaws.{family_zero, family_numbered}
use Rattle.plan_manager.specs.Keeping.{plan_number}
use Rattle.driver_core.specs.declared.events.Event.{Event}
use Rattle.driver_core.specs.declared.settings.Setting.{Setting}
use Rattle.driver_core.specs.Keeping.{bound_of}
use Rattle.driver_core.specs.Running.{is_over_after}
use Rattle.driver_core.specs.Turns.{Turn}
use Rattle.candidates.specs.declared.reading.ReadError.{ReadError}
use Rattle.candidates.specs.declared.reading.ReadError.TheVariants.{Failed}
use Rattle.candidates.specs.ChildFiles.{ChildFile, file_of, child_files}
use Rattle.candidates.specs.Collecting.{IsInTurn, KeepsBelow, Standing, TakesIn}
use Rattle.candidates.specs.Judging.{Judged, judged_as, judged_of, offer_of, plans_of, judged_in, AreAllOrFirst}
use Rattle.candidates.proofs.CandidateLists.{keeping_writes, plan_number_low as number_low}
use Rattle.candidates.proofs.CandidateLists.{AreFew, WritesPlans}
use Rattle.candidates.proofs.ChildFiles.{files_from, files_at_first, file_then, no_single, no_more, no_files_at_end, judged_over, judged_none, judged_next}
use Rattle.candidates.proofs.Gathered.{few_plans}
use Rattle.candidates.proofs.Taken.{takes_none, takes_then, takes_untouched, events_then}

-- A child's names differ from those of the run's own plans.

child_family≢part : (base : List ℕ) (entry number : ℕ) → entry ≤ 1000 → number ≤ 9999 → family_name (child_name base entry) number ≢ part_name base
child_family≢part base entry zero few low same = child≢part base entry (omega arith) (sym (family_zero (child_name base entry)) ∙ same)
child_family≢part base entry (suc n) few low same = child_numbered≢part base entry (suc n) (omega arith) (omega arith) (sym (family_numbered (child_name base entry) (suc n) (omega arith)) ∙ same)

child_family≢family : (base : List ℕ) (entry number n : ℕ) → entry ≤ 1000 → number ≤ 9999 → n ≤ 9999 → family_name (child_name base entry) number ≢ family_name base n
child_family≢family base entry zero zero few low high same = child≢base base entry (omega arith) (sym (family_zero (child_name base entry)) ∙ same ∙ family_zero base)
child_family≢family base entry zero (suc n) few low high same = child≢numbered base entry (suc n) (omega arith) (omega arith) (sym (family_zero (child_name base entry)) ∙ same ∙ family_numbered base (suc n) (omega arith))
child_family≢family base entry (suc m) zero few low high same = child_numbered≢base base entry (suc m) (omega arith) (omega arith) (sym (family_numbered (child_name base entry) (suc m) (omega arith)) ∙ same ∙ family_zero base)
child_family≢family base entry (suc m) (suc n) few low high same = child_numbered≢numbered base entry (suc m) (suc n) (omega arith) (omega arith) (omega arith) (sym (family_numbered (child_name base entry) (suc m) (omega arith)) ∙ same ∙ family_numbered base (suc n) (omega arith))

-- so they hold what they held where plans are written
child_stays : (base : List ℕ) (many : Bool) (parts : Parts) (count : ℕ) (plans : List Kept) (before after : Files) (entry number : ℕ) → entry ≤ 1000 → number ≤ 9999 → count + length plans ≤ 9999 → WritesPlans base many parts count plans before after
    → get after (family_name (child_name base entry) number) ≡ get before (family_name (child_name base entry) number)
child_stays base many parts count plans before after entry number few low small writes =
    writes.others (family_name (child_name base entry) number) (child_family≢part base entry number few low)
    (λ k within. child_family≢family base entry number (plan_number many (count + k + 1)) few low (number_low many (count + k + 1) (omega arith)))

-- So much was collected when a number was reached: what was judged so far, and then what is judged of the files from that number on.
pub record Collected (parts : Parts) (base : List ℕ) (many : Bool) (turn : Turn) (events : List Event) (a b : Standing) (number : ℕ) (judged : List Judged) : Type 0 where
  pub takes : TakesIn {T = Unit {0}} (Ok tt) parts base many turn events a b judged
  pub order : WhereTold a.told (λ files.
      judged_in a.core.setting parts turn events (child_files files (child_name base turn.entry))
      ≡ judged ++ judged_in a.core.setting parts turn (events ++ map (offer_of turn) judged) (files_from files (child_name base turn.entry) number))

-- what the whole says
abbrev pub Collects : Result (Unit {0}) ReadError → Parts → List ℕ → Bool → Turn → List Event → Standing → Standing → Type 0
Collects result parts base many turn events a b =
    (judged : List Judged)
    × TakesIn result parts base many turn events a b judged
    × WhereTold a.told (λ files. AreAllOrFirst result judged (judged_in a.core.setting parts turn events (child_files files (child_name base turn.entry))))

-- at first nothing
pub at_first : (parts : Parts) (base : List ℕ) (many : Bool) (turn : Turn) (events : List Event) (a : Standing) → IsInTurn a.core events turn a.kept → Collected parts base many turn events a a 0 []
at_first parts base many turn events a is = record {
  takes = takes_none {T = Unit {0}} (Ok tt) parts base many turn events a a refl refl refl (λ fine. is);
  order = λ files idle held.
      ap (judged_in a.core.setting parts turn events) (sym (files_at_first files (child_name base turn.entry)))
      ∙ ap (λ past. judged_in a.core.setting parts turn past (files_from files (child_name base turn.entry) 0)) (sym (append-nil events));
}

not_failed : (result : Result (Unit {0}) ReadError) → result ≡ Ok tt → result ≢ Err Failed
not_failed result ok is = cc

pub in_turn : (parts : Parts) (base : List ℕ) (many : Bool) (turn : Turn) (events : List Event) (a b : Standing) (number : ℕ) (judged : List Judged) → Collected parts base many turn events a b number judged → IsInTurn b.core (events ++ map (offer_of turn) judged) turn b.kept
in_turn parts base many turn events a b number judged has = has.takes.core (not_failed (Ok tt) refl)

-- what a file of the child holds now is what it held at first
pub held_first : (parts : Parts) (base : List ℕ) (many : Bool) (turn : Turn) (events : List Event) (a b : Standing) (number : ℕ) (judged : List Judged) (P : Option (List ℕ) → Type 0)
    → turn.entry ≤ 1000 → number ≤ 9999 → b.told.busy ≡ [] → b.core.setting ≡ a.core.setting → (many ≡ false → a.core.setting.single ≡ true) → Collected parts base many turn events a b number judged
    → WhereTold b.told (λ files. P (get files (family_name (child_name base turn.entry) number))) → WhereTold a.told (λ files. P (get files (family_name (child_name base turn.entry) number)))
held_first parts base many turn events a b number judged P entry low quiet same single has told files idle held =
    let left = has.takes.folder files idle held in
    let plans = few_plans b.core (events ++ map (offer_of turn) judged) turn b.kept many (λ one. ap (λ s. s.single) same ∙ single one) (in_turn parts base many turn events a b number judged has) in
    let count : length b.kept ≡ length a.kept + length (plans_of turn judged) = ap length has.takes.kept ∙ length-append a.kept (plans_of turn judged) in
    let few = subst (AreFew many) count plans in
    subst P (child_stays base many parts (length a.kept) (plans_of turn judged) files (last_of files left.0) turn.entry number entry low few.small
    (keeping_writes {T = Unit {0}} tt base many parts (length a.kept) (plans_of turn judged) (bound_of a.core.setting (events ++ map (offer_of turn) judged)) files left.0 few left.1))
    (told (last_of files left.0) quiet left.2.content)

-- nothing was touched
pub still_collected : (parts : Parts) (base : List ℕ) (many : Bool) (turn : Turn) (events : List Event) (a b : Standing) (told : Told) (number : ℕ) (judged : List Judged) → IsUntouched b.told told
    → Collected parts base many turn events a b number judged → Collected parts base many turn events a (record b { told = told }) number judged
still_collected parts base many turn events a b told number judged same has = record {
  takes = takes_untouched {T = Unit {0}} (Ok tt) parts base many turn events a b told judged same has.takes;
  order = has.order;
}

-- the next number, where the file of this one isn't there
pub passed_over : (parts : Parts) (base : List ℕ) (many : Bool) (turn : Turn) (events : List Event) (a b : Standing) (number : ℕ) (judged : List Judged) → number ≡ 0
    → Collected parts base many turn events a b number judged → WhereTold a.told (λ files. get files (family_name (child_name base turn.entry) number) ≡ None)
    → Collected parts base many turn events a b (number + 1) judged
passed_over parts base many turn events a b number judged first has none = record {
  takes = has.takes;
  order = λ files idle held.
      has.order files idle held
      ∙ ap (λ rest. judged ++ judged_in a.core.setting parts turn (events ++ map (offer_of turn) judged) rest)
      (no_single files (child_name base turn.entry) number first (ap (option_map (file_of number)) (none files idle held)));
}

-- or where it is, and was judged
pub record IsVerdictOn (parts : Parts) (bound : Option ℕ) (held : Option (List ℕ)) (verdict : Verdict) : Type 0 where
  pub bytes : List ℕ
  pub there : held ≡ Some bytes
  pub is : verdict ≡ verdict_of parts bytes bound

pub verdict_on : (parts : Parts) (bound : Option ℕ) (found : Option Verdict) (held : Option (List ℕ)) (verdict : Verdict) → found ≡ Some verdict → found ≡ option_map (λ bytes. verdict_of parts bytes bound) held → IsVerdictOn parts bound held verdict
verdict_on parts bound found None verdict some is = cc
verdict_on parts bound found (Some bytes) verdict some is = let same : verdict ≡ verdict_of parts bytes bound = cc in record { bytes = bytes; there = refl; is = same }

pub nothing_there : (f : List ℕ → Verdict) (found : Option Verdict) (held : Option (List ℕ)) → found ≡ None → found ≡ option_map f held → held ≡ None
nothing_there f found None none is = refl
nothing_there f found (Some bytes) none is = cc

judged_then : (setting : Setting) (parts : Parts) (turn : Turn) (events : List Event) (judged : List Judged) (number : ℕ) (files : List ChildFile) (bound : Option ℕ) (verdict : Verdict) (file : ChildFile) (all : List Judged)
    → KeepsBelow setting (events ++ map (offer_of turn) judged) bound → judged_as number verdict ≡ judged_of parts bound file
    → all ≡ judged ++ judged_in setting parts turn (events ++ map (offer_of turn) judged) (file ∷ files)
    → all ≡ (judged ++ judged_as number verdict ∷ []) ++ judged_in setting parts turn (events ++ map (offer_of turn) (judged ++ judged_as number verdict ∷ [])) files
judged_then setting parts turn events judged number files bound verdict file all keeps is split =
    let one = judged_as number verdict in
    split
    ∙ ap (λ more. judged ++ more) (judged_next setting parts turn (events ++ map (offer_of turn) judged) file files one keeps.over (is ∙ ap (λ b. judged_of parts b file) keeps.present))
    ∙ ap (λ past. judged ++ (one ∷ judged_in setting parts turn past files)) (events_then turn events judged (one ∷ []))
    ∙ sym (append_assoc judged (one ∷ []) (judged_in setting parts turn (events ++ map (offer_of turn) (judged ++ one ∷ [])) files))

pub took : (parts : Parts) (base : List ℕ) (many : Bool) (turn : Turn) (events : List Event) (a b c : Standing) (number : ℕ) (judged : List Judged) (bound : Option ℕ) (verdict : Verdict) → number ≤ 9999 → b.told.busy ≡ a.told.busy → b.core.setting ≡ a.core.setting
    → Collected parts base many turn events a b number judged → KeepsBelow b.core.setting (events ++ map (offer_of turn) judged) bound
    → WhereTold a.told (λ files. IsVerdictOn parts bound (get files (family_name (child_name base turn.entry) number)) verdict)
    → TakesIn {T = Unit {0}} (Ok tt) parts base many turn (events ++ map (offer_of turn) judged) b c (judged_as number verdict ∷ [])
    → Collected parts base many turn events a c (number + 1) (judged ++ judged_as number verdict ∷ [])
took parts base many turn events a b c number judged bound verdict low busy setting has keeps told takes = record {
  takes = takes_then {T = Unit {0}} (Ok tt) parts base many turn events a b c judged (judged_as number verdict ∷ []) busy setting has.takes takes;
  order = λ files idle held.
      let child = child_name base turn.entry in
      let on = told files idle held in
      let file = file_of number on.bytes in
      judged_then a.core.setting parts turn events judged number (files_from files child (number + 1)) bound verdict file _
      (subst (λ s. KeepsBelow s (events ++ map (offer_of turn) judged) bound) setting keeps) (ap (judged_as number) on.is)
      (has.order files idle held
      ∙ ap (λ rest. judged ++ judged_in a.core.setting parts turn (events ++ map (offer_of turn) judged) rest)
      (file_then files child number file low (ap (option_map (file_of number)) on.there)));
}

-- the end: nothing is judged of the files from here on
ends : (parts : Parts) (base : List ℕ) (many : Bool) (turn : Turn) (events : List Event) (a b : Standing) (number : ℕ) (judged : List Judged) → Collected parts base many turn events a b number judged
    → WhereTold a.told (λ files. judged_in a.core.setting parts turn (events ++ map (offer_of turn) judged) (files_from files (child_name base turn.entry) number) ≡ []) → Collects (Ok tt) parts base many turn events a b
ends parts base many turn events a b number judged has none = (
  judged,
  has.takes,
  λ files idle held. ([], has.order files idle held ∙ ap (λ more. judged ++ more) (none files idle held), refl),
)

-- since the run is over
pub ends_over : (parts : Parts) (base : List ℕ) (many : Bool) (turn : Turn) (events : List Event) (a b : Standing) (number : ℕ) (judged : List Judged) → b.core.setting ≡ a.core.setting → Collected parts base many turn events a b number judged
    → is_over_after b.core.setting (events ++ map (offer_of turn) judged) ≡ true → Collects (Ok tt) parts base many turn events a b
ends_over parts base many turn events a b number judged setting has over =
    ends parts base many turn events a b number judged has
    (λ files idle held. judged_over a.core.setting parts turn (events ++ map (offer_of turn) judged) (files_from files (child_name base turn.entry) number)
    (ap (λ s. is_over_after s (events ++ map (offer_of turn) judged)) (sym setting) ∙ over))

-- since the file of a number isn't there
pub ends_missing : (parts : Parts) (base : List ℕ) (many : Bool) (turn : Turn) (events : List Event) (a b : Standing) (number : ℕ) (judged : List Judged) → (number ≡ 0 → ⊥) → number ≤ 9999 → Collected parts base many turn events a b number judged
    → WhereTold a.told (λ files. get files (family_name (child_name base turn.entry) number) ≡ None) → Collects (Ok tt) parts base many turn events a b
ends_missing parts base many turn events a b number judged later low has none =
    ends parts base many turn events a b number judged has
    (λ files idle held.
    ap (judged_in a.core.setting parts turn (events ++ map (offer_of turn) judged)) (no_more files (child_name base turn.entry) number later low (ap (option_map (file_of number)) (none files idle held)))
    ∙ judged_none a.core.setting parts turn (events ++ map (offer_of turn) judged))

-- since all numbers were reached
pub ends_last : (parts : Parts) (base : List ℕ) (many : Bool) (turn : Turn) (events : List Event) (a b : Standing) (number : ℕ) (judged : List Judged) → number ≡ 10000 → Collected parts base many turn events a b number judged → Collects (Ok tt) parts base many turn events a b
ends_last parts base many turn events a b number judged last has =
    ends parts base many turn events a b number judged has
    (λ files idle held.
    ap (λ n. judged_in a.core.setting parts turn (events ++ map (offer_of turn) judged) (files_from files (child_name base turn.entry) n)) last
    ∙ ap (judged_in a.core.setting parts turn (events ++ map (offer_of turn) judged)) (no_files_at_end files (child_name base turn.entry))
    ∙ judged_none a.core.setting parts turn (events ++ map (offer_of turn) judged))

-- or a candidate wasn't finished
pub ends_early : (result : Result (Unit {0}) ReadError) (e : ReadError) (parts : Parts) (base : List ℕ) (many : Bool) (turn : Turn) (events : List Event) (a b c : Standing) (number : ℕ) (judged : List Judged) → result ≡ Err e → b.told.busy ≡ a.told.busy → b.core.setting ≡ a.core.setting
    → Collected parts base many turn events a b number judged → TakesIn {T = Unit {0}} (Err e) parts base many turn (events ++ map (offer_of turn) judged) b c [] → Collects result parts base many turn events a c
ends_early result e parts base many turn events a b c number judged is busy setting has takes =
    subst (λ r. Collects r parts base many turn events a c) (sym is) (
      judged,
      subst (TakesIn {T = Unit {0}} (Err e) parts base many turn events a c) (append-nil judged) (takes_then {T = Unit {0}} (Err e) parts base many turn events a b c judged [] busy setting has.takes takes),
      λ files idle held. (judged_in a.core.setting parts turn (events ++ map (offer_of turn) judged) (files_from files (child_name base turn.entry) number), has.order files idle held, tt),
    )

-- the file wasn't judged
pub ends_unread : (result : Result (Unit {0}) ReadError) (e : ReadError) (parts : Parts) (base : List ℕ) (many : Bool) (turn : Turn) (events : List Event) (a b : Standing) (told : Told) (number : ℕ) (judged : List Judged) → result ≡ Err e → b.told.busy ≡ a.told.busy → b.core.setting ≡ a.core.setting
    → IsUntouched b.told told → Collected parts base many turn events a b number judged → Collects result parts base many turn events a (record b { told = told })
ends_unread result e parts base many turn events a b told number judged is busy setting same has =
    ends_early result e parts base many turn events a b (record b { told = told }) number judged is busy setting has
    (takes_none {T = Unit {0}} (Err e) parts base many turn (events ++ map (offer_of turn) judged) b (record b { told = told }) same refl refl
    (λ fine. in_turn parts base many turn events a b number judged has))
