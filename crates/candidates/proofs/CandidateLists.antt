-- Lists of candidates put together, and what keeping plans leaves in a folder.
use Rattle.std.specs.Prelude.{ℕ, Option, Some, None, ◌≡◌, ◌≢◌, ◌+◌, ◌<◌, ◌≤◌, List, length, Bool, false, slice_get}
use Rattle.std.specs.List.{filter_map, range_with_len}
use Rattle.sas_task.specs.declared.contents.Parts.{Parts}
use Rattle.sas_task.specs.declared.plans.Kept.{Kept}
use Rattle.plan_check.specs.declared.verdicts.Verdict.{Verdict}
use Rattle.plan_check.specs.declared.verdicts.Verdict.TheVariants.{Good, Bad}
use Rattle.candidates.specs.declared.offers.Candidate.{Candidate}
use Rattle.candidates.specs.declared.offers.Found.{Found}
use Rattle.candidates.specs.declared.offers.Found.TheVariants.{Kept as IsKept, Dropped}
use Rattle.std.specs.FinMap.{get}
use Rattle.lama_host.specs.Folder.{Files, last_of}
use Rattle.lama_num.specs.Names.{part_name}
use Rattle.plan_text.specs.PlanText.{plan_text}
use Rattle.plan_manager.specs.Keeping.{plan_file, plan_number, IsPlaced}
use Rattle.candidates.specs.declared.reading.ReadError.{ReadError}
use Rattle.std.proofs.Common.{◌≡◌, ◌≢◌, ℕ, zero, suc, ◌+◌, ◌-◌, ◌<◌, ◌≤◌, Bool, true, false, List, [], ◌∷◌, ◌++◌, length, Option, Some, None, Result, Ok, slice_get, refl, sym, ap, ◌∙◌, subst, arith, inl, inr, length-append, append_assoc, append-nil, add-zero}
use Rattle.std.proofs.lemmas.Bool.{cases_lt}
use Rattle.std.proofs.lemmas.List.Elements.{filter_map-append}
use Rattle.lama_host.proofs.StepLaws.{last_of-append}
use Rattle.lama_num.proofs.ListLaws.{slice_get-append_front}
use Rattle.plan_manager.proofs.FamilyLaws.{family_same, family≢part}
use Rattle.plan_manager.proofs.CallLaws.{placing_places}
use Rattle.driver_core.specs.Turns.{Turn}
use Rattle.candidates.specs.Judging.{Judged, judged_as, kept_of, plans_of, candidate_of, candidates_of}
use Rattle.candidates.specs.Plans.{PlacesPlans, PlacesLast, PlacesKept}

-- the place of a candidate among the kept plans, where it was kept
abbrev pub place_of : Candidate → Option ℕ
place_of candidate = place candidate.found
  where
    place : Found → Option ℕ
    place (IsKept index) = Some index
    place (Dropped fault) = None

-- The numbers of so many plans are small, and without many there is at most one plan.
pub record AreFew (many : Bool) (count : ℕ) : Type 0 where
  pub small : count ≤ 9999
  pub single : many ≡ false → count ≤ 1

-- The texts of plans were written, each under its name, and all other names but base.part hold what they held.
pub record WritesPlans (base : List ℕ) (many : Bool) (parts : Parts) (kept_before : ℕ) (plans : List Kept) (before after : Files) : Type 0 where
  pub texts : (k : ℕ) (plan : Kept) → slice_get plans k ≡ Some plan → get after (plan_file base many (kept_before + k + 1)) ≡ Some (plan_text parts plan.ops)
  pub others : (name : List ℕ) → name ≢ part_name base → ((k : ℕ) → k < length plans → name ≢ plan_file base many (kept_before + k + 1)) → get after name ≡ get before name

-- lists put together

pub plans_of-append : (turn : Turn) (first second : List Judged) → plans_of turn (first ++ second) ≡ plans_of turn first ++ plans_of turn second
plans_of-append turn first second = filter_map-append (kept_of turn) first second

pub candidates_of-none : (turn : Turn) (count : ℕ) → candidates_of turn count [] ≡ []
unfolding candidates_of
candidates_of-none turn count = refl

pub candidates_of-one : (turn : Turn) (count : ℕ) (judged : Judged) → candidates_of turn count (judged ∷ []) ≡ candidate_of turn count judged ∷ []
unfolding candidates_of
candidates_of-one turn count judged = refl

pub candidates_of-append : (turn : Turn) (count : ℕ) (first second : List Judged) → candidates_of turn count (first ++ second) ≡ candidates_of turn count first ++ candidates_of turn (count + length (plans_of turn first)) second
unfolding candidates_of
candidates_of-append turn count [] second = let same : count ≡ count + 0 = omega arith in ap (λ n. candidates_of turn n second) same
candidates_of-append turn count (judged ∷ first) second =
    let one : List Kept = plans_of turn (judged ∷ []) in
    let more : List Kept = plans_of turn first in
    let split : plans_of turn (judged ∷ first) ≡ one ++ more = plans_of-append turn (judged ∷ []) first in
    let sum : count + length one + length more ≡ count + length (plans_of turn (judged ∷ first)) = omega (arith, ap length split, length-append one more) in
    ap (λ rest. candidate_of turn count judged ∷ rest)
    (candidates_of-append turn (count + length one) first second
    ∙ ap (λ n. candidates_of turn (count + length one) first ++ candidates_of turn n second) sum)

-- The kept candidates have their places among the kept plans: where so many were kept before, the first has that place, the next the next, and so on.
pub places-of_kept : (turn : Turn) (count : ℕ) (judged : List Judged) → filter_map place_of (candidates_of turn count judged) ≡ range_with_len count (length (plans_of turn judged))
unfolding candidates_of
places-of_kept turn count [] = refl
places-of_kept turn count (judged ∷ more) = first_place judged.verdict (λ n. places-of_kept turn n more)
  where
    first_place : (verdict : Verdict) → ((n : ℕ) → filter_map place_of (candidates_of turn n more) ≡ range_with_len n (length (plans_of turn more))) →
        filter_map place_of (candidates_of turn count (judged_as judged.number verdict ∷ more)) ≡ range_with_len count (length (plans_of turn (judged_as judged.number verdict ∷ more)))
    first_place (Good ops cost) rest = ap (λ others. count ∷ others) (rest (count + 1))
    first_place (Bad fault) rest = let same : count + 0 ≡ count = omega arith in ap (λ n. filter_map place_of (candidates_of turn n more)) same ∙ rest count

-- the plans' texts in the folder

pub places_then : (base : List ℕ) (many : Bool) (parts : Parts) (before : ℕ) (first second : List Kept) (files : Files) (steps more : List Files)
    → PlacesPlans base many parts before first files steps → PlacesPlans base many parts (before + length first) second (last_of files steps) more → PlacesPlans base many parts before (first ++ second) files (steps ++ more)
places_then base many parts before [] second files steps more one two =
    let start : before + 0 ≡ before = omega arith in
    subst (λ s. PlacesPlans base many parts before second files (s ++ more)) (sym one)
    (subst (λ n. PlacesPlans base many parts n second files more) start (subst (λ s. PlacesPlans base many parts (before + 0) second (last_of files s) more) one two))
places_then base many parts before (plan ∷ first) second files steps more one two =
    let count : before + suc (length first) ≡ (before + 1) + length first = omega arith in
    let last : last_of files steps ≡ last_of (last_of files one.0) one.1 = ap (last_of files) one.2 ∙ last_of-append files one.0 one.1 in (
      one.0,
      one.1 ++ more,
      ap (λ s. s ++ more) one.2 ∙ append_assoc one.0 one.1 more,
      one.3,
      places_then base many parts (before + 1) first second (last_of files one.0) one.1 more one.4
          (subst (λ fs. PlacesPlans base many parts ((before + 1) + length first) second fs more) last
          (subst (λ n. PlacesPlans base many parts n second (last_of files steps) more) count two)),
    )

-- plans, and then more of them
pub kept_then : {T : Type 0} (result : Result T ReadError) (base : List ℕ) (many : Bool) (parts : Parts) (before : ℕ) (first second : List Kept) (bound between : Option ℕ) (files : Files) (steps more : List Files)
    → PlacesKept {T = Unit {0}} (Ok tt) base many parts before first between files steps → PlacesKept result base many parts (before + length first) second bound (last_of files steps) more
    → PlacesKept result base many parts before (first ++ second) bound files (steps ++ more)
kept_then result base many parts before first second bound between files steps more one two =
    let whole : steps ≡ one.0 = one.2 ∙ ap (λ l. one.0 ++ l) one.4 ∙ append-nil one.0 in
    let placed = subst (PlacesPlans base many parts before first files) (sym whole) one.3 in
    let number : (before + length first) + length second + 1 ≡ before + length (first ++ second) + 1 = omega (arith, length-append first second) in (
      steps ++ two.0,
      two.1,
      ap (λ m. steps ++ m) two.2 ∙ sym (append_assoc steps two.0 two.1),
      places_then base many parts before first second files steps two.0 placed two.3,
      subst (λ fs. PlacesLast result base many parts (before + length (first ++ second) + 1) bound fs two.1) (sym (last_of-append files steps two.0))
          (subst (λ n. PlacesLast result base many parts n bound (last_of (last_of files steps) two.0) two.1) number two.4),
    )

pub plan_number_low : (many : Bool) (number : ℕ) → number ≤ 9999 → plan_number many number ≤ 9999
plan_number_low true number high = high
plan_number_low false number high = omega arith

pub plan_file≢part : (base : List ℕ) (many : Bool) (number : ℕ) → number ≤ 9999 → plan_file base many number ≢ part_name base
plan_file≢part base many number high = family≢part base (plan_number many number) (plan_number_low many number high)

no_plan_written : (base : List ℕ) (many : Bool) (parts : Parts) (count : ℕ) (files : Files) → WritesPlans base many parts count [] files files
no_plan_written base many parts count files = record {
  texts = λ k plan is. let none : ◌≡◌ {A = Option Kept} None (Some plan) = is in cc;
  others = λ name apart away. refl;
}

pub only_one : (plan other : Kept) (k : ℕ) → slice_get (plan ∷ []) k ≡ Some other → (k ≡ 0) × (other ≡ plan)
only_one plan other zero is = let same : Some plan ≡ Some other = is in let eq : other ≡ plan = cc in (refl, eq)
only_one plan other (suc k) is = let none : ◌≡◌ {A = Option Kept} None (Some other) = is in cc

one_plan_written : (base : List ℕ) (many : Bool) (parts : Parts) (count : ℕ) (plan : Kept) (before after : Files) → IsPlaced (part_name base) (plan_file base many (count + 1)) (plan_text parts plan.ops) before after
    → WritesPlans base many parts count (plan ∷ []) before after
one_plan_written base many parts count plan before after placed = record {
  texts = λ k other is.
      let one = only_one plan other k is in
      ap (λ place. get after (plan_file base many (count + place + 1))) one.0
      ∙ ap (λ n. get after (plan_file base many (n + 1))) (add-zero count)
      ∙ placed.holds
      ∙ ap (λ (p : Kept). Some (plan_text parts p.ops)) (sym one.1);
  others = λ name apart away. placed.others name apart
      (λ same. away 0 (omega arith) (same ∙ ap (λ n. plan_file base many (n + 1)) (sym (add-zero count))));
}

two_files : (base : List ℕ) (many : Bool) (count j k : ℕ) → AreFew many count → j < k → k < count → plan_file base many (j + 1) ≢ plan_file base many (k + 1)
two_files base true count j k few less within same = let number : j + 1 ≡ k + 1 = family_same base (j + 1) (k + 1) (omega (arith, few.small)) (omega (arith, few.small)) same in omega arith
two_files base false count j k few less within same = omega (arith, few.single refl)

file_at_place : (base : List ℕ) (many : Bool) (m n : ℕ) → m ≡ n → plan_file base many (m + 1) ≡ plan_file base many (n + 1)
file_at_place base many m n is = ap (λ k. plan_file base many (k + 1)) is

pub slice_get-behind : {X : Type 0} (xs ys : List X) (k : ℕ) → length xs ≤ k → slice_get (xs ++ ys) k ≡ slice_get ys (k - length xs)
slice_get-behind [] ys k le = let same : k ≡ k - 0 = omega arith in ap (slice_get ys) same
slice_get-behind (x ∷ xs) ys zero le = absurd (omega (arith, le))
slice_get-behind (x ∷ xs) ys (suc k) le = let same : k - length xs ≡ suc k - suc (length xs) = omega arith in slice_get-behind xs ys k (omega (arith, le)) ∙ ap (slice_get ys) same

plans_then : (base : List ℕ) (many : Bool) (parts : Parts) (count : ℕ) (first second : List Kept) (before mid after : Files) → AreFew many (count + length first + length second)
    → WritesPlans base many parts count first before mid → WritesPlans base many parts (count + length first) second mid after → WritesPlans base many parts count (first ++ second) before after
plans_then base many parts count first second before mid after few one two = record {
  texts = λ k plan is. elim (cases_lt k (length first)) [
    | inl front ↦
        let here = slice_get-append_front first second k front in
        two.others (plan_file base many (count + k + 1)) (plan_file≢part base many (count + k + 1) (omega (arith, few.small)))
        (λ j within same. two_files base many (count + length first + length second) (count + k) (count + length first + j) few (omega arith) (omega arith) same)
        ∙ one.texts k plan (sym here ∙ is)
    | inr behind ↦
        let there = slice_get-behind first second k behind in
        ap (get after) (file_at_place base many (count + k) (count + length first + (k - length first)) (omega arith))
        ∙ two.texts (k - length first) plan (sym there ∙ is)
  ];
  others = λ name apart away.
      two.others name apart (λ j within same.
      away (length first + j) (omega (arith, length-append first second))
      (same ∙ file_at_place base many (count + length first + j) (count + (length first + j)) (omega arith)))
      ∙ one.others name apart (λ k within. away k (omega (arith, length-append first second)));
}

-- What the placings of plans leave: each text under its name, and all other names but base.part as they were.
pub placing_writes : (base : List ℕ) (many : Bool) (parts : Parts) (before : ℕ) (plans : List Kept) (files : Files) (steps : List Files) → AreFew many (before + length plans)
    → PlacesPlans base many parts before plans files steps → WritesPlans base many parts before plans files (last_of files steps)
placing_writes base many parts before [] files steps few places = subst (λ s. WritesPlans base many parts before [] files (last_of files s)) (sym places) (no_plan_written base many parts before files)
placing_writes base many parts before (plan ∷ plans) files steps few places =
    let mid = last_of files places.0 in
    let last : last_of files steps ≡ last_of mid places.1 = ap (last_of files) places.2 ∙ last_of-append files places.0 places.1 in
    let count : before + suc (length plans) ≡ (before + 1) + length plans = omega arith in
    let fits = subst (AreFew many) count few in
    subst (WritesPlans base many parts before (plan ∷ plans) files) (sym last)
    (plans_then base many parts before (plan ∷ []) plans files mid (last_of mid places.1) fits
    (one_plan_written base many parts before plan files mid (placing_places {T = Unit {0}} ReadError tt (part_name base) (plan_file base many (before + 1)) (plan_text parts plan.ops) files places.0 places.3))
    (placing_writes base many parts (before + 1) plans mid places.1 fits places.4))

-- What keeping plans leaves where no call failed.
pub keeping_writes : {T : Type 0} (x : T) (base : List ℕ) (many : Bool) (parts : Parts) (before : ℕ) (plans : List Kept) (bound : Option ℕ) (files : Files) (steps : List Files) → AreFew many (before + length plans)
    → PlacesKept (Ok x) base many parts before plans bound files steps → WritesPlans base many parts before plans files (last_of files steps)
keeping_writes x base many parts before plans bound files steps few places =
    let whole : steps ≡ places.0 = places.2 ∙ ap (λ l. places.0 ++ l) places.4 ∙ append-nil places.0 in
    placing_writes base many parts before plans files steps few (subst (PlacesPlans base many parts before plans files) (sym whole) places.3)
