-- Who runs in a round, by the marks that the core holds, and the relative times of those behind an entry.
use Rattle.std.proofs.Common.{◌≡◌, ℕ, ◌+◌, ◌-◌, ◌<◌, ◌≤◌, Bool, true, false, cond, ◌&&◌, ◌==◌, nat_le, List, [], ◌∷◌, length, map, filter, drop, get_or, sum_by, Option, Some, None, MatchOption, option_map, slice_get, zero, suc, refl, sym, ap, ◌∙◌, subst, arith, inl, inr}
use Rattle.std.proofs.lemmas.Bool.{cases_Bool, cases_order, cases_lt, cond-true, cond-false, and_parts, and_from, eqb-true, eq-eqb, ne_eqb, le-leb, lt-leb, false≢true, false_from_ne_true}
use Rattle.std.proofs.lemmas.List.Sums.{sum_by-cons}
use Rattle.std.specs.Option.{unwrap_or}
use Rattle.std.specs.List.{list_any, range_with_len}
use Rattle.driver_core.specs.declared.events.Event.{Event}
use Rattle.driver_core.specs.declared.settings.Setting.{Setting}
use Rattle.driver_core.specs.Settings.{entries}
use Rattle.driver_core.specs.Rounds.{runs_in, entries_in, time_of, portion_of, share_of}
use Rattle.driver_core.specs.States.{CoreState, has_mark_of, marked_time, marks_in}
use Rattle.driver_core.specs.Standing.{HoldsRound, is_after, is_keeper}
use Rattle.driver_core.proofs.Tests.{mark_at}
use Rattle.driver_core.proofs.Present.{runs_entry, is_next, is_numbered, next_runs}

-- a round before the present one is no longer asked for
earlier_not : (core : CoreState) (events : List Event) (round entry : ℕ) → HoldsRound core events → list_any (is_after round) events ≡ false → round < core.round → runs_in core.setting events round entry ≡ true → ⊥
earlier_not core events zero entry holds latest below runs = false≢true runs
earlier_not core events (suc round) entry holds latest below runs = false≢true (sym latest ∙ holds.present.reached (suc round) (omega arith) below)

-- The marks are those of the round; where there are none, no entry runs in it.
pub marks-hold : (core : CoreState) (events : List Event) (round : ℕ) → HoldsRound core events → list_any (is_after round) events ≡ false
    → MatchOption (marks_in core round) ((entry : ℕ) → runs_in core.setting events round entry ≡ false) (λ marks. marks ≡ map (runs_in core.setting events round) (entries core.setting))
marks-hold core events round holds latest =
    let present = holds.present in
    let P : Option (List Bool) → Type 0 = λ o. MatchOption o ((entry : ℕ) → runs_in core.setting events round entry ≡ false) (λ marks. marks ≡ map (runs_in core.setting events round) (entries core.setting)) in
    let next = cond (core.setting.rounds && (round == core.round + 1)) (Some core.keepers) None in
    elim (cases_Bool (round == core.round)) [
      | inl here ↦
          let same = eqb-true round core.round here in
          subst P (sym (cond-true _ (Some core.running) next here)) (holds.running ∙ (λ i. map (runs_in core.setting events (sym same i)) (entries core.setting)))
      | inr other ↦
          let differs : round ≡ core.round → ⊥ = λ same. false≢true (sym other ∙ eq-eqb round core.round same) in
          subst P (sym (cond-false _ (Some core.running) next other))
          (elim (cases_Bool (core.setting.rounds && (round == core.round + 1))) [
            | inl follows ↦
                let parts = and_parts core.setting.rounds (round == core.round + 1) follows in
                let at : suc core.round ≡ round = omega (arith, eqb-true round (core.round + 1) parts.1) in
                let one = is_numbered core.setting events core.round present.some in
                let runs : (e : ℕ) → is_keeper core.setting events core.round e ≡ runs_in core.setting events round e =
                λ e. sym (sym (ap (λ r. runs_in core.setting events r e) at) ∙ next_runs core.setting events core.round e one ∙ ap (λ b. b && is_keeper core.setting events core.round e) parts.0) in
                subst P (sym (cond-true _ (Some core.keepers) None follows)) (holds.keepers ∙ (λ i. map (λ e. runs e i) (entries core.setting)))
            | inr no_next ↦
                subst P (sym (cond-false _ (Some core.keepers) None no_next))
                (λ entry. false_from_ne_true _ (λ runs. elim (cases_order round core.round) [
                  | inl same ↦ differs same
                  | inr (inl below) ↦ earlier_not core events round entry holds latest below runs
                  | inr (inr above) ↦
                      let next = is_next core.setting events core.round round entry present above runs in
                      let at : round ≡ core.round + 1 = omega (arith, next.0) in
                      false≢true (sym no_next ∙ and_from core.setting.rounds (round == core.round + 1) next.1 (eq-eqb round (core.round + 1) at))
                ]))
          ])
    ]

-- the marks are those of the round
runs-marked : (core : CoreState) (events : List Event) (round : ℕ) (marks : List Bool) → HoldsRound core events → list_any (is_after round) events ≡ false → Some marks ≡ marks_in core round
    → marks ≡ map (runs_in core.setting events round) (entries core.setting)
runs-marked core events round marks holds latest is =
    let P : Option (List Bool) → Type 0 = λ o. MatchOption o ((e : ℕ) → runs_in core.setting events round e ≡ false) (λ m. m ≡ map (runs_in core.setting events round) (entries core.setting)) in
    subst P (sym is) (marks-hold core events round holds latest)

-- An entry runs in the round where it is marked.
pub mark-holds : (core : CoreState) (events : List Event) (round entry : ℕ) (marks : List Bool) → HoldsRound core events → list_any (is_after round) events ≡ false → Some marks ≡ marks_in core round
    → has_mark_of marks entry ≡ runs_in core.setting events round entry
mark-holds core events round entry marks holds latest is =
    let runs = runs_in core.setting events round in
    let all = runs-marked core events round marks holds latest is in
    elim (cases_lt 0 entry) [
      | inl some ↦
          ap (λ b. b && unwrap_or (slice_get marks (entry - 1)) false) (le-leb 1 entry (omega arith))
          ∙ ap (λ m. unwrap_or (slice_get m (entry - 1)) false) all
          ∙ mark_at runs 1 (length core.setting.shares) (entry - 1) entry (omega arith) (λ ran. let is_entry = runs_entry core.setting events round entry ran in omega (arith, is_entry.0, is_entry.1))
      | inr none ↦
          ap (λ b. b && unwrap_or (slice_get marks (entry - 1)) false) (lt-leb 1 entry (omega arith))
          ∙ sym (false_from_ne_true (runs entry) (λ ran. let is_entry = runs_entry core.setting events round entry ran in absurd (omega (arith, is_entry.0))))
    ]

-- and none does where there are no marks
pub none-runs : (core : CoreState) (events : List Event) (round entry : ℕ) → HoldsRound core events → list_any (is_after round) events ≡ false → None ≡ marks_in core round → runs_in core.setting events round entry ≡ false
none-runs core events round entry holds latest is =
    let P : Option (List Bool) → Type 0 = λ o. MatchOption o ((e : ℕ) → runs_in core.setting events round e ≡ false) (λ m. m ≡ map (runs_in core.setting events round) (entries core.setting)) in
    subst P (sym is) (marks-hold core events round holds latest) entry

-- a mark more
marked_time-step : (times : List ℕ) (marks : List Bool) (place : ℕ) → place < length times → length marks ≡ length times
    → marked_time (drop place times) (drop place marks) ≡ cond (get_or marks place false) (get_or times place 0) 0 + marked_time (drop (suc place) times) (drop (suc place) marks)
marked_time-step [] marks place below same = absurd (omega arith)
marked_time-step (time ∷ times) [] place below same = absurd (omega arith)
marked_time-step (time ∷ times) (mark ∷ marks) zero below same = refl
marked_time-step (time ∷ times) (mark ∷ marks) (suc place) below same = marked_time-step times marks place (omega arith) (omega arith)

pub marked_more : (times : List ℕ) (marks : List Bool) (place total next all : ℕ) → place < length times → length marks ≡ length times → get_or marks place false ≡ true → next ≡ total + get_or times place 0
    → total + marked_time (drop place times) (drop place marks) ≡ all → next + marked_time (drop (place + 1) times) (drop (place + 1) marks) ≡ all
marked_more times marks place total next all below same is grown so_far =
    let step = marked_time-step times marks place below same ∙ ap (λ b. cond b (get_or times place 0) 0 + marked_time (drop (suc place) times) (drop (suc place) marks)) is in
    let one : suc place ≡ place + 1 = omega arith in
    let later = ap (λ p. marked_time (drop p times) (drop p marks)) one in
    omega (arith, step, later)

pub marked_less : (times : List ℕ) (marks : List Bool) (place total next all : ℕ) → place < length times → length marks ≡ length times → get_or marks place false ≡ false → next ≡ total
    → total + marked_time (drop place times) (drop place marks) ≡ all → next + marked_time (drop (place + 1) times) (drop (place + 1) marks) ≡ all
marked_less times marks place total next all below same is stays so_far =
    let step = marked_time-step times marks place below same ∙ ap (λ b. cond b (get_or times place 0) 0 + marked_time (drop (suc place) times) (drop (suc place) marks)) is in
    let one : suc place ≡ place + 1 = omega arith in
    let later = ap (λ p. marked_time (drop p times) (drop p marks)) one in
    omega (arith, step, later)

sum_by-cond : (g : ℕ → ℕ) (x : ℕ) (rest : List ℕ) (b : Bool) → sum_by g (cond b (x ∷ rest) rest) ≡ cond b (g x) 0 + sum_by g rest
sum_by-cond g x rest true = sum_by-cons g x rest
sum_by-cond g x rest false = omega arith

-- where all numbers are from the entry on, those that run are the marked ones
times_past : (g : ℕ → ℕ) (f : ℕ → Bool) (entry first : ℕ) (times : List ℕ) → ((place : ℕ) → place < length times → g (first + place) ≡ get_or times place 0) → entry ≤ first
    → sum_by g (filter (nat_le entry) (filter f (range_with_len first (length times)))) ≡ marked_time times (map f (range_with_len first (length times)))
times_past g f entry first [] each past = refl
times_past g f entry first (time ∷ times) each past =
    let rest = filter f (range_with_len (first + 1) (length times)) in
    let more : (place : ℕ) → place < length times → g ((first + 1) + place) ≡ get_or times place 0 =
    λ place below. ap g (let e : (first + 1) + place ≡ first + suc place = omega arith in e) ∙ each (suc place) (omega arith) in
    let later = times_past g f entry (first + 1) times more (omega arith) in
    let own : g first ≡ time = ap g (let e : first ≡ first + 0 = omega arith in e) ∙ each 0 (omega arith) in
    elim (f first) as (λ b. sum_by g (filter (nat_le entry) (cond b (first ∷ rest) rest)) ≡ cond b time 0 + marked_time times (map f (range_with_len (first + 1) (length times)))) [
      | true ↦
          sum_by-cond g first (filter (nat_le entry) rest) (nat_le entry first)
          ∙ ap (λ b. cond b (g first) 0 + sum_by g (filter (nat_le entry) rest)) (le-leb entry first past)
          ∙ (λ i. own i + later i)
      | false ↦ later ∙ (let e : marked_time times (map f (range_with_len (first + 1) (length times))) ≡ 0 + marked_time times (map f (range_with_len (first + 1) (length times))) = omega arith in e)
    ]

-- The relative times of those that run, from the entry on: its own, and those of the marked ones behind it.
pub times_from : (g : ℕ → ℕ) (f : ℕ → Bool) (entry first place : ℕ) (times : List ℕ) → ((k : ℕ) → k < length times → g (first + k) ≡ get_or times k 0) → first + place ≡ entry → place < length times → f entry ≡ true
    → sum_by g (filter (nat_le entry) (filter f (range_with_len first (length times)))) ≡ get_or times place 0 + marked_time (drop (suc place) times) (drop (suc place) (map f (range_with_len first (length times))))
times_from g f entry first place [] each at below runs = absurd (omega arith)
times_from g f entry first zero (time ∷ times) each at below runs =
    let rest = filter f (range_with_len (first + 1) (length times)) in
    let same : first ≡ entry = omega arith in
    let more : (k : ℕ) → k < length times → g ((first + 1) + k) ≡ get_or times k 0 =
    λ k under. ap g (let e : (first + 1) + k ≡ first + suc k = omega arith in e) ∙ each (suc k) (omega arith) in
    let later = times_past g f entry (first + 1) times more (omega arith) in
    let own : g first ≡ time = ap g (let e : first ≡ first + 0 = omega arith in e) ∙ each 0 (omega arith) in
    ap (λ b. sum_by g (filter (nat_le entry) (cond b (first ∷ rest) rest))) (ap f same ∙ runs)
    ∙ sum_by-cond g first (filter (nat_le entry) rest) (nat_le entry first)
    ∙ ap (λ b. cond b (g first) 0 + sum_by g (filter (nat_le entry) rest)) (le-leb entry first (omega arith))
    ∙ (λ i. own i + later i)
times_from g f entry first (suc place) (time ∷ times) each at below runs =
    let rest = filter f (range_with_len (first + 1) (length times)) in
    let more : (k : ℕ) → k < length times → g ((first + 1) + k) ≡ get_or times k 0 =
    λ k under. ap g (let e : (first + 1) + k ≡ first + suc k = omega arith in e) ∙ each (suc k) (omega arith) in
    let later = times_from g f entry (first + 1) place times more (omega arith) (omega arith) runs in
    (elim (f first) as (λ b. sum_by g (filter (nat_le entry) (cond b (first ∷ rest) rest)) ≡ sum_by g (filter (nat_le entry) rest)) [
      | true ↦
          sum_by-cond g first (filter (nat_le entry) rest) (nat_le entry first)
          ∙ ap (λ b. cond b (g first) 0 + sum_by g (filter (nat_le entry) rest)) (lt-leb entry first (omega arith))
          ∙ (let e : 0 + sum_by g (filter (nat_le entry) rest) ≡ sum_by g (filter (nat_le entry) rest) = omega arith in e)
      | false ↦ refl
    ])
    ∙ later

-- The share by the marks is that of the events.
pub share-marked : (core : CoreState) (events : List Event) (round entry moment limit result : ℕ) (marks : List Bool) → HoldsRound core events → list_any (is_after round) events ≡ false → runs_in core.setting events round entry ≡ true
    → Some marks ≡ marks_in core round → core.setting.start ≤ moment → core.setting.limit ≡ Some limit
    → result ≡ portion_of (limit - (moment - core.setting.start)) (get_or core.setting.shares (entry - 1) 0)
    (get_or core.setting.shares (entry - 1) 0 + marked_time (drop (entry - 1 + 1) core.setting.shares) (drop (entry - 1 + 1) marks))
    → Some result ≡ share_of core.setting events round entry moment
share-marked core events round entry moment limit result marks holds latest runs is later limited found =
    let shares = core.setting.shares in
    let ran = runs_in core.setting events round in
    let is_entry = runs_entry core.setting events round entry runs in
    let left : limit - (moment - core.setting.start) ≡ core.setting.start + limit - moment = omega arith in
    let one : entry - 1 + 1 ≡ suc (entry - 1) = omega arith in
    let all = runs-marked core events round marks holds latest is in
    let times = times_from (time_of core.setting) ran entry 1 (entry - 1) shares (λ k below. ap (λ p. get_or shares p 0) (let e : 1 + k - 1 ≡ k = omega arith in e)) (omega (arith, is_entry.0)) (omega (arith, is_entry.0, is_entry.1)) runs in
    let together : get_or shares (entry - 1) 0 + marked_time (drop (entry - 1 + 1) shares) (drop (entry - 1 + 1) marks) ≡ sum_by (time_of core.setting) (filter (nat_le entry) (entries_in core.setting events round)) =
    ap (λ p. get_or shares (entry - 1) 0 + marked_time (drop p shares) (drop p marks)) one
    ∙ ap (λ m. get_or shares (entry - 1) 0 + marked_time (drop (suc (entry - 1)) shares) (drop (suc (entry - 1)) m)) all
    ∙ sym times in
    ap Some (found ∙ (λ i. portion_of (left i) (get_or shares (entry - 1) 0) (together i)))
    ∙ sym (ap (option_map (λ l. portion_of (core.setting.start + l - moment) (time_of core.setting entry) (sum_by (time_of core.setting) (filter (nat_le entry) (entries_in core.setting events round))))) limited)
