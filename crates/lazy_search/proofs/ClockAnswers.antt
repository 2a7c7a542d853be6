-- What the clock was asked, as a log goes on.
use Rattle.std.proofs.Common.{◌≡◌, ◌≢◌, ℕ, ◌+◌, ◌<◌, ◌≤◌, ◌%◌, Bool, true, false, List, [], ◌∷◌, ◌++◌, length, Option, Some, None, refl, ap, sym, ◌∙◌, subst, arith, inl, inr}
use Rattle.std.specs.Prelude.{if◌then◌else◌, is_some}
use Rattle.std.proofs.lemmas.List.{append-nil, append_assoc, length-append}
use Rattle.std.proofs.lemmas.Bool.{lt-leb, le-leb, cases_eq}
use Rattle.lama_host.specs.Streams.{Answers}
use Rattle.search_log.specs.declared.setting.Stop.{Stop}
use Rattle.search_log.specs.declared.setting.LimitHit.{LimitHit}
use Rattle.search_log.specs.declared.setting.LimitHit.TheVariants.{Time}
use Rattle.search_log.specs.declared.turns.Pop.{Pop}
use Rattle.search_log.specs.Phases.{Phase}
use Rattle.search_log.specs.Clocks.{unfinal, times_asked, is_late, AreAnswers}
use Rattle.log_laws.proofs.ClockLaws.{unasked, first_early, first_late, unasked_final, unasked_between, asked_again, unfinal_more, answers_stay, one_early, one_late}
use Rattle.lazy_search.specs.Outcomes.{PopsOne}
use Rattle.lazy_search.specs.Ends.{IsAnswered, TellsOn, IsBetween}
use Rattle.lazy_search.specs.Halts.{Asks, moment_in}

pub tells_same : (before after : Option (List ℕ)) → after ≡ before → TellsOn before after
tells_same before after same = record { front = λ told e. (told, [], sym same ∙ e, sym (append-nil told)) }

pub tells_one : (before after : Option (List ℕ)) (t : ℕ) → Answers before after t → TellsOn before after
tells_one before after t a = record { front = λ told e. let p = a told e in (p.0, t ∷ [], p.1, p.2) }

pub tells_then : (a b c : Option (List ℕ)) → TellsOn a b → TellsOn b c → TellsOn a c
tells_then a b c p q = record {
  front = λ told e.
      let later = q.front told e in
      let first = p.front later.0 later.2 in
      (first.0, first.1 ++ later.1, first.2, later.3 ∙ ap (λ (xs : List ℕ). xs ++ later.1) first.3 ∙ append_assoc first.0 first.1 later.1);
}

-- one question, or none
pub asks_none : (o : Option Stop) (before : Option (List ℕ)) (hit : Option LimitHit) → o ≡ None → hit ≡ None → Asks o before before hit
asks_none o before hit is none = subst (λ (x : Option Stop). Asks x before before hit) (sym is) (refl, none)

pub asks_early : (o : Option Stop) (stop : Stop) (before after : Option (List ℕ)) (t : ℕ) → o ≡ Some stop → Answers before after t → t < stop.start + stop.limit → Asks o before after None
asks_early o stop before after t is a early =
    subst (λ (x : Option Stop). Asks x before after None) (sym is) (t, a, ap (λ (b : Bool). if b then Some (Time stop.start stop.limit t) else None) (sym (lt-leb (stop.start + stop.limit) t early)))

pub asks_late : (o : Option Stop) (stop : Stop) (before after : Option (List ℕ)) (t : ℕ) → o ≡ Some stop → Answers before after t → stop.start + stop.limit ≤ t → Asks o before after (Some (Time stop.start stop.limit t))
asks_late o stop before after t is a late =
    subst (λ (x : Option Stop). Asks x before after (Some (Time stop.start stop.limit t))) (sym is) (t, a, ap (λ (b : Bool). if b then Some (Time stop.start stop.limit t) else None) (sym (le-leb (stop.start + stop.limit) t late)))

-- the first question
pub asks_first : (phase : Phase) (before after : Option (List ℕ)) (hit : Option LimitHit) → Asks phase.setting.stop before after hit → IsAnswered phase [] (moment_in hit) before after
asks_first phase before after hit asks = by_stop phase.setting.stop refl asks
  where
    by_late : (stop : Stop) (t : ℕ) (b : Bool) → phase.setting.stop ≡ Some stop → is_late stop t ≡ b → AreAnswers phase [] (moment_in (if b then Some (Time stop.start stop.limit t) else None)) (t ∷ [])
    by_late stop t true is late = first_late phase stop t is late
    by_late stop t false is late = first_early phase stop t is late

    by_stop : (o : Option Stop) → phase.setting.stop ≡ o → Asks o before after hit → IsAnswered phase [] (moment_in hit) before after
    by_stop None is a = record {
      answered = λ told e. (told, [], sym a.0 ∙ e, sym (append-nil told), subst (λ (h : Option LimitHit). AreAnswers phase [] (moment_in h) []) (sym a.1) (unasked phase [] is));
    }
    by_stop (Some stop) is a = record {
      answered = λ told e.
          let p = a.1 told e in
          (p.0, a.0 ∷ [], p.1, p.2, subst (λ (h : Option LimitHit). AreAnswers phase [] (moment_in h) (a.0 ∷ [])) (sym a.2) (by_late stop a.0 (is_late stop a.0) is refl));
    }

-- the answers stay as the log goes on
answered_stay : (phase : Phase) (pops new : List Pop) (pop : Pop) (before after : Option (List ℕ)) → IsAnswered phase pops None before after → new ≡ pops ++ pop ∷ [] → times_asked phase (pops ++ pop ∷ []) ≡ times_asked phase pops → IsAnswered phase new None before after
answered_stay phase pops new pop before after a is same = record {
  answered = λ told e.
      let p = a.answered told e in
      (p.0, p.1, p.2, p.3, subst (λ (ps : List Pop). AreAnswers phase ps None p.1) (sym is) (answers_stay phase pops pop p.1 p.4 same));
}

pub answered_final : (phase : Phase) (pops new : List Pop) (before after : Option (List ℕ)) → IsAnswered phase pops None before after → PopsOne pops new true → IsAnswered phase new None before after
answered_final phase pops new before after a one = answered_stay phase pops new one.pop before after a one.is (unasked_final phase pops one.pop one.ends)

pub answered_between : (phase : Phase) (pops new : List Pop) (before after : Option (List ℕ)) → IsAnswered phase pops None before after → PopsOne pops new false → unfinal pops ≡ length pops → length new % 256 ≢ 0 → IsAnswered phase new None before after
answered_between phase pops new before after a one all between =
    answered_stay phase pops new one.pop before after a one.is (unasked_between phase pops one.pop one.ends all (λ e. between (ap (λ (ps : List Pop). length ps % 256) one.is ∙ e)))

-- one more question
pub asks_next : (phase : Phase) (pops new : List Pop) (before mid after : Option (List ℕ)) (hit : Option LimitHit) → IsAnswered phase pops None before mid → PopsOne pops new false → unfinal pops ≡ length pops → length new % 256 ≡ 0
    → Asks phase.setting.stop mid after hit → IsAnswered phase new (moment_in hit) before after
asks_next phase pops new before mid after hit a one all multiple asks = by_stop phase.setting.stop refl asks
  where
    more : length (pops ++ one.pop ∷ []) % 256 ≡ 0
    more = ap (λ (ps : List Pop). length ps % 256) (sym one.is) ∙ multiple

    by_late : (stop : Stop) (t : ℕ) (answers : List ℕ) (b : Bool) → phase.setting.stop ≡ Some stop → AreAnswers phase pops None answers → is_late stop t ≡ b
        → AreAnswers phase (pops ++ one.pop ∷ []) (moment_in (if b then Some (Time stop.start stop.limit t) else None)) (answers ++ t ∷ [])
    by_late stop t answers true is are late = one_late phase pops one.pop answers stop t are is (asked_again phase pops one.pop stop is one.ends all more) late
    by_late stop t answers false is are late = one_early phase pops one.pop answers stop t are is (asked_again phase pops one.pop stop is one.ends all more) late

    never : (o : Option Stop) (n k : ℕ) → o ≡ None → (if is_some o then 1 + n else 0) ≡ (if is_some o then 1 + k else 0)
    never None n k e = refl
    never (Some s) n k e = let f : ◌≡◌ {A = Option Stop} (Some s) None = e in cc

    by_stop : (o : Option Stop) → phase.setting.stop ≡ o → Asks o mid after hit → IsAnswered phase new (moment_in hit) before after
    by_stop None is s = record {
      answered = λ told e.
          let p = a.answered told (sym s.0 ∙ e) in
          let same = answers_stay phase pops one.pop p.1 p.4 (never phase.setting.stop _ _ is) in
          (p.0, p.1, p.2, p.3, subst (λ (h : Option LimitHit). AreAnswers phase new (moment_in h) p.1) (sym s.1) (subst (λ (ps : List Pop). AreAnswers phase ps None p.1) (sym one.is) same));
    }
    by_stop (Some stop) is s = record {
      answered = λ told e.
          let q = s.1 told e in
          let p = a.answered q.0 q.1 in (
            p.0,
            p.1 ++ s.0 ∷ [],
            p.2,
            q.2 ∙ ap (λ (xs : List ℕ). xs ++ s.0 ∷ []) p.3 ∙ append_assoc p.0 p.1 (s.0 ∷ []),
            subst (λ (h : Option LimitHit). AreAnswers phase new (moment_in h) (p.1 ++ s.0 ∷ [])) (sym s.2)
                (subst (λ (ps : List Pop). AreAnswers phase ps (moment_in (if is_late stop s.0 then Some (Time stop.start stop.limit s.0) else None)) (p.1 ++ s.0 ∷ [])) (sym one.is)
                (by_late stop s.0 p.1 (is_late stop s.0) is p.4 refl)),
          );
    }

-- pops that don't end the log
pub unfinal_one : (pops new : List Pop) → PopsOne pops new false → unfinal pops ≡ length pops → unfinal new ≡ length new
unfinal_one pops new one all = subst (λ (ps : List Pop). unfinal ps ≡ length ps) (sym one.is) (unfinal_more pops one.pop one.ends all)

pub length_one : (pops new : List Pop) (b : Bool) → PopsOne pops new b → length new ≡ length pops + 1
length_one pops new b one = ap length one.is ∙ length-append pops (one.pop ∷ [])

-- after a pop the clock is asked, or not
pub asked_after : (phase : Phase) (pops new : List Pop) (n : ℕ) (before mid after : Option (List ℕ)) (hit : Option LimitHit) → IsAnswered phase pops None before mid → PopsOne pops new false → unfinal pops ≡ length pops → length new ≡ n
    → (n % 256 ≢ 0 → hit ≡ None) → (n % 256 ≢ 0 → after ≡ mid) → (n % 256 ≡ 0 → Asks phase.setting.stop mid after hit) → IsAnswered phase new (moment_in hit) before after
asked_after phase pops new n before mid after hit a one all count none same asks =
    elim (cases_eq (n % 256) 0) [
      | inl multiple ↦ asks_next phase pops new before mid after hit a one all (ap (λ (k : ℕ). k % 256) count ∙ multiple) (asks multiple)
      | inr other ↦ subst (λ (h : Option LimitHit). IsAnswered phase new (moment_in h) before after) (sym (none other))
          (subst (λ (o : Option (List ℕ)). IsAnswered phase new None before o) (sym (same other))
          (answered_between phase pops new before mid a one all (λ e. other (ap (λ (k : ℕ). k % 256) (sym count) ∙ e))))
    ]

pub between_from : (a b c : ℕ) (moment : Option ℕ) → a ≤ b → IsBetween b c moment → IsBetween a c moment
between_from a b c None le h = tt
between_from a b c (Some t) le h = (omega (arith, le, h.0), h.1)
