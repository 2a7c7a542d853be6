-- What the clock was asked in a phase, and in a turn.
use Rattle.std.proofs.Common.{◌≡◌, ◌≢◌, ◌∙◌, sym, ap, subst, refl, ℕ, zero, suc, List, [], ◌∷◌, ◌++◌, Bool, true, false, ◌≤◌, slice_get, Option, Some, None, append-nil, append_assoc}
use Rattle.sas_task.specs.declared.contents.Parts.{Parts}
use Rattle.conf_text.specs.declared.config.Config.{Config}
use Rattle.iterated.specs.Following.{begun}
use Rattle.search_log.specs.declared.turns.Pop.{Pop}
use Rattle.search_log.specs.Phases.{Phase as SearchPhase}
use Rattle.log_laws.proofs.ClockLaws.{no_answers}
use Rattle.lazy_search.specs.declared.end.SearchEnd.{SearchEnd}
use Rattle.lazy_search.specs.declared.end.SearchEnd.TheVariants as search
use Rattle.lazy_search.specs.Ends.{IsAnswered, ClockHolds, TellsOn}
use Rattle.iterated.specs.declared.ends.PhaseEnd.{PhaseEnd}
use Rattle.iterated.specs.declared.ends.PhaseEnd.TheVariants.{Plan, Unsolvable, Best, Unsolved, Limit, Over, NoMemory}
use Rattle.iterated.specs.Ends.{EndsFrom, PhaseEnds, AsksFrom, search_end}
use Rattle.iterated.specs.Searches.{search_phase}
use Rattle.lama_host.specs.Streams.{Answers}
use Rattle.run_report.specs.declared.report.Outcome.{Outcome}
use Rattle.run_report.specs.Clocks.{has_memory}
use Rattle.run_report.specs.Turns.{ToldTurn}
use Rattle.driver_core.specs.declared.settings.Setting.{Setting}
use Rattle.driver_run.specs.declared.progress.Progress.{Progress}
use Rattle.driver_run.specs.declared.progress.Trail.{Trail}
use Rattle.driver_run.specs.Searching.{run_by, AsksNoMore, AsksForTurn, HasEnded, HasRun}

same_asks : (before after : Option (List ℕ)) → after ≡ before → AsksNoMore true before after
same_asks before after same = record { answers = λ all told. (all, [], sym same ∙ told, sym (append-nil all), λ memory. refl) }

-- without a stop the clock isn't asked
unasked_by : (phase : SearchPhase) (pops : List Pop) (moment : Option ℕ) (before after : Option (List ℕ)) → phase.setting.stop ≡ None → IsAnswered phase pops moment before after → AsksNoMore true before after
unasked_by phase pops moment before after never is = record {
  answers = λ all told.
      let a = is.answered all told in
      (a.0, a.1, a.2, a.3, λ memory. (no_answers phase pops moment a.1 a.4 never).0);
}

unasked : (phase : SearchPhase) (before after : Option (List ℕ)) (end : SearchEnd) → phase.setting.stop ≡ None → (end ≡ search.NoMemory → ⊥) → ClockHolds phase before after end → AsksNoMore true before after
unasked phase before after (search.Plan ops cost log) never some is = unasked_by phase log.pops _ before after never is
unasked phase before after (search.Unsolvable space log) never some is = unasked_by phase log.pops _ before after never is
unasked phase before after (search.Unsolved space log) never some is = unasked_by phase log.pops _ before after never is
unasked phase before after (search.Limit hit log) never some is = unasked_by phase log.pops _ before after never is
unasked phase before after search.NoMemory never some is = absurd (some refl)

-- an end with memory has a search with memory, unless it is over
searched : (end : PhaseEnd) → (end ≡ NoMemory → ⊥) → (end ≡ Over → ⊥) → search_end end ≡ search.NoMemory → ⊥
searched (Plan ops cost log) memory over is = cc
searched (Unsolvable space log) memory over is = cc
searched (Best space log) memory over is = cc
searched (Unsolved space log last) memory over is = cc
searched (Limit hit log) memory over is = cc
searched Over memory over is = over refl
searched NoMemory memory over is = memory refl

not_over : (parts : Parts) (config : Config) (place : ℕ) (bound : Option ℕ) (end : PhaseEnd) → PhaseEnds parts config place bound None end → end ≡ Over → ⊥
not_over parts config place bound (Plan ops cost log) is same = cc
not_over parts config place bound (Unsolvable space log) is same = cc
not_over parts config place bound (Best space log) is same = cc
not_over parts config place bound (Unsolved space log last) is same = cc
not_over parts config place bound (Limit hit log) is same = cc
not_over parts config place bound Over is same = is.concludes
not_over parts config place bound NoMemory is same = cc

asked_in : (parts : Parts) (config : Config) (place : ℕ) (bound : Option ℕ) (end : PhaseEnd) (before after : Option (List ℕ)) → (end ≡ NoMemory → ⊥) → (is : PhaseEnds parts config place bound None end) →
    ClockHolds (search_phase parts is.phase bound None) before after (search_end end) → AsksNoMore true before after
asked_in parts config place bound end before after memory is asks =
    unasked (search_phase parts is.phase bound None) before after (search_end end) refl (searched end memory (not_over parts config place bound end is)) asks

pub asked : (parts : Parts) (config : Config) (next bound : Option ℕ) (end : PhaseEnd) (before after : Option (List ℕ)) → (end ≡ NoMemory → ⊥) →
    EndsFrom parts config bound None (begun next bound) end → AsksFrom parts config bound None (begun next bound) before after end → AsksNoMore true before after
asked parts config None bound end before after memory is asks = same_asks before after asks
asked parts config (Some place) None end before after memory is asks = asked_in parts config place None end before after memory is (asks is.phase is.at)
asked parts config (Some place) (Some zero) end before after memory is asks = same_asks before after asks
asked parts config (Some place) (Some (suc n)) end before after memory is asks = asked_in parts config place (Some (suc n)) end before after memory is (asks is.phase is.at)

-- where memory may have been wanting
pub asks_any : (memory : Bool) (before after : Option (List ℕ)) → AsksNoMore true before after → AsksNoMore memory before after
asks_any memory before after is = record {
  answers = λ all told.
      let a = is.answers all told in
      (a.0, a.1, a.2, a.3, λ m. a.4 refl);
}

pub asks_short : (before after : Option (List ℕ)) → TellsOn before after → AsksNoMore false before after
asks_short before after is = record {
  answers = λ all told.
      let a = is.front all told in
      (a.0, a.1, a.2, a.3, λ m. let k : false ≡ true = m in cc);
}

pub asks_none : (told : Option (List ℕ)) → AsksNoMore true told told
asks_none told = same_asks told told refl

pub asks_then : (memory : Bool) (before mid after : Option (List ℕ)) → AsksNoMore true before mid → AsksNoMore memory mid after → AsksNoMore memory before after
asks_then memory before mid after one two = record {
  answers = λ all told.
      let b = two.answers all told in
      let a = one.answers b.0 b.2 in
      (a.0, b.1, a.2, b.3 ∙ ap (λ front. front ++ b.1) (a.3 ∙ ap (λ more. a.0 ++ more) (a.4 refl) ∙ append-nil a.0), b.4);
}

-- the clock was asked as the turn began, and then in its search
pub asks_turn : (memory : Bool) (began before now : ℕ) (told_before told_mid told_now : Option (List ℕ)) → before ≤ began → began ≤ now → Answers told_before told_mid began → AsksNoMore memory told_mid told_now →
    AsksForTurn memory began before now told_before told_now
asks_turn memory began before now told_before told_mid told_now later last first is = record {
  later = later;
  last = last;
  answers = λ all told.
      let b = is.answers all told in
      let f = first b.0 b.2 in
      (f.0, b.1, f.1, b.3 ∙ ap (λ front. front ++ b.1) f.2 ∙ append_assoc f.0 (began ∷ []) b.1, b.4);
}

-- the one turn came to its end
pub turn_told : (parts : Parts) (config : Config) (setting begun : Setting) (progress next : Progress) (trail : Trail) (outcome : Outcome) (began before now : ℕ) (told_before told_mid told_now : Option (List ℕ)) →
    begun ≡ setting → progress.core.setting ≡ begun → trail.began ≡ began → before ≤ began → began ≤ now → Answers told_before told_mid began → AsksNoMore (has_memory outcome) told_mid told_now →
    HasEnded (run_by parts config begun) progress trail outcome →
    (HasEnded (run_by parts config progress.core.setting) progress trail outcome → (turn : ToldTurn) × (turn.end.outcome ≡ outcome) × (turn.end.began ≡ trail.began) × HasRun (run_by parts config progress.core.setting) next turn) →
    (turn : ToldTurn) × HasRun (run_by parts config setting) next turn × AsksForTurn (has_memory turn.end.outcome) turn.end.began before now told_before told_now
turn_told parts config setting begun progress next trail outcome began before now told_before told_mid told_now set same is_began later last first asks ended told =
    let t = told (subst (λ s. HasEnded (run_by parts config s) progress trail outcome) (sym same) ended) in (
      t.0,
      subst (λ s. HasRun (run_by parts config s) next t.0) (same ∙ set) t.3,
      subst (λ o. AsksForTurn (has_memory o) t.0.end.began before now told_before told_now) (sym t.1)
          (subst (λ b. AsksForTurn (has_memory outcome) b before now told_before told_now) (sym (t.2 ∙ is_began))
          (asks_turn (has_memory outcome) began before now told_before told_mid told_now later last first asks)),
    )
