-- Answers by what was found and by a row are answers by the path that the row stands for.
use Rattle.std.proofs.Common.{◌≡◌, ◌∙◌, sym, ap, subst, refl, ℕ, List, [], ◌∷◌, Bool, true, false, cond, filter, map, ◌&&◌, ◌||◌, ◌↔◌, inl, inr, Option, Some, None, Result, Ok, Err, OnOk}
use Rattle.std.specs.List.{list_any}
use Rattle.std.proofs.Math.Path.{fun_ext}
use Rattle.std.proofs.lemmas.Bool.{or_left}
use Rattle.sas_task.specs.declared.contents.Parts.{Parts}
use Rattle.relaxed_task.specs.Reached.{IsDead}
use Rattle.conf_text.specs.Grammar.{has_guide}
use Rattle.conf_text.specs.declared.config.GuideKind.{GuideKind}
use Rattle.conf_text.specs.declared.config.GuideKind.TheVariants.{Add, Ff, Lm}
use Rattle.conf_text.specs.declared.config.Phase.{Phase}
use Rattle.lm_graph.specs.Graphs.{Content}
use Rattle.lm_status.specs.Accepted.{accepted}
use Rattle.lm_status.specs.Estimates.{landmark_estimate}
use Rattle.lm_status.specs.Preferred.{leads_on}
use Rattle.bit_rows.specs.Rows.{has}
use Rattle.lm_status.specs.Rows.{StandsFor}
use Rattle.guide.specs.declared.seen.Seen.{Seen}
use Rattle.guide.specs.Operators.{applicable_operators, is_among}
use Rattle.guide.proofs.OperatorLaws.{kept_among, none_preferred}
use Rattle.phase_guide.specs.declared.kinds.Values.{Values}
use Rattle.phase_guide.specs.declared.relaxing.RelaxedCosts.{RelaxedCosts}
use Rattle.phase_guide.specs.declared.relaxing.Relaxing.{Relaxing}
use Rattle.lm_tracks.specs.Tracks.{Tracked}
use Rattle.lm_status.specs.Statuses.{Charted}
use Rattle.phase_guide.specs.Fits.{Answers, SaysAlive, Fits, Found, Finds, prefers, last_of}
use Rattle.phase_guide.specs.Guides.{Guiding, IsFor}
use Rattle.phase_guide.specs.Kinds.{three_of, value_of}
use Rattle.phase_guide.specs.Landmarks.{IsLandmarkGraph, AreLandmarksFor}
use Rattle.phase_guide.specs.Relaxings.{IsAlive, IsRelaxingFor, Tells, relaxes, plans, plan_of, helpful_of}
use Rattle.phase_guide.proofs.Unions.{any_of_two, among_if}

pub on_ok : {A E : Type 0} (P : Type 0) (result : Result A E) → P → OnOk result P
on_ok P (Ok x) p = p
on_ok P (Err e) p = tt

pub on_ok_map : {A E : Type 0} (P Q : Type 0) (result : Result A E) → (P → Q) → OnOk result P → OnOk result Q
on_ok_map P Q (Ok x) f p = f p
on_ok_map P Q (Err e) f p = tt

-- an answer by a row fits each path that the row stands for
pub said_along : (parts : Parts) (phase : Phase) (status next : Charted) (row : List ℕ) (states : List (List ℕ)) (state : List ℕ) (seen : Seen) →
    (has_guide phase.guides Lm ≡ true → IsLandmarkGraph parts status.graph) → next ≡ status → StandsFor status.graph row states → last_of states ≡ state →
    Answers parts phase next.graph (has row) state seen → Fits parts phase next.graph states seen
said_along parts phase status next row states state seen landmarks same stands last answers = record {
  landmarks = subst (λ (s : Charted). has_guide phase.guides Lm ≡ true → IsLandmarkGraph parts s.graph) (sym same) landmarks;
  answer = subst (λ (taken : ℕ → Bool). Answers parts phase next.graph taken (last_of states) seen) (subst (λ (s : Charted). has row ≡ accepted s.graph states) (sym same) stands.same)
      (subst (λ (s : List ℕ). Answers parts phase next.graph (has row) s seen) (sym last) answers);
}

pub dead_is : (parts : Parts) (phase : Phase) (graph : Content) (taken : ℕ → Bool) (state : List ℕ) (seen : Seen) → Answers parts phase graph taken state seen → seen.dead ≡ true → IsDead parts state
dead_is parts phase graph taken state seen (inl says) dead = says.is_dead
dead_is parts phase graph taken state seen (inr says) dead = let k : false ≡ true = sym says.dead ∙ dead in absurd (cc)

pub preferred_is : (parts : Parts) (phase : Phase) (graph : Content) (taken : ℕ → Bool) (state applicable : List ℕ) (seen : Seen) → applicable ≡ applicable_operators parts state → Answers parts phase graph taken state seen →
    seen.preferred ≡ filter (is_among seen.preferred) applicable
preferred_is parts phase graph taken state applicable seen all (inl says) = none_preferred seen.preferred applicable says.preferred
preferred_is parts phase graph taken state applicable seen all (inr says) =
    let test = λ (op : ℕ). list_any (prefers parts graph taken state says.found op) phase.preferred in
    kept_among test applicable seen.preferred (says.preferred ∙ ap (λ (ops : List ℕ). filter test ops) (sym all))

-- What was said of a state that isn't dead, in the terms of the code.
pub record IsSaid (parts : Parts) (guide : Guiding) (state : List ℕ) (helpful : List ℕ) (values : Values) (seen : Seen) : Type 0 where
  pub lm : values.lm ≡ landmark_estimate guide.tracks.status.graph guide.tracks.status.weights (has guide.tracks.row) state
  pub helpful_is : helpful ≡ cond (has_guide guide.phase.preferred Ff) (helpful_of guide.relaxing) []
  pub dead : seen.dead ≡ false
  pub estimates : seen.estimates ≡ three_of (map (value_of values) guide.phase.guides)
  pub preferred : seen.preferred ≡ filter (λ op. is_among helpful op || (has_guide guide.phase.preferred Lm && leads_on parts guide.tracks.status.graph (has guide.tracks.row) state op)) (applicable_operators parts state)

pub says_alive : (parts : Parts) (guide : Guiding) (state : List ℕ) (costs : RelaxedCosts) (helpful : List ℕ) (lm : ℕ) (seen : Seen) → IsFor guide parts → IsAlive parts guide.phase.estimate state guide.relaxing costs →
    IsSaid parts guide state helpful (record { add = costs.add; ff = costs.ff; lm = lm }) seen → SaysAlive parts guide.phase guide.tracks.status.graph (has guide.tracks.row) state seen
says_alive parts guide state costs helpful lm seen for is said = record {
  alive = λ relaxing. is.alive (sym for.serves.relaxing_is ∙ relaxing);
  found = found;
  finds = finds;
  dead = said.dead;
  estimates = said.estimates;
  preferred = said.preferred ∙ ap (λ (test : ℕ → Bool). filter test (applicable_operators parts state)) same_test;
}
  where
    found : Found
    found = record { values = value_of (record { add = costs.add; ff = costs.ff; lm = lm }); plan = plan_of guide.relaxing; helpful = helpful_of guide.relaxing }

    finds : (kind : GuideKind) → has_guide guide.phase.guides kind ≡ true → Finds parts guide.phase.estimate guide.tracks.status.graph (has guide.tracks.row) state found kind
    finds Add there = is.add (sym for.serves.relaxing_is ∙ or_left (has_guide guide.phase.guides Add) (has_guide guide.phase.guides Ff) there)
    finds Ff there = is.ff (for.serves.planning there)
    finds Lm there = said.lm ∙ ap (λ (weights : List ℕ). landmark_estimate guide.tracks.status.graph weights (has guide.tracks.row) state) for.landmarks.weights

    one_test : (op : ℕ) → (is_among helpful op || (has_guide guide.phase.preferred Lm && leads_on parts guide.tracks.status.graph (has guide.tracks.row) state op)) ≡ list_any (prefers parts guide.tracks.status.graph (has guide.tracks.row) state found op) guide.phase.preferred
    one_test op =
        ap (λ b. b || (has_guide guide.phase.preferred Lm && leads_on parts guide.tracks.status.graph (has guide.tracks.row) state op))
        (ap (λ (ops : List ℕ). is_among ops op) said.helpful_is ∙ among_if (has_guide guide.phase.preferred Ff) (helpful_of guide.relaxing) op)
        ∙ sym (any_of_two (prefers parts guide.tracks.status.graph (has guide.tracks.row) state found op) refl guide.phase.preferred)

    same_test : ◌≡◌ {A = ℕ → Bool} (λ op. is_among helpful op || (has_guide guide.phase.preferred Lm && leads_on parts guide.tracks.status.graph (has guide.tracks.row) state op)) (λ op. list_any (prefers parts guide.tracks.status.graph (has guide.tracks.row) state found op) guide.phase.preferred)
    same_test = fun_ext one_test

-- a guide that goes on is for the same task
pub stays_for : (parts : Parts) (phase : Phase) (relaxing next : Relaxing) (tracks behind : Tracked) → IsFor (record { phase = phase; relaxing = relaxing; tracks = tracks }) parts →
    (IsRelaxingFor parts phase.estimate relaxing → IsRelaxingFor parts phase.estimate next) → relaxes next ≡ relaxes relaxing → plans next ≡ plans relaxing → behind.status ≡ tracks.status →
    IsFor (record { phase = phase; relaxing = next; tracks = behind }) parts
stays_for parts phase relaxing next tracks behind for made relax plan same = record {
  serves = record {
    made = made for.serves.made;
    relaxing_is = for.serves.relaxing_is ∙ sym relax;
    planning = λ is. plan ∙ for.serves.planning is;
  };
  landmarks = subst (λ (status : Charted). AreLandmarksFor parts phase status) (sym same) for.landmarks;
}

-- which answers fit goes by the phase and by the graph of landmarks, which stay
pub fits_stay : (parts : Parts) (phase : Phase) (relaxing : Relaxing) (tracks behind : Tracked) (guide : Guiding) → record { phase = phase; relaxing = relaxing; tracks = tracks } ≡ guide → behind.status ≡ tracks.status →
    (states : List (List ℕ)) (seen : Seen) → Fits parts phase behind.status.graph states seen ↔ Fits parts guide.phase guide.tracks.status.graph states seen
fits_stay parts phase relaxing tracks behind guide view same states seen =
    subst (λ (g : Guiding). Fits parts phase behind.status.graph states seen ↔ Fits parts g.phase g.tracks.status.graph states seen) view
    (subst (λ (s : Charted). Fits parts phase s.graph states seen ↔ Fits parts phase tracks.status.graph states seen) (sym same) (λ f. f, λ f. f))

-- what was found of a dead state, and what is said of it
pub says_dead : (parts : Parts) (guide : Guiding) (state : List ℕ) (found : Option RelaxedCosts) (seen : Seen) → IsFor guide parts → Tells parts guide.phase.estimate state guide.relaxing found → found ≡ None →
    seen.dead ≡ true → seen.estimates ≡ 0 ∷ 0 ∷ 0 ∷ [] → seen.preferred ≡ [] → Answers parts guide.phase guide.tracks.status.graph (has guide.tracks.row) state seen
says_dead parts guide state found seen for tells none dead estimates preferred =
    let told : IsDead parts state × (relaxes guide.relaxing ≡ true) = subst (λ (f : Option RelaxedCosts). Tells parts guide.phase.estimate state guide.relaxing f) none tells in
    inl (record { relaxing = for.serves.relaxing_is ∙ told.1; is_dead = told.0; dead = dead; estimates = estimates; preferred = preferred })

pub says_found : (parts : Parts) (guide : Guiding) (state : List ℕ) (found : Option RelaxedCosts) (costs : RelaxedCosts) (helpful : List ℕ) (lm : ℕ) (seen : Seen) → IsFor guide parts →
    Tells parts guide.phase.estimate state guide.relaxing found → found ≡ Some costs → IsSaid parts guide state helpful (record { add = costs.add; ff = costs.ff; lm = lm }) seen →
    Answers parts guide.phase guide.tracks.status.graph (has guide.tracks.row) state seen
says_found parts guide state found costs helpful lm seen for tells some said =
    inr (says_alive parts guide state costs helpful lm seen for (subst (λ (f : Option RelaxedCosts). Tells parts guide.phase.estimate state guide.relaxing f) some tells) said)

-- the helpful operators, if they are wanted, are some of the applicable ones
pub helpful_within : (parts : Parts) (guide : Guiding) (state applicable : List ℕ) (found : Option RelaxedCosts) (costs : RelaxedCosts) (wanted : Bool) (helpful : List ℕ) →
    Tells parts guide.phase.estimate state guide.relaxing found → found ≡ Some costs → applicable ≡ applicable_operators parts state →
    helpful ≡ cond wanted (helpful_of guide.relaxing) [] → helpful ≡ filter (is_among helpful) applicable
helpful_within parts guide state applicable found costs false helpful tells some all is = none_preferred helpful applicable is
helpful_within parts guide state applicable found costs true helpful tells some all is =
    let told : IsAlive parts guide.phase.estimate state guide.relaxing costs = subst (λ (f : Option RelaxedCosts). Tells parts guide.phase.estimate state guide.relaxing f) some tells in
    subst (λ (ops : List ℕ). ops ≡ filter (is_among ops) applicable) (sym is) (told.helpful ∙ ap (λ (ops : List ℕ). filter (is_among (helpful_of guide.relaxing)) ops) (sym all))
