use Rattle.std.proofs.Common.{◌≡◌, ◌↔◌, sym, subst, refl, [], ◌∷◌, ◌++◌, true, filter}
use Rattle.relaxed_task.specs.Reached.{IsDead}
use Rattle.bit_rows.specs.Rows.{has}
use Rattle.lm_tracks.specs.Tracks.{Keeps}
use Rattle.guide.specs.Operators.{is_among}
use Rattle.phase_guide.specs.Fits.{Answers, Fits}
use Rattle.phase_guide.proofs.LastStates.{last_more}
use Rattle.phase_guide.specs.Guides.{Guiding, IsFor}
use Rattle.phase_guide.proofs.PathAnswers.{on_ok, on_ok_map, stays_for, said_along, fits_stay, dead_is, preferred_is}
use Rattle.phase_guide.proofs.guiding.PhaseGuideGuide.visit.Goals as goal

pub answer_into-requires-clause-task : goal.answer_into-requires-clause-task
answer_into-requires-clause-task c =
    stays_for c.args.task.now c.self.inside.phase c.self.inside.relaxing c.evaluate-found.new.self c.self.inside.tracks c.advance.new.self
    (subst (λ (g : Guiding). IsFor g c.args.task.now) (sym c.self.view_is) c.requires.same_task)
    (c.evaluate-found.ensures.made c.self.inside.phase.estimate) c.evaluate-found.ensures.relaxes c.evaluate-found.ensures.plans c.in_ok-advance.ensures.status

pub answer_into-requires-clause-found : goal.answer_into-requires-clause-found
answer_into-requires-clause-found c =
    let for : IsFor (record { phase = c.self.inside.phase; relaxing = c.self.inside.relaxing; tracks = c.self.inside.tracks }) c.args.task.now = subst (λ (g : Guiding). IsFor g c.args.task.now) (sym c.self.view_is) c.requires.same_task in
    c.evaluate-found.ensures.tells c.self.inside.phase.estimate for.serves.made

pub returns-clause-same_task : goal.returns-clause-same_task
returns-clause-same_task c =
    on_ok (IsFor (record { phase = c.self.inside.phase; relaxing = c.evaluate-found.new.self; tracks = c.advance.new.self }) c.args.task.now) c.answer_into.result
    (stays_for c.args.task.now c.self.inside.phase c.self.inside.relaxing c.evaluate-found.new.self c.self.inside.tracks c.advance.new.self
    (subst (λ (g : Guiding). IsFor g c.args.task.now) (sym c.self.view_is) c.requires.same_task)
    (c.evaluate-found.ensures.made c.self.inside.phase.estimate) c.evaluate-found.ensures.relaxes c.evaluate-found.ensures.plans c.in_ok-advance.ensures.status)

pub returns-clause-first_kept : goal.returns-clause-first_kept
returns-clause-first_kept c none =
    on_ok (Keeps c.advance.new.self c.args.id (c.args.state.now ∷ [])) c.answer_into.result
    (c.in_ok-advance.ensures.kept (c.args.state.now ∷ []) (c.in_ok-advance.ensures.first none))

pub returns-clause-first_fits : goal.returns-clause-first_fits
returns-clause-first_fits c none =
    let for : IsFor (record { phase = c.self.inside.phase; relaxing = c.self.inside.relaxing; tracks = c.self.inside.tracks }) c.args.task.now = subst (λ (g : Guiding). IsFor g c.args.task.now) (sym c.self.view_is) c.requires.same_task in
    on_ok_map (Answers c.args.task.now c.self.inside.phase c.advance.new.self.status.graph (has c.advance.new.self.row) c.args.state.now c.answer_into.new.out)
    (Fits c.args.task.now c.self.inside.phase c.advance.new.self.status.graph (c.args.state.now ∷ []) c.answer_into.new.out) c.answer_into.result
    (said_along c.args.task.now c.self.inside.phase c.self.inside.tracks.status c.advance.new.self.status c.advance.new.self.row (c.args.state.now ∷ []) c.args.state.now c.answer_into.new.out for.landmarks.graph c.in_ok-advance.ensures.status (c.in_ok-advance.ensures.first none) refl)
    c.answer_into.ensures

pub returns-clause-kept : goal.returns-clause-kept
returns-clause-kept c p states is keeps =
    on_ok (Keeps c.advance.new.self c.args.id (states ++ c.args.state.now ∷ [])) c.answer_into.result
    (c.in_ok-advance.ensures.kept (states ++ c.args.state.now ∷ [])
    (c.in_ok-advance.ensures.next p states is (subst (λ (g : Guiding). Keeps g.tracks p states) (sym c.self.view_is) keeps)))

pub returns-clause-answer_fits : goal.returns-clause-answer_fits
returns-clause-answer_fits c p states is keeps =
    let for : IsFor (record { phase = c.self.inside.phase; relaxing = c.self.inside.relaxing; tracks = c.self.inside.tracks }) c.args.task.now = subst (λ (g : Guiding). IsFor g c.args.task.now) (sym c.self.view_is) c.requires.same_task in
    on_ok_map (Answers c.args.task.now c.self.inside.phase c.advance.new.self.status.graph (has c.advance.new.self.row) c.args.state.now c.answer_into.new.out)
    (Fits c.args.task.now c.self.inside.phase c.advance.new.self.status.graph (states ++ c.args.state.now ∷ []) c.answer_into.new.out) c.answer_into.result
    (said_along c.args.task.now c.self.inside.phase c.self.inside.tracks.status c.advance.new.self.status c.advance.new.self.row (states ++ c.args.state.now ∷ []) c.args.state.now c.answer_into.new.out for.landmarks.graph c.in_ok-advance.ensures.status
    (c.in_ok-advance.ensures.next p states is (subst (λ (g : Guiding). Keeps g.tracks p states) (sym c.self.view_is) keeps)) (last_more states c.args.state.now))
    c.answer_into.ensures

pub returns-clause-fits_stay : goal.returns-clause-fits_stay
returns-clause-fits_stay c parts states seen =
    on_ok (Fits parts c.self.inside.phase c.advance.new.self.status.graph states seen ↔ Fits parts c.args.self.now.phase c.args.self.now.tracks.status.graph states seen) c.answer_into.result
    (fits_stay parts c.self.inside.phase c.self.inside.relaxing c.self.inside.tracks c.advance.new.self c.args.self.now c.self.view_is c.in_ok-advance.ensures.status states seen)

pub returns-clause-dead : goal.returns-clause-dead
returns-clause-dead c =
    on_ok_map (Answers c.args.task.now c.self.inside.phase c.advance.new.self.status.graph (has c.advance.new.self.row) c.args.state.now c.answer_into.new.out)
    (c.answer_into.new.out.dead ≡ true → IsDead c.args.task.now c.args.state.now) c.answer_into.result
    (dead_is c.args.task.now c.self.inside.phase c.advance.new.self.status.graph (has c.advance.new.self.row) c.args.state.now c.answer_into.new.out) c.answer_into.ensures

pub returns-clause-preferred : goal.returns-clause-preferred
returns-clause-preferred c =
    on_ok_map (Answers c.args.task.now c.self.inside.phase c.advance.new.self.status.graph (has c.advance.new.self.row) c.args.state.now c.answer_into.new.out)
    (c.answer_into.new.out.preferred ≡ filter (is_among c.answer_into.new.out.preferred) c.args.applicable.now) c.answer_into.result
    (preferred_is c.args.task.now c.self.inside.phase c.advance.new.self.status.graph (has c.advance.new.self.row) c.args.state.now c.args.applicable.now c.answer_into.new.out c.requires.applicable) c.answer_into.ensures
