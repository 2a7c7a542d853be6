use Rattle.std.proofs.Common.{◌∙◌, sym, ap, subst, ℕ, List, [], Bool, cond, map, filter, ◌||◌, ◌&&◌}
use Rattle.conf_text.specs.Grammar.{has_guide}
use Rattle.conf_text.specs.declared.config.GuideKind.{GuideKind}
use Rattle.conf_text.specs.declared.config.GuideKind.TheVariants.{Ff, Lm}
use Rattle.lm_status.specs.Preferred.{leads_on}
use Rattle.bit_rows.specs.Rows.{has}
use Rattle.guide.specs.Operators.{is_among}
use Rattle.phase_guide.specs.Fits.{Answers}
use Rattle.phase_guide.specs.Guides.{Guiding, IsFor}
use Rattle.phase_guide.specs.Kinds.{three_of, value_of}
use Rattle.phase_guide.specs.Relaxings.{Tells, helpful_of}
use Rattle.phase_guide.proofs.PathAnswers.{says_dead, says_found, helpful_within}
use Rattle.phase_guide.proofs.guiding.PhaseGuide.answer_into.Goals as goal

pub returns-in_default : goal.returns-in_default
returns-in_default c =
    says_dead c.args.task.now c.args.self.now c.args.state.now c.args.found c.fill_answer.new.out c.requires.task c.requires.found c.in_default.is
    c.fill_answer.ensures.dead c.fill_answer.ensures.estimates (c.fill_answer.ensures.preferred ∙ c.emptied-preferred.ensures)

pub prefer_into-requires-clause-helpful : goal.prefer_into-requires-clause-helpful
prefer_into-requires-clause-helpful c =
    helpful_within c.args.task.now (record { phase = c.self.inside.phase; relaxing = c.self.inside.relaxing; tracks = c.self.inside.tracks }) c.args.state.now c.args.applicable.now c.args.found c.in-Some.costs c.has-by_ff.result c.helpful_if-helpful.result.now
    (subst (λ (g : Guiding). Tells c.args.task.now g.phase.estimate c.args.state.now g.relaxing c.args.found) (sym c.self.view_is) c.requires.found)
    c.in-Some.is c.requires.applicable c.helpful_if-helpful.ensures

pub returns : goal.returns
returns c =
    subst (λ (g : Guiding). Answers c.args.task.now g.phase g.tracks.status.graph (has g.tracks.row) c.args.state.now c.fill_answer-2.new.out) c.self.view_is
    (says_found c.args.task.now (record { phase = c.self.inside.phase; relaxing = c.self.inside.relaxing; tracks = c.self.inside.tracks }) c.args.state.now c.args.found c.in-Some.costs c.helpful_if-helpful.result.now c.estimate.result c.fill_answer-2.new.out
    (subst (λ (g : Guiding). IsFor g c.args.task.now) (sym c.self.view_is) c.requires.task)
    (subst (λ (g : Guiding). Tells c.args.task.now g.phase.estimate c.args.state.now g.relaxing c.args.found) (sym c.self.view_is) c.requires.found)
    c.in-Some.is
    (record {
      lm = c.estimate.ensures;
      helpful_is = c.helpful_if-helpful.ensures ∙ ap (λ (b : Bool). cond b (helpful_of c.self.inside.relaxing) []) (c.has-by_ff.ensures ∙ ap (λ (gs : List GuideKind). has_guide gs Ff) c.deref.ensures);
      dead = c.fill_answer-2.ensures.dead;
      estimates = c.fill_answer-2.ensures.estimates ∙ (c.estimates.ensures ∙ ap (λ (gs : List GuideKind). three_of (map (value_of (record { add = c.in-Some.costs.add; ff = c.in-Some.costs.ff; lm = c.estimate.result })) gs)) c.deref-3.ensures);
      preferred = c.fill_answer-2.ensures.preferred ∙ (c.in_ok-prefer_into.ensures
          ∙ (ap (λ (b : Bool). filter (λ op. is_among c.helpful_if-helpful.result.now op || (b && leads_on c.args.task.now c.self.inside.tracks.status.graph (has c.self.inside.tracks.row) c.args.state.now op)) c.args.applicable.now) (c.has-by_lm.ensures ∙ ap (λ (gs : List GuideKind). has_guide gs Lm) c.deref-2.ensures)
          ∙ ap (λ (ops : List ℕ). filter (λ op. is_among c.helpful_if-helpful.result.now op || (has_guide c.self.inside.phase.preferred Lm && leads_on c.args.task.now c.self.inside.tracks.status.graph (has c.self.inside.tracks.row) c.args.state.now op)) ops) c.requires.applicable));
    }))
