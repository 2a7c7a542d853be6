use Rattle.std.proofs.Common.{◌≡◌, ◌∙◌, ap, refl, [], ◌∷◌, ◌++◌}
use Rattle.run_report.specs.Tells.{events_of}
use Rattle.run_report.specs.Turns.{ToldTurn}
use Rattle.run_report.specs.declared.report.EntryEnd.{EntryEnd}
use Rattle.driver_run.specs.Searching.{run_by, turns_on}
use Rattle.driver_run.proofs.Turning.{is_on}
use Rattle.driver_run.proofs.entry.end.Goals as goal

pub returns-clause-ended : goal.returns-clause-ended
returns-clause-ended c parts config is =
    let run = run_by parts config c.args.progress.now.core.setting in
    let turn : ToldTurn = record {
      end = record { round = 1; entry = 1; began = c.args.trail.began; phases = c.args.trail.phases; pops = c.args.trail.pops; past = c.args.trail.past.items; outcome = c.args.outcome };
      offered = is.offered;
    } in
    let events = events_of (turns_on c.args.trail.began is.offered) in
    let stands = rw (c.part_of.ensures, c.is_last.ensures) at (c.step.ensures.stands events is.under_way.stands (is_on c.args.trail.began is.offered)) in
    let ended = c.a_turn_ends.ensures run c.args.progress.now.core c.step.new.self [] turn c.args.progress.now.kept.items c.args.progress.now.candidates.items [] is.under_way c.step.ensures.setting stands
    (record { to = is.to; went = is.came.went; ends = is.ends; phases = is.phases; pops = is.pops; own = is.came.own }) in
    let ends : c.push_reserved.new.self.items ≡ turn.end ∷ [] = c.push_reserved.ensures.items ∙ ap (λ (es : EntryEnd). c.args.progress.now.ends.items ++ es ∷ []) c.into_end.ensures ∙ ap (λ front. front ++ turn.end ∷ []) c.requires.first in
    (turn, refl, refl, record { shares = c.requires.shares; rounds = c.requires.rounds; under_way = rw ends ended })
