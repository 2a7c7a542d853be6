use Rattle.std.proofs.Common.{◌≡◌, ◌∙◌, ◌+◌, sym, ap, rules, refl, length, length-append, true, false, [], ◌∷◌}
use Rattle.run_report.specs.Tells.{events_of}
use Rattle.run_report.specs.declared.report.Past.TheVariants as item
use Rattle.candidates.specs.Collecting.{KeepsBelow}
use Rattle.driver_run.specs.Searching.{turns_on}
use Rattle.driver_run.proofs.Limiting.{limit_ended}
use Rattle.driver_run.proofs.Passing.{passes_by}
use Rattle.driver_run.proofs.Asking.{asked, asks_any}
use Rattle.driver_run.proofs.Closing.{over_ended, unsolvable_ended, best_ended, unsolved_ended, room_left, space_goes, space_ends}
use Rattle.driver_run.proofs.Placing.{same_outside}
use Rattle.run_report.specs.declared.report.Outcome.TheVariants.{Unsolved}
use Rattle.driver_run.proofs.Finding.{goes_on}
use Rattle.driver_run.proofs.phases.take_phase.Goals as goal

pub returns-then-is_over-clause-ended : goal.returns-then-is_over-clause-ended
returns-then-is_over-clause-ended g c =
    let is = c.requires.searching in
    over_ended c.args.task.now c.args.phases.now c.args.many c.args.progress.now c.args.trail.now is (sym (c.is_over.ensures.over (events_of (turns_on c.args.trail.now.began is.offered)) is.under_way.stands) ∙ c.if-is_over.true)

pub returns-in-Ok-clause-asks : goal.returns-in-Ok-clause-asks
returns-in-Ok-clause-asks g c =
    let answers = g.C.Clock.answers in
    asked c.args.task.now c.args.phases.now.config c.args.phases.now.next c.bound-bound.result c.next_phase.result (answers c.args.clock.now) (answers c.next_phase.new.clock) (λ e. let k = sym c.in-Plan.is ∙ e in cc) c.next_phase.ensures.ends c.next_phase.ensures.clock

pub returns-in-Ok-clause-goes_on : goal.returns-in-Ok-clause-goes_on
returns-in-Ok-clause-goes_on g c so =
    let is = c.requires.searching in
    let events = events_of (turns_on c.args.trail.now.began is.offered) in
    let over = sym (c.is_over.ensures.over events is.under_way.stands) ∙ c.if-is_over.false in
    let keeps : KeepsBelow c.args.progress.now.core.setting events c.bound-bound.result = record {
      over = over;
      going = c.is_over.ensures.going events is.under_way.stands c.if-is_over.false;
      room = c.is_over.ensures.room events is.under_way.stands c.if-is_over.false;
      present = c.bound-bound.ensures.bound events is.under_way.stands;
      keeps = c.bound-bound.ensures.keeps events is.under_way.stands over;
    } in (
      goes_on c.args.task.now c.args.phases.now c.next_phase.new.self c.args.many c.args.progress.now c.take_plan.new.progress c.args.trail.now c.take_plan.new.trail c.in-Plan.ops c.in-Plan.cost c.in-Plan.log c.bound-bound.result is keeps (record {
        config = c.next_phase.ensures.config;
        task = c.next_phase.ensures.task;
        next_is = rw c.in-Plan.is at c.next_phase.ensures.next;
        ends = rw c.in-Plan.is at c.next_phase.ensures.ends;
        setting = c.take_plan.ensures.setting;
        no_ends = c.take_plan.ensures.ends;
        kept = c.in-Ok.ensures.kept;
        passed = c.in-Ok.ensures.passed;
      }),
      ap length c.in-Ok.ensures.passed.past ∙ length-append c.args.trail.now.past.items (item.Plan (length c.args.progress.now.kept.items) c.in-Plan.log ∷ []),
    )

pub returns-in-Err-clause-asks : goal.returns-in-Err-clause-asks
returns-in-Err-clause-asks g c =
    let answers = g.C.Clock.answers in
    asks_any _ (answers c.args.clock.now) (answers c.next_phase.new.clock)
    (asked c.args.task.now c.args.phases.now.config c.args.phases.now.next c.bound-bound.result c.next_phase.result (answers c.args.clock.now) (answers c.next_phase.new.clock) (λ e. let k = sym c.in-Plan.is ∙ e in cc) c.next_phase.ensures.ends c.next_phase.ensures.clock)

pub returns-in-Unsolvable-clause-asks : goal.returns-in-Unsolvable-clause-asks
returns-in-Unsolvable-clause-asks g c =
    let answers = g.C.Clock.answers in
    rw c.take_unsolvable.ensures.outcome
    (asked c.args.task.now c.args.phases.now.config c.args.phases.now.next c.bound-bound.result c.next_phase.result (answers c.args.clock.now) (answers c.next_phase.new.clock) (λ e. let k = sym c.in-Unsolvable.is ∙ e in cc) c.next_phase.ensures.ends c.next_phase.ensures.clock)

pub returns-in-Unsolvable-clause-ended : goal.returns-in-Unsolvable-clause-ended
returns-in-Unsolvable-clause-ended g c =
    let is = c.requires.searching in
    rw c.take_unsolvable.ensures.outcome
    (unsolvable_ended c.args.task.now c.args.phases.now c.args.many c.args.progress.now c.args.trail.now c.take_unsolvable.new.trail c.in-Unsolvable.space c.in-Unsolvable.log c.bound-bound.result is
    (c.bound-bound.ensures.bound (events_of (turns_on c.args.trail.now.began is.offered)) is.under_way.stands)
    (rw c.in-Unsolvable.is at c.next_phase.ensures.ends) (rw c.in-Unsolvable.is at c.next_phase.ensures.shows) c.take_unsolvable.ensures.counted)

pub returns-in-Limit-clause-asks : goal.returns-in-Limit-clause-asks
returns-in-Limit-clause-asks g c =
    let answers = g.C.Clock.answers in
    rw c.take_limit.ensures.outcome
    (asked c.args.task.now c.args.phases.now.config c.args.phases.now.next c.bound-bound.result c.next_phase.result (answers c.args.clock.now) (answers c.next_phase.new.clock) (λ e. let k = sym c.in-Limit.is ∙ e in cc) c.next_phase.ensures.ends c.next_phase.ensures.clock)

pub returns-in-Over-clause-asks : goal.returns-in-Over-clause-asks
returns-in-Over-clause-asks g c =
    let answers = g.C.Clock.answers in
    asked c.args.task.now c.args.phases.now.config c.args.phases.now.next c.bound-bound.result c.next_phase.result (answers c.args.clock.now) (answers c.next_phase.new.clock) (λ e. let k = sym c.in-Over.is ∙ e in cc) c.next_phase.ensures.ends c.next_phase.ensures.clock

pub returns-in-Some-clause-asks : goal.returns-in-Some-clause-asks
returns-in-Some-clause-asks g c =
    let answers = g.C.Clock.answers in
    rw c.take_best.ensures.outcome
    (asked c.args.task.now c.args.phases.now.config c.args.phases.now.next c.bound-bound.result c.next_phase.result (answers c.args.clock.now) (answers c.next_phase.new.clock) (λ e. let k = sym c.in-Best.is ∙ e in cc) c.next_phase.ensures.ends c.next_phase.ensures.clock)

pub returns-in-Some-bound-clause-asks : goal.returns-in-Some-bound-clause-asks
returns-in-Some-bound-clause-asks g c =
    let answers = g.C.Clock.answers in
    asks_any _ (answers c.args.clock.now) (answers c.next_phase.new.clock)
    (asked c.args.task.now c.args.phases.now.config c.args.phases.now.next c.bound-bound.result c.next_phase.result (answers c.args.clock.now) (answers c.next_phase.new.clock) (λ e. let k = sym c.in-Unsolved.is ∙ e in cc) c.next_phase.ensures.ends c.next_phase.ensures.clock)

pub returns-in-Some-clause-ended : goal.returns-in-Some-clause-ended
returns-in-Some-clause-ended g c =
    let is = c.requires.searching in
    rw c.take_best.ensures.outcome
    (best_ended c.args.task.now c.args.phases.now c.args.many c.args.progress.now c.args.trail.now c.take_best.new.trail c.in-Best.space c.in-Some.bound c.in-Best.log c.bound-bound.result is
    (c.bound-bound.ensures.bound (events_of (turns_on c.args.trail.now.began is.offered)) is.under_way.stands) c.in-Some.is
    (rw c.in-Best.is at c.next_phase.ensures.ends) (rw c.in-Best.is at c.next_phase.ensures.shows) c.take_best.ensures.counted c.take_best.ensures.none)

pub returns-in-Some-bound-clause-outside : goal.returns-in-Some-bound-clause-outside
returns-in-Some-bound-clause-outside g c = same_outside (g.F.Folder.told c.args.folder.now) (g.F.Folder.told c.args.folder.now) refl

pub returns-in-Some-bound-clause-goes_on : goal.returns-in-Some-bound-clause-goes_on
returns-in-Some-bound-clause-goes_on g c so =
    let is = c.requires.searching in
    let events = events_of (turns_on c.args.trail.now.began is.offered) in
    let present = c.bound-bound.ensures.bound events is.under_way.stands in
    let passed = space_goes c.in-Unsolved.last c.take_space.result (Unsolved c.in-Unsolved.space c.in-Some-bound.bound c.in-Unsolved.log) c.take_space.ensures.last c.take_space.ensures.passed so in
    let room = room_left c.args.task.now c.args.phases.now c.args.many c.args.progress.now c.args.trail.now is (c.is_over.ensures.room events is.under_way.stands c.if-is_over.false) in (
      passes_by c.args.task.now c.args.phases.now c.next_phase.new.self c.args.many c.args.progress.now c.args.trail.now c.take_space.new.trail c.in-Unsolved.space c.in-Some-bound.bound c.in-Unsolved.log c.bound-bound.result is present c.in-Some-bound.is
          (rw passed.0 at (rw c.in-Unsolved.is at c.next_phase.ensures.ends)) c.next_phase.ensures.config c.next_phase.ensures.task (rw passed.0 at (rw c.in-Unsolved.is at c.next_phase.ensures.next)) passed.1 room,
      ap length passed.1.past ∙ length-append c.args.trail.now.past.items (item.Unsolved c.in-Unsolved.space c.in-Some-bound.bound c.in-Unsolved.log ∷ []),
    )

pub returns-in-Some-bound-clause-ended : goal.returns-in-Some-bound-clause-ended
returns-in-Some-bound-clause-ended g c =
    let is = c.requires.searching in
    let present = c.bound-bound.ensures.bound (events_of (turns_on c.args.trail.now.began is.offered)) is.under_way.stands in
    space_ends _ _ c.in-Unsolved.last c.take_space.result (Unsolved c.in-Unsolved.space c.in-Some-bound.bound c.in-Unsolved.log) c.take_space.ensures.last c.take_space.ensures.passed
    (λ final counted.
    unsolved_ended c.args.task.now c.args.phases.now c.args.many c.args.progress.now c.args.trail.now c.take_space.new.trail c.in-Unsolved.space c.in-Some-bound.bound c.in-Unsolved.log c.bound-bound.result is present c.in-Some-bound.is
    (rw final at (rw c.in-Unsolved.is at c.next_phase.ensures.ends)) counted)

pub returns-in-Limit-clause-ended : goal.returns-in-Limit-clause-ended
returns-in-Limit-clause-ended g c =
    let is = c.requires.searching in
    rw c.take_limit.ensures.outcome
    (limit_ended c.args.task.now c.args.phases.now c.args.many c.args.progress.now c.args.trail.now c.take_limit.new.trail c.in-Limit.hit c.in-Limit.log c.bound-bound.result is
    (c.bound-bound.ensures.bound (events_of (turns_on c.args.trail.now.began is.offered)) is.under_way.stands)
    (rw c.in-Limit.is at c.next_phase.ensures.ends) c.parts.ensures.well_formed c.take_limit.ensures.counted)
