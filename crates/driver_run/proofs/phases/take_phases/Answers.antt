use Rattle.std.proofs.Common.{◌∙◌, refl, ap, length, arith, true, Ok}
use Rattle.lama_host.proofs.StepLaws.{stays_same, stays_then}
use Rattle.driver_run.proofs.Asking.{asks_none, asks_then}
use Rattle.driver_run.proofs.Placing.{outside_then}
use Rattle.driver_run.proofs.Stopping.{stopped_so}
use Rattle.driver_run.proofs.phases.take_phases.Goals as goal

pub loop-phase-init : goal.loop-phase-init
loop-phase-init g c = record {
  stays = stays_same (g.F.Folder.told c.args.folder.now);
  outside = λ files idle held. (files, held, λ name other part. refl);
  later = omega arith;
  asks = asks_none (g.C.Clock.answers c.args.clock.now);
  config = refl;
  setting = refl;
  ends = refl;
  began = refl;
  searching = c.requires.searching;
  count = ap length c.requires.first;
}

pub take_phase-requires-clause-idle : goal.take_phase-requires-clause-idle
take_phase-requires-clause-idle g c = c.loop-phase.invariant.stays.busy ∙ c.requires.idle

pub take_phase-requires-clause-searching : goal.take_phase-requires-clause-searching
take_phase-requires-clause-searching g c = c.loop-phase.invariant.searching

pub loop-phase-preserved : goal.loop-phase-preserved
loop-phase-preserved g c =
    let told = g.F.Folder.told in
    let answers = g.C.Clock.answers in
    let inv = c.loop-phase.invariant in
    let goes = c.take_phase.ensures.goes_on (c.in-Ok-None.is ∙ ap Ok c.in-Ok-None.field-0-is) in
    record {
      stays = stays_then (told c.args.folder.now) (told c.loop-phase.folder) (told c.take_phase.new.folder) inv.stays c.take_phase.ensures.stays;
      outside = outside_then (told c.args.folder.now) (told c.loop-phase.folder) (told c.take_phase.new.folder) (inv.stays.busy ∙ c.requires.idle) inv.outside c.take_phase.ensures.outside;
      later = omega (arith, inv.later, c.take_phase.ensures.later);
      asks = asks_then true (answers c.args.clock.now) (answers c.loop-phase.clock) (answers c.take_phase.new.clock) inv.asks (rw (c.in-Ok-None.is, c.in-Ok-None.field-0-is) at c.take_phase.ensures.asks);
      config = c.take_phase.ensures.config ∙ inv.config;
      setting = c.take_phase.ensures.setting ∙ inv.setting;
      ends = c.take_phase.ensures.ends ∙ inv.ends;
      began = c.take_phase.ensures.began ∙ inv.began;
      searching = goes.0;
      count = omega (arith, goes.1, inv.count);
    }

pub returns-in-Ok-Some-clause-outside : goal.returns-in-Ok-Some-clause-outside
returns-in-Ok-Some-clause-outside g c =
    let told = g.F.Folder.told in
    let inv = c.loop-phase.invariant in
    outside_then (told c.args.folder.now) (told c.loop-phase.folder) (told c.take_phase.new.folder) (inv.stays.busy ∙ c.requires.idle) inv.outside c.take_phase.ensures.outside

pub returns-in-Ok-Some-clause-asks : goal.returns-in-Ok-Some-clause-asks
returns-in-Ok-Some-clause-asks g c =
    let answers = g.C.Clock.answers in
    asks_then _ (answers c.args.clock.now) (answers c.loop-phase.clock) (answers c.take_phase.new.clock) c.loop-phase.invariant.asks (rw (c.in-Ok-Some.is, c.in-Ok-Some.field-0-is) at c.take_phase.ensures.asks)

pub returns-in-Err-clause-asks : goal.returns-in-Err-clause-asks
returns-in-Err-clause-asks g c =
    let answers = g.C.Clock.answers in
    asks_then _ (answers c.args.clock.now) (answers c.loop-phase.clock) (answers c.take_phase.new.clock) c.loop-phase.invariant.asks (rw c.in-Err.is at c.take_phase.ensures.asks)

pub returns-in-Ok-Some-clause-stays : goal.returns-in-Ok-Some-clause-stays
returns-in-Ok-Some-clause-stays g c =
    let told = g.F.Folder.told in
    stays_then (told c.args.folder.now) (told c.loop-phase.folder) (told c.take_phase.new.folder) c.loop-phase.invariant.stays c.take_phase.ensures.stays

pub returns-in-Err-clause-stays : goal.returns-in-Err-clause-stays
returns-in-Err-clause-stays g c =
    let told = g.F.Folder.told in
    stays_then (told c.args.folder.now) (told c.loop-phase.folder) (told c.take_phase.new.folder) c.loop-phase.invariant.stays c.take_phase.ensures.stays

pub returns-in-Err-clause-stopped : goal.returns-in-Err-clause-stopped
returns-in-Err-clause-stopped g c =
    let inv = c.loop-phase.invariant in
    stopped_so c.args.task.now c.loop-phase.phases c.args.many c.loop-phase.progress c.take_phase.new.progress c.loop-phase.trail c.args.phases.now.config c.args.progress.now.core.setting c.args.trail.now.began inv.searching inv.config inv.setting inv.began (rw c.in-Err.is at c.take_phase.ensures.same)

pub returns-in-Err-clause-outside : goal.returns-in-Err-clause-outside
returns-in-Err-clause-outside g c =
    let told = g.F.Folder.told in
    let inv = c.loop-phase.invariant in
    outside_then (told c.args.folder.now) (told c.loop-phase.folder) (told c.take_phase.new.folder) (inv.stays.busy ∙ c.requires.idle) inv.outside c.take_phase.ensures.outside
