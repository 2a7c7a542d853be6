use Rattle.std.proofs.Common.{◌≡◌, ◌∙◌, ◌+◌, [], ◌∷◌, ◌++◌, None, map, refl, sym, ap, subst, arith, rules}
use Rattle.std.specs.FinMap.{get}
use Rattle.lama_host.proofs.StepLaws.{stays_same, stays_then, stays_untouched}
use Rattle.plan_check.specs.Verdicts.{verdict_of}
use Rattle.plan_manager.specs.Family.{family_name}
use Rattle.driver_core.specs.Turns.{turn_of}
use Rattle.candidates.specs.Collecting.{KeepsBelow, standing}
use Rattle.candidates.specs.Judging.{judged_as, offer_of}
use Rattle.candidates.proofs.Gathered.{room_for_one, none_yet}
use Rattle.candidates.proofs.Loop.{IsVerdictOn, at_first, in_turn, held_first, still_collected, passed_over, verdict_on, nothing_there, took, ends_over, ends_missing, ends_last, ends_early, ends_unread}
use Rattle.candidates.proofs.collecting.collect.Goals as goal

pub loop-number-init : goal.loop-number-init
loop-number-init g c =
    let a = standing (g.F.Folder.told c.args.folder.now) c.args.core.now c.args.kept.now.items c.args.candidates.now.items in
    record {
      stays = stays_same (g.F.Folder.told c.args.folder.now);
      setting = refl;
      collected = λ events is. ([], at_first c.args.task.now c.args.base.now c.args.many (turn_of c.args.round c.args.entry) events a is);
    }

pub returns-then-is_over-clause-collects : goal.returns-then-is_over-clause-collects
returns-then-is_over-clause-collects g c events is =
    let told = g.F.Folder.told in
    let turn = turn_of c.args.round c.args.entry in
    let a = standing (told c.args.folder.now) c.args.core.now c.args.kept.now.items c.args.candidates.now.items in
    let b = standing (told c.loop-number.folder) c.loop-number.core c.loop-number.kept.items c.loop-number.candidates.items in
    let has = c.loop-number.invariant.collected events is in
    let now = in_turn c.args.task.now c.args.base.now c.args.many turn events a b c.loop-number.number has.0 has.1 in
    ends_over c.args.task.now c.args.base.now c.args.many turn events a b c.loop-number.number has.0 c.loop-number.invariant.setting has.1
    (sym (c.is_over.ensures.over (events ++ map (offer_of turn) has.0) now.stands) ∙ c.if-is_over.true)

pub returns-in_err-verdict-clause-collects : goal.returns-in_err-verdict-clause-collects
returns-in_err-verdict-clause-collects g c events is =
    let told = g.F.Folder.told in
    let turn = turn_of c.args.round c.args.entry in
    let a = standing (told c.args.folder.now) c.args.core.now c.args.kept.now.items c.args.candidates.now.items in
    let b = standing (told c.loop-number.folder) c.loop-number.core c.loop-number.kept.items c.loop-number.candidates.items in
    let has = c.loop-number.invariant.collected events is in
    ends_unread c.from_residual.result c.in_err-verdict.field-0.0 c.args.task.now c.args.base.now c.args.many turn events a b (told c.judge_file.new.folder) c.loop-number.number has.0
    (search rules) c.loop-number.invariant.stays.busy c.loop-number.invariant.setting c.judge_file.ensures.untouched has.1

-- the single file isn't there
pub loop-number-preserved-then-number-eq0 : goal.loop-number-preserved-then-number-eq0
loop-number-preserved-then-number-eq0 g c =
    let told = g.F.Folder.told in
    let turn = turn_of c.args.round c.args.entry in
    let a = standing (told c.args.folder.now) c.args.core.now c.args.kept.now.items c.args.candidates.now.items in
    let b = standing (told c.loop-number.folder) c.loop-number.core c.loop-number.kept.items c.loop-number.candidates.items in
    let named = c.name.ensures ∙ c.new-name.ensures ∙ ap (λ child. family_name child c.loop-number.number) c.child-child.ensures.name in
    record {
      stays = stays_then (told c.args.folder.now) (told c.loop-number.folder) (told c.judge_file.new.folder) c.loop-number.invariant.stays
          (stays_untouched (told c.loop-number.folder) (told c.judge_file.new.folder) c.judge_file.ensures.untouched c.judge_file.ensures.later);
      setting = c.loop-number.invariant.setting;
      collected = λ events is.
          let has = c.loop-number.invariant.collected events is in (
            has.0,
            still_collected c.args.task.now c.args.base.now c.args.many turn events a b (told c.judge_file.new.folder) (c.loop-number.number + 1) has.0 c.judge_file.ensures.untouched
                (passed_over c.args.task.now c.args.base.now c.args.many turn events a b c.loop-number.number has.0 c.if-number-eq0.true has.1
                (held_first c.args.task.now c.args.base.now c.args.many turn events a b c.loop-number.number has.0 (λ held. held ≡ None) c.requires.entry.high (omega arith)
                (c.loop-number.invariant.stays.busy ∙ c.requires.idle) c.loop-number.invariant.setting c.requires.single has.1
                (λ files idle held. subst (λ name. get files name ≡ None) named
                (nothing_there (λ bytes. verdict_of c.args.task.now bytes c.bound-bound.result) c.in_ok-verdict.field-0 (get files c.name.result.now) c.in_default.is (c.in_ok-verdict.ensures.exact files idle held))))),
          );
    }

-- a numbered one isn't
pub returns-in_default-clause-collects : goal.returns-in_default-clause-collects
returns-in_default-clause-collects g c events is =
    let told = g.F.Folder.told in
    let turn = turn_of c.args.round c.args.entry in
    let a = standing (told c.args.folder.now) c.args.core.now c.args.kept.now.items c.args.candidates.now.items in
    let b = standing (told c.loop-number.folder) c.loop-number.core c.loop-number.kept.items c.loop-number.candidates.items in
    let named = c.name.ensures ∙ c.new-name.ensures ∙ ap (λ child. family_name child c.loop-number.number) c.child-child.ensures.name in
    let has = c.loop-number.invariant.collected events is in
    ends_missing c.args.task.now c.args.base.now c.args.many turn events a (standing (told c.judge_file.new.folder) c.loop-number.core c.loop-number.kept.items c.loop-number.candidates.items) c.loop-number.number has.0 c.if-number-eq0.false (omega arith)
    (still_collected c.args.task.now c.args.base.now c.args.many turn events a b (told c.judge_file.new.folder) c.loop-number.number has.0 c.judge_file.ensures.untouched has.1)
    (held_first c.args.task.now c.args.base.now c.args.many turn events a b c.loop-number.number has.0 (λ held. held ≡ None) c.requires.entry.high (omega arith)
    (c.loop-number.invariant.stays.busy ∙ c.requires.idle) c.loop-number.invariant.setting c.requires.single has.1
    (λ files idle held. subst (λ name. get files name ≡ None) named
    (nothing_there (λ bytes. verdict_of c.args.task.now bytes c.bound-bound.result) c.in_ok-verdict.field-0 (get files c.name.result.now) c.in_default.is (c.in_ok-verdict.ensures.exact files idle held))))

-- the file is there
pub keep_or_drop-requires-clause-room : goal.keep_or_drop-requires-clause-room
keep_or_drop-requires-clause-room g c =
    let told = g.F.Folder.told in
    let turn = turn_of c.args.round c.args.entry in
    let a = standing (told c.args.folder.now) c.args.core.now c.args.kept.now.items c.args.candidates.now.items in
    let b = standing (told c.loop-number.folder) c.loop-number.core c.loop-number.kept.items c.loop-number.candidates.items in
    let events = c.requires.turn.0 in
    let has = c.loop-number.invariant.collected events c.requires.turn.1 in
    let past = events ++ map (offer_of turn) has.0 in
    let now = in_turn c.args.task.now c.args.base.now c.args.many turn events a b c.loop-number.number has.0 has.1 in
    let over = sym (c.is_over.ensures.over past now.stands) ∙ c.if-is_over.false in
    let keeps : KeepsBelow c.loop-number.core.setting past c.bound-bound.result = record {
      over = over;
      going = c.is_over.ensures.going past now.stands c.if-is_over.false;
      room = c.is_over.ensures.room past now.stands c.if-is_over.false;
      present = c.bound-bound.ensures.bound past now.stands;
      keeps = c.bound-bound.ensures.keeps past now.stands over;
    } in
    room_for_one c.loop-number.core past turn c.loop-number.kept.items c.bound-bound.result now keeps

pub keep_or_drop-requires-clause-single : goal.keep_or_drop-requires-clause-single
keep_or_drop-requires-clause-single g c one =
    let told = g.F.Folder.told in
    let turn = turn_of c.args.round c.args.entry in
    let a = standing (told c.args.folder.now) c.args.core.now c.args.kept.now.items c.args.candidates.now.items in
    let b = standing (told c.loop-number.folder) c.loop-number.core c.loop-number.kept.items c.loop-number.candidates.items in
    let events = c.requires.turn.0 in
    let has = c.loop-number.invariant.collected events c.requires.turn.1 in
    let past = events ++ map (offer_of turn) has.0 in
    let now = in_turn c.args.task.now c.args.base.now c.args.many turn events a b c.loop-number.number has.0 has.1 in
    let over = sym (c.is_over.ensures.over past now.stands) ∙ c.if-is_over.false in
    let keeps : KeepsBelow c.loop-number.core.setting past c.bound-bound.result = record {
      over = over;
      going = c.is_over.ensures.going past now.stands c.if-is_over.false;
      room = c.is_over.ensures.room past now.stands c.if-is_over.false;
      present = c.bound-bound.ensures.bound past now.stands;
      keeps = c.bound-bound.ensures.keeps past now.stands over;
    } in
    none_yet c.loop-number.core past turn c.loop-number.kept.items c.bound-bound.result (ap (λ s. s.single) c.loop-number.invariant.setting ∙ c.requires.single one) now keeps

pub returns-in_err-keep_or_drop-clause-stays : goal.returns-in_err-keep_or_drop-clause-stays
returns-in_err-keep_or_drop-clause-stays g c =
    let told = g.F.Folder.told in
    stays_then (told c.args.folder.now) (told c.loop-number.folder) (told c.keep_or_drop.new.folder) c.loop-number.invariant.stays
    (stays_then (told c.loop-number.folder) (told c.judge_file.new.folder) (told c.keep_or_drop.new.folder)
    (stays_untouched (told c.loop-number.folder) (told c.judge_file.new.folder) c.judge_file.ensures.untouched c.judge_file.ensures.later) c.keep_or_drop.ensures.stays)

pub returns-in_err-keep_or_drop-clause-collects : goal.returns-in_err-keep_or_drop-clause-collects
returns-in_err-keep_or_drop-clause-collects g c events is =
    let told = g.F.Folder.told in
    let turn = turn_of c.args.round c.args.entry in
    let a = standing (told c.args.folder.now) c.args.core.now c.args.kept.now.items c.args.candidates.now.items in
    let b = standing (told c.loop-number.folder) c.loop-number.core c.loop-number.kept.items c.loop-number.candidates.items in
    let b' = standing (told c.judge_file.new.folder) c.loop-number.core c.loop-number.kept.items c.loop-number.candidates.items in
    let end = standing (told c.keep_or_drop.new.folder) c.keep_or_drop.new.core c.keep_or_drop.new.kept.items c.keep_or_drop.new.candidates.items in
    let has = c.loop-number.invariant.collected events is in
    let past = events ++ map (offer_of turn) has.0 in
    let now = in_turn c.args.task.now c.args.base.now c.args.many turn events a b c.loop-number.number has.0 has.1 in
    let over = sym (c.is_over.ensures.over past now.stands) ∙ c.if-is_over.false in
    let keeps : KeepsBelow c.loop-number.core.setting past c.bound-bound.result = record {
      over = over;
      going = c.is_over.ensures.going past now.stands c.if-is_over.false;
      room = c.is_over.ensures.room past now.stands c.if-is_over.false;
      present = c.bound-bound.ensures.bound past now.stands;
      keeps = c.bound-bound.ensures.keeps past now.stands over;
    } in
    ends_early c.from_residual-in_err-keep_or_drop.result c.in_err-keep_or_drop.field-0.0 c.args.task.now c.args.base.now c.args.many turn events a b' end c.loop-number.number has.0
    (search rules) (ap (λ t. t.busy) c.judge_file.ensures.untouched ∙ c.loop-number.invariant.stays.busy) c.loop-number.invariant.setting
    (still_collected c.args.task.now c.args.base.now c.args.many turn events a b (told c.judge_file.new.folder) c.loop-number.number has.0 c.judge_file.ensures.untouched has.1)
    (c.in_err-keep_or_drop.ensures.takes past c.bound-bound.result now keeps (search rules))

pub loop-number-preserved : goal.loop-number-preserved
loop-number-preserved g c =
    let told = g.F.Folder.told in
    let turn = turn_of c.args.round c.args.entry in
    let a = standing (told c.args.folder.now) c.args.core.now c.args.kept.now.items c.args.candidates.now.items in
    let b = standing (told c.loop-number.folder) c.loop-number.core c.loop-number.kept.items c.loop-number.candidates.items in
    let b' = standing (told c.judge_file.new.folder) c.loop-number.core c.loop-number.kept.items c.loop-number.candidates.items in
    let next = standing (told c.keep_or_drop.new.folder) c.keep_or_drop.new.core c.keep_or_drop.new.kept.items c.keep_or_drop.new.candidates.items in
    let named = c.name.ensures ∙ c.new-name.ensures ∙ ap (λ child. family_name child c.loop-number.number) c.child-child.ensures.name in
    record {
      stays = stays_then (told c.args.folder.now) (told c.loop-number.folder) (told c.keep_or_drop.new.folder) c.loop-number.invariant.stays
          (stays_then (told c.loop-number.folder) (told c.judge_file.new.folder) (told c.keep_or_drop.new.folder)
          (stays_untouched (told c.loop-number.folder) (told c.judge_file.new.folder) c.judge_file.ensures.untouched c.judge_file.ensures.later) c.keep_or_drop.ensures.stays);
      setting = c.keep_or_drop.ensures.setting ∙ c.loop-number.invariant.setting;
      collected = λ events is.
          let has = c.loop-number.invariant.collected events is in
          let past = events ++ map (offer_of turn) has.0 in
          let now = in_turn c.args.task.now c.args.base.now c.args.many turn events a b c.loop-number.number has.0 has.1 in
          let over = sym (c.is_over.ensures.over past now.stands) ∙ c.if-is_over.false in
          let keeps : KeepsBelow c.loop-number.core.setting past c.bound-bound.result = record {
            over = over;
            going = c.is_over.ensures.going past now.stands c.if-is_over.false;
            room = c.is_over.ensures.room past now.stands c.if-is_over.false;
            present = c.bound-bound.ensures.bound past now.stands;
            keeps = c.bound-bound.ensures.keeps past now.stands over;
          } in (
            has.0 ++ judged_as c.loop-number.number c.in-Some.verdict ∷ [],
            took c.args.task.now c.args.base.now c.args.many turn events a b' next c.loop-number.number has.0 c.bound-bound.result c.in-Some.verdict (omega arith)
                (ap (λ t. t.busy) c.judge_file.ensures.untouched ∙ c.loop-number.invariant.stays.busy) c.loop-number.invariant.setting
                (still_collected c.args.task.now c.args.base.now c.args.many turn events a b (told c.judge_file.new.folder) c.loop-number.number has.0 c.judge_file.ensures.untouched has.1) keeps
                (held_first c.args.task.now c.args.base.now c.args.many turn events a b c.loop-number.number has.0 (λ held. IsVerdictOn c.args.task.now c.bound-bound.result held c.in-Some.verdict)
                c.requires.entry.high (omega arith) (c.loop-number.invariant.stays.busy ∙ c.requires.idle) c.loop-number.invariant.setting c.requires.single has.1
                (λ files idle held. subst (λ name. IsVerdictOn c.args.task.now c.bound-bound.result (get files name) c.in-Some.verdict) named
                (verdict_on c.args.task.now c.bound-bound.result c.in_ok-verdict.field-0 (get files c.name.result.now) c.in-Some.verdict c.in-Some.is (c.in_ok-verdict.ensures.exact files idle held))))
                (c.in_ok-keep_or_drop.ensures.takes past c.bound-bound.result now keeps (search rules)),
          );
    }

pub returns-clause-collects : goal.returns-clause-collects
returns-clause-collects g c events is =
    let told = g.F.Folder.told in
    let turn = turn_of c.args.round c.args.entry in
    let a = standing (told c.args.folder.now) c.args.core.now c.args.kept.now.items c.args.candidates.now.items in
    let b = standing (told c.loop-number.folder) c.loop-number.core c.loop-number.kept.items c.loop-number.candidates.items in
    let has = c.loop-number.invariant.collected events is in
    ends_last c.args.task.now c.args.base.now c.args.many turn events a b c.loop-number.number has.0 (omega arith) has.1
