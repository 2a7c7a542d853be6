use Rattle.std.proofs.Common.{◌∙◌, ◌+◌, ◌-◌, ap, sym, drop, get_or}
use Rattle.std.proofs.lemmas.Bool.{false≢true}
use Rattle.driver_core.specs.Rounds.{portion_of}
use Rattle.driver_core.specs.States.{CoreState, marked_time}
use Rattle.driver_core.proofs.Times.{share-marked, none-runs}
use Rattle.driver_core.proofs.driver.Core.share.Goals as goal

pub returns-in_err-marks : goal.returns-in_err-marks
returns-in_err-marks c = λ events stands latest runs. absurd (false≢true (sym (none-runs c.args.self.now events c.args.round c.args.entry stands.holds.rounds latest c.in_err-marks.ensures.value) ∙ runs))

pub returns : goal.returns
returns c = λ events stands latest runs.
    let limit = c.in_ok-limit.limit in
    let marks = c.in_ok-marks.marks.now in
    let place = c.args.entry - 1 in
    let left = c.saturating_sub-left.ensures ∙ ap (λ (s : CoreState). limit - (c.args.moment - s.setting.start)) c.self.view_is in
    let shares = c.as_slice.ensures ∙ ap (λ (s : CoreState). s.setting.shares) c.self.view_is in
    share-marked c.args.self.now events c.args.round c.args.entry c.args.moment limit c.portion.result marks stands.holds.rounds latest runs
    c.in_ok-marks.ensures.value c.requires.begun
    (sym (ap (λ (s : CoreState). s.setting.limit) c.self.view_is) ∙ c.in_ok-limit.was)
    (c.portion.ensures ∙ (λ i. portion_of (left i) (get_or (shares i) place 0) (get_or (shares i) place 0 + marked_time (drop (place + 1) (shares i)) (drop (place + 1) marks))))
