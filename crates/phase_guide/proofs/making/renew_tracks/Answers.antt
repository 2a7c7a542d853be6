use Rattle.phase_guide.proofs.CarriedOver.{landmarks_after}
use Rattle.phase_guide.proofs.making.renew_tracks.Goals as goal

pub returns-then-has_landmarks_for-clause-landmarks : goal.returns-then-has_landmarks_for-clause-landmarks
returns-then-has_landmarks_for-clause-landmarks c =
    landmarks_after c.args.task.now c.args.phase.now c.args.had.now c.args.tracks.now.status c.restart.new.self.status c.requires
    (c.has_landmarks_for.ensures c.if-has_landmarks_for.true) c.restart.ensures.status
