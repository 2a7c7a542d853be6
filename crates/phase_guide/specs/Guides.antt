-- What a guide of a phase is.
use Rattle.sas_task.specs.declared.contents.Parts.{Parts}
use Rattle.conf_text.specs.declared.config.Phase.{Phase}
use Rattle.lm_tracks.specs.Tracks.{Tracked}
use Rattle.phase_guide.specs.Landmarks.{AreLandmarksFor}
use Rattle.phase_guide.specs.Relaxings.{Serves}
use Rattle.phase_guide.specs.declared.relaxing.Relaxing.{Relaxing}

-- What contracts see of a guide: its phase, what it takes from the relaxation, and the rows of its landmarks.
pub record Guiding : Type 0 where
  pub phase : Phase
  pub relaxing : Relaxing
  pub tracks : Tracked

-- the guide was made for a task
pub record IsFor (guide : Guiding) (parts : Parts) : Type 0 where
  pub serves : Serves parts guide.phase guide.relaxing
  pub landmarks : AreLandmarksFor parts guide.phase guide.tracks.status
