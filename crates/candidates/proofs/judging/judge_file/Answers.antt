use Rattle.std.proofs.Common.{sym, subst}
use Rattle.std.specs.FinMap.{get}
use Rattle.candidates.specs.Judging.{HeedsBound}
use Rattle.candidates.proofs.Verdicts.{fair_verdict, sound_verdict, too_long_told}
use Rattle.candidates.proofs.judging.judge_file.Goals as goal

pub returns-in-TooLong-clause-exact : goal.returns-in-TooLong-clause-exact
returns-in-TooLong-clause-exact g c files idle held =
    too_long_told c.args.task.now c.args.bound (get files c.args.name.now) _ c.in-TooLong.is (c.in_ok-read_whole.ensures.exact files idle held)

pub returns-in-Ok-clause-sound : goal.returns-in-Ok-clause-sound
returns-in-Ok-clause-sound g c = sound_verdict c.args.task.now _ c.args.bound _ c.in-Ok.ensures.good c.in-Ok.ensures.few

pub returns-in-Ok-clause-bound : goal.returns-in-Ok-clause-bound
returns-in-Ok-clause-bound g c = subst (HeedsBound c.args.bound) (sym c.in-Ok.ensures.exact) (fair_verdict c.args.task.now _ c.args.bound)
