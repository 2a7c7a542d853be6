use Rattle.phase_guide.proofs.Few.{has_few}
use Rattle.phase_guide.proofs.guiding.PhaseGuide.switch_to_phase.Goals as goal

pub invariant_of-self-2 : goal.invariant_of-self-2
invariant_of-self-2 c = has_few c.args.phase.now c.in_ok-phase_of_guide.phase_of_guide c.in_ok-phase_of_guide.ensures c.requires.phase
