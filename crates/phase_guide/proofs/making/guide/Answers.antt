use Rattle.phase_guide.proofs.Few.{has_few}
use Rattle.phase_guide.proofs.making.guide.Goals as goal

pub invariant_of-result : goal.invariant_of-result
invariant_of-result c = has_few c.args.phase.now c.in_ok-phase_of_guide.phase_of_guide c.in_ok-phase_of_guide.ensures c.requires
