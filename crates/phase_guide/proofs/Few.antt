-- A phase has at most three guides.
use Rattle.std.proofs.Common.{◌≡◌, sym, subst}
use Rattle.conf_text.specs.Accepted.{IsPhase}
use Rattle.conf_text.specs.declared.config.Phase.{Phase}
use Rattle.conf_text.proofs.GuideKinds.{at_most_three}
use Rattle.phase_guide.specs.Kinds.{HasFew}

pub has_few : (phase copy : Phase) → copy ≡ phase → IsPhase phase → HasFew copy.guides
has_few phase copy same is = subst (λ (p : Phase). HasFew p.guides) (sym same) (record { some = is.some; few = at_most_three phase.guides is.guides })
