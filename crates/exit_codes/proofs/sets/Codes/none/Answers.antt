use Rattle.std.proofs.Common.{refl}
use Rattle.exit_codes.proofs.SetLaws.{set_of-unset}
use Rattle.exit_codes.proofs.sets.Codes.none.Goals as goal

pub returns : goal.returns
returns c = set_of-unset _ refl
