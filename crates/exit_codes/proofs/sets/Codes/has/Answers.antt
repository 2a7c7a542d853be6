use Rattle.exit_codes.proofs.FlagLaws.{contains-set_of}
use Rattle.exit_codes.proofs.sets.Codes.has.Goals as goal

pub returns : goal.returns
returns c = let told = contains-set_of c.self.inside.flags c.args.code in cc
