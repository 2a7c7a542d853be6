use Rattle.std.proofs.Common.{arith, ◌∙◌, ap}
use Rattle.std.specs.FinSet as sets
use Rattle.exit_codes.proofs.SetLaws.{set_of-set}
use Rattle.exit_codes.proofs.sets.Codes.with.Goals as goal

pub returns : goal.returns
returns c =
    set_of-set c.self.inside.flags c.args.code (omega (arith, c.self.invariant)) ∙ ap (λ s. sets.insert s c.args.code) c.self.view_is
