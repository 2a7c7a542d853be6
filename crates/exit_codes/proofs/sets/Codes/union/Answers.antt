use Rattle.std.proofs.Common.{◌∙◌, ap, arith}
use Rattle.std.specs.FinSet as sets
use Rattle.exit_codes.specs.Flags.{set_of}
use Rattle.exit_codes.proofs.SetLaws.{set_of-joined}
use Rattle.exit_codes.proofs.sets.Codes.union.Goals as goal

pub returns : goal.returns
returns c =
    let i = c.loop-i.i in
    let a = c.self.inside.flags in
    let b = c.other.inside.flags in
    let inv = c.loop-i.invariant in
    set_of-joined c.loop-i.flags a b i (omega (arith, c.self.invariant)) (omega (arith, c.other.invariant)) inv.done inv.left
    ∙ ap (λ s. sets.union s (set_of b)) c.self.view_is
    ∙ ap (λ s. sets.union c.args.self s) c.other.view_is
