use Rattle.std.proofs.Common.{◌≡◌, sym, ap, subst, arith, length, List, ℕ}
use Rattle.plan_check.specs.Layers.{IsEnd}
use Rattle.plan_check.proofs.LayerPairs.{wide_at, unpacked}
use Rattle.plan_check.proofs.Vectors.{written_back}
use Rattle.plan_check.proofs.walker.Walker.restore.Goals as goal

pub unpack-requires-clause-wide : goal.unpack-requires-clause-wide
unpack-requires-clause-wide c =
    λ words at. wide_at c.args.setup.now.task.now c.args.setup.now.layout c.requires.ready.steps.well_formed c.requires.made.laid c.args.layer.now c.requires.ends.0 c.args.place words c.requires.ends.1 at

pub returns-clause-end : goal.returns-clause-end
returns-clause-end c =
    let value = ap (λ (xs : List ℕ). length xs) c.deref_mut.ensures.value in
    let long : length c.unpack.new.state ≡ length c.args.self.now.here.items = omega (arith, c.unpack.auto.state, value) in
    let back = written_back c.args.self.now.here.len c.unpack.new.state c.args.self.now.here.items long (omega (arith, c.args.self.now.here.ok.0)) in
    λ all choice are at. subst (λ (s : List ℕ). IsEnd c.args.setup.now.task.now choice s c.unpack.result) (sym back)
    (unpacked c.args.setup.now.task.now c.args.setup.now.layout c.args.layer.now c.args.place c.unpack.result c.unpack.new.state c.requires.ready.steps.well_formed c.requires.made.laid c.unpack.ensures.state c.unpack.ensures.cost all choice are at)
