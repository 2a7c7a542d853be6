use Rattle.std.proofs.Common.{◌∙◌, ap, ◌++◌, map}
use Rattle.text_lines.specs.Texts.{text_of}
use Rattle.task_gen.specs.Printed.{effect_line}
use Rattle.task_gen.proofs.Grown.{effects_grown, zip_all}
use Rattle.task_gen.proofs.printing.push_effects.Goals as goal

pub loop-place-preserved : goal.loop-place-preserved
loop-place-preserved c =
    effects_grown c.args.effects.now c.args.olds.now c.loop-place.place c.index-effects-place.result c.index-effects-place.result _ c.args.text.now.items c.loop-place.text.items c.push_effect.new.text.items
    c.requires c.loop-place-test.true c.index-effects-place.is c.loop-place.invariant c.in_ok-push_effect.ensures

pub returns : goal.returns
returns c = c.loop-place.invariant ∙ ap (λ ps. c.args.text.now.items ++ text_of (map (λ p. effect_line p.0 p.1) ps)) (zip_all c.args.effects.now c.args.olds.now c.loop-place.place c.requires c.loop-place-test.false)
