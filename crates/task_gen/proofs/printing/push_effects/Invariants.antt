use Rattle.std.proofs.Common.{◌≡◌, ◌++◌, map, take}
use Rattle.std.specs.List.{zip}
use Rattle.text_lines.specs.Texts.{text_of}
use Rattle.task_gen.specs.Printed.{effect_line}
use Rattle.task_gen.proofs.printing.push_effects.Given as goal

abbrev pub invariant-loop-place : goal.invariant-loop-place
invariant-loop-place l = l.text.items ≡ l.initial.text.items ++ text_of (map (λ p. effect_line p.0 p.1) (zip (take l.place l.olds) (take l.place l.effects)))
