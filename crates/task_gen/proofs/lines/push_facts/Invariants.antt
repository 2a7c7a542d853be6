use Rattle.std.proofs.Common.{◌≡◌, ◌++◌, map, take}
use Rattle.text_lines.specs.Texts.{text_of}
use Rattle.task_gen.specs.Printed.{spaced, fact_words}
use Rattle.task_gen.proofs.lines.push_facts.Given as goal

abbrev pub invariant-loop-fact : goal.invariant-loop-fact
invariant-loop-fact l = l.text.items ≡ l.initial.text.items ++ text_of (map (λ f. spaced (fact_words f)) (take l.fact-index l.facts))
