use Rattle.std.proofs.Common.{◌≡◌, ◌++◌, take}
use Rattle.std.specs.List.{flat_map}
use Rattle.task_gen.specs.Printed.{behind_blanks, fact_words}
use Rattle.task_gen.proofs.printing.push_conditions.Given as goal

abbrev pub invariant-loop-fact : goal.invariant-loop-fact
invariant-loop-fact l = l.text.items ≡ l.initial.text.items ++ behind_blanks (flat_map fact_words (take l.fact-index l.conds))
