use Rattle.std.proofs.Common.{◌≡◌, ◌∙◌, [], sym, arith}
use Rattle.std.proofs.lemmas.Grind.{common_steps}
use Rattle.open_lists.proofs.Rows.{no_runs, no_entries, nil_of_length}
use Rattle.open_lists.proofs.queue.Queue.is_empty.Goals as goal

pub returns : goal.returns
returns c =
    let runs = c.self.inside.runs.items in
    let operators = c.self.inside.operators.items in (
      λ none. sym c.self.view_is ∙ no_entries runs operators (nil_of_length runs (grind (arith, common_steps))),
      λ none. let z : runs ≡ [] = no_runs runs operators c.self.invariant (c.self.view_is ∙ none) in grind (arith, common_steps, z),
    )
