use Rattle.std.proofs.Common.{◌≡◌, ◌∙◌, ◌++◌, ap, arith, List, ℕ, length}
use Rattle.std.proofs.lemmas.Grind.{common_steps}
use Rattle.open_lists.specs.Runs.{entries_of_visit}
use Rattle.open_lists.specs.declared.entry.Entry.{Entry}
use Rattle.open_lists.proofs.Rows.{run_more, entries_more}
use Rattle.open_lists.proofs.queue.Queue.push.Goals as goal

pub invariant_of-self-2 : goal.invariant_of-self-2
invariant_of-self-2 c = run_more c.self.inside.runs.items c.push_back.new.self.items c.self.inside.operators.items c.push_all.new.row.items c.args.operators.now c.args.parent c.self.invariant
    (λ none. let z : length c.args.operators.now ≡ 0 = ap length none in grind (arith, common_steps, z))
    c.in_ok-push_back.ensures.items
    (c.push_all.ensures ∙ ap (λ (row : List ℕ). row ++ c.args.operators.now) c.reserve.ensures.items)

pub returns-clause-ok : goal.returns-clause-ok
returns-clause-ok c = entries_more c.self.inside.runs.items c.push_back.new.self.items c.self.inside.operators.items c.push_all.new.row.items c.args.operators.now c.args.parent c.self.invariant
    c.in_ok-push_back.ensures.items
    (c.push_all.ensures ∙ ap (λ (row : List ℕ). row ++ c.args.operators.now) c.reserve.ensures.items)
    ∙ ap (λ (es : List Entry). es ++ entries_of_visit c.args.parent c.args.operators.now) c.self.view_is
