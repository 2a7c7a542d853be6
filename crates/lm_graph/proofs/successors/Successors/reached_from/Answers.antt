use Rattle.lm_graph.specs.Marks.{kinds_in}
use Rattle.lm_graph.specs.Turned.{kinds_from}
use Rattle.lm_graph.proofs.TurnedRows.{path_turned}
use Rattle.lm_graph.proofs.successors.Successors.reached_from.Goals as goal

pub returns-clause-reached : goal.returns-clause-reached
returns-clause-reached c other =
    let rows = c.self.inside.rows.items in
    let leads = rw (c.deref.ensures.value, ← c.from.ensures) at (c.in_ok-seen.ensures.leads other) in
    rw (← c.self.view_is) (
      λ seen. path_turned (kinds_in rows) c.args.weakest other c.args.node (leads.0 seen),
      λ path. leads.1 (path_turned (kinds_from rows) c.args.weakest c.args.node other path),
    )
