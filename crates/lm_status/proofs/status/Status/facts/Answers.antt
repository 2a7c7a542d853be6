use Rattle.std.proofs.Common.{◌≡◌, ◌<◌, ◌∙◌, ap, arith, length, List}
use Rattle.std.proofs.lemmas.List.{length-map}
use Rattle.lama_num.specs.Rows.{row_at}
use Rattle.sas_task.specs.declared.contents.Fact.{Fact}
use Rattle.lm_status.proofs.status.Status.facts.Goals as goal

pub row-requires : goal.row-requires
row-requires c =
    let within : c.args.node < length c.self.inside.graph.nodes = rw (← c.self.view_is) at c.requires in
    let long : length c.self.inside.facts ≡ length c.self.inside.graph.nodes = ap length c.self.invariant.facts_are ∙ length-map c.self.inside.graph.nodes (λ n. n.facts) in
    omega arith

pub returns : goal.returns
returns c = rw (← c.self.view_is) (c.row.ensures ∙ ap (λ (rows : List (List Fact)). row_at rows c.args.node) c.self.invariant.facts_are)
