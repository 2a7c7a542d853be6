use Rattle.std.proofs.Common.{◌≡◌, ◌<◌, ◌∙◌, ℕ, ap, arith, length, List}
use Rattle.std.proofs.lemmas.List.{length-map}
use Rattle.lama_num.specs.Rows.{row_at}
use Rattle.lm_status.specs.Accepted.{nodes_in}
use Rattle.lm_status.proofs.Tables.{nodes_at}
use Rattle.lm_status.proofs.status.Status.before.Goals as goal

pub row-requires : goal.row-requires
row-requires c =
    let within : c.args.node < length c.self.inside.graph.nodes = rw (← c.self.view_is) at c.requires in
    let long : length c.self.inside.before ≡ length c.self.inside.graph.rows = ap length c.self.invariant.before_are ∙ length-map c.self.inside.graph.rows nodes_in in
    omega (arith, c.self.invariant.before_long)

pub returns : goal.returns
returns c =
    rw (← c.self.view_is) (c.row.ensures ∙ (ap (λ (rows : List (List ℕ)). row_at rows c.args.node) c.self.invariant.before_are ∙ nodes_at c.self.inside.graph.rows c.args.node))
