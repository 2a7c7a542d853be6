use Rattle.std.proofs.Common.{◌<◌, ◌∙◌, ℕ, ap, arith, length, not}
use Rattle.std.specs.List.{list_any}
use Rattle.bit_rows.specs.Rows.{has}
use Rattle.lm_status.proofs.status.Status.leads_to_new.Goals as goal

pub row-requires : goal.row-requires
row-requires c =
    let within : c.args.node < length c.self.inside.graph.nodes = rw (← c.self.view_is) at c.requires in
    omega (arith, c.self.invariant.after_are.long)

pub returns : goal.returns
returns c =
    let within : c.args.node < length c.self.inside.graph.nodes = rw (← c.self.view_is) at c.requires in
    let lacks : ℕ → _ = λ m. not (has c.args.row.now m) in
    rw (← c.self.view_is) (c.lacks_some.ensures ∙ (ap (list_any lacks) c.row.ensures ∙ c.self.invariant.after_are.each c.args.node lacks within))
