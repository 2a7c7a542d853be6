use Rattle.std.proofs.Common.{◌<◌, ◌∙◌, sym, ap, subst, length, slice_get, ℕ, List}
use Rattle.std.specs.List.{list_any}
use Rattle.lm_status.specs.Statuses.{Charted}
use Rattle.lm_status.specs.Preferred.{is_next}
use Rattle.bit_rows.specs.Rows.{has}
use Rattle.lm_status.proofs.Tables.{found_within}
use Rattle.lm_status.proofs.status.Status.is_wanted.Goals as goal

pub some_is_next-requires : goal.some_is_next-requires
some_is_next-requires c place node at =
    let within = found_within c.self.inside.table c.self.inside.graph.nodes (length c.self.inside.graph.nodes) c.args.fact place node c.self.invariant.found (sym (ap (λ (xs : List ℕ). slice_get xs place) c.numbers.ensures) ∙ at) in
    subst (λ (s : Charted). node < length s.graph.nodes) c.self.view_is within

pub returns : goal.returns
returns c =
    c.some_is_next.ensures
    ∙ rw (← c.self.view_is) (ap (list_any (is_next c.self.inside.graph (has c.args.row.now))) c.numbers.ensures ∙ c.self.invariant.found.each c.args.fact (is_next c.self.inside.graph (has c.args.row.now)))
