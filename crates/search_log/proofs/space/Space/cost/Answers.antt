use Rattle.std.proofs.Common.{◌≡◌, ◌<◌, length, slice_get, [], ap, sym, ◌∙◌, subst, arith}
use Rattle.std.specs.Prelude.{IsSomeAnd, Option}
use Rattle.search_log.specs.Members.{Member}
use Rattle.search_log.specs.Columns.{member_of}
use Rattle.search_log.proofs.ColumnLaws.{length-beside, beside-found}
use Rattle.search_log.proofs.space.Space.cost.Goals as goal

pub index-requires : goal.index-requires
index-requires c = omega (arith, c.requires, c.self.invariant.0, length-beside member_of _ _ c.self.invariant.0, ap length c.self.view_is)

pub returns : goal.returns
returns c =
    let lt : c.args.place < length c.self.inside.states = omega (arith, c.requires, length-beside member_of _ _ c.self.invariant.0, ap length c.self.view_is) in
    let at = ap (λ members. slice_get members c.args.place) (sym c.self.view_is) ∙ beside-found member_of c.self.inside.states c.self.inside.costs.items c.args.place [] c.index.result.now c.self.invariant.0 lt in
    subst (λ (o : Option Member). IsSomeAnd o (λ m. c.index.result.now ≡ m.cost)) (sym at) c.index.ensures
