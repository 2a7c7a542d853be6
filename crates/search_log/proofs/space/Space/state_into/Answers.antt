use Rattle.std.proofs.Common.{◌≡◌, ◌<◌, length, slice_get, [], ap, sym, ◌∙◌, subst, arith}
use Rattle.std.specs.Prelude.{IsSomeAnd, Option}
use Rattle.search_log.specs.Members.{Member}
use Rattle.search_log.specs.Columns.{member_of}
use Rattle.search_log.proofs.ColumnLaws.{length-beside, beside-found}
use Rattle.search_log.proofs.space.Space.state_into.Goals as goal

pub row-requires : goal.row-requires
row-requires c = omega (arith, c.requires.place, length-beside member_of _ _ c.self.invariant.0, ap length c.self.view_is)

pub copy_from_slice-requires : goal.copy_from_slice-requires
copy_from_slice-requires c =
    let lt : c.args.place < length c.self.inside.states = omega (arith, c.requires.place, length-beside member_of _ _ c.self.invariant.0, ap length c.self.view_is) in
    let at = ap (λ members. slice_get members c.args.place) (sym c.self.view_is) ∙ beside-found member_of c.self.inside.states c.self.inside.costs.items c.args.place [] 0 c.self.invariant.0 lt in
    subst (λ (o : Option Member). IsSomeAnd o (λ m. length c.args.out.now ≡ length m.state)) at c.requires.out ∙ ap length (sym c.row.ensures)

pub returns : goal.returns
returns c =
    let lt : c.args.place < length c.self.inside.states = omega (arith, c.requires.place, length-beside member_of _ _ c.self.invariant.0, ap length c.self.view_is) in
    let at = ap (λ members. slice_get members c.args.place) (sym c.self.view_is) ∙ beside-found member_of c.self.inside.states c.self.inside.costs.items c.args.place [] 0 c.self.invariant.0 lt in
    subst (λ (o : Option Member). IsSomeAnd o (λ m. c.copy_from_slice.new.self ≡ m.state)) (sym at) (c.copy_from_slice.ensures.after ∙ c.row.ensures)
