use Rattle.std.proofs.Common.{length, [], ◌∷◌, ap, arith, length-append}
use Rattle.search_log.specs.Columns.{member_of}
use Rattle.search_log.proofs.ColumnLaws.{length-beside, beside-push}
use Rattle.search_log.proofs.space.Space.push.Goals as goal

pub invariant_of-self-2 : goal.invariant_of-self-2
invariant_of-self-2 c =
    rw (c.in_ok-add_member.ensures.states, c.in_ok-add_member.ensures.costs) (
      omega (arith, c.self.invariant.0, length-append c.self.inside.states (c.args.state.now ∷ []), length-append c.self.inside.costs.items (c.args.cost ∷ [])),
      omega (arith, c.requires, c.self.invariant.0, length-append c.self.inside.costs.items (c.args.cost ∷ []), length-beside member_of _ _ c.self.invariant.0, ap length c.self.view_is),
    )

pub returns-clause-ok : goal.returns-clause-ok
returns-clause-ok c = rw (c.in_ok-add_member.ensures.states, c.in_ok-add_member.ensures.costs, ← c.self.view_is) (beside-push member_of _ _ _ _ c.self.invariant.0)
