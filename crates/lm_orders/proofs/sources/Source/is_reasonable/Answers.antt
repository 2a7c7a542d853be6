use Rattle.std.proofs.Common.{◌≡◌, ◌∙◌, sym, true, false}
use Rattle.std.proofs.lemmas.Bool.{both_ways}
use Rattle.lm_orders.proofs.OrderTests.{new_from, new_to, new_differs, reasonable_from, reasonable_hinders, reasonable_is_new}
use Rattle.lm_orders.proofs.sources.Source.is_reasonable.Goals as goal

pub returns-then-not-is_new-clause-reasonable : goal.returns-then-not-is_new-clause-reasonable
returns-then-not-is_new-clause-reasonable c parts fact fit fits is = (
  λ h. (let k : false ≡ true = h in cc),
  λ r. absurd (both_ways _ (sym c.is_new.ensures ∙ c.if-not-is_new.true) (new_to c.args.graph.now c.args.self.now c.args.after fits (reasonable_is_new parts c.args.graph.now c.args.self.now c.args.after r))),
)

pub returns-then-not-is_wanted-clause-reasonable : goal.returns-then-not-is_wanted-clause-reasonable
returns-then-not-is_wanted-clause-reasonable c parts fact fit fits is = (
  λ h. (let k : false ≡ true = h in cc),
  λ r. absurd (both_ways _ c.if-not-is_wanted.true ((c.is_wanted.ensures fit.strong fits).1 r.wanted)),
)

pub returns-clause-different : goal.returns-clause-different
returns-clause-different c h = new_differs c.args.graph.now c.args.self.now c.args.after (sym c.is_new.ensures ∙ c.if-not-is_new.false)

pub returns-clause-reasonable : goal.returns-clause-reasonable
returns-clause-reasonable c parts fact fit fits is =
    let graph = c.args.graph.now in
    let source = c.args.self.now in
    let after = c.args.after in (
      λ h. reasonable_from parts graph c.args.tables.now source fact c.requires.node is fit after
          (new_from graph source after fits (sym c.is_new.ensures ∙ c.if-not-is_new.false)) ((c.is_wanted.ensures fit.strong fits).0 c.if-not-is_wanted.false) (sym c.is_hindered.ensures ∙ h),
      λ r. c.is_hindered.ensures ∙ reasonable_hinders parts graph c.args.tables.now source fact c.requires.node is fit after r,
    )
