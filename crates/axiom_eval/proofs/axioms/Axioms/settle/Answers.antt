use Rattle.std.proofs.Common.{◌≡◌, ◌∙◌, [], ap, sym}
use Rattle.axiom_eval.specs.Axioms.{Tables}
use Rattle.axiom_eval.specs.Defaults.{is_listed}
use Rattle.axiom_eval.proofs.Upwards.{settled_none}
use Rattle.axiom_eval.specs.declared.tables.Derived.{Derived}
use Rattle.std.specs.Prelude.{List}
use Rattle.axiom_eval.proofs.axioms.Axioms.settle.Goals as goal

pub returns-then-is_empty-clause-values : goal.returns-then-is_empty-clause-values
returns-then-is_empty-clause-values c =
    let none : c.self.inside.derived ≡ [] = c.is_empty.ensures.0 c.if-is_empty.true in
    let listed : c.args.self.now.derived ≡ [] = ap (λ (t : Tables). t.derived) (sym c.self.view_is) ∙ none in
    settled_none c.args.task.now c.args.values.now (λ var. sym (c.requires.same_task.derived.those var) ∙ ap (λ (ds : List Derived). is_listed ds var) listed)
