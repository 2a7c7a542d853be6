use Rattle.std.proofs.Common.{◌≡◌, ◌≤◌, ◌∙◌, arith, ap, sym, true, false, Bool, ℕ}
use Rattle.lama_num.specs.Names.{part_name}
use Rattle.plan_text.specs.PlanText.{plan_text}
use Rattle.plan_manager.specs.Family.{family_name}
use Rattle.plan_manager.proofs.FamilyLaws.{family≢part}
use Rattle.plan_manager.specs.Keeping.{plan_number}
use Rattle.plan_manager.proofs.Renames.{places_as, apart}
use Rattle.plan_manager.proofs.keeping.keep.Goals as goal

low : (many : Bool) (number n : ℕ) → number ≤ 9999 → n ≡ plan_number many number → n ≤ 9999
low true number n high is = omega (arith, is)
low false number n high is = omega (arith, is)

pub new-file-requires-clause-number : goal.new-file-requires-clause-number
new-file-requires-clause-number g c = low c.args.many c.args.number _ c.requires.number.high c.number_of.ensures

pub place-requires-clause-apart : goal.place-requires-clause-apart
place-requires-clause-apart g c =
    apart c.args.base.now _ _ c.number_of.result (low c.args.many c.args.number _ c.requires.number.high c.number_of.ensures) (c.name.ensures ∙ c.new-file.ensures) (c.text.ensures ∙ c.part-draft.ensures.name)

pub returns-clause-changes : goal.returns-clause-changes
returns-clause-changes g c =
    places_as _ _ c.place.result _ _ (plan_text c.args.task.now c.args.kept.now.ops) (part_name c.args.base.now) _ (c.text.ensures ∙ c.part-draft.ensures.name)
    (c.name.ensures ∙ c.new-file.ensures ∙ ap (family_name c.args.base.now) c.number_of.ensures) (rw c.deref.ensures at c.place.ensures.changes)
