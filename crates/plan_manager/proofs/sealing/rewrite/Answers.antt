use Rattle.std.proofs.Common.{◌≡◌, ◌∙◌, ap, sym, true, false, Some}
use Rattle.lama_host.specs.declared.files.Failed.{Failed}
use Rattle.plan_text.specs.PlanText.{plan_text}
use Rattle.plan_manager.proofs.Stages.{already, replaced}
use Rattle.plan_manager.proofs.sealing.rewrite.Goals as goal

pub new-text-requires : goal.new-text-requires
new-text-requires g c = c.as_bytes.ensures.value ∙ c.as_str.ensures.value ∙ c.last_line-last.ensures

pub returns-in-Ok-true-clause-changes : goal.returns-in-Ok-true-clause-changes
returns-in-Ok-true-clause-changes g c =
    let told = g.F.Folder.told in
    already Failed (told c.args.folder.now) (told c.holds.new.folder) c.args.draft.now c.args.target.now (plan_text c.args.task.now c.args.ops.now) c.in-Ok-true.ensures.untouched
    (λ files idle held. (c.in-Ok-true.ensures.tells files idle held).0 c.in-Ok-true.field-0-test ∙ ap Some c.new-text.ensures.text)

pub returns-in-Ok-false-clause-changes : goal.returns-in-Ok-false-clause-changes
returns-in-Ok-false-clause-changes g c =
    let told = g.F.Folder.told in
    replaced (told c.args.folder.now) (told c.holds.new.folder) (told c.place.new.folder) c.place.result c.args.draft.now c.args.target.now (plan_text c.args.task.now c.args.ops.now) c.in-Ok-false.ensures.untouched
    (λ files idle held same. let k : false ≡ true = sym c.in-Ok-false.field-0-test ∙ (c.in-Ok-false.ensures.tells files idle held).1 (same ∙ ap Some (sym c.new-text.ensures.text)) in cc)
    c.place.ensures.changes
