use Rattle.std.proofs.Common.{◌∙◌, subst}
use Rattle.lama_host.specs.Folder.{Changes}
use Rattle.plan_manager.specs.Keeping.{Drafts}
use Rattle.plan_manager.specs.TextRests.{text_left}
use Rattle.plan_manager.proofs.Renames.{draft_failed, draft_renamed, draft_there}
use Rattle.plan_manager.proofs.keeping.place.Goals as goal

pub new-text-requires : goal.new-text-requires
new-text-requires g c = c.as_bytes.ensures.value ∙ c.as_str.ensures.value ∙ c.last_line-last.ensures

pub returns-in_err-write_draft-clause-changes : goal.returns-in_err-write_draft-clause-changes
returns-in_err-write_draft-clause-changes g c =
    let told = g.F.Folder.told in
    draft_failed (told c.args.folder.now) (told c.write_draft.new.folder) c.write_draft.result c.from_residual.result c.args.draft.now c.args.target.now _ c.from_residual.ensures.0
    (subst (λ t. Changes (told c.args.folder.now) (told c.write_draft.new.folder) (Drafts c.write_draft.result c.args.draft.now t)) c.new-text.ensures.text c.write_draft.ensures.changes)

pub rename-requires-clause-held : goal.rename-requires-clause-held
rename-requires-clause-held g c = draft_there _ _ c.write_draft.result _ c.args.draft.now (text_left c.new-text.result) c.in_ok-write_draft.was c.write_draft.ensures.keeps c.write_draft.ensures.changes

pub returns-clause-changes : goal.returns-clause-changes
returns-clause-changes g c =
    let told = g.F.Folder.told in
    draft_renamed (told c.args.folder.now) (told c.write_draft.new.folder) (told c.rename.new.self) c.write_draft.result _ c.rename.result c.args.draft.now c.args.target.now _ c.requires.apart c.in_ok-write_draft.was c.write_draft.ensures.keeps.busy
    (subst (λ t. Changes (told c.args.folder.now) (told c.write_draft.new.folder) (Drafts c.write_draft.result c.args.draft.now t)) c.new-text.ensures.text c.write_draft.ensures.changes) c.rename.ensures.changes
