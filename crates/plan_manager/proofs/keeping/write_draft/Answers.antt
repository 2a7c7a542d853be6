use Rattle.std.proofs.Common.{◌≡◌, ◌∙◌, sym, subst, []}
use Rattle.lama_host.specs.Folder.{Changes, Appends}
use Rattle.lama_host.proofs.StepLaws.{keeps_then, keeps_ok}
use Rattle.plan_manager.specs.TextRests.{text_left}
use Rattle.plan_manager.proofs.Drafts.{begins, begin_failed, piece_more, piece_failed, all_written, refilled, over_when_empty, both_empty}
use Rattle.plan_manager.proofs.Lines.{is_nothing}
use Rattle.plan_manager.proofs.keeping.write_draft.Goals as goal

pub returns-in_err-create-clause-changes : goal.returns-in_err-create-clause-changes
returns-in_err-create-clause-changes g c = begin_failed _ _ c.create.result c.from_residual.result c.args.name.now (text_left c.args.text.now) c.from_residual.ensures.0 c.create.ensures.changes

pub loop-window-init : goal.loop-window-init
loop-window-init g c =
    let filled = refilled c.fill.new.window.items _ (text_left c.fill.new.self) (text_left c.args.text.now) c.new-window.ensures c.fill.ensures.moved in
    record {
      keeps = keeps_ok _ _ _ tt c.create.ensures.keeps;
      changes = begins _ _ c.create.result _ c.args.name.now (text_left c.args.text.now) _ c.in_ok-create.was filled c.create.ensures.changes;
      over = over_when_empty _ _ c.fill.ensures.all;
    }

pub returns-in_err-append-clause-changes : goal.returns-in_err-append-clause-changes
returns-in_err-append-clause-changes g c =
    let told = g.F.Folder.told in
    piece_failed (told c.args.folder.now) (told c.loop-window.folder) (told c.append.new.self) c.append.result c.from_residual-in_err-append.result c.args.name.now (text_left c.args.text.now) c.loop-window.window.items (text_left c.loop-window.text)
    c.from_residual-in_err-append.ensures.0 c.loop-window.invariant.keeps.busy c.loop-window.invariant.changes
    (subst (λ p. Changes (told c.loop-window.folder) (told c.append.new.self) (Appends c.append.result c.args.name.now p)) c.as_slice.ensures.value c.append.ensures.changes)

pub loop-window-preserved : goal.loop-window-preserved
loop-window-preserved g c =
    let told = g.F.Folder.told in
    let filled = refilled c.fill-in-loop-window.new.window.items _ (text_left c.fill-in-loop-window.new.self) (text_left c.loop-window.text) c.clear.ensures c.fill-in-loop-window.ensures.moved in
    record {
      keeps = keeps_ok _ _ _ tt (keeps_then _ _ _ _ _ c.loop-window.invariant.keeps c.append.ensures.keeps);
      changes = piece_more (told c.args.folder.now) (told c.loop-window.folder) (told c.append.new.self) c.append.result _ c.args.name.now (text_left c.args.text.now) c.loop-window.window.items (text_left c.loop-window.text) _
          c.in_ok-append.was filled c.loop-window.invariant.keeps.busy c.loop-window.invariant.changes
          (subst (λ p. Changes (told c.loop-window.folder) (told c.append.new.self) (Appends c.append.result c.args.name.now p)) c.as_slice.ensures.value c.append.ensures.changes);
      over = over_when_empty _ _ c.fill-in-loop-window.ensures.all;
    }

pub returns-clause-changes : goal.returns-clause-changes
returns-clause-changes g c =
    let told = g.F.Folder.told in
    let none : c.loop-window.window.items ≡ [] = is_nothing c.loop-window.window.items (sym c.is_empty.ensures ∙ c.loop-window-test.false) in
    all_written (told c.args.folder.now) (told c.loop-window.folder) c.args.name.now (text_left c.args.text.now) _ (both_empty _ _ none (c.loop-window.invariant.over none)) c.loop-window.invariant.changes
