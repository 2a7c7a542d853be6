use Rattle.std.proofs.Common.{◌≡◌, ◌+◌, ◌++◌, [], length, Ok}
use Rattle.lama_host.specs.declared.files.Failed.{Failed}
use Rattle.lama_host.specs.Folder.{Keeps, Changes}
use Rattle.plan_manager.specs.TextRests.{text_left}
use Rattle.plan_manager.proofs.Drafts.{Drafted}
use Rattle.plan_manager.proofs.keeping.write_draft.Given as goal

abbrev pub invariant-loop-window : goal.invariant-loop-window
invariant-loop-window g l =
    let told = g.F.Folder.told in
    record {
      keeps : Keeps {T = Unit {0}} {E = Failed} (told l.fn.folder) (told l.folder) (Ok tt);
      changes : Changes (told l.fn.folder) (told l.folder) (Drafted l.name (text_left l.fn.text) (l.window.items ++ text_left l.text));
      over : l.window.items ≡ [] → text_left l.text ≡ [];
    }

abbrev pub decreases-loop-window : goal.decreases-loop-window
decreases-loop-window g l = length l.window.items + length (text_left l.text)
