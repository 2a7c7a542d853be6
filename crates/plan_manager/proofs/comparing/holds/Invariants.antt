use Rattle.std.proofs.Common.{◌≡◌, ◌+◌, ◌++◌, [], length, Ok}
use Rattle.std.specs.FinMap.{get}
use Rattle.lama_host.specs.declared.files.Failed.{Failed}
use Rattle.lama_host.specs.Folder.{Keeps, IsUntouched, WhereTold}
use Rattle.plan_manager.specs.TextRests.{text_left}
use Rattle.plan_manager.proofs.Fronts.{Matched}
use Rattle.plan_manager.proofs.comparing.holds.Given as goal

abbrev pub invariant-loop-window : goal.invariant-loop-window
invariant-loop-window g l =
    let told = g.F.Folder.told in
    record {
      untouched : IsUntouched (told l.fn.folder) (told l.folder);
      keeps : Keeps {T = Unit {0}} {E = Failed} (told l.fn.folder) (told l.folder) (Ok tt);
      place : l.at + (length l.window.items + length (text_left l.text)) ≡ length (text_left l.fn.text);
      over : l.window.items ≡ [] → text_left l.text ≡ [];
      matched : WhereTold (told l.fn.folder) (λ files. Matched (get files l.name) (text_left l.fn.text) (l.window.items ++ text_left l.text) l.at);
    }

abbrev pub decreases-loop-window : goal.decreases-loop-window
decreases-loop-window g l = length l.window.items + length (text_left l.text)
