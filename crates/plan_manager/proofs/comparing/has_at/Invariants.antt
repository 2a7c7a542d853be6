use Rattle.std.proofs.Common.{◌≡◌, ◌+◌, length, Ok}
use Rattle.std.specs.FinMap.{get}
use Rattle.lama_host.specs.declared.files.Failed.{Failed}
use Rattle.lama_host.specs.Folder.{Keeps, IsUntouched, WhereTold}
use Rattle.plan_manager.proofs.Fronts.{Found}
use Rattle.plan_manager.proofs.comparing.has_at.Given as goal

abbrev pub invariant-loop-rest : goal.invariant-loop-rest
invariant-loop-rest g l =
    let told = g.F.Folder.told in
    record {
      untouched : IsUntouched (told l.fn.folder) (told l.folder);
      keeps : Keeps {T = Unit {0}} {E = Failed} (told l.fn.folder) (told l.folder) (Ok tt);
      place : l.at + length l.rest ≡ l.start + length l.bytes;
      found : WhereTold (told l.fn.folder) (λ files. Found (get files l.name) l.start l.bytes l.at l.rest);
    }

abbrev pub decreases-loop-rest : goal.decreases-loop-rest
decreases-loop-rest g l = length l.rest
