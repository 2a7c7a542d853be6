use Rattle.std.proofs.Common.{Ok}
use Rattle.lama_host.specs.declared.files.Failed.{Failed}
use Rattle.lama_host.specs.Folder.{Keeps, Changes}
use Rattle.plan_manager.proofs.RemovedNames.{Taken}
use Rattle.plan_manager.proofs.clearing.remove_names.Given as goal

abbrev pub invariant-loop-number : goal.invariant-loop-number
invariant-loop-number g l =
    let told = g.F.Folder.told in
    record {
      keeps : Keeps {T = Unit {0}} {E = Failed} (told l.fn.folder) (told l.folder) (Ok tt);
      changes : Changes (told l.fn.folder) (told l.folder) (Taken l.base l.from l.end l.number);
    }
