use Rattle.std.proofs.Common.{◌+◌, Ok}
use Rattle.lama_host.specs.declared.files.Failed.{Failed}
use Rattle.lama_host.specs.Folder.{Keeps, Changes}
use Rattle.plan_manager.proofs.Stages.{Stage}
use Rattle.plan_manager.proofs.sealing.seal_family.Given as goal

abbrev pub invariant-loop-index : goal.invariant-loop-index
invariant-loop-index g l =
    let told = g.F.Folder.told in
    record {
      keeps : Keeps {T = Unit {0}} {E = Failed} (told l.fn.folder) (told l.folder) (Ok tt);
      changes : Changes (told l.fn.folder) (told l.folder) (Stage l.base l.many l.task l.kept (l.first + l.index));
    }
