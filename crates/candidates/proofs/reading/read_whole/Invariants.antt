use Rattle.std.proofs.Common.{◌≤◌, ◌+◌, ◌-◌, vec_len}
use Rattle.std.specs.FinMap.{get}
use Rattle.lama_host.specs.Folder.{IsUntouched, WhereTold}
use Rattle.candidates.specs.Whole.{IsFrontOf}
use Rattle.candidates.proofs.reading.read_whole.Given as goal

abbrev pub invariant-loop-folder : goal.invariant-loop-folder
invariant-loop-folder g l =
    let told = g.F.Folder.told in
    record {
      untouched : IsUntouched (told l.fn.folder) (told l.folder);
      later : (told l.fn.folder).faults ≤ (told l.folder).faults;
      front : WhereTold (told l.fn.folder) (λ files. IsFrontOf (get files l.name) l.bytes.items);
    }

abbrev pub decreases-loop-folder : goal.decreases-loop-folder
decreases-loop-folder g l = l.most + 1 - vec_len l.bytes
