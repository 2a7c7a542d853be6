use Rattle.std.proofs.Common.{◌≡◌, take}
use Rattle.host_mem.specs.Says.{last_write}
use Rattle.host_mem.proofs.journal.last_write.Given as goal

abbrev pub invariant-loop-i : goal.invariant-loop-i
invariant-loop-i l = last_write (take l.i l.writes) l.name ≡ last_write l.writes l.name
