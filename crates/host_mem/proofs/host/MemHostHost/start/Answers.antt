use Rattle.std.proofs.Common.{reverse}
use Rattle.host_mem.specs.Journal.{first_held}
use Rattle.host_mem.specs.Scripts.{next_script}
use Rattle.host_mem.proofs.Slots.{start_told, kept_start}
use Rattle.host_mem.proofs.host.MemHostHost.start.Goals as goal

pub returns-clause-starts : goal.returns-clause-starts
returns-clause-starts c =
    rw (← c.self.view_is) (start_told c.begin.result (first_held (reverse c.self.inside.files.items)) _ _ _ _ _ _ _ _ c.args.slot (next_script (reverse c.self.inside.scripts.items)) _ c.args.input.now c.args.limits
    c.begin.ensures.later c.begin.ensures.failed c.begin.ensures.begun
    (kept_start c.begin.result c.copy_start-start.result _ _ _ c.begin.ensures.start c.begin.ensures.copied c.copy_start-start.ensures)
    c.begin.ensures.journal c.begin.ensures.running c.begin.ensures.starts)
