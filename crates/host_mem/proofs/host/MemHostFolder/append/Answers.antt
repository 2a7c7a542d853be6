use Rattle.std.proofs.Common.{◌≡◌, ◌∙◌, ◌/◌, ◌++◌, refl, ap, reverse, take, length}
use Rattle.host_mem.specs.Calls.{fault_of, called}
use Rattle.lama_host.specs.Folder.{growth, bytes_at}
use Rattle.host_mem.specs.Journal.{first_held, holds}
use Rattle.host_mem.specs.declared.calls.HostCall.TheVariants.{Append}
use Rattle.host_mem.specs.declared.journal.Change.TheVariants.{Grew}
use Rattle.host_mem.proofs.JournalSteps.{logged_keeps, effect_asked, changes_append, grew_last, all_grew, half_grew}
use Rattle.host_mem.proofs.host.MemHostFolder.append.Goals as goal

pub returns-clause-keeps : goal.returns-clause-keeps
returns-clause-keeps c =
    rw (← c.self.view_is) (logged_keeps _ c.log.result _ _ (first_held (reverse c.self.inside.files.items)) _ _ (Grew c.args.name.now c.args.piece.now c.share.result (c.bytes_held-old.result.now ++ take c.share.result c.args.piece.now)) _ _ _ _ refl refl c.log.ensures.later c.log.ensures.failed
    (c.log.ensures.logged _ c.growth-change.ensures))

pub returns-clause-does : goal.returns-clause-does
returns-clause-does c =
    let held : c.bytes_held-old.result.now ≡ bytes_at (holds (first_held (reverse c.self.inside.files.items)) (reverse c.self.inside.journal.items)) c.args.name.now = rw (← c.deref-2.ensures.value, ← c.deref-3.ensures.value, ← c.as_bytes.ensures.value) c.bytes_held-old.ensures in
    rw (← c.self.view_is) (effect_asked _ _ c.log.result _ _ (first_held (reverse c.self.inside.files.items)) _ _ (Grew c.args.name.now c.args.piece.now c.share.result (c.bytes_held-old.result.now ++ take c.share.result c.args.piece.now)) _ _ _ _ _ _
    (λ files. growth files c.args.name.now c.args.piece.now (length c.args.piece.now)) (λ files. growth files c.args.name.now c.args.piece.now (length c.args.piece.now / 2))
    (c.next_fault-fault.ensures.fault ∙ ap (λ failing. fault_of failing Append (called c.self.inside.calls Append)) c.deref.ensures.value)
    (grew_last (first_held (reverse c.self.inside.files.items)) (reverse c.self.inside.journal.items) c.args.name.now c.args.piece.now c.bytes_held-old.result.now c.share.result held)
    (λ files none is. all_grew _ files c.args.name.now c.args.piece.now c.share.result c.share.ensures.share none)
    (λ files some is. half_grew _ files c.args.name.now c.args.piece.now c.share.result c.share.ensures.share some)
    (c.log.ensures.logged _ c.growth-change.ensures))

pub returns-clause-changes : goal.returns-clause-changes
returns-clause-changes c = changes_append _ _ _ _ _ _ _ _ (returns-clause-does c)
