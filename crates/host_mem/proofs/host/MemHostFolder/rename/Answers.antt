use Rattle.std.proofs.Common.{◌≡◌, ◌∙◌, [], ◌∷◌, refl, ap, reverse, IsSome}
use Rattle.std.specs.FinMap.{get}
use Rattle.host_mem.specs.Calls.{fault_of, called}
use Rattle.lama_host.specs.Folder.{renamed, bytes_at}
use Rattle.host_mem.specs.Journal.{first_held, holds}
use Rattle.host_mem.specs.declared.calls.HostCall.TheVariants.{Rename}
use Rattle.host_mem.specs.declared.journal.Change.TheVariants.{Moved}
use Rattle.host_mem.proofs.JournalSteps.{logged_keeps, effect_asked, changes_once, moved_is}
use Rattle.host_mem.proofs.host.MemHostFolder.rename.Goals as goal

pub returns-clause-keeps : goal.returns-clause-keeps
returns-clause-keeps c =
    rw (← c.self.view_is) (logged_keeps _ c.log.result _ _ (first_held (reverse c.self.inside.files.items)) _ _ (Moved c.args.old.now c.args.new.now c.bytes_held-bytes.result.now) _ _ _ _ refl refl c.log.ensures.later c.log.ensures.failed
    (c.log.ensures.logged _ c.renaming-change.ensures))

pub returns-clause-does : goal.returns-clause-does
returns-clause-does c =
    let held : c.bytes_held-bytes.result.now ≡ bytes_at (holds (first_held (reverse c.self.inside.files.items)) (reverse c.self.inside.journal.items)) c.args.old.now = rw (← c.deref-2.ensures.value, ← c.deref-3.ensures.value, ← c.as_bytes.ensures.value) c.bytes_held-bytes.ensures in
    let some : IsSome (get (holds (first_held (reverse c.self.inside.files.items)) (reverse c.self.inside.journal.items)) c.args.old.now) = rw (← c.self.view_is) at (c.requires.held _ c.requires.idle refl) in
    rw (← c.self.view_is) (effect_asked _ _ c.log.result _ _ (first_held (reverse c.self.inside.files.items)) _ _ (Moved c.args.old.now c.args.new.now c.bytes_held-bytes.result.now) _ _ _ _ _ _
    (λ files. renamed c.args.old.now c.args.new.now files ∷ []) (λ files. renamed c.args.old.now c.args.new.now files ∷ [])
    (c.next_fault-fault.ensures.fault ∙ ap (λ failing. fault_of failing Rename (called c.self.inside.calls Rename)) c.deref.ensures.value)
    (λ files is. refl)
    (λ files none is. moved_is (first_held (reverse c.self.inside.files.items)) (reverse c.self.inside.journal.items) c.args.old.now c.args.new.now _ held some files is)
    (λ files half is. moved_is (first_held (reverse c.self.inside.files.items)) (reverse c.self.inside.journal.items) c.args.old.now c.args.new.now _ held some files is)
    (c.log.ensures.logged _ c.renaming-change.ensures))

pub returns-clause-changes : goal.returns-clause-changes
returns-clause-changes c = changes_once _ _ _ _ _ _ _ (returns-clause-does c)
