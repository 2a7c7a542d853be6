use Rattle.std.proofs.Common.{◌∙◌, [], ◌∷◌, refl, ap, reverse}
use Rattle.std.specs.FinMap.{remove}
use Rattle.host_mem.specs.Calls.{fault_of, called}
use Rattle.host_mem.specs.Journal.{first_held}
use Rattle.host_mem.specs.declared.calls.HostCall.TheVariants.{Remove}
use Rattle.host_mem.specs.declared.journal.Change.TheVariants.{Gone}
use Rattle.host_mem.proofs.JournalSteps.{logged_keeps, effect_asked, changes_once}
use Rattle.host_mem.proofs.host.MemHostFolder.remove.Goals as goal

pub returns-clause-keeps : goal.returns-clause-keeps
returns-clause-keeps c =
    rw (← c.self.view_is) (logged_keeps _ c.log.result _ _ (first_held (reverse c.self.inside.files.items)) _ _ (Gone c.args.name.now) _ _ _ _ refl refl c.log.ensures.later c.log.ensures.failed
    (c.log.ensures.logged (Gone c.args.name.now) c.removal-change.ensures))

pub returns-clause-does : goal.returns-clause-does
returns-clause-does c =
    rw (← c.self.view_is) (effect_asked _ _ c.log.result _ _ (first_held (reverse c.self.inside.files.items)) _ _ (Gone c.args.name.now) _ _ _ _ _ _ (λ files. remove files c.args.name.now ∷ []) (λ files. remove files c.args.name.now ∷ [])
    (c.next_fault-fault.ensures.fault ∙ ap (λ failing. fault_of failing Remove (called c.self.inside.calls Remove)) c.deref.ensures.value)
    (λ files is. refl) (λ files none is. refl) (λ files some is. refl) (c.log.ensures.logged (Gone c.args.name.now) c.removal-change.ensures))

pub returns-clause-changes : goal.returns-clause-changes
returns-clause-changes c = changes_once _ _ _ _ _ _ _ (returns-clause-does c)
