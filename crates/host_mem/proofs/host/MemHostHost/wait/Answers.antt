use Rattle.std.proofs.Common.{◌∙◌, refl, ap, reverse}
use Rattle.host_mem.specs.Calls.{fault_of, called}
use Rattle.host_mem.specs.Journal.{first_held, writing}
use Rattle.host_mem.specs.Outcomes.{answer_unless, Logged}
use Rattle.host_mem.specs.declared.calls.HostCall.TheVariants.{Wait}
use Rattle.host_mem.specs.declared.journal.Change.TheVariants.{Ended}
use Rattle.host_mem.proofs.JournalSteps.{effect_asked, last_of-writing}
use Rattle.host_mem.proofs.Slots.{waited, wait_told, wait_leaves, answered_by, failed_by}
use Rattle.host_mem.proofs.host.MemHostHost.wait.Goals as goal
use Rattle.host_mem.proofs.host.MemHostHost.wait.Goals.{After-answer}

made : (c : After-answer) → Logged c.next_fault-fault.result c.answer.result c.self.inside.refused c.log.new.refused c.self.inside.journal.items c.log.new.journal.items (Ended c.end_child-script.result.writes (answer_unless c.next_fault-fault.result c.end_child-script.result.outcome))
made c = waited c.log.result c.answer.result c.end_child-script.result.outcome _ _ _ _ _ _ c.answer.ensures.ok c.answer.ensures.err (c.log.ensures.logged _ c.ended-change.ensures)

pub returns-clause-waits : goal.returns-clause-waits
returns-clause-waits c =
    rw (← c.self.view_is) (wait_told c.answer.result (first_held (reverse c.self.inside.files.items)) _ _ _ _ _ _ _ c.args.slot c.end_child-script.result.writes c.end_child-script.result.outcome _ _ _ c.log.ensures.later
    (failed_by _ c.log.result c.answer.result c.end_child-script.result.outcome c.answer.ensures.ok c.log.ensures.failed) c.end_child-script.ensures.freed
    (answered_by c.log.result c.answer.result c.end_child-script.result.outcome c.answer.ensures.ok c.answer.ensures.err) (made c))

pub returns-clause-holds : goal.returns-clause-holds
returns-clause-holds c =
    rw (← c.self.view_is, ← c.end_child-script.ensures.script) (wait_leaves _ c.answer.result _ _ (first_held (reverse c.self.inside.files.items)) _ _ c.end_child-script.result.writes _ (made c))

pub returns-clause-does : goal.returns-clause-does
returns-clause-does c =
    rw (← c.self.view_is, ← c.end_child-script.ensures.script) (effect_asked _ _ c.answer.result _ _ (first_held (reverse c.self.inside.files.items)) _ _
    (Ended c.end_child-script.result.writes (answer_unless c.next_fault-fault.result c.end_child-script.result.outcome)) _ _ _ _ _ _
    (writing c.end_child-script.result.writes) (writing c.end_child-script.result.writes)
    (c.next_fault-fault.ensures.fault ∙ ap (λ failing. fault_of failing Wait (called c.self.inside.calls Wait)) c.deref.ensures.value)
    (λ files is. last_of-writing c.end_child-script.result.writes files) (λ files none is. refl) (λ files some is. refl) (made c))
