use Rattle.std.proofs.Common.{◌∙◌}
use Rattle.host_mem.specs.Scripts.{IsPlaceOf}
use Rattle.host_mem.proofs.Places.{slot_freed}
use Rattle.host_mem.proofs.children.end_child.Goals as goal

pub returns-in-Some-clause-freed : goal.returns-in-Some-clause-freed
returns-in-Some-clause-freed c =
    let place : IsPlaceOf c.args.running.now.items c.args.slot c.in-Some.place = rw (← c.deref.ensures.value) c.in-Some.ensures in
    c.free.ensures ∙ slot_freed _ _ _ _ c.remove-child.result place.within c.remove-child.ensures.value (place.child _ c.remove-child.ensures.value).0 c.remove-child.ensures.items
