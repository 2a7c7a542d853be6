use Rattle.sas_task.proofs.RunLaws.{operator-at}
use Rattle.sas_task.proofs.WithinLaws.{all_facts_within}
use Rattle.h_ff.proofs.operators.is_applicable.Goals as goal

pub all_hold-requires : goal.all_hold-requires
all_hold-requires c =
    let at = rw c.parts.ensures.parts at c.index.ensures in
    rw (c.deref.ensures, c.requires) (all_facts_within c.args.task.now.variables c.index.result.now.pre (operator-at _ _ _ c.parts.ensures.well_formed at).pre)
