use Rattle.std.proofs.Common.{subst}
use Rattle.lama_host.specs.Folder.{Changes}
use Rattle.lama_num.specs.Names.{child_name}
use Rattle.plan_manager.specs.Clearing.{ClearsBetween}
use Rattle.plan_manager.proofs.RemovedNames.{clears_family}
use Rattle.plan_manager.proofs.clearing.clear_child.Goals as goal

pub returns-clause-changes : goal.returns-clause-changes
returns-clause-changes g c =
    let told = g.F.Folder.told in
    clears_family _ _ c.remove_names.result (child_name c.args.base.now c.args.entry)
    (subst (λ name. Changes (told c.args.folder.now) (told c.remove_names.new.folder) (ClearsBetween c.remove_names.result name 0 10000)) c.child.ensures.name c.remove_names.ensures.changes)
