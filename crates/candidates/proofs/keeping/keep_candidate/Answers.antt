use Rattle.std.proofs.Common.{◌≡◌, ◌+◌, ◌∙◌, ap, sym, subst, length, List, [], ◌∷◌, ◌++◌, Some, Ok, Err, rules}
use Rattle.lama_host.proofs.StepLaws.{stays_same, stays_kept}
use Rattle.driver_core.specs.Turns.{turn_of, offers}
use Rattle.candidates.specs.Collecting.{IsInTurn}
use Rattle.lama_host.specs.Folder.{Changes}
use Rattle.sas_task.specs.declared.plans.Kept.{Kept}
use Rattle.plan_text.specs.PlanText.{plan_text}
use Rattle.plan_manager.specs.Keeping.{PlacesPlan}
use Rattle.candidates.specs.declared.reading.ReadError.{ReadError}
use Rattle.candidates.specs.declared.reading.ReadError.TheVariants.{Failed, NoMemory}
use Rattle.candidates.proofs.Gathered.{plan_kept}
use Rattle.candidates.proofs.Taken.{places_nothing, places_failed, places_ok}
use Rattle.candidates.proofs.keeping.keep_candidate.Goals as goal

pub returns-then-is_err-clause-stays : goal.returns-then-is_err-clause-stays
returns-then-is_err-clause-stays g c = stays_same (g.F.Folder.told c.args.folder.now)

pub returns-then-is_err-clause-changes : goal.returns-then-is_err-clause-changes
returns-then-is_err-clause-changes g c = places_nothing NoMemory (g.F.Folder.told c.args.folder.now) c.args.base.now c.args.many (length c.args.kept.now.items + 1) (plan_text c.args.task.now c.args.plan.ops)

pub returns-then-is_err-2-clause-stays : goal.returns-then-is_err-2-clause-stays
returns-then-is_err-2-clause-stays g c =
    stays_kept (g.F.Folder.told c.args.folder.now) (g.F.Folder.told c.keep.new.folder) c.keep.result c.keep.ensures.keeps

pub returns-then-is_err-2-clause-changes : goal.returns-then-is_err-2-clause-changes
returns-then-is_err-2-clause-changes g c =
    let index : c.len-index.result + 1 ≡ length c.args.kept.now.items + 1 = search rules in
    subst (λ n. Changes (g.F.Folder.told c.args.folder.now) (g.F.Folder.told c.keep.new.folder) (PlacesPlan {T = Unit {0}} {E = ReadError} (Err Failed) c.args.base.now c.args.many n (plan_text c.args.task.now c.args.plan.ops))) index
    (places_failed c.keep.result Failed _ _ c.args.base.now c.args.many (c.len-index.result + 1) (plan_text c.args.task.now c.args.plan.ops) (search rules) c.keep.ensures.changes)

pub returns-clause-stays : goal.returns-clause-stays
returns-clause-stays g c =
    stays_kept (g.F.Folder.told c.args.folder.now) (g.F.Folder.told c.keep.new.folder) c.keep.result c.keep.ensures.keeps

pub returns-clause-changes : goal.returns-clause-changes
returns-clause-changes g c =
    let index : c.len-index.result + 1 ≡ length c.args.kept.now.items + 1 = search rules in
    subst (λ n. Changes (g.F.Folder.told c.args.folder.now) (g.F.Folder.told c.keep.new.folder) (PlacesPlan {T = Unit {0}} {E = ReadError} (Ok tt) c.args.base.now c.args.many n (plan_text c.args.task.now c.args.plan.ops))) index
    (places_ok c.keep.result _ _ c.args.base.now c.args.many (c.len-index.result + 1) (plan_text c.args.task.now c.args.plan.ops) (search rules) c.keep.ensures.changes)

pub returns-clause-core : goal.returns-clause-core
returns-clause-core g c events bound is keeps below =
    let turn = turn_of c.args.round c.args.plan.entry in
    subst (IsInTurn c.step.new.self (events ++ offers turn (Some c.args.plan.cost) ∷ []) turn)
    (sym (◌∙◌ {A = List Kept} c.push_reserved.ensures.items (ap (λ kept. kept ++ c.args.plan ∷ []) c.make_room.ensures.plans_stay)))
    (plan_kept c.args.core.now c.step.new.self events turn c.args.kept.now.items c.args.plan bound c.step.ensures.setting (c.step.ensures.stands events) is keeps below)
