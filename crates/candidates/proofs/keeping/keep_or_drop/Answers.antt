use Rattle.std.proofs.Common.{Err, refl, sym, subst}
use Rattle.lama_host.proofs.StepLaws.{stays_same}
use Rattle.driver_core.specs.Turns.{turn_of}
use Rattle.candidates.specs.declared.reading.ReadError.TheVariants.{NoMemory}
use Rattle.candidates.specs.Collecting.{IsInTurn, standing}
use Rattle.candidates.specs.Judging.{IsPlanIfGood, HeedsBound}
use Rattle.candidates.proofs.Taken.{takes_kept, takes_dropped, takes_none, on_ok_so}
use Rattle.candidates.proofs.keeping.keep_or_drop.Goals as goal

pub returns-in-Good-clause-takes : goal.returns-in-Good-clause-takes
returns-in-Good-clause-takes g c events bound is keeps heeds =
    let told = g.F.Folder.told in
    let turn = turn_of c.args.round c.args.entry in
    let call = c.keep_candidate.ensures in
    takes_kept c.keep_candidate.result c.args.task.now c.args.base.now c.args.many turn events
    (standing (told c.args.folder.now) c.args.core.now c.args.kept.now.items c.args.candidates.now.items)
    (standing (told c.keep_candidate.new.folder) c.keep_candidate.new.core c.keep_candidate.new.kept.items c.keep_candidate.new.candidates.items)
    c.args.file c.in-Good.cost c.in-Good.ops c.args.verdict bound c.in-Good.is
    (subst (IsPlanIfGood c.args.task.now) c.in-Good.is c.requires.plan) keeps.present (subst (HeedsBound bound) c.in-Good.is heeds) is
    call.same call.memory call.kept call.candidates
    (on_ok_so c.keep_candidate.result _ _ call.core (λ so. so events bound is keeps (subst (HeedsBound bound) c.in-Good.is heeds))) call.changes

pub returns-in-Ok-clause-takes : goal.returns-in-Ok-clause-takes
returns-in-Ok-clause-takes g c events bound is keeps heeds =
    let told = g.F.Folder.told in
    takes_dropped c.args.task.now c.args.base.now c.args.many (turn_of c.args.round c.args.entry) events
    (standing (told c.args.folder.now) c.args.core.now c.args.kept.now.items c.args.candidates.now.items)
    (standing (told c.args.folder.now) c.drop_candidate.new.core c.args.kept.now.items c.drop_candidate.new.candidates.items)
    c.args.file c.in-Bad.fault c.args.verdict c.in-Bad.is refl refl c.in-Ok.ensures.candidates
    (c.in-Ok.ensures.core events c.args.kept.now.items bound is keeps (subst (HeedsBound bound) c.in-Bad.is heeds))

pub returns-in-Err-clause-takes : goal.returns-in-Err-clause-takes
returns-in-Err-clause-takes g c events bound is keeps heeds =
    let told = g.F.Folder.told in
    let turn = turn_of c.args.round c.args.entry in
    takes_none {T = Unit {0}} (Err NoMemory) c.args.task.now c.args.base.now c.args.many turn events
    (standing (told c.args.folder.now) c.args.core.now c.args.kept.now.items c.args.candidates.now.items)
    (standing (told c.args.folder.now) c.drop_candidate.new.core c.args.kept.now.items c.drop_candidate.new.candidates.items)
    refl refl c.in-Err.ensures.memory.1 (λ fine. subst (λ core. IsInTurn core events turn c.args.kept.now.items) (sym c.in-Err.ensures.memory.0) is)

pub returns-in-Ok-clause-stays : goal.returns-in-Ok-clause-stays
returns-in-Ok-clause-stays g c = stays_same (g.F.Folder.told c.args.folder.now)

pub returns-in-Err-clause-stays : goal.returns-in-Err-clause-stays
returns-in-Err-clause-stays g c = stays_same (g.F.Folder.told c.args.folder.now)
