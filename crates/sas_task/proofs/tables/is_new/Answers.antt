use Rattle.std.proofs.Common.{◌≡◌, ◌∙◌, sym, ap, subst, not}
use Rattle.sas_task.specs.Tables.{Remembers, Knows}
use Rattle.sas_task.proofs.TableLaws.{remembers_more}
use Rattle.sas_task.proofs.tables.is_new.Goals as goal

pub returns-in-Ok-clause-new : goal.returns-in-Ok-clause-new
returns-in-Ok-clause-new c =
    let knows : Knows c.in-Some.known c.args.kept.now = subst (λ o. Remembers o c.args.kept.now) c.in-Some.is c.requires in
    c.in-Ok.ensures.added ∙ ap not (knows.has c.args.fact.var c.args.fact.val)

pub returns-in-Ok-clause-seen : goal.returns-in-Ok-clause-seen
returns-in-Ok-clause-seen c =
    let knows : Knows c.in-Some.known c.args.kept.now = subst (λ o. Remembers o c.args.kept.now) c.in-Some.is c.requires in
    remembers_more c.in-Some.known c.insert.new.self c.args.kept.now c.args.fact knows c.in-Ok.ensures.updates

pub returns-in-Err-clause-new : goal.returns-in-Err-clause-new
returns-in-Err-clause-new c =
    let knows : Knows c.in-Some.known c.args.kept.now = subst (λ o. Remembers o c.args.kept.now) c.in-Some.is c.requires in
    ap not (sym c.in-Err.ensures.absent ∙ knows.has c.args.fact.var c.args.fact.val)
