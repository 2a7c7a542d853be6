use Rattle.state_registry.specs.Interning.{IsAbsent}
use Rattle.state_registry.proofs.StateLookUps.{adds_new, adds_known, absent_from, on_err}
use Rattle.state_registry.proofs.rows.add.Goals as goal

pub returns-then-new-clause-ok : goal.returns-then-new-clause-ok
returns-then-new-clause-ok g c =
    let e = c.in_ok-index.ensures in
    adds_new c.args.set.now.keys c.insert_full.new.self.keys c.args.words c.len-id.result c.args.most c.in_ok-index.new e.added c.if-new.true e.keys c.len-id.ensures.len c.requires.few

pub returns-clause-ok : goal.returns-clause-ok
returns-clause-ok g c =
    let e = c.in_ok-index.ensures in
    adds_known c.args.set.now.keys c.insert_full.new.self.keys c.args.words c.in_ok-index.index c.args.most c.in_ok-index.new e.added c.if-new.false e.keys e.stored

pub returns-in_err-index-clause-only_new : goal.returns-in_err-index-clause-only_new
returns-in_err-index-clause-only_new g c =
    on_err c.from_residual.result (IsAbsent c.args.set.now.keys c.args.words) (absent_from c.args.set.now.keys c.args.words c.in_err-index.ensures.absent)
