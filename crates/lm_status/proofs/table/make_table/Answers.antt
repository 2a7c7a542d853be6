use Rattle.std.proofs.Common.{◌∙◌, sym, get_or}
use Rattle.std.proofs.lemmas.Option.{slice_get-get_or}
use Rattle.lm_status.proofs.Tables.{finds_more, facts_read}
use Rattle.lm_status.proofs.table.make_table.Goals as goal

pub loop-number-preserved : goal.loop-number-preserved
loop-number-preserved c =
    let nodes = c.args.nodes.now in
    let n = c.loop-number.number in
    let node = get_or nodes n c.index-nodes-number.result in
    let at = slice_get-get_or nodes n c.index-nodes-number.result c.loop-number-test.true in
    finds_more c.loop-number.table c.add.new.self nodes n c.deref.result.now c.loop-number.invariant (facts_read nodes n node at ∙ sym c.deref.ensures) c.in_ok-add.ensures
