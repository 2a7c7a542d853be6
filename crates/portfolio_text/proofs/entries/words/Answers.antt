use Rattle.std.proofs.Common.{◌∙◌, ◌<◌, length, arith}
use Rattle.std.proofs.lemmas.Bool.Decides.{nat_tests}
use Rattle.portfolio_text.proofs.LineWords.{reads_none, reads_more}
use Rattle.portfolio_text.proofs.entries.words.Goals as goal

pub loop-rest-init : goal.loop-rest-init
loop-rest-init c = record {
  reads = reads_none c.args.text.now c.without_blanks-rest.result.now c.new-words.result c.new-words.ensures c.without_blanks-rest.ensures;
  utf8 = c.without_blanks-rest.utf8;
}

pub loop-rest-preserved : goal.loop-rest-preserved
loop-rest-preserved c =
    let some : 0 < length c.loop-rest.rest.now = grind (arith, nat_tests) in
    record {
      reads = reads_more c.args.text.now c.loop-rest.words c.push.new.self c.loop-rest.rest.now c.in_ok-copy.field-0 c.behind_word-rest.result.now some c.loop-rest.invariant.reads (c.in_ok-copy.ensures ∙ c.first_word.ensures) c.in_ok-push.ensures.ok c.behind_word-rest.ensures;
      utf8 = c.behind_word-rest.utf8;
    }
