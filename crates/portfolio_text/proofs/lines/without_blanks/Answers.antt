use Rattle.std.proofs.Common.{sym, rules}
use Rattle.portfolio_text.proofs.Blanks.{cut_behind}
use Rattle.portfolio_text.proofs.lines.without_blanks.Goals as goal

pub range_from-rest-requires : goal.range_from-rest-requires
range_from-rest-requires c = λ _. cut_behind c.loop-b.rest.now c.in-Some.b.now c.loop-b.invariant.utf8 (rw c.as_bytes.ensures.value at (sym c.in-Some.ensures.value)) (search rules)
