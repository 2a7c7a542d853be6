use Rattle.std.proofs.Common.{length, ◌%◌, arith}
use Rattle.std.proofs.lemmas.List.Elements.{Contains-get_or}
use Rattle.search_bench.proofs.walking.chosen.Goals as goal

pub returns : goal.returns
returns c = Contains-get_or c.args.operators.now (c.args.number % length c.args.operators.now) 0 (omega arith)
