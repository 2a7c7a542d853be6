use Rattle.std.proofs.Common.{◌<◌, length, take, get_or, arith}
use Rattle.std.proofs.lemmas.List.{take_more, length-take-le}
use Rattle.sas_task.specs.declared.contents.Fact.{Fact}
use Rattle.sas_task.proofs.TableLaws.{few_facts, counts_fact, places_more}
use Rattle.sas_task.proofs.tables.places.Goals as goal

pub count_up-requires : goal.count_up-requires
count_up-requires c =
    let facts = c.args.facts.now in
    let i = c.loop-fact.fact-index in
    let f : Fact = get_or facts i (record { var = 0; val = 0 }) in
    let few = few_facts c.loop-fact.counts (take i facts) f.var c.loop-fact.invariant.counts in
    let long = length-take-le i facts (omega arith) in
    omega (arith, few, long)

pub loop-fact-preserved : goal.loop-fact-preserved
loop-fact-preserved c =
    let facts = c.args.facts.now in
    let i = c.loop-fact.fact-index in
    let none : Fact = record { var = 0; val = 0 } in
    let f : Fact = get_or facts i none in
    let lt : i < length facts = omega arith in
    record {
      counts = rw (take_more facts i none lt) (counts_fact c.loop-fact.counts c.count_up.new.counts (take i facts) f c.loop-fact.invariant.counts c.in_ok-place.ensures.after);
      placed = rw (take_more facts i none lt) (places_more c.loop-fact.placed c.insert.new.self c.loop-fact.counts (take i facts) f c.in_ok-place.place c.loop-fact.invariant.placed c.loop-fact.invariant.counts c.in_ok-place.ensures.before c.in_ok-insert.ensures.updates);
    }
