use Rattle.std.proofs.Common.{◌<◌, length, arith, nat_lt}
use Rattle.std.proofs.lemmas.Bool.Decides.{nat_tests}
use Rattle.sas_task.specs.Within.{is_within}
use Rattle.axiom_eval.proofs.DefaultValues.{all_at}
use Rattle.axiom_eval.proofs.RuleTables.{watch_none, watch_more}
use Rattle.axiom_eval.proofs.building.watch_all.Goals as goal

pub loop-fact-init : goal.loop-fact-init
loop-fact-init c = watch_none c.args.variables.now c.args.layer c.args.place c.args.lists.now.items

pub loop-fact-preserved : goal.loop-fact-preserved
loop-fact-preserved c =
    let within = all_at (is_within (length c.args.lists.now.items)) c.args.facts.now c.loop-fact.fact-index (record { var = 0; val = 0 }) c.requires c.loop-fact-test.true in
    let long = c.loop-fact.invariant.long in
    watch_more c.args.variables.now c.args.layer c.args.place c.args.facts.now c.loop-fact.fact-index (record { var = 0; val = 0 }) c.args.lists.now.items c.loop-fact.lists.items c.watch.new.lists.items c.loop-fact-test.true (grind (arith, nat_tests, within, long)) c.in-Ok.ensures c.loop-fact.invariant
