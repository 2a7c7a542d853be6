use Rattle.std.proofs.Common.{◌≤◌, length, arith, sym, subst, take, List}
use Rattle.sas_task.specs.declared.contents.Fact.{Fact}
use Rattle.lm_backchain.specs.Asked.{HasSets}
use Rattle.lm_backchain.proofs.SharedConditions.{no_sets}
use Rattle.lm_backchain.proofs.ListLaws.{read_at, take_more_at, take_whole}
use Rattle.lm_backchain.proofs.taking_back.sets_of.Goals as goal

pub loop-seed-init : goal.loop-seed-init
loop-seed-init c = rw c.new-sets.ensures.items (no_sets c.args.task.now c.args.lists.now)

pub loop-seed-preserved : goal.loop-seed-preserved
loop-seed-preserved c =
    let at = read_at c.args.front.now c.loop-seed.seed-index (record { var = 0; val = 0 }) c.loop-seed-test.true in
    subst (λ (fs : List Fact). HasSets c.args.task.now c.args.lists.now fs c.add_set_of.new.sets.items) (sym (take_more_at c.args.front.now c.loop-seed.seed-index _ at))
    (c.in_ok-add_set_of.ensures (take c.loop-seed.seed-index c.args.front.now) c.loop-seed.invariant)

pub returns : goal.returns
returns c =
    let all : length c.args.front.now ≤ c.loop-seed.seed-index = omega arith in
    subst (λ (fs : List Fact). HasSets c.args.task.now c.args.lists.now fs c.loop-seed.sets.items) (take_whole c.args.front.now c.loop-seed.seed-index all) c.loop-seed.invariant
