use Rattle.std.proofs.Common.{arith}
use Rattle.cost_queue.specs.OneMeaning.{stands_for}
use Rattle.cost_queue.proofs.QueueLaws.{all_high, first_within, taken_low, popped_low}
use Rattle.cost_queue.proofs.queue.CostQueue.pop.Goals as goal

pub pop_high-requires : goal.pop_high-requires
pop_high-requires c =
    let q = rw c.self.view_is at c.self.inside.prices.1.1 in
    all_high q (rw c.deref.ensures.value at c.in_default.ensures.none)

pub index-requires : goal.index-requires
index-requires c =
    let q = rw c.self.view_is at c.self.inside.prices.1.1 in
    let found = rw c.deref.ensures.value at c.in-Some.ensures in
    let within = first_within q found.some found.none in
    omega arith

pub invariant_of-self-inside : goal.invariant_of-self-inside
invariant_of-self-inside c =
    let q = rw c.self.view_is at c.self.inside.prices.1.1 in
    let found = rw c.deref.ensures.value at c.in-Some.ensures in
    ((_, (_, popped_low q found.some found.none c.index.ensures)), tt)

pub returns : goal.returns
returns c =
    let q = rw c.self.view_is at c.self.inside.prices.1.1 in
    let found = rw c.deref.ensures.value at c.in-Some.ensures in
    let taken = taken_low q found.some found.none in
    let is = popped_low q found.some found.none c.index.ensures in
    record { waited = taken.waited; rest = search (stands_for, is); least = taken.least }
