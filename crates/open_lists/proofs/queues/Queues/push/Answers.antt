use Rattle.std.proofs.Common.{◌≡◌, ◌≢◌, ◌<◌, [], ap, arith, length}
use Rattle.std.proofs.lemmas.Grind.{common_steps}
use Rattle.open_lists.specs.Runs.{entries_of_visit}
use Rattle.open_lists.proofs.Apart.{apart_first, apart_others, some_entries}
use Rattle.open_lists.proofs.queues.Queues.push.Goals as goal

pub invariant_of-self-then-key-self : goal.invariant_of-self-then-key-self
invariant_of-self-then-key-self c = record {
  apart = apart_first c.push-then-key-self.result c.args.self.now.least c.args.self.now.first c.push-then-key-self.new.self (entries_of_visit c.args.parent c.args.operators.now) c.args.self.now.others
      c.args.self.now.apart c.push-then-key-self.ensures.ok c.push-then-key-self.ensures.err;
}

pub invariant_of-self-2 : goal.invariant_of-self-2
invariant_of-self-2 c =
    let filled : c.args.self.now.first ≢ [] = λ none. let t = c.is_empty-2.ensures.1 none in grind (arith, common_steps, t) in
    let some : c.args.operators.now ≢ [] = λ none. let z : length c.args.operators.now ≡ 0 = ap length none in grind (arith, common_steps, z) in
    let above : c.args.self.now.least < c.args.key = omega arith in
    record {
      apart = apart_others c.put.result c.args.self.now.least c.args.key c.args.self.now.first (entries_of_visit c.args.parent c.args.operators.now) c.args.self.now.others c.put.new.map
          c.args.self.now.apart filled (some_entries c.args.parent c.args.operators.now some) above
          c.put.ensures.here c.put.ensures.others c.put.ensures.err;
    }
