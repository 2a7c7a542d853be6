use Rattle.std.proofs.Common.{◌≡◌, ◌∙◌, ◌<◌, sym, ℕ, length, nat_le, ◌+◌, arith}
use Rattle.std.proofs.lemmas.Bool.Decides.{nat_tests}
use Rattle.axiom_eval.specs.Rules.{layer_at}
use Rattle.axiom_eval.proofs.TriedRules.{tried, due_room, from_next, those_more, past_end}
use Rattle.axiom_eval.proofs.layers.try_rules_of.Goals as goal

pub try_rule-requires-clause-room : goal.try_rule-requires-clause-room
try_rule-requires-clause-room c due =
    let at : layer_at c.args.rules.now c.loop-place.place ≡ c.args.layer = grind (arith, nat_tests, c.is_in.ensures, c.if-not-is_in.false) in
    let room = due_room c.args.parts.now c.args.rules.now c.args.layer c.loop-place.place _ c.loop-place.values c.loop-place.waiting.items (λ p. nat_le c.loop-place.place p) c.requires.formed c.requires.rules (omega arith) at c.loop-place.invariant.hearing c.loop-place.invariant.room due in
    omega (arith, room, c.loop-place.waiting.ok)

pub loop-place-preserved : goal.loop-place-preserved
loop-place-preserved c =
    let at : layer_at c.args.rules.now c.loop-place.place ≡ c.args.layer = grind (arith, nat_tests, c.is_in.ensures, c.if-not-is_in.false) in
    let lt : c.loop-place.place < length c.args.rules.now.heads = omega arith in
    let done = tried c.args.parts.now c.args.rules.now c.args.layer c.loop-place.place c.loop-place.values c.loop-place.waiting.items _ _ (λ p. nat_le c.loop-place.place p) (λ p. nat_le (c.loop-place.place + 1) p) c.requires.formed c.requires.rules lt at c.loop-place.invariant.hearing (λ p late. from_next c.loop-place.place p late) c.try_rule.ensures.values c.try_rule.ensures.waiting in
    record {
      hearing = done.hearing;
      between = λ start between. done.between start (c.loop-place.invariant.between start between);
      room = omega arith;
      those = those_more c.args.rules.now c.args.layer c.args.from c.loop-place.place c.loop-place.invariant.those at;
    }
