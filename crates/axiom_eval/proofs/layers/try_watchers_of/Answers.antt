use Rattle.std.proofs.Common.{◌≡◌, ◌∙◌, ◌<◌, ◌≤◌, sym, ap, refl, ℕ, List, length, nat_eq, drop, get_or, ◌+◌, arith, false, true}
use Rattle.std.specs.Prelude.{vec_capacity}
use Rattle.std.specs.List.{list_any}
use Rattle.std.proofs.lemmas.Bool.Decides.{nat_tests}
use Rattle.axiom_eval.specs.Rules.{layer_at}
use Rattle.axiom_eval.proofs.TriedRules.{Tried, tried, passed, due_room, watching_next, watcher_within}
use Rattle.axiom_eval.proofs.layers.try_watchers_of.Goals as goal
use Rattle.axiom_eval.proofs.layers.try_watchers_of.Goals.{then-is_in, else-is_in}

pub try_rule-requires-clause-room : goal.try_rule-requires-clause-room
try_rule-requires-clause-room c due =
    let lt = watcher_within _ c.args.rules.now c.args.var c.loop-place.place-index c.row-watching.result.now c.requires.rules.within c.row-watching.ensures c.loop-place-test.true in
    let at : layer_at c.args.rules.now (get_or c.row-watching.result.now c.loop-place.place-index 0) ≡ c.args.layer = grind (arith, nat_tests, c.is_in.ensures, c.if-is_in.true) in
    let room = due_room c.args.parts.now c.args.rules.now c.args.layer (get_or c.row-watching.result.now c.loop-place.place-index 0) _ c.loop-place.values c.loop-place.waiting.items (λ p. list_any (nat_eq p) (drop c.loop-place.place-index c.row-watching.result.now)) c.requires.formed c.requires.rules lt at c.loop-place.invariant.hearing c.loop-place.invariant.room due in
    omega (arith, room, c.loop-place.waiting.ok)

pub loop-place-preserved : goal.loop-place-preserved
loop-place-preserved c =
    let row : List ℕ = c.row-watching.result.now in
    let lt = watcher_within _ c.args.rules.now c.args.var c.loop-place.place-index c.row-watching.result.now c.requires.rules.within c.row-watching.ensures c.loop-place-test.true in
    let done : Tried c.args.parts.now c.args.rules.now c.args.layer c.loop-place.values c.loop-place.waiting.items c.if-is_in.values c.if-is_in.waiting.items (λ p. list_any (nat_eq p) (drop (c.loop-place.place-index + 1) c.row-watching.result.now)) =
    elim c.if-is_in.branch [
      | then-is_in w ↦
          let at : layer_at c.args.rules.now (get_or c.row-watching.result.now c.loop-place.place-index 0) ≡ c.args.layer = grind (arith, nat_tests, c.is_in.ensures, w.if-is_in.true) in
          tried c.args.parts.now c.args.rules.now c.args.layer (get_or c.row-watching.result.now c.loop-place.place-index 0) c.loop-place.values c.loop-place.waiting.items _ _ (λ p. list_any (nat_eq p) (drop c.loop-place.place-index c.row-watching.result.now)) _ c.requires.formed c.requires.rules lt at c.loop-place.invariant.hearing (λ p late. watching_next c.row-watching.result.now c.loop-place.place-index _ p c.loop-place-test.true refl late) (w.values-is ∙ w.try_rule.ensures.values) (ap (λ v. v.items) w.waiting-is ∙ w.try_rule.ensures.waiting)
      | else-is_in w ↦
          let other : nat_eq (layer_at c.args.rules.now (get_or c.row-watching.result.now c.loop-place.place-index 0)) c.args.layer ≡ false = sym c.is_in.ensures ∙ w.if-is_in.false in
          passed c.args.parts.now c.args.rules.now c.args.layer (get_or c.row-watching.result.now c.loop-place.place-index 0) c.loop-place.values c.loop-place.waiting.items _ _ (λ p. list_any (nat_eq p) (drop c.loop-place.place-index c.row-watching.result.now)) _ c.loop-place.invariant.hearing (λ p late. watching_next c.row-watching.result.now c.loop-place.place-index _ p c.loop-place-test.true refl late) other w.values-is (ap (λ v. v.items) w.waiting-is)
    ] in
    let room : length c.args.parts.now.variables ≤ vec_capacity c.if-is_in.waiting = elim c.if-is_in.branch [ then-is_in w ↦ omega (arith, ap vec_capacity w.waiting-is) | else-is_in w ↦ omega (arith, ap vec_capacity w.waiting-is) ] in
    record {
      hearing = done.hearing;
      between = λ start between. done.between start (c.loop-place.invariant.between start between);
      room = room;
      left = done.left ∙ c.loop-place.invariant.left;
    }
