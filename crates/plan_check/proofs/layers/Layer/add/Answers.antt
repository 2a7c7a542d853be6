use Rattle.std.proofs.Common.{◌≡◌, ◌∙◌, ap, arith, length, List, ℕ, ◌++◌, ◌∷◌, []}
use Rattle.plan_check.specs.Layers.{pair_words}
use Rattle.plan_check.proofs.Vectors.{new_is, added_is, written_back}
use Rattle.plan_check.proofs.layers.Layer.add.Goals as goal

pub returns-clause-new : goal.returns-clause-new
returns-clause-new c =
    let value = ap (λ (xs : List ℕ). length xs) c.deref_mut.ensures.value in
    let long : length c.pack.new.out ≡ length c.in_ok-words.words.items = omega (arith, c.pack.auto.out, value) in
    let back = written_back c.in_ok-words.words.len c.pack.new.out c.in_ok-words.words.items long (omega (arith, c.in_ok-words.words.ok.0)) in
    let words : c.push.new.self.items ≡ pair_words c.args.layout.now c.args.state.now c.args.cost = c.in_ok-push.ensures.items ∙ ap (λ (ws : List ℕ). ws ++ c.args.cost ∷ []) (back ∙ c.pack.ensures) in
    new_is c.self.inside.pairs.keys c.insert_full.new.self.keys c.push.new.self _ c.in_ok-new.new _ c.self.view_is words c.in_ok-new.ensures.added

pub returns-clause-added : goal.returns-clause-added
returns-clause-added c =
    let value = ap (λ (xs : List ℕ). length xs) c.deref_mut.ensures.value in
    let long : length c.pack.new.out ≡ length c.in_ok-words.words.items = omega (arith, c.pack.auto.out, value) in
    let back = written_back c.in_ok-words.words.len c.pack.new.out c.in_ok-words.words.items long (omega (arith, c.in_ok-words.words.ok.0)) in
    let words : c.push.new.self.items ≡ pair_words c.args.layout.now c.args.state.now c.args.cost = c.in_ok-push.ensures.items ∙ ap (λ (ws : List ℕ). ws ++ c.args.cost ∷ []) (back ∙ c.pack.ensures) in
    added_is c.self.inside.pairs.keys c.insert_full.new.self.keys c.push.new.self _ c.in_ok-new.new _ c.self.view_is words c.in_ok-new.ensures.added c.in_ok-new.ensures.keys
