use Rattle.std.proofs.Common.{◌≡◌, ◌<◌, ℕ, List, length, None, sym, ap, ◌∙◌, subst, arith, is_some}
use Rattle.state_registry.specs.Interning.{Interns, IsAbsent, words_of}
use Rattle.state_registry.specs.declared.interned.Interned.TheVariants.{New, Known, Full}
use Rattle.state_registry.proofs.Vectors.{wide_known, wide_new, wide_full, wide_absent, words_of-length}
use Rattle.state_registry.proofs.StateLookUps.{on_err}
use Rattle.state_registry.proofs.wide.Wide.intern.Goals as goal

pub returns-in-Some-clause-ok : goal.returns-in-Some-clause-ok
returns-in-Some-clause-ok c =
    let keys = c.self.inside.set.keys in
    let known = wide_known keys c.args.packed.now c.in-Some.index c.args.most (sym c.get_index_of.ensures.index ∙ c.in-Some.is) in
    subst (λ (s : List (List ℕ)). Interns s c.args.most c.args.packed.now (Known c.in-Some.index) s) c.self.view_is known

pub returns-in_ok-insert_full-clause-ok : goal.returns-in_ok-insert_full-clause-ok
returns-in_ok-insert_full-clause-ok c =
    let keys = c.self.inside.set.keys in
    let none : c.get_index_of.result ≡ None = cc in
    let absent = sym c.get_index_of.ensures.found ∙ ap is_some none in
    let place : c.len-id.result ≡ length (words_of keys) = c.len-id.ensures.len ∙ sym (words_of-length keys) in
    let few : length (words_of keys) < c.args.most = omega arith in
    let put = wide_new keys c.insert_full.new.self.keys c.in_ok-words.words c.args.packed.now c.len-id.result c.args.most absent c.in_ok-words.ensures.items c.in_ok-insert_full.ensures.keys place few in
    subst (λ (s : List (List ℕ)). Interns s c.args.most c.args.packed.now (New c.len-id.result) (words_of c.insert_full.new.self.keys)) c.self.view_is put

pub returns-else-id-most-clause-ok : goal.returns-else-id-most-clause-ok
returns-else-id-most-clause-ok c =
    let keys = c.self.inside.set.keys in
    let none : c.get_index_of.result ≡ None = cc in
    let absent = sym c.get_index_of.ensures.found ∙ ap is_some none in
    let place : c.len-id.result ≡ length (words_of keys) = c.len-id.ensures.len ∙ sym (words_of-length keys) in
    let same : length (words_of keys) ≡ length c.args.self.now = ap length c.self.view_is in
    let full : length (words_of keys) ≡ c.args.most = omega (arith, c.requires) in
    subst (λ (s : List (List ℕ)). Interns s c.args.most c.args.packed.now Full s) c.self.view_is (wide_full keys c.args.packed.now c.args.most absent full)

pub returns-in_err-words-clause-only_new : goal.returns-in_err-words-clause-only_new
returns-in_err-words-clause-only_new c =
    let none : c.get_index_of.result ≡ None = cc in
    let absent = wide_absent c.self.inside.set.keys c.args.packed.now (sym c.get_index_of.ensures.found ∙ ap is_some none) in
    on_err c.from_residual.result (IsAbsent c.args.self.now c.args.packed.now) (subst (λ (s : List (List ℕ)). IsAbsent s c.args.packed.now) c.self.view_is absent)

pub returns-in_err-insert_full-clause-only_new : goal.returns-in_err-insert_full-clause-only_new
returns-in_err-insert_full-clause-only_new c =
    let none : c.get_index_of.result ≡ None = cc in
    let absent = wide_absent c.self.inside.set.keys c.args.packed.now (sym c.get_index_of.ensures.found ∙ ap is_some none) in
    on_err c.from_residual-in_err-insert_full.result (IsAbsent c.args.self.now c.args.packed.now) (subst (λ (s : List (List ℕ)). IsAbsent s c.args.packed.now) c.self.view_is absent)
