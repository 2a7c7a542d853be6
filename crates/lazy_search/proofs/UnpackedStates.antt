-- States that are unpacked.
use Rattle.std.proofs.Common.{◌≡◌, ℕ, zero, suc, List, [], ◌∷◌, ◌++◌, take, drop, length, slice_get, Some, refl, ap, sym, ◌∙◌, subst, arith}
use Rattle.sas_task.specs.declared.contents.Parts.{Parts}
use Rattle.sas_task.specs.States.{IsState}
use Rattle.packed_state.specs.Packing.{Places, packed, CanHold}
use Rattle.lazy_search.specs.declared.states.States.{States}
use Rattle.lazy_search.specs.States.{AreFor}

-- words under a number are those of the state that is kept there
pub words_are : (states : States) (id : ℕ) (words state : List ℕ) → slice_get states.registry.states id ≡ Some words → slice_get states.registry.states id ≡ Some (packed states.registry.layout state) → words ≡ packed states.registry.layout state
words_are states id words state at stored = let e : Some words ≡ Some (packed states.registry.layout state) = sym at ∙ stored in cc

pub words_long : (states : States) (parts : Parts) (id : ℕ) (words state : List ℕ) → AreFor states parts → slice_get states.registry.states id ≡ Some words → slice_get states.registry.states id ≡ Some (packed states.registry.layout state) → length words ≡ states.registry.layout.words
words_long states parts id words state ready at stored = ap length (words_are states id words state at stored) ∙ ready.layout.wide state

pub unpacked : (states : States) (parts : Parts) (id : ℕ) (words here state : List ℕ) (layout : Places) → AreFor states parts → layout ≡ states.registry.layout → slice_get states.registry.states id ≡ Some words → IsState parts.variables state
    → slice_get states.registry.states id ≡ Some (packed states.registry.layout state) → ((s : List ℕ) → CanHold layout s → words ≡ packed layout s → here ≡ s) → here ≡ state
unpacked states parts id words here state layout ready same at is stored made =
    made state (subst (λ (l : Places). CanHold l state) (sym same) (ready.layout.holds state is)) (words_are states id words state at stored ∙ ap (λ (l : Places). packed l state) (sym same))

-- what was written over a whole vector
take_front : (out ys : List ℕ) (n : ℕ) → n ≡ length out → take n (out ++ ys) ≡ out
take_front [] ys zero e = refl
take_front [] ys (suc n) e = absurd (omega (arith, e))
take_front (x ∷ out) ys zero e = absurd (omega (arith, e))
take_front (x ∷ out) ys (suc n) e = ap (λ (zs : List ℕ). x ∷ zs) (take_front out ys n (omega (arith, e)))

pub written_whole : (xs out : List ℕ) (n : ℕ) → n ≡ length xs → length out ≡ length xs → take n (out ++ drop (length out) xs) ≡ out
written_whole xs out n is same = take_front out (drop (length out) xs) n (is ∙ sym same)
