-- Where the facts of a state after effects come from.
use Rattle.std.proofs.Common.{◌≡◌, ◌∙◌, sym, ap, refl, ℕ, zero, suc, ◌+◌, List, [], ◌∷◌, map, Bool, true, false, ◌&&◌, nat_eq, if◌then◌else◌, Some, slice_get, slice_index, inl, inr, ◌⊎◌, arith, add-zero}
use Rattle.std.specs.Prelude.{filter}
use Rattle.std.specs.List.{enumerate_from}
use Rattle.std.proofs.lemmas.Bool.{and_parts, and_from, eqb-true, eq-eqb}
use Rattle.sas_task.specs.States.{holds, fires, given, last_or, written}
use Rattle.sas_task.specs.declared.contents.Effect.{Effect}
use Rattle.sas_task.specs.declared.contents.Fact.{Fact}
use Rattle.relaxed_task.specs.Facts.{fact_at}
use Rattle.sas_task.proofs.FactLists.{same-true as facts_equal}
use Rattle.relaxed_task.proofs.ReachLaws.{Source}

later : (state : List ℕ) (e : Effect) (effects : List Effect) (f : Fact) → Source state effects f → Source state (e ∷ effects) f
later state e effects f s = record { effect = s.effect; place = suc s.place; at = s.at; fires = s.fires; gives = s.gives }

-- a value is kept, or the effect that is the last to give one is its source
last_source : (state : List ℕ) (effects : List Effect) (var value x : ℕ) → last_or value (given state effects var) ≡ x → (value ≡ x) ⊎ Source state effects (fact_at var x)
last_source state [] var value x is = inl is
last_source state (e ∷ effects) var value x is = by (λ v h. last_source state effects var v x h) (fires state e && nat_eq e.fact.var var) refl is
  where
    by : ((v : ℕ) → last_or v (given state effects var) ≡ x → (v ≡ x) ⊎ Source state effects (fact_at var x)) →
        (b : Bool) → (fires state e && nat_eq e.fact.var var) ≡ b → last_or value (map (λ e. e.fact.val) (if b then e ∷ filter (λ e. fires state e && nat_eq e.fact.var var) effects else filter (λ e. fires state e && nat_eq e.fact.var var) effects)) ≡ x →
        (value ≡ x) ⊎ Source state (e ∷ effects) (fact_at var x)
    by rest true fire is = elim (rest e.fact.val is) [
      | inl same ↦
          let p = and_parts _ _ fire in
          inr (record { effect = e; place = 0; at = refl; fires = p.0; gives = facts_equal e.fact (fact_at var x) (and_from _ _ p.1 (eq-eqb e.fact.val x same)) })
      | inr s ↦ inr (later state e effects _ s)
    ]
    by rest false fire is = elim (rest value is) [ inl same ↦ inl same | inr s ↦ inr (later state e effects _ s) ]

-- what is read of a state after effects: the old value, or what they give
read : (state : List ℕ) (effects : List Effect) (k : ℕ) (xs : List ℕ) (j : ℕ) →
    (slice_index (map (λ p. last_or p.1 (given state effects p.0)) (enumerate_from k xs)) j ≡ slice_index xs j) ⊎
    (slice_index (map (λ p. last_or p.1 (given state effects p.0)) (enumerate_from k xs)) j ≡ last_or (slice_index xs j) (given state effects (k + j)))
read state effects k [] j = inl refl
read state effects k (x ∷ xs) zero = inr (rw add-zero refl)
read state effects k (x ∷ xs) (suc j) = let e : (k + 1) + j ≡ k + suc j = omega arith in rw (← e) (read state effects (k + 1) xs j)

-- A fact after effects held before, or an effect gives it.
pub written_source : (state : List ℕ) (effects : List Effect) (f : Fact) → holds (written state effects) f ≡ true → (holds state f ≡ true) ⊎ Source state effects f
written_source state effects f h =
    let is : slice_index (written state effects) f.var ≡ f.val = eqb-true _ _ h in
    elim (read state effects 0 state f.var) [
      | inl same ↦ inl (eq-eqb _ _ (sym same ∙ is))
      | inr last ↦
          let z : 0 + f.var ≡ f.var = omega arith in
          by_source (sym (ap (λ k. last_or (slice_index state f.var) (given state effects k)) z) ∙ (sym last ∙ is))
    ]
  where
    by_source : last_or (slice_index state f.var) (given state effects f.var) ≡ f.val → (holds state f ≡ true) ⊎ Source state effects f
    by_source is = elim (last_source state effects f.var (slice_index state f.var) f.val is) [
      | inl same ↦ inl (eq-eqb _ _ same)
      | inr s ↦ inr s
    ]
