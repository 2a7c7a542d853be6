-- The states of a run follow each other by steps.
use Rattle.std.proofs.Common.{◌≡◌, ◌∙◌, sym, ap, refl, subst, ℕ, zero, suc, List, [], ◌∷◌, Option, Some, None, slice_get, option_map, option_and_then}
use Rattle.std.proofs.lemmas.Option.{same_Some, none-some}
use Rattle.sas_task.specs.Runs.{states_of}
use Rattle.sas_task.specs.States.{step}
use Rattle.sas_task.specs.declared.contents.Parts.{Parts}

-- the parts of a run of one operator and more
record Begun (parts : Parts) (state : List ℕ) (op : ℕ) (ops : List ℕ) (states : List (List ℕ)) : Type 0 where
  next : List ℕ
  rest : List (List ℕ)
  taken : step parts state op ≡ Some next
  run : states_of parts next ops ≡ Some rest
  is : state ∷ rest ≡ states

begun : (parts : Parts) (state : List ℕ) (op : ℕ) (ops : List ℕ) (states : List (List ℕ)) → states_of parts state (op ∷ ops) ≡ Some states → Begun parts state op ops states
begun parts state op ops states h = by (step parts state op) refl h
  where
    inner : (next : List ℕ) → step parts state op ≡ Some next → (o : Option (List (List ℕ))) → states_of parts next ops ≡ o → option_map (λ more. state ∷ more) o ≡ Some states → Begun parts state op ops states
    inner next at None run is = absurd (none-some states is)
    inner next at (Some rest) run is = record { next = next; rest = rest; taken = at; run = run; is = same_Some _ _ is }

    by : (o : Option (List ℕ)) → step parts state op ≡ o → option_and_then (λ next. option_map (λ more. state ∷ more) (states_of parts next ops)) o ≡ Some states → Begun parts state op ops states
    by None at is = absurd (none-some states is)
    by (Some next) at is = inner next at (states_of parts next ops) refl is

-- a run begins with its state
pub run_first : (parts : Parts) (state : List ℕ) (ops : List ℕ) (states : List (List ℕ)) → states_of parts state ops ≡ Some states → slice_get states 0 ≡ Some state
run_first parts state [] states h = subst (λ ss. slice_get ss 0 ≡ Some state) (same_Some _ _ h) refl
run_first parts state (op ∷ ops) states h = subst (λ ss. slice_get ss 0 ≡ Some state) (begun parts state op ops states h).is refl

-- the state before one of a run, and the step from it
pub record IsStepIn (parts : Parts) (states : List (List ℕ)) (i : ℕ) (next : List ℕ) : Type 0 where
  pub before : List ℕ
  pub at : slice_get states i ≡ Some before
  pub op : ℕ
  pub taken : step parts before op ≡ Some next

pub run_step : (parts : Parts) (state : List ℕ) (ops : List ℕ) (states : List (List ℕ)) → states_of parts state ops ≡ Some states →
    (i : ℕ) (next : List ℕ) → slice_get states (suc i) ≡ Some next → IsStepIn parts states i next
run_step parts state [] states h i next at =
    let k : slice_get (state ∷ []) (suc i) ≡ Some next = ap (λ ss. slice_get ss (suc i)) (same_Some _ _ h) ∙ at in
    absurd (none-some next k)
run_step parts state (op ∷ ops) states h i next at =
    let b = begun parts state op ops states h in
    let k : slice_get b.rest i ≡ Some next = ap (λ (ss : List (List ℕ)). slice_get ss (suc i)) b.is ∙ at in
    subst (λ ss. IsStepIn parts ss i next) b.is (by b (λ j n. run_step parts b.next ops b.rest b.run j n) i k)
  where
    by : (b : Begun parts state op ops states) → ((j : ℕ) (n : List ℕ) → slice_get b.rest (suc j) ≡ Some n → IsStepIn parts b.rest j n) →
        (i : ℕ) → slice_get b.rest i ≡ Some next → IsStepIn parts (state ∷ b.rest) i next
    by b later zero at =
        let e : b.next ≡ next = same_Some _ _ (sym (run_first parts b.next ops b.rest b.run) ∙ at) in
        record { before = state; at = refl; op = op; taken = b.taken ∙ ap (λ n. Some n) e }
    by b later (suc i) at = let s = later i next at in record { before = s.before; at = s.at; op = s.op; taken = s.taken }
