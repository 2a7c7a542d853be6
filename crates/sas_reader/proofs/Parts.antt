-- Variables, initial values and effects that were read, before those to come.
use Rattle.std.proofs.Common.{◌≡◌, ◌∙◌, refl, ℕ, suc, ◌+◌, ◌-◌, ◌<◌, ◌≤◌, ◌++◌, ◌∷◌, [], List, length, drop, get_or, Ok, Err, Option, append_assoc, arith}
use Rattle.std.specs.Prelude.{option_to_list}
use Rattle.std.proofs.lemmas.List.{append-nil}
use Rattle.lama_num.specs.Gives.{◌>>=◌, Fails}
use Rattle.text_lines.specs.Lines.{Place}
use Rattle.sas_reader.specs.Formats.{Below, EffectIn, line, times, each}
use Rattle.sas_reader.specs.TaskText.{variable, variables_from, initial}
use Rattle.sas_reader.specs.Walks.{walk, next, fault_of, changed}
use Rattle.sas_reader.proofs.FormatWalks.{Walked, bind_same, walk_on, behind, behind_cons, times_suc, row_more, row_fail}
use Rattle.sas_task.specs.declared.contents.Fact.{Fact}
use Rattle.sas_task.specs.declared.contents.Effect.{Effect}
use Rattle.sas_task.specs.declared.contents.Variable.{Variable}
use Rattle.sas_reader.specs.declared.faults.SasFault.{SasFault}
use Rattle.sas_reader.specs.declared.faults.SasError.{SasError}
use Rattle.sas_reader.specs.declared.faults.SasError.TheVariants.{Bad, NoMemory}

pub variables_suc : (n var before : ℕ) (place : Place) →
    walk (variables_from (suc n) var before) place ≡ (walk (variable var before) place >>= λ v. walk (variables_from n (var + 1) (before + length v.0.values)) v.1 >>= λ vs. Ok (v.0 ∷ vs.0, vs.1))
unfolding variables_from
variables_suc n var before place = walk_on (variable var before) _ place ∙ bind_same (walk (variable var before) place) _ _ (λ v. walk_on (variables_from n (var + 1) (before + length v.0.values)) _ v.1)

-- one more variable
pub variables_more : (front : List Variable) (n i before : ℕ) (place rest : Place) (v : Variable) → i < n → walk (variable i before) place ≡ Ok (v, rest) →
    behind (front ++ v ∷ []) (walk (variables_from (n - (i + 1)) (i + 1) (before + length v.values)) rest) ≡ behind front (walk (variables_from (n - i) i before) place)
variables_more front n i before place rest v lt is =
    let one : n - i ≡ suc (n - (i + 1)) = omega arith in
    rw (one, variables_suc (n - (i + 1)) i before place, is) (behind_cons front v (walk (variables_from (n - (i + 1)) (i + 1) (before + length v.values)) rest))

-- none is left
pub variables_none : (front : List Variable) (n i before : ℕ) (place : Place) → n ≤ i → behind front (walk (variables_from (n - i) i before) place) ≡ Ok (front, place)
unfolding variables_from
variables_none front n i before place le = let none : n - i ≡ 0 = omega arith in rw (none, append-nil front) refl

-- a fault
pub variables_fail : (front : List Variable) (n i before : ℕ) (place : Place) (fault : SasFault) → i < n → walk (variable i before) place ≡ Err fault →
    behind front (walk (variables_from (n - i) i before) place) ≡ Err fault
variables_fail front n i before place fault lt is = let one : n - i ≡ suc (n - (i + 1)) = omega arith in rw (one, variables_suc (n - (i + 1)) i before place, is) refl

pub ruleset variables_loop = (variables_more, variables_none, variables_fail)

-- one more initial value
pub values_more : (front : List ℕ) (vs : List Variable) (i : ℕ) (v : Variable) (place rest : Place) (value : ℕ) → i < length vs → next (Below (length (get_or vs i v).values)) place ≡ Ok (value, rest) →
    behind (front ++ value ∷ []) (walk (each initial (drop (i + 1) vs)) rest) ≡ behind front (walk (each initial (drop i vs)) place)
values_more front vs i v place rest value lt is = row_more initial front vs i v place rest value lt (rw is refl)

-- a fault in one
pub values_fail : (front : List ℕ) (vs : List Variable) (i : ℕ) (v : Variable) (place : Place) (e : SasError) → i < length vs → Fails (fault_of e) (next (Below (length (get_or vs i v).values)) place) →
    Fails (fault_of e) (behind front (walk (each initial (drop i vs)) place))
values_fail front vs i v place (Bad fault) lt is = row_fail initial front vs i v place fault lt (rw is refl)
values_fail front vs i v place NoMemory lt is = tt

-- one more effect
pub changes_more : (vs : List Variable) (pre : List Fact) (effects : List Effect) (n i : ℕ) (place rest : Place) (e : Option Fact × Effect) → i < n → next (EffectIn vs) place ≡ Ok (e, rest) →
    changed (pre ++ option_to_list e.0) (effects ++ e.1 ∷ []) (walk (times (n - (i + 1)) (line (EffectIn vs))) rest) ≡ changed pre effects (walk (times (n - i) (line (EffectIn vs))) place)
changes_more vs pre effects n i place rest e lt is =
    let one : n - i ≡ suc (n - (i + 1)) = omega arith in
    rw (one, times_suc (line (EffectIn vs)) (n - (i + 1)) place, is) (next_one (walk (times (n - (i + 1)) (line (EffectIn vs))) rest))
  where
    next_one : (r : Walked (List (Option Fact × Effect))) → changed (pre ++ option_to_list e.0) (effects ++ e.1 ∷ []) r ≡ changed pre effects (r >>= λ xs. Ok (e ∷ xs.0, xs.1))
    next_one (Ok xs) = simp append_assoc
    next_one (Err fault) = refl

-- none is left
pub changes_none : (vs : List Variable) (pre : List Fact) (effects : List Effect) (n i : ℕ) (place : Place) → n ≤ i → changed pre effects (walk (times (n - i) (line (EffectIn vs))) place) ≡ Ok ((pre, effects), place)
unfolding times
changes_none vs pre effects n i place le = let none : n - i ≡ 0 = omega arith in rw (none, append-nil pre, append-nil effects) refl

-- a fault
pub changes_fail : (vs : List Variable) (pre : List Fact) (effects : List Effect) (n i : ℕ) (place : Place) (e : SasError) → i < n → Fails (fault_of e) (next (EffectIn vs) place) →
    Fails (fault_of e) (changed pre effects (walk (times (n - i) (line (EffectIn vs))) place))
changes_fail vs pre effects n i place (Bad fault) lt is = let one : n - i ≡ suc (n - (i + 1)) = omega arith in rw (one, times_suc (line (EffectIn vs)) (n - (i + 1)) place, is) refl
changes_fail vs pre effects n i place NoMemory lt is = tt
