-- The operators that give some facts, as they are found.
use Rattle.std.proofs.Common.{◌≡◌, ◌∙◌, sym, ap, refl, subst, ℕ, ◌+◌, ◌<◌, List, [], ◌∷◌, ◌++◌, map, take, length, Bool, true, false, ◌||◌, ◌&&◌, nat_eq, nat_lt, Option, Some, None, slice_get, inl, inr, ◌⊎◌, arith}
use Rattle.std.specs.List.{list_any}
use Rattle.std.proofs.lemmas.Bool.{eq-eqb, lt-ltb, cases_order}
use Rattle.std.proofs.lemmas.Bool.Decides.{nat_tests}
use Rattle.std.proofs.lemmas.List.Folds.{list_any-append}
use Rattle.std.proofs.lemmas.Option.{slice_get_within}
use Rattle.sas_task.specs.Facts.{same_fact, has_fact}
use Rattle.sas_task.specs.declared.contents.Effect.{Effect}
use Rattle.sas_task.specs.declared.contents.Fact.{Fact}
use Rattle.sas_task.specs.declared.contents.Operator.{Operator}
use Rattle.sas_task.specs.declared.contents.Parts.{Parts}
use Rattle.relaxed_task.proofs.Elements.{any_at}
use Rattle.relaxed_task.specs.Facts.{over_facts}
use Rattle.relaxed_task.specs.Numbers.{is_among}
use Rattle.relaxed_task.proofs.PlanLaws.{has_append}
use Rattle.lm_graph.specs.declared.fact_table.FactTable.{FactTable}
use Rattle.lm_graph.specs.FactTables.{numbers_at, AddsNumber}
use Rattle.lm_backchain.specs.Backchain.{has, gives_one}
use Rattle.lm_backchain.specs.Givers.{gives_at, FindsGivers, AreGivers}
use Rattle.lm_backchain.proofs.ListLaws.{take_more_at}

pub gives_at_of : (parts : Parts) (facts : List Fact) (op : ℕ) (o : Operator) → slice_get parts.operators op ≡ Some o → gives_at parts facts op ≡ gives_one facts o
gives_at_of parts facts op o at = rw at refl

gives_past : (parts : Parts) (facts : List Fact) (op : ℕ) → slice_get parts.operators op ≡ None → gives_at parts facts op ≡ false
gives_past parts facts op at = rw at refl

-- an operator that gives one of the facts
pub gives_from : (parts : Parts) (facts : List Fact) (op : ℕ) → gives_at parts facts op ≡ true → (o : Operator) × (slice_get parts.operators op ≡ Some o) × (gives_one facts o ≡ true)
gives_from parts facts op h = found (slice_get parts.operators op) refl
  where
    found : (o : Option Operator) → slice_get parts.operators op ≡ o → (o : Operator) × (slice_get parts.operators op ≡ Some o) × (gives_one facts o ≡ true)
    found None at = let k : false ≡ true = sym (gives_past parts facts op at) ∙ h in absurd (cc)
    found (Some o) at = (o, at, sym (gives_at_of parts facts op o at) ∙ h)

pub gives_within : (parts : Parts) (facts : List Fact) (op : ℕ) → gives_at parts facts op ≡ true → op < length parts.operators
gives_within parts facts op h = let g = gives_from parts facts op h in slice_get_within parts.operators op g.0 g.1

-- the operators of a list are there
pub given_within : (parts : Parts) (facts : List Fact) (ops : List ℕ) (place op : ℕ) → AreGivers parts facts ops → slice_get ops place ≡ Some op → op < length parts.operators
given_within parts facts ops place op are at = gives_within parts facts op (sym (are.each op) ∙ any_at (nat_eq op) ops place op at (eq-eqb op op refl))

-- an operator with an effect that gives one of the facts is there
pub given_there : (parts : Parts) (facts : List Fact) (ops : List ℕ) (op place : ℕ) (o : Operator) (e : Effect) → AreGivers parts facts ops → slice_get parts.operators op ≡ Some o → slice_get o.effects place ≡ Some e → has facts e.fact ≡ true → is_among ops op ≡ true
given_there parts facts ops op place o e are at own gives =
    are.each op ∙ (gives_at_of parts facts op o at ∙ any_at (λ (x : Effect). has facts x.fact) o.effects place e own gives)

gives_none : (parts : Parts) (op : ℕ) → gives_at parts [] op ≡ false
gives_none parts op = found (slice_get parts.operators op) refl
  where
    none : (effects : List Effect) → list_any (λ (e : Effect). has [] e.fact) effects ≡ false
    none [] = refl
    none (e ∷ effects) = none effects

    found : (o : Option Operator) → slice_get parts.operators op ≡ o → gives_at parts [] op ≡ false
    found None at = gives_past parts [] op at
    found (Some o) at = gives_at_of parts [] op o at ∙ none o.effects

gives_append : (parts : Parts) (xs ys : List Fact) (op : ℕ) → gives_at parts (xs ++ ys) op ≡ (gives_at parts xs op || gives_at parts ys op)
gives_append parts xs ys op = found (slice_get parts.operators op) refl
  where
    mix : (a b c d : Bool) → ((a || b) || (c || d)) ≡ ((a || c) || (b || d))
    mix true b c d = refl
    mix false true true d = refl
    mix false true false d = refl
    mix false false c d = refl

    all : (effects : List Effect) → list_any (λ (e : Effect). has (xs ++ ys) e.fact) effects ≡ (list_any (λ (e : Effect). has xs e.fact) effects || list_any (λ (e : Effect). has ys e.fact) effects)
    all [] = refl
    all (e ∷ effects) =
        ap (λ b. b || list_any (λ (x : Effect). has (xs ++ ys) x.fact) effects) (has_append over_facts xs ys e.fact)
        ∙ (ap (λ b. (has xs e.fact || has ys e.fact) || b) (all effects)
        ∙ mix (has xs e.fact) (has ys e.fact) (list_any (λ (x : Effect). has xs x.fact) effects) (list_any (λ (x : Effect). has ys x.fact) effects))

    found : (o : Option Operator) → slice_get parts.operators op ≡ o → gives_at parts (xs ++ ys) op ≡ (gives_at parts xs op || gives_at parts ys op)
    found None at = gives_past parts (xs ++ ys) op at ∙ sym (ap (λ b. b || gives_at parts ys op) (gives_past parts xs op at) ∙ gives_past parts ys op at)
    found (Some o) at =
        gives_at_of parts (xs ++ ys) op o at
        ∙ (all o.effects
        ∙ sym (ap (λ b. b || gives_at parts ys op) (gives_at_of parts xs op o at) ∙ ap (λ b. gives_one xs o || b) (gives_at_of parts ys op o at)))

-- what the effects give
gives_effects : (fact : Fact) (effects : List Effect) → list_any (λ (e : Effect). has (fact ∷ []) e.fact) effects ≡ has_fact (map (λ (e : Effect). e.fact) effects) fact
gives_effects fact [] = refl
gives_effects fact (e ∷ effects) =
    ap (λ b. (same_fact e.fact fact || false) || b) (gives_effects fact effects) ∙ ap (λ b. b || has_fact (map (λ (x : Effect). x.fact) effects) fact) (or_false (same_fact e.fact fact))
  where
    or_false : (b : Bool) → (b || false) ≡ b
    or_false true = refl
    or_false false = refl

pub finds_none : (parts : Parts) (table : FactTable) → ((fact : Fact) → numbers_at table fact ≡ []) → FindsGivers parts 0 table
finds_none parts table none = record {
  each = λ fact op.
      let out : nat_lt op 0 ≡ false = grind (arith, nat_tests) in
      ap (λ (ops : List ℕ). is_among ops op) (none fact) ∙ sym (ap (λ b. b && gives_at parts (fact ∷ []) op) out);
}

-- one operator more
pub finds_more : (parts : Parts) (old new : FactTable) (n : ℕ) (o : Operator) (facts : List Fact) → FindsGivers parts n old → slice_get parts.operators n ≡ Some o → facts ≡ map (λ e. e.fact) o.effects → AddsNumber old new facts n →
    FindsGivers parts (n + 1) new
finds_more parts old new n o facts so_far at is adds = record {
  each = λ fact op.
      adds.each fact (nat_eq op)
      ∙ (ap (λ b. b || (has_fact facts fact && nat_eq op n)) (so_far.each fact op)
      ∙ (ap (λ b. (nat_lt op n && gives_at parts (fact ∷ []) op) || (b && nat_eq op n)) (own fact)
      ∙ by fact op (cases_order op n)));
}
  where
    own : (fact : Fact) → has_fact facts fact ≡ gives_at parts (fact ∷ []) n
    own fact = ap (λ (fs : List Fact). has_fact fs fact) is ∙ sym (gives_at_of parts (fact ∷ []) n o at ∙ gives_effects fact o.effects)

    here : (a b c : Bool) (g : Bool) → a ≡ false → b ≡ true → c ≡ true → ((a && g) || (g && b)) ≡ (c && g)
    here a b c g x y z = rw (x, y, z) (by g)
      where
        by : (g : Bool) → (g && true) ≡ g
        by true = refl
        by false = refl

    below : (a b c : Bool) (g h : Bool) → a ≡ true → b ≡ false → c ≡ true → ((a && g) || (h && b)) ≡ (c && g)
    below a b c g h x y z = rw (x, y, z) (by g h)
      where
        by : (g h : Bool) → (g || (h && false)) ≡ g
        by true h = refl
        by false true = refl
        by false false = refl

    above : (a b c : Bool) (g h : Bool) → a ≡ false → b ≡ false → c ≡ false → ((a && g) || (h && b)) ≡ (c && g)
    above a b c g h x y z = rw (x, y, z) (by h)
      where
        by : (h : Bool) → (h && false) ≡ false
        by true = refl
        by false = refl

    by : (fact : Fact) (op : ℕ) → (op ≡ n) ⊎ ((op < n) ⊎ (n < op)) → ((nat_lt op n && gives_at parts (fact ∷ []) op) || (gives_at parts (fact ∷ []) n && nat_eq op n)) ≡ (nat_lt op (n + 1) && gives_at parts (fact ∷ []) op)
    by fact op (inl e) =
        subst (λ k. ((nat_lt op n && gives_at parts (fact ∷ []) op) || (gives_at parts (fact ∷ []) k && nat_eq op n)) ≡ (nat_lt op (n + 1) && gives_at parts (fact ∷ []) op)) e
        (here (nat_lt op n) (nat_eq op n) (nat_lt op (n + 1)) (gives_at parts (fact ∷ []) op) (grind (arith, nat_tests)) (grind (arith, nat_tests)) (grind (arith, nat_tests)))
    by fact op (inr (inl lt)) = below (nat_lt op n) (nat_eq op n) (nat_lt op (n + 1)) (gives_at parts (fact ∷ []) op) (gives_at parts (fact ∷ []) n) (grind (arith, nat_tests)) (grind (arith, nat_tests)) (grind (arith, nat_tests))
    by fact op (inr (inr gt)) = above (nat_lt op n) (nat_eq op n) (nat_lt op (n + 1)) (gives_at parts (fact ∷ []) op) (gives_at parts (fact ∷ []) n) (grind (arith, nat_tests)) (grind (arith, nat_tests)) (grind (arith, nat_tests))

pub givers_none : (parts : Parts) → AreGivers parts [] []
givers_none parts = record { each = λ op. sym (gives_none parts op) }

-- those of one fact more
pub givers_more : (parts : Parts) (table : FactTable) (facts : List Fact) (i : ℕ) (fact : Fact) (ops more : List ℕ) → FindsGivers parts (length parts.operators) table → slice_get facts i ≡ Some fact → more ≡ ops ++ numbers_at table fact →
    AreGivers parts (take i facts) ops → AreGivers parts (take (i + 1) facts) more
givers_more parts table facts i fact ops more finds at is so_far = record {
  each = λ op.
      ap (λ (ns : List ℕ). is_among ns op) is
      ∙ (list_any-append (nat_eq op) ops (numbers_at table fact)
      ∙ (ap (λ b. b || is_among (numbers_at table fact) op) (so_far.each op)
      ∙ (ap (λ b. gives_at parts (take i facts) op || b) (finds.each fact op ∙ there op (gives_at parts (fact ∷ []) op) refl)
      ∙ sym (ap (λ (fs : List Fact). gives_at parts fs op) (take_more_at facts i fact at) ∙ gives_append parts (take i facts) (fact ∷ []) op))));
}
  where
    there : (op : ℕ) (b : Bool) → gives_at parts (fact ∷ []) op ≡ b → (nat_lt op (length parts.operators) && b) ≡ b
    there op true h = ap (λ b. b && true) (lt-ltb op _ (gives_within parts (fact ∷ []) op h))
    there op false h = none (nat_lt op (length parts.operators))
      where
        none : (b : Bool) → (b && false) ≡ false
        none true = refl
        none false = refl
