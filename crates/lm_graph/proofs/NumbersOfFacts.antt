-- Numbers under facts.
use Rattle.std.proofs.Common.{◌≡◌, ◌≢◌, ◌∙◌, sym, ap, refl, ℕ, ◌+◌, ◌<◌, List, [], ◌∷◌, ◌++◌, length, take, get_or, Bool, true, false, ◌||◌, ◌&&◌, Option, Some, unwrap_or, if◌then◌else◌}
use Rattle.indexmap.specs.IndexMap.{get}
use Rattle.std.specs.List.{list_any}
use Rattle.std.proofs.lemmas.List.Folds.{list_any_more, list_any-append}
use Rattle.sas_task.specs.Facts.{same_fact, has_fact}
use Rattle.sas_task.specs.declared.contents.Fact.{Fact}
use Rattle.lm_graph.specs.declared.fact_table.FactTable.{FactTable}
use Rattle.lm_graph.specs.FactTables.{numbers_at, PutsNumber, AddsNumber}
use Rattle.lm_graph.proofs.FactLookUps.{facts_equal}
use Rattle.sas_task.proofs.FactLists.{same-refl as same_itself}

pub adds_none : (table : FactTable) (number : ℕ) → AddsNumber table table [] number
adds_none table number = record { each = λ fact test. or_false (list_any test (numbers_at table fact)) }
  where
    or_false : (b : Bool) → b ≡ (b || false)
    or_false true = refl
    or_false false = refl

-- one more fact
pub adds_more : (old now new : FactTable) (facts : List Fact) (k : ℕ) (fact d : Fact) (number : ℕ) → k < length facts → fact ≡ get_or facts k d →
    AddsNumber old now (take k facts) number → PutsNumber now new fact number → AddsNumber old new (take (k + 1) facts) number
adds_more old now new facts k fact d number lt is so_far puts = record { each = λ other test. by other test (same_fact fact other) refl }
  where
    more : (other : Fact) → has_fact (take (k + 1) facts) other ≡ (has_fact (take k facts) other || same_fact fact other)
    more other = list_any_more (λ f. same_fact f other) facts k d lt ∙ ap (λ f. has_fact (take k facts) other || same_fact f other) (sym is)

    joined : (a h t : Bool) → ((a || (h && t)) || (t || false)) ≡ (a || ((h || true) && t))
    joined true h t = refl
    joined false true true = refl
    joined false true false = refl
    joined false false true = refl
    joined false false false = refl

    kept : (a h t : Bool) → (a || (h && t)) ≡ (a || ((h || false) && t))
    kept a true t = refl
    kept a false t = refl

    by : (other : Fact) (test : ℕ → Bool) (s : Bool) → same_fact fact other ≡ s → list_any test (numbers_at new other) ≡ (list_any test (numbers_at old other) || (has_fact (take (k + 1) facts) other && test number))
    by other test true same =
        let e = facts_equal fact other same in
        let here : numbers_at new other ≡ numbers_at now other ++ number ∷ [] = ap (numbers_at new) (sym e) ∙ (puts.here ∙ ap (λ f. numbers_at now f ++ number ∷ []) e) in
        ap (list_any test) here
        ∙ (list_any-append test (numbers_at now other) (number ∷ [])
        ∙ (ap (λ b. b || (test number || false)) (so_far.each other test)
        ∙ (joined (list_any test (numbers_at old other)) (has_fact (take k facts) other) (test number)
        ∙ ap (λ b. list_any test (numbers_at old other) || (b && test number)) (sym (more other ∙ ap (λ b. has_fact (take k facts) other || b) same)))))
    by other test false apart =
        ap (list_any test) (puts.others other (λ e. let z : true ≡ false = sym (same_itself fact) ∙ (ap (same_fact fact) (sym e) ∙ apart) in cc))
        ∙ (so_far.each other test
        ∙ (kept (list_any test (numbers_at old other)) (has_fact (take k facts) other) (test number)
        ∙ ap (λ b. list_any test (numbers_at old other) || (b && test number)) (sym (more other ∙ ap (λ b. has_fact (take k facts) other || b) apart))))

-- what a map gives after a write
pub puts_from : (old new : FactTable) (fact : Fact) (number : ℕ) (numbers : List ℕ) → ((other : Fact) → get same_fact new.map other ≡ (if same_fact fact other then Some numbers else get same_fact old.map other)) →
    numbers ≡ numbers_at old fact ++ number ∷ [] → PutsNumber old new fact number
puts_from old new fact number numbers gives is = record {
  here = ap (λ (o : Option (List ℕ)). unwrap_or o []) (gives fact ∙ ap (λ b. if b then Some numbers else get same_fact old.map fact) (same_itself fact)) ∙ is;
  others = λ other ne. ap (λ (o : Option (List ℕ)). unwrap_or o []) (gives other ∙ ap (λ b. if b then Some numbers else get same_fact old.map other) (apart other ne (same_fact fact other) refl));
}
  where
    apart : (other : Fact) → other ≢ fact → (b : Bool) → same_fact fact other ≡ b → same_fact fact other ≡ false
    apart other ne true same = absurd (ne (sym (facts_equal fact other same)))
    apart other ne false same = same
