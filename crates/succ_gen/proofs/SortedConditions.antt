-- The conditions of operators, one by one.
use Rattle.std.proofs.Common.{◌≡◌, ◌∙◌, sym, ap, subst, ℕ, ◌+◌, ◌<◌, inl, inr, List, [], ◌∷◌, ◌++◌, length, length-append, take, get_or, arith}
use Rattle.std.specs.List.Sorted.{IsPermutation}
use Rattle.std.proofs.lemmas.List.{take_more, get_or_append_left, get_or_push}
use Rattle.std.proofs.lemmas.Option.{slice_get_within}
use Rattle.lama_num.specs.Rows.{row_at}
use Rattle.sas_task.specs.declared.contents.Fact.{Fact}
use Rattle.sas_task.specs.declared.contents.Operator.{Operator}
use Rattle.succ_gen.specs.Conditions.{AreConditions}
use Rattle.lama_num.proofs.ListLaws.{get_push}

pub conditions_more : (operators : List Operator) (i : ℕ) (o : Operator) (conditions now : List (List Fact)) (facts : List Fact) → i < length operators → o ≡ get_or operators i o → IsPermutation o.pre facts → AreConditions (take i operators) conditions → now ≡ conditions ++ facts ∷ [] → AreConditions (take (i + 1) operators) now
conditions_more operators i o conditions now facts lt is sorted are more =
    let longer : take (i + 1) operators ≡ take i operators ++ o ∷ [] = take_more operators i o lt ∙ ap (λ x. take i operators ++ x ∷ []) (sym is) in
    rw (longer, more) (record {
      long = omega (arith, are.long, length-append conditions (facts ∷ []), length-append (take i operators) (o ∷ []));
      each = λ op p at. elim (get_push (take i operators) o op p at) [
        | inl before ↦
            let within = slice_get_within (take i operators) op p before in
            let long = are.long in
            subst (IsPermutation p.pre) (sym (get_or_append_left conditions (facts ∷ []) [] op (omega arith))) (are.each op p before)
        | inr here ↦
            let long = are.long in
            let place : op ≡ length (take i operators) = here.0 in
            let row : row_at (conditions ++ facts ∷ []) op ≡ facts = get_or_push conditions facts [] op (omega arith) in
            subst (IsPermutation p.pre) (sym row) (subst (λ (x : Operator). IsPermutation x.pre facts) (sym here.1) sorted)
      ];
    })

-- facts that are taken into an empty list and sorted
pub sorted_facts : (pre cleared other extended sorted facts : List Fact) → cleared ≡ [] → other ≡ pre → extended ≡ cleared ++ other → IsPermutation extended sorted → facts ≡ sorted → IsPermutation pre facts
sorted_facts pre cleared other extended sorted facts none all more moved is =
    let from : extended ≡ pre = more ∙ (ap (λ xs. xs ++ other) none ∙ all) in
    subst (IsPermutation pre) (sym is) (subst (λ xs. IsPermutation xs sorted) from moved)
