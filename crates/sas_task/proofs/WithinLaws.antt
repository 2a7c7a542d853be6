-- Laws of Within.
use Rattle.std.specs.Prelude.{◌≡◌, List, [], ◌∷◌, length, true, nat_lt, slice_get, Option, Some, None}
use Rattle.std.proofs.Common.{arith, refl}
use Rattle.std.specs.List.{list_all}
use Rattle.std.proofs.lemmas.Bool.Decides.{nat_tests}
use Rattle.std.proofs.lemmas.Option.{slice_get_within}
use Rattle.lama_num.proofs.ListLaws.{both}
use Rattle.sas_task.specs.declared.contents.Fact.{Fact}
use Rattle.sas_task.specs.declared.contents.Variable.{Variable}
use Rattle.sas_task.specs.WellFormed.{is_fact, are_facts, is_few, range_of}
use Rattle.sas_task.specs.Within.{is_within}

-- a fact of a task is of one of its variables
pub fact_within : (variables : List Variable) (fact : Fact) → is_fact variables fact ≡ true → is_within (length variables) fact ≡ true
fact_within variables fact is = found (slice_get variables fact.var) refl is
  where
    found : (o : Option Variable) → slice_get variables fact.var ≡ o → nat_lt fact.val (range_of variables fact.var) ≡ true → is_within (length variables) fact ≡ true
    found None at is = let k : nat_lt fact.val 0 ≡ true = rw at at is in absurd (grind (arith, nat_tests, k))
    found (Some v) at is = let lt = slice_get_within variables fact.var v at in grind (arith, nat_tests, lt)

pub all_facts_within : (variables : List Variable) (facts : List Fact) → list_all (is_fact variables) facts ≡ true → list_all (is_within (length variables)) facts ≡ true
all_facts_within variables [] are = refl
all_facts_within variables (fact ∷ facts) are =
    let split = both (is_fact variables fact) (list_all (is_fact variables) facts) are in
    rw (fact_within variables fact split.0, all_facts_within variables facts split.1) refl

pub facts_within : (variables : List Variable) (facts : List Fact) → are_facts variables facts ≡ true → list_all (is_within (length variables)) facts ≡ true
facts_within variables facts are = all_facts_within variables facts (both (is_few facts) _ are).1
