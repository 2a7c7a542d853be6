-- From the tests that `check` makes to the cause that it answers.
use Rattle.std.specs.Prelude.{◌≡◌, ℕ, List, [], ◌∷◌, ◌++◌, length, not, map, filter, flat_map, take, drop, Option, Some, None, option_map, Result, Ok, Err}
use Rattle.std.proofs.Common.{refl, sym, ap, ◌∙◌}
use Rattle.std.specs.Option.{option_or}
use Rattle.sas_task.specs.Limits.{most_listed}
use Rattle.sas_task.specs.Refusals.{above, first_cause, causes, too_large, conditions_of, condition_counts, refusal_of, canonical_parts, unless}
use Rattle.sas_task.specs.WellFormed.{is_default}
use Rattle.sas_task.specs.Order.{in_order}
use Rattle.sas_task.specs.declared.contents.Operator.{Operator}
use Rattle.sas_task.specs.declared.contents.Rule.{Rule}
use Rattle.sas_task.specs.declared.contents.Parts.{Parts}
use Rattle.sas_task.specs.declared.refusals.What.TheVariants.{Conditions}
use Rattle.sas_task.specs.declared.refusals.TaskError.{TaskError}
use Rattle.sas_task.specs.declared.refusals.TaskError.TheVariants.{TooLarge}
use Rattle.sas_task.proofs.Above.{above_append}

first_cause-append : (xs ys : List (Option TaskError)) → first_cause (xs ++ ys) ≡ option_or (first_cause xs) (first_cause ys)
first_cause-append [] ys = refl
first_cause-append (None ∷ xs) ys = first_cause-append xs ys
first_cause-append (Some e ∷ xs) ys = refl

first_cause-cons : (o : Option TaskError) (xs : List (Option TaskError)) → first_cause (o ∷ xs) ≡ option_or o (first_cause xs)
first_cause-cons None xs = refl
first_cause-cons (Some e) xs = refl

-- the causes before and after the numbers of conditions
in_parts : (parts : Parts) → refusal_of parts ≡ option_or (first_cause (take 8 (causes parts))) (option_or (too_large Conditions most_listed (condition_counts parts)) (first_cause (drop 9 (causes parts))))
unfolding refusal_of
in_parts parts =
    let first = take 8 (causes parts) in
    let last = drop 9 (causes parts) in
    let conditions = too_large Conditions most_listed (condition_counts parts) in
    first_cause-append first (conditions ∷ last) ∙ ap (option_or (first_cause first)) (first_cause-cons conditions last)

pub unless-ok : {A : Type 0} (o : Option TaskError) (x y : A) → unless o x ≡ Ok y → o ≡ None
unless-ok None x y is = refl
unless-ok {A} (Some e) x y is = let k : ◌≡◌ {A = Result A TaskError} (Err e) (Ok y) = is in cc

pub unless-err : {A : Type 0} (o : Option TaskError) (x : A) (e : TaskError) → unless o x ≡ Err e → o ≡ Some e
unless-err {A} None x e is = let k : ◌≡◌ {A = Result A TaskError} (Ok x) (Err e) = is in cc
unless-err {A} (Some f) x e is = let k : ◌≡◌ {A = Result A TaskError} (Err f) (Err e) = is in cc

pub refused_first : (parts : Parts) (e : TaskError) → first_cause (take 8 (causes parts)) ≡ Some e → refusal_of parts ≡ Some e
refused_first parts e first = in_parts parts ∙ ap (λ o. option_or o (option_or (too_large Conditions most_listed (condition_counts parts)) (first_cause (drop 9 (causes parts))))) first

after_first : (parts : Parts) → first_cause (take 8 (causes parts)) ≡ None → refusal_of parts ≡ option_or (too_large Conditions most_listed (condition_counts parts)) (first_cause (drop 9 (causes parts)))
after_first parts first = in_parts parts ∙ ap (λ o. option_or o (option_or (too_large Conditions most_listed (condition_counts parts)) (first_cause (drop 9 (causes parts))))) first

pub refused_conditions : (parts : Parts) (e : TaskError) → first_cause (take 8 (causes parts)) ≡ None → too_large Conditions most_listed (condition_counts parts) ≡ Some e → refusal_of parts ≡ Some e
refused_conditions parts e first conditions = after_first parts first ∙ ap (λ o. option_or o (first_cause (drop 9 (causes parts)))) conditions

-- with no cause up to the numbers of conditions, the first of the others is answered
pub refused_last : (parts : Parts) → first_cause (take 8 (causes parts)) ≡ None → too_large Conditions most_listed (condition_counts parts) ≡ None → refusal_of parts ≡ first_cause (drop 9 (causes parts))
refused_last parts first conditions = after_first parts first ∙ ap (λ o. option_or o (first_cause (drop 9 (causes parts)))) conditions

none-first : {A : Type 0} (a b : Option A) → option_or a b ≡ None → a ≡ None
none-first None b none = refl
none-first (Some x) b none = let k : Some x ≡ None = none in cc

-- where no number of conditions is refused, none is above the limit
pub record NoConditions (parts : Parts) (operators : Option ℕ) : Type 0 where
  pub operators_none : operators ≡ None
  pub none : too_large Conditions most_listed (condition_counts parts) ≡ None

pub no_conditions : (parts : Parts) (first operators rules : Option ℕ) → unless (option_map (λ n. TooLarge Conditions n) first) (tt {0}) ≡ Ok (tt {0}) → first ≡ option_or operators rules → operators ≡ above most_listed (flat_map conditions_of parts.operators) →
    rules ≡ above most_listed (map (λ r. length r.conds) parts.rules) → NoConditions parts operators
no_conditions parts first operators rules passed joined by_operators by_rules =
    let no_cause = unless-ok (option_map (λ n. TooLarge Conditions n) first) (tt {0}) (tt {0}) passed in
    let nothing : option_or operators rules ≡ None = sym joined ∙ unmapped first no_cause in
    let counts = above_append most_listed (flat_map conditions_of parts.operators) (map (λ r. length r.conds) parts.rules) in
    let same : option_or operators rules ≡ option_or (above most_listed (flat_map conditions_of parts.operators)) (above most_listed (map (λ r. length r.conds) parts.rules)) = ap (λ o. option_or o rules) by_operators ∙ ap (option_or (above most_listed (flat_map conditions_of parts.operators))) by_rules in
    record {
      operators_none = none-first operators rules nothing;
      none = ap (option_map (λ n. TooLarge Conditions n)) (counts ∙ sym same ∙ nothing);
    }
  where
    unmapped : (o : Option ℕ) → option_map (λ n. TooLarge Conditions n) o ≡ None → o ≡ None
    unmapped None none = refl
    unmapped (Some n) none = let k : Some (TooLarge Conditions n) ≡ None = none in cc

-- what `bring` makes
pub brought_by : (parts : Parts) (operators : List Operator) (rules : List Rule) → too_large Conditions most_listed (condition_counts parts) ≡ None → operators ≡ map in_order parts.operators →
    rules ≡ filter (λ r. not (is_default parts.init r.head)) parts.rules →
    ◌≡◌ {A = Result Parts TaskError} (Ok (record parts { operators = operators; rules = rules })) (unless (too_large Conditions most_listed (condition_counts parts)) (canonical_parts parts))
brought_by parts operators rules none a b = rw (none, a, b) refl

-- the value that was let through
pub unless-value : {A : Type 0} (o : Option TaskError) (x y : A) → unless o x ≡ Ok y → x ≡ y
unless-value None x y is = cc
unless-value {A} (Some e) x y is = let k : ◌≡◌ {A = Result A TaskError} (Err e) (Ok y) = is in cc
