-- The queue of the least key stays apart from the others.
use Rattle.std.proofs.Common.{◌≡◌, ◌≢◌, ℕ, ◌<◌, ◌≤◌, List, [], ◌∷◌, ◌++◌, Some, refl, sym, ap, ◌∙◌, arith, inl, inr, Result, Ok, Err, OnOk, OnErr}
use Rattle.std.specs.Ordering.{nat_cmp}
use Rattle.std.specs.BTreeMap as tree
use Rattle.std.specs.BTreeMap.{BTreeMap}
use Rattle.std.proofs.lemmas.Bool.{cases_eq}
use Rattle.open_lists.specs.Queues.{queue_at, IsApart}
use Rattle.open_lists.specs.Runs.{entries_of_visit}
use Rattle.open_lists.specs.declared.entry.Entry.{Entry}

append-none : (xs ys : List Entry) → xs ++ ys ≡ [] → xs ≡ []
append-none [] ys e = refl
append-none (x ∷ xs) ys e = cc

append-none_behind : (xs ys : List Entry) → xs ++ ys ≡ [] → ys ≡ []
append-none_behind [] ys e = e
append-none_behind (x ∷ xs) ys e = cc

pub some_entries : (parent : ℕ) (operators : List ℕ) → operators ≢ [] → entries_of_visit parent operators ≢ []
some_entries parent [] some none = some refl
some_entries parent (x ∷ operators) some none = cc

-- the queue of the least key grows, or stays
pub apart_first : {A E : Type 0} (result : Result A E) (least : ℕ) (first first' more : List Entry) (others : BTreeMap ℕ (List Entry)) →
    IsApart least first others → OnOk result (first' ≡ first ++ more) → OnErr result (first' ≡ first) → IsApart least first' others
apart_first (Ok x) least first first' more others apart ok err = record {
  filled = apart.filled;
  ahead = apart.ahead;
  alone = λ none. apart.alone (append-none first more (sym ok ∙ none));
}
apart_first (Err e) least first first' more others apart ok err = record {
  filled = apart.filled;
  ahead = apart.ahead;
  alone = λ none. apart.alone (sym err ∙ none);
}

-- a queue of a greater key grows, or stays
pub apart_others : {A E : Type 0} (result : Result A E) (least key : ℕ) (first more : List Entry) (others others' : BTreeMap ℕ (List Entry)) →
    IsApart least first others → first ≢ [] → more ≢ [] → least < key →
    OnOk result (tree.get nat_cmp others' key ≡ Some (queue_at others key ++ more)) →
    OnOk result ((other : ℕ) → other ≢ key → tree.get nat_cmp others' other ≡ tree.get nat_cmp others other) →
    OnErr result ((other : ℕ) → tree.get nat_cmp others' other ≡ tree.get nat_cmp others other) → IsApart least first others'
apart_others (Ok x) least key first more others others' apart filled some above here rest err = record {
  filled = λ other none. elim (cases_eq other key) [
    | inl is ↦
        let none_here : Some (queue_at others key ++ more) ≡ Some [] = sym here ∙ ap (λ k. tree.get nat_cmp others' k) (sym is) ∙ none in
        let empty : queue_at others key ++ more ≡ [] = cc in
        some (append-none_behind (queue_at others key) more empty)
    | inr ne ↦ apart.filled other (sym (rest other ne) ∙ none)
  ];
  ahead = λ other le. rest other (λ is. let below : key ≤ least = rw is at le in omega arith) ∙ apart.ahead other le;
  alone = λ none. absurd (filled none);
}
apart_others (Err e) least key first more others others' apart filled some above here rest err = record {
  filled = λ other none. apart.filled other (sym (err other) ∙ none);
  ahead = λ other le. err other ∙ apart.ahead other le;
  alone = λ none. absurd (filled none);
}
