-- Queues by key stand for a list in order of insertion.
use Rattle.std.proofs.Common.{◌≡◌, ◌≢◌, ℕ, zero, suc, ◌<◌, ◌≤◌, List, [], ◌∷◌, ◌++◌, nat_eq, slice_get, Some, refl, sym, ap, ◌∙◌, arith, inl, inr, false}
use Rattle.std.specs.List.{remove}
use Rattle.std.proofs.lemmas.Bool.{cases_eq, cases_lt, eq-eqb}
use Rattle.std.proofs.lemmas.Bool.Decides.{eqb_tells}
use Rattle.open_lists.specs.Runs.{entry_of, entries_of_visit}
use Rattle.open_lists.specs.Items.{Item, entries_under, item_of, items_of_visit, IsOldestLeast}
use Rattle.open_lists.specs.declared.entry.Entry.{Entry}

not_equal : (a b : ℕ) → a ≢ b → nat_eq a b ≡ false
not_equal a b ne = elim (eqb_tells a b) [
  | inl h ↦ absurd (ne h.1)
  | inr h ↦ h.0
]

here_first : (x : Item) (xs : List Item) (key : ℕ) → x.key ≡ key → entries_under (x ∷ xs) key ≡ x.entry ∷ entries_under xs key
here_first x xs key e = rw (eq-eqb x.key key e) refl

skipped : (x : Item) (xs : List Item) (key : ℕ) → x.key ≢ key → entries_under (x ∷ xs) key ≡ entries_under xs key
skipped x xs key ne = rw (not_equal x.key key ne) refl

same_head : (x : Item) (xs ys : List Item) (key : ℕ) → entries_under xs key ≡ entries_under ys key → entries_under (x ∷ xs) key ≡ entries_under (x ∷ ys) key
same_head x xs ys key e = elim (cases_eq x.key key) [
  | inl is ↦ here_first x xs key is ∙ ap (λ (es : List Entry). x.entry ∷ es) e ∙ sym (here_first x ys key is)
  | inr ne ↦ skipped x xs key ne ∙ e ∙ sym (skipped x ys key ne)
]

pub entries_under-append : (xs ys : List Item) (key : ℕ) → entries_under (xs ++ ys) key ≡ entries_under xs key ++ entries_under ys key
entries_under-append [] ys key = refl
entries_under-append (x ∷ xs) ys key = elim (cases_eq x.key key) [
  | inl is ↦ here_first x (xs ++ ys) key is ∙ ap (λ (es : List Entry). x.entry ∷ es) (entries_under-append xs ys key) ∙ ap (λ (es : List Entry). es ++ entries_under ys key) (sym (here_first x xs key is))
  | inr ne ↦ skipped x (xs ++ ys) key ne ∙ entries_under-append xs ys key ∙ ap (λ (es : List Entry). es ++ entries_under ys key) (sym (skipped x xs key ne))
]

visit_under : (key parent : ℕ) (operators : List ℕ) → entries_under (items_of_visit key parent operators) key ≡ entries_of_visit parent operators
visit_under key parent [] = refl
visit_under key parent (op ∷ operators) =
    here_first (item_of key (entry_of parent op)) (items_of_visit key parent operators) key refl ∙ ap (λ (es : List Entry). entry_of parent op ∷ es) (visit_under key parent operators)

visit_under_other : (key other parent : ℕ) (operators : List ℕ) → other ≢ key → entries_under (items_of_visit key parent operators) other ≡ []
visit_under_other key other parent [] ne = refl
visit_under_other key other parent (op ∷ operators) ne =
    skipped (item_of key (entry_of parent op)) (items_of_visit key parent operators) other (λ is. ne (sym is)) ∙ visit_under_other key other parent operators ne

append-nil : (es : List Entry) → es ++ [] ≡ es
append-nil [] = refl
append-nil (e ∷ es) = ap (λ (rest : List Entry). e ∷ rest) (append-nil es)

-- an item is among the entries of its key
among : (xs : List Item) (i : ℕ) (x : Item) → slice_get xs i ≡ Some x → entries_under xs x.key ≢ []
among [] i x e none = cc
among (y ∷ ys) zero x e none =
    let is : y.key ≡ x.key = ap (λ (z : Item). z.key) (let same : y ≡ x = cc in same) in
    let some : y.entry ∷ entries_under ys x.key ≡ [] = sym (here_first y ys x.key is) ∙ none in
    cc
among (y ∷ ys) (suc i) x e none = elim (cases_eq y.key x.key) [
  | inl is ↦ let some : y.entry ∷ entries_under ys x.key ≡ [] = sym (here_first y ys x.key is) ∙ none in cc
  | inr ne ↦ among ys i x e (sym (skipped y ys x.key ne) ∙ none)
]

-- what holds of the items before a place holds with one more in front
before_next : (x : Item) (xs : List Item) (key place : ℕ) → x.key ≢ key → ((i : ℕ) (other : Item) → i < place → slice_get xs i ≡ Some other → other.key ≢ key) → (i : ℕ) (other : Item) → i < suc place → slice_get (x ∷ xs) i ≡ Some other → other.key ≢ key
before_next x xs key place ne old zero other h at = λ is. ne (ap (λ (z : Item). z.key) (let same : x ≡ other = cc in same) ∙ is)
before_next x xs key place ne old (suc i) other h at = old i other (omega arith) at

record Taken (items : List Item) (key : ℕ) (entry : Entry) (rest : List Entry) (place : ℕ) : Type 0 where
  pub here : slice_get items place ≡ Some (record { key = key; entry = entry })
  pub left : entries_under (remove items place) key ≡ rest
  pub others : (q : ℕ) → q ≢ key → entries_under (remove items place) q ≡ entries_under items q
  pub before : (i : ℕ) (other : Item) → i < place → slice_get items i ≡ Some other → other.key ≢ key

taken : (items : List Item) (key : ℕ) (entry : Entry) (rest : List Entry) → entries_under items key ≡ entry ∷ rest → (place : ℕ) × Taken items key entry rest place
taken [] key entry rest e = absurd (cc)
taken (x ∷ xs) key entry rest e = elim (cases_eq x.key key) [
  | inl is ↦
      let all : x.entry ∷ entries_under xs key ≡ entry ∷ rest = sym (here_first x xs key is) ∙ e in
      let first : x.entry ≡ entry = cc in
      let others : entries_under xs key ≡ rest = cc in (
        0,
        record {
          here = ap (λ (i : Item). Some i) (ap (λ k. let i : Item = record { key = k; entry = x.entry } in i) is ∙ ap (λ n. let i : Item = record { key = key; entry = n } in i) first);
          left = others;
          others = λ q ne. sym (skipped x xs q (λ h. ne (sym h ∙ is)));
          before = λ i other h. absurd (omega arith);
        },
      )
  | inr ne ↦
      let found = taken xs key entry rest (sym (skipped x xs key ne) ∙ e) in (
        suc found.0,
        record {
          here = found.1.here;
          left = skipped x (remove xs found.0) key ne ∙ found.1.left;
          others = λ q h. same_head x (remove xs found.0) xs q (found.1.others q h);
          before = λ i other h at. before_next x xs key found.0 ne found.1.before i other h at;
        },
      )
]

-- Queues by key that lose the oldest entry of a key that is least lose the oldest item of least key.
pub takes_oldest_least : (old new : ℕ → List Entry) (key : ℕ) (entry : Entry) → old key ≡ entry ∷ new key → ((other : ℕ) → other < key → old other ≡ []) →
    ((other : ℕ) → other ≢ key → new other ≡ old other) → (items : List Item) → ((k : ℕ) → old k ≡ entries_under items k) →
    (place : ℕ) × IsOldestLeast items place (item_of key entry) × ((k : ℕ) → new k ≡ entries_under (remove items place) k)
takes_oldest_least old new key entry first least others items holds =
    let found = taken items key entry (new key) (sym (holds key) ∙ first) in
    let above : (i : ℕ) (other : Item) → slice_get items i ≡ Some other → key ≤ other.key = λ i other at. elim (cases_lt other.key key) [
      | inl h ↦ absurd (among items i other at (sym (holds other.key) ∙ least other.key h))
      | inr h ↦ h
    ] in (
      found.0,
      record {
        here = found.1.here;
        least = above;
        oldest = λ i other h at. let ne : other.key ≢ key = found.1.before i other h at in let le : key ≤ other.key = above i other at in omega arith;
      },
      λ k. elim (cases_eq k key) [
        | inl is ↦ ap new is ∙ sym found.1.left ∙ ap (λ j. entries_under (remove items found.0) j) (sym is)
        | inr ne ↦ others k ne ∙ holds k ∙ sym (found.1.others k ne)
      ],
    )

-- Queues by key that gain the entries of a visit hold its items behind the others.
pub puts_behind : (old new : ℕ → List Entry) (key parent : ℕ) (operators : List ℕ) → new key ≡ old key ++ entries_of_visit parent operators →
    ((other : ℕ) → other ≢ key → new other ≡ old other) → (items : List Item) → ((k : ℕ) → old k ≡ entries_under items k) →
    (k : ℕ) → new k ≡ entries_under (items ++ items_of_visit key parent operators) k
puts_behind old new key parent operators here others items holds k = elim (cases_eq k key) [
  | inl is ↦ ap new is ∙ here ∙ ap (λ (es : List Entry). es ++ entries_of_visit parent operators) (holds key)
      ∙ ap (λ (es : List Entry). entries_under items key ++ es) (sym (visit_under key parent operators))
      ∙ sym (entries_under-append items (items_of_visit key parent operators) key)
      ∙ ap (λ j. entries_under (items ++ items_of_visit key parent operators) j) (sym is)
  | inr ne ↦ others k ne ∙ holds k ∙ sym (append-nil (entries_under items k))
      ∙ ap (λ (es : List Entry). entries_under items k ++ es) (sym (visit_under_other key k parent operators ne))
      ∙ sym (entries_under-append items (items_of_visit key parent operators) k)
]

-- a list that holds an item has an entry
pub some_entry : (old : ℕ → List Entry) (items : List Item) → ((k : ℕ) → old k ≡ entries_under items k) → items ≢ [] → (key : ℕ) × (old key ≢ [])
some_entry old [] holds some = absurd (some refl)
some_entry old (x ∷ items) holds some = (x.key, λ none. among (x ∷ items) 0 x refl (sym (holds x.key) ∙ none))
