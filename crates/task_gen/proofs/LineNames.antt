-- The names of the delivery task are such as lines can hold.
use Rattle.std.proofs.Common.{◌≡◌, ◌∙◌, refl, ℕ, suc, ◌+◌, ◌≤◌, List, [], ◌∷◌, ◌++◌, length, reverse, map, true, ◌&&◌, not, nat_eq, nat_lt, arith}
use Rattle.std.specs.Prelude.{codes, decimal}
use Rattle.std.specs.List.{list_all}
use Rattle.std.proofs.lemmas.Bool.Decides.{nat_tests}
use Rattle.std.proofs.lemmas.List.Folds.{list_all-append}
use Rattle.lama_num.proofs.ListLaws.{both}
use Rattle.text_lines.specs.Lines.{is_some_bytes}
use Rattle.text_lines.specs.Texts.{has_no_feed, begins_bare}
use Rattle.sas_task.proofs.TestLaws.{and_true}
use Rattle.task_gen.specs.Delivery.{IsPackageCount, places, packages, truck_at, at_place, inside, truck_of, package_of, move_to, load, unload, moves, loads_of, loads, delivery}
use Rattle.task_gen.specs.ReadBack.{is_line_name, has_line_names}
use Rattle.task_gen.proofs.Ranges.{all-map, all-flat_map}
use Rattle.task_gen.proofs.Spaced.{is_inner, is_word-decimal, no_feed-word, ends-append, ends-word}

-- a text that may end a name
record IsEnd (text : List ℕ) : Type 0 where
  feed : has_no_feed text ≡ true
  some : is_some_bytes text ≡ true
  bare : begins_bare (reverse text) ≡ true

number_end : (k : ℕ) → k ≤ 101 → IsEnd (decimal k)
number_end k low =
    let word = is_word-decimal k (omega arith) in
    let parts = both (is_some_bytes (decimal k)) (list_all is_inner (decimal k)) word in
    record { feed = no_feed-word (decimal k) parts.1; some = parts.0; bare = ends-word (decimal k) word }

-- with something in front of it
longer_end : (front back : List ℕ) → has_no_feed front ≡ true → IsEnd back → IsEnd (front ++ back)
longer_end front back feed is = record {
  feed = list_all-append (λ b. not (nat_eq b 10)) front back ∙ and_true (has_no_feed front) (has_no_feed back) feed is.feed;
  some = behind front back is.some;
  bare = ends-append front back is.some is.bare;
}
  where
    behind : (front back : List ℕ) → is_some_bytes back ≡ true → is_some_bytes (front ++ back) ≡ true
    behind [] back some = some
    behind (b ∷ front) back some = refl

number_front : (k : ℕ) → k ≤ 101 → has_no_feed (decimal k) ≡ true
number_front k low = (number_end k low).feed

-- a name
line_name : (b : ℕ) (front back : List ℕ) → begins_bare (b ∷ front) ≡ true → has_no_feed (b ∷ front) ≡ true → IsEnd back → is_line_name ((b ∷ front) ++ back) ≡ true
line_name b front back begins feed is =
    let whole = longer_end (b ∷ front) back feed is in
    and_true (nat_lt 0 (length ((b ∷ front) ++ back))) _ (some (length (front ++ back)))
    (and_true (has_no_feed ((b ∷ front) ++ back)) _ whole.feed (and_true (begins_bare ((b ∷ front) ++ back)) _ begins whole.bare))
  where
    some : (n : ℕ) → nat_lt 0 (suc n) ≡ true
    some n = grind (arith, nat_tests)

ends_by : (k : ℕ) (back : List ℕ) → k ≤ 101 → IsEnd back → IsEnd (decimal k ++ back)
ends_by k back low is = longer_end (decimal k) back (number_front k low) is

closed : IsEnd (codes ")")
closed = record { feed = refl; some = refl; bare = refl }

two_numbers : (middle : List ℕ) (k i : ℕ) → k ≤ 101 → i ≤ 101 → has_no_feed middle ≡ true → IsEnd (decimal k ++ (middle ++ decimal i))
two_numbers middle k i low_k low_i feed = ends_by k (middle ++ decimal i) low_k (longer_end middle (decimal i) feed (number_end i low_i))

truck_named : (n : ℕ) → n ≤ 100 → (is_line_name (truck_of n).name && list_all is_line_name (truck_of n).values) ≡ true
unfolding truck_of
truck_named n low = all-map is_line_name truck_at 0 (n + 1) (λ i from to. line_name 65 (codes "tom truck-at(") (decimal i ++ codes ")") refl refl (ends_by i (codes ")") (omega arith) closed))

package_named : (n k : ℕ) → n ≤ 100 → k ≤ 100 → (is_line_name (package_of n k).name && list_all is_line_name (package_of n k).values) ≡ true
unfolding package_of
package_named n k low_n low_k =
    and_true (is_line_name (codes "package" ++ decimal k)) _ (line_name 112 (codes "ackage") (decimal k) refl refl (number_end k (omega arith)))
    (list_all-append is_line_name (map (at_place k) (places n)) (inside k ∷ [])
    ∙ and_true (list_all is_line_name (map (at_place k) (places n))) _
    (all-map is_line_name (at_place k) 0 (n + 1) (λ i from to.
    line_name 65 (codes "tom at(") (decimal k ++ (codes ", " ++ (decimal i ++ codes ")"))) refl refl
    (ends_by k (codes ", " ++ (decimal i ++ codes ")")) (omega arith) (longer_end (codes ", ") (decimal i ++ codes ")") refl (ends_by i (codes ")") (omega arith) closed)))))
    (and_true (is_line_name (inside k)) true (line_name 65 (codes "tom in(") (decimal k ++ codes ")") refl refl (ends_by k (codes ")") (omega arith) closed)) refl))

moves_named : (n : ℕ) → n ≤ 100 → list_all (λ o. is_line_name o.name) (moves n) ≡ true
unfolding move_to
moves_named n low = all-flat_map (λ o. is_line_name o.name) (λ i. move_to i (i + 1) ∷ move_to (i + 1) i ∷ []) 0 n (λ i from to.
    and_true (is_line_name (move_to i (i + 1)).name) _ (line_name 109 (codes "ove ") (decimal i ++ (codes " " ++ decimal (i + 1))) refl refl (two_numbers (codes " ") i (i + 1) (omega arith) (omega arith) refl))
    (and_true (is_line_name (move_to (i + 1) i).name) true (line_name 109 (codes "ove ") (decimal (i + 1) ++ (codes " " ++ decimal i)) refl refl (two_numbers (codes " ") (i + 1) i (omega arith) (omega arith) refl)) refl))

loads_named : (n : ℕ) → n ≤ 100 → list_all (λ o. is_line_name o.name) (loads n) ≡ true
unfolding load unload
loads_named n low = all-flat_map (λ o. is_line_name o.name) (loads_of n) 1 n (λ k from to.
    all-flat_map (λ o. is_line_name o.name) (λ i. load n k i ∷ unload n k i ∷ []) 0 (n + 1) (λ i first last.
    and_true (is_line_name (load n k i).name) _ (line_name 108 (codes "oad ") (decimal k ++ (codes " " ++ decimal i)) refl refl (two_numbers (codes " ") k i (omega arith) (omega arith) refl))
    (and_true (is_line_name (unload n k i).name) true (line_name 117 (codes "nload ") (decimal k ++ (codes " " ++ decimal i)) refl refl (two_numbers (codes " ") k i (omega arith) (omega arith) refl)) refl)))

pub delivery_named : (n : ℕ) → IsPackageCount n → has_line_names (delivery n) ≡ true
unfolding delivery
delivery_named n count =
    let low = count.high in
    and_true (list_all (λ v. is_line_name v.name && list_all is_line_name v.values) (truck_of n ∷ map (package_of n) (packages n))) _
    (and_true (is_line_name (truck_of n).name && list_all is_line_name (truck_of n).values) _ (truck_named n low) (all-map (λ v. is_line_name v.name && list_all is_line_name v.values) (package_of n) 1 n (λ k from to. package_named n k low (omega arith))))
    (list_all-append (λ o. is_line_name o.name) (moves n) (loads n) ∙ and_true (list_all (λ o. is_line_name o.name) (moves n)) _ (moves_named n low) (loads_named n low))
