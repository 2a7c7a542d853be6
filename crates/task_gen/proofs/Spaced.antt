-- Lines of words with one blank between them are cut into these words again.
use Rattle.std.proofs.Common.{◌≡◌, ◌∙◌, ap, refl, ℕ, ◌<◌, ◌^◌, List, [], ◌∷◌, ◌++◌, length, reverse, Bool, true, false, ◌&&◌, not, nat_eq, arith}
use Rattle.std.specs.Prelude.{codes, decimal}
use Rattle.std.specs.List.{list_all}
use Rattle.std.specs.Char.{is_ascii_digit}
use Rattle.std.specs.Str.{all_ascii_digits, bytes_eq}
use Rattle.std.proofs.lemmas.Bool.Decides.{nat_tests}
use Rattle.std.proofs.lemmas.Fmt.{digits_decimal, decimal_nonempty}
use Rattle.std.proofs.lemmas.List.{reverse-append}
use Rattle.std.proofs.lemmas.List.Folds.{list_all-append}
use Rattle.lama_num.proofs.ListLaws.{both}
use Rattle.lama_num.proofs.DecimalLaws.{decimal_numerals}
use Rattle.text_lines.specs.Lines.{words_of, pieces_of, is_blank, is_margin, is_some_bytes}
use Rattle.text_lines.specs.Texts.{has_no_feed, begins_bare, is_line}
use Rattle.sas_task.proofs.TestLaws.{and_true, all-one}
use Rattle.task_gen.specs.Printed.{spaced}

-- a byte that cuts neither lines nor words
abbrev pub is_inner : ℕ → Bool
is_inner b = not (nat_eq b 10) && not (is_margin b)

-- some of them
abbrev pub is_word : List ℕ → Bool
is_word word = is_some_bytes word && list_all is_inner word

inner_no_blank : (b : ℕ) → is_inner b ≡ true → is_blank b ≡ false
inner_no_blank b is = grind (arith, nat_tests)

inner_no_feed : (b : ℕ) → is_inner b ≡ true → not (nat_eq b 10) ≡ true
inner_no_feed b is = (both (not (nat_eq b 10)) (not (is_margin b)) is).0

inner_bare : (b : ℕ) → is_inner b ≡ true → not (is_margin b) ≡ true
inner_bare b is = (both (not (nat_eq b 10)) (not (is_margin b)) is).1

-- words of a line

one_piece : (word : List ℕ) → list_all is_inner word ≡ true → pieces_of word ≡ word ∷ []
one_piece [] all = refl
one_piece (b ∷ bs) all =
    let each = both (is_inner b) (list_all is_inner bs) all in
    rw (inner_no_blank b each.0, one_piece bs each.1) refl

first_piece : (word rest : List ℕ) → list_all is_inner word ≡ true → pieces_of (word ++ 32 ∷ rest) ≡ word ∷ pieces_of rest
first_piece [] rest all = refl
first_piece (b ∷ bs) rest all =
    let each = both (is_inner b) (list_all is_inner bs) all in
    let behind : pieces_of (bs ++ 32 ∷ rest) ≡ bs ∷ pieces_of rest = first_piece bs rest each.1 in
    rw (inner_no_blank b each.0, behind) refl

pub words_of-spaced : (words : List (List ℕ)) → list_all is_word words ≡ true → words_of (spaced words) ≡ words
words_of-spaced [] all = refl
words_of-spaced (w ∷ []) all =
    let one = both (is_some_bytes w) (list_all is_inner w) (both (is_word w) true all).0 in
    rw (one_piece w one.1, one.0) refl
words_of-spaced (w ∷ v ∷ words) all =
    let each = both (is_word w) (list_all is_word (v ∷ words)) all in
    let one = both (is_some_bytes w) (list_all is_inner w) each.0 in
    let behind : words_of (spaced (v ∷ words)) ≡ v ∷ words = words_of-spaced (v ∷ words) each.1 in
    rw (first_piece w (spaced (v ∷ words)) one.1, one.0) (ap (λ ws. w ∷ ws) behind)

-- reading leaves the line as it is

pub no_feed-word : (word : List ℕ) → list_all is_inner word ≡ true → has_no_feed word ≡ true
no_feed-word word all = all-one is_inner (λ b. not (nat_eq b 10)) word inner_no_feed all

no_feed-spaced : (words : List (List ℕ)) → list_all is_word words ≡ true → has_no_feed (spaced words) ≡ true
no_feed-spaced [] all = refl
no_feed-spaced (w ∷ []) all = no_feed-word w (both (is_some_bytes w) (list_all is_inner w) (both (is_word w) true all).0).1
no_feed-spaced (w ∷ v ∷ words) all =
    let each = both (is_word w) (list_all is_word (v ∷ words)) all in
    list_all-append (λ b. not (nat_eq b 10)) w (32 ∷ spaced (v ∷ words))
    ∙ and_true (has_no_feed w) _ (no_feed-word w (both (is_some_bytes w) (list_all is_inner w) each.0).1) (no_feed-spaced (v ∷ words) each.1)

begins-word : (word rest : List ℕ) → is_word word ≡ true → begins_bare (word ++ rest) ≡ true
begins-word [] rest is = let k : false ≡ true = is in cc
begins-word (b ∷ bs) rest is = inner_bare b (both (is_inner b) (list_all is_inner bs) is).0

begins-spaced : (words : List (List ℕ)) → list_all is_word words ≡ true → begins_bare (spaced words) ≡ true
begins-spaced [] all = refl
begins-spaced (w ∷ []) all = subst_nil w (begins-word w [] (both (is_word w) true all).0)
  where
    subst_nil : (w : List ℕ) → begins_bare (w ++ []) ≡ true → begins_bare w ≡ true
    subst_nil [] is = refl
    subst_nil (b ∷ bs) is = is
begins-spaced (w ∷ v ∷ words) all = begins-word w (32 ∷ spaced (v ∷ words)) (both (is_word w) (list_all is_word (v ∷ words)) all).0

-- the last byte decides
pub ends-append : (front back : List ℕ) → is_some_bytes back ≡ true → begins_bare (reverse back) ≡ true → begins_bare (reverse (front ++ back)) ≡ true
ends-append front back some is = rw (reverse-append front back) (first (reverse back) (reverse front) (turned back some) is)
  where
    behind : (xs : List ℕ) (x : ℕ) → is_some_bytes (xs ++ x ∷ []) ≡ true
    behind [] x = refl
    behind (y ∷ xs) x = refl

    turned : (xs : List ℕ) → is_some_bytes xs ≡ true → is_some_bytes (reverse xs) ≡ true
    turned [] some = some
    turned (x ∷ xs) some = rw (reverse-append (x ∷ []) xs) (behind (reverse xs) x)

    first : (xs ys : List ℕ) → is_some_bytes xs ≡ true → begins_bare xs ≡ true → begins_bare (xs ++ ys) ≡ true
    first [] ys some is = let k : false ≡ true = some in cc
    first (x ∷ xs) ys some is = is

pub ends-word : (word : List ℕ) → is_word word ≡ true → begins_bare (reverse word) ≡ true
ends-word [] is = let k : false ≡ true = is in cc
ends-word (b ∷ []) is = inner_bare b (both (is_inner b) true is).0
ends-word (b ∷ c ∷ bs) is = ends-append (b ∷ []) (c ∷ bs) refl (ends-word (c ∷ bs) (both (is_inner b) (list_all is_inner (c ∷ bs)) is).1)

some-spaced : (words : List (List ℕ)) (v : List ℕ) → is_word v ≡ true → is_some_bytes (spaced (v ∷ words)) ≡ true
some-spaced [] v is = (both (is_some_bytes v) (list_all is_inner v) is).0
some-spaced (w ∷ words) [] is = let k : false ≡ true = is in cc
some-spaced (w ∷ words) (b ∷ bs) is = refl

ends-spaced : (words : List (List ℕ)) → list_all is_word words ≡ true → begins_bare (reverse (spaced words)) ≡ true
ends-spaced [] all = refl
ends-spaced (w ∷ []) all = ends-word w (both (is_word w) true all).0
ends-spaced (w ∷ v ∷ words) all =
    let rest = (both (is_word w) (list_all is_word (v ∷ words)) all).1 in
    let later = some-spaced words v (both (is_word v) (list_all is_word words) rest).0 in
    ends-append w (32 ∷ spaced (v ∷ words)) refl (ends-append (32 ∷ []) (spaced (v ∷ words)) later (ends-spaced (v ∷ words) rest))

pub is_line-spaced : (words : List (List ℕ)) → list_all is_word words ≡ true → is_line (spaced words) ≡ true
is_line-spaced words all =
    and_true (has_no_feed (spaced words)) _ (no_feed-spaced words all) (and_true (begins_bare (spaced words)) _ (begins-spaced words all) (ends-spaced words all))

-- decimals

digit_inner : (b : ℕ) → is_ascii_digit b ≡ true → is_inner b ≡ true
digit_inner b digit = grind (arith, nat_tests)

digits_inner : (bytes : List ℕ) → all_ascii_digits bytes ≡ true → list_all is_inner bytes ≡ true
digits_inner [] all = refl
digits_inner (b ∷ bytes) all =
    let each = both (is_ascii_digit b) (all_ascii_digits bytes) all in
    and_true (is_inner b) _ (digit_inner b each.0) (digits_inner bytes each.1)

some_bytes : (bytes : List ℕ) → 0 < length bytes → is_some_bytes bytes ≡ true
some_bytes [] some = absurd (omega arith)
some_bytes (b ∷ bytes) some = refl

pub is_word-decimal : (k : ℕ) → k < 2 ^ 64 → is_word (decimal k) ≡ true
is_word-decimal k small =
    and_true (is_some_bytes (decimal k)) _ (some_bytes (decimal k) (decimal_nonempty k small)) (digits_inner (decimal k) (digits_decimal decimal_numerals k small))

digit_no_dash : (b : ℕ) → is_ascii_digit b ≡ true → nat_eq b 45 ≡ false
digit_no_dash b digit = grind (arith, nat_tests)

no_minus : (bytes : List ℕ) → 0 < length bytes → all_ascii_digits bytes ≡ true → bytes_eq bytes (codes "-1") ≡ false
no_minus [] some all = absurd (omega arith)
no_minus (b ∷ bytes) some all = rw (digit_no_dash b (both (is_ascii_digit b) (all_ascii_digits bytes) all).0) refl

pub decimal_no_minus : (k : ℕ) → k < 2 ^ 64 → bytes_eq (decimal k) (codes "-1") ≡ false
decimal_no_minus k small = no_minus (decimal k) (decimal_nonempty k small) (digits_decimal decimal_numerals k small)
