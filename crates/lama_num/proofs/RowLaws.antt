-- A row more keeps the others.
use Rattle.std.proofs.Common.{◌≡◌, ◌∙◌, ap, refl, ℕ, ◌+◌, ◌-◌, ◌≤◌, List, [], ◌∷◌, ◌++◌, length, drop, true, nat_le, arith, length-append, length-drop}
use Rattle.std.specs.List.{list_all}
use Rattle.std.proofs.Math.Seq.{drop-append_seam}
use Rattle.std.proofs.lemmas.Bool.Decides.{nat_tests}
use Rattle.std.proofs.lemmas.List.{take-append-le, drop-append-le, take_all, map-append}
use Rattle.std.proofs.lemmas.List.Folds.{list_all-append}
use Rattle.lama_num.proofs.ListLaws.{both}
use Rattle.lama_num.specs.declared.rows.Span.{Span}
use Rattle.lama_num.specs.Rows.{items_of, rows_of, is_span}

span_within : (n : ℕ) (span : Span) → is_span n span ≡ true → (span.start ≤ span.end) × (span.end ≤ n)
span_within n span is =
    let parts = both (nat_le span.start span.end) (nat_le span.end n) is in
    (grind (arith, nat_tests, parts.0), grind (arith, nat_tests, parts.1))

span_from : (n : ℕ) (span : Span) → span.start ≤ span.end → span.end ≤ n → is_span n span ≡ true
span_from n span a b =
    let first : nat_le span.start span.end ≡ true = grind (arith, nat_tests) in
    let second : nat_le span.end n ≡ true = grind (arith, nat_tests) in
    rw first second

-- spans stay within more items
spans_more : (n m : ℕ) (spans : List Span) → n ≤ m → list_all (is_span n) spans ≡ true → list_all (is_span m) spans ≡ true
spans_more n m [] le all = refl
spans_more n m (span ∷ spans) le all =
    let parts = both (is_span n span) (list_all (is_span n) spans) all in
    let within = span_within n span parts.0 in
    let here = span_from m span within.0 (omega (arith, within.1)) in
    rw here (spans_more n m spans le parts.1)

row_append : {X : Type 0} (items more : List X) (span : Span) → is_span (length items) span ≡ true → items_of (items ++ more) span ≡ items_of items span
row_append items more span is =
    let within = span_within (length items) span is in
    let before : span.start ≤ length items = omega (arith, within.0, within.1) in
    let long : span.end - span.start ≤ length (drop span.start items) = omega (arith, length-drop span.start items, within.0, within.1) in
    rw (drop-append-le span.start items more before, take-append-le (span.end - span.start) (drop span.start items) more long) refl

rows_append : {X : Type 0} (items more : List X) (spans : List Span) → list_all (is_span (length items)) spans ≡ true → rows_of (items ++ more) spans ≡ rows_of items spans
rows_append items more [] all = refl
rows_append items more (span ∷ spans) all =
    let parts = both (is_span (length items) span) (list_all (is_span (length items)) spans) all in
    let here = row_append items more span parts.0 in
    let rest = rows_append items more spans parts.1 in
    cc

row_last : {X : Type 0} (items more : List X) (span : Span) → span.start ≡ length items → span.end ≡ length items + length more → items_of (items ++ more) span ≡ more
row_last items more span at end =
    let long : span.end - span.start ≡ length more = omega arith in
    rw (long, at, drop-append_seam items more) (take_all (length more) more (omega arith))

-- more items behind the rows leave them as they are
pub spans_kept : {X : Type 0} (items more now : List X) (spans : List Span) → list_all (is_span (length items)) spans ≡ true → now ≡ items ++ more → list_all (is_span (length now)) spans ≡ true
spans_kept items more now spans all is = spans_more (length items) (length now) spans (omega (arith, length-append items more, ap length is)) all

pub rows_kept : {X : Type 0} (items more now : List X) (spans : List Span) → list_all (is_span (length items)) spans ≡ true → now ≡ items ++ more → rows_of now spans ≡ rows_of items spans
rows_kept items more now spans all is = rw is (rows_append items more spans all)

-- a row more
pub spans_pushed : (n m : ℕ) (old new : List Span) (span : Span) → list_all (is_span n) old ≡ true → new ≡ old ++ span ∷ [] → span.start ≡ n → span.end ≡ m → n ≤ m → list_all (is_span m) new ≡ true
spans_pushed n m old new span all is at end le =
    let more = spans_more n m old le all in
    let here = span_from m span (omega arith) (omega arith) in
    rw (is, list_all-append (is_span m) old (span ∷ []), more, here) refl

pub rows_pushed : {X : Type 0} (items now more : List X) (old new : List Span) (span : Span) → list_all (is_span (length items)) old ≡ true → now ≡ items ++ more → new ≡ old ++ span ∷ [] → span.start ≡ length items → span.end ≡ length now →
    rows_of now new ≡ rows_of items old ++ more ∷ []
rows_pushed items now more old new span all items_is is at end =
    let long : length now ≡ length items + length more = ap length items_is ∙ length-append items more in
    rw (items_is, is, map-append (items_of (items ++ more)) old (span ∷ []), rows_append items more old all, row_last items more span at (end ∙ long)) refl
