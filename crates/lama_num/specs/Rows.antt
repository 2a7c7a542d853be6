-- Lists in one vector.
use Rattle.std.specs.Prelude.{ℕ, List, [], map, Bool, nat_le, ◌&&◌, slice_range, slice_index_or}
use Rattle.lama_num.specs.declared.rows.Span.{Span}

-- the items of a span
abbrev pub items_of : {X : Type 0} → List X → Span → List X
items_of items span = slice_range items span.start span.end

abbrev pub rows_of : {X : Type 0} → List X → List Span → List (List X)
rows_of items spans = map (items_of items) spans

-- a span lies within so many items
abbrev pub is_span : ℕ → Span → Bool
is_span n span = nat_le span.start span.end && nat_le span.end n

-- a row by its number; there is no other that has anything
abbrev pub row_at : {X : Type 0} → List (List X) → ℕ → List X
row_at rows i = slice_index_or rows i []
