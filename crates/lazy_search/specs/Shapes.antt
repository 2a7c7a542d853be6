-- Which lists a phase has, by its guides.
use Rattle.std.specs.Prelude.{ℕ, ◌*◌, ◌/◌, ◌%◌, Bool, ◌&&◌, ◌==◌, if◌then◌else◌}
use Rattle.lazy_search.specs.declared.shape.Shape.{Shape}

abbrev pub lists_by : Shape → ℕ
lists_by shape = if shape.preferring then 2 * shape.guides else shape.guides

abbrev pub guide_by : Shape → ℕ → ℕ
guide_by shape list = if shape.preferring then list / 2 else list

abbrev pub is_preferred_by : Shape → ℕ → Bool
is_preferred_by shape list = shape.preferring && (list % 2 == 1)
