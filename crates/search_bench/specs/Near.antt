-- Counters after few pops.
use Rattle.std.specs.Prelude.{◌≡◌, ℕ, pos, ◌≤ℤ◌}
use Rattle.open_lists.specs.Lists.{list_count, counter}
use Rattle.open_lists.specs.declared.lists.OpenLists.{OpenLists}

-- four lists, and counters that so many pops can make
pub record IsNear (lists : OpenLists) (pops : ℕ) : Type 0 where
  pub four : list_count lists ≡ 4
  pub high : (k : ℕ) → counter lists k ≤ℤ pos pops
