-- What a run of the driver is set to.
use Rattle.std.specs.Prelude.{ℕ, Bool, true, false, ◌&&◌, nat_le, List, length}
use Rattle.std.specs.List.{range_with_len}
use Rattle.driver_core.specs.declared.settings.Setting.{Setting}
use Rattle.lama_num.specs.declared.names.TheConstants.{MOST_PLANS}

-- a relative time, from 1 to 1,000,000
abbrev pub is_share : ℕ → Bool
is_share share = nat_le 1 share && nat_le share 1000000

-- the numbers of the entries, from 1 on
abbrev pub entries : Setting → List ℕ
entries setting = range_with_len 1 (length setting.shares)

-- how many plans a run keeps
abbrev pub most_plans : Bool → ℕ
most_plans true = 1
most_plans false = MOST_PLANS
