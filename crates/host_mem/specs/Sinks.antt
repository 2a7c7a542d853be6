-- What a sink in memory holds.
use Rattle.std.specs.Prelude.{ℕ, ◌<◌, List, Option, Some, None, refl}
use Rattle.std.specs.Coded.{Coded, code_by, coded×, coded_ℕ, coded_list, coded_option}

pub record Sunk : Type 0 where
  pub bytes : List ℕ
  pub most : Option ℕ  -- how many bytes it takes at most
  pub faults : ℕ
  pub refused : ℕ  -- how often memory was refused

abbrev pub sunk_code : Coded Sunk
sunk_code =
    code_by (List ℕ × (Option ℕ × (ℕ × ℕ))) (coded× (coded_list coded_ℕ) (coded× (coded_option coded_ℕ) (coded× coded_ℕ coded_ℕ)))
    (λ s. (s.bytes, (s.most, (s.faults, s.refused))))
    (λ p. record { bytes = p.0; most = p.1.0; faults = p.1.1.0; refused = p.1.1.1 })
    (λ _. refl)

-- more than the most, where there is one
abbrev pub IsPast : Option ℕ → ℕ → Type 0
IsPast None count = ⊥
IsPast (Some most) count = most < count
