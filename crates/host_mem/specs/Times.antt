-- What a clock in memory answers.
use Rattle.std.specs.Prelude.{ℕ, ◌-◌, ◌^◌, zero, suc, max, List, [], ◌∷◌, ◌++◌, take, Option, Some, None, nat_lt, if◌then◌else◌, refl}
use Rattle.std.specs.Coded.{Coded, code_by, coded×, coded_ℕ, coded_list}

-- its times, and how often it was asked
pub record Ticking : Type 0 where
  pub times : List ℕ
  pub asked : ℕ

abbrev pub ticking_code : Coded Ticking
ticking_code =
    code_by (List ℕ × ℕ) (coded× (coded_list coded_ℕ) coded_ℕ) (λ t. (t.times, t.asked)) (λ p. record { times = p.0; asked = p.1 }) (λ _. refl)

-- the greatest of some times, or 0
abbrev pub greatest : List ℕ → ℕ
greatest [] = 0
greatest (time ∷ more) = max time (greatest more)

-- the greatest of the times that it came to
abbrev pub last_answer : Ticking → ℕ
last_answer clock = greatest (take clock.asked clock.times)

-- its first n answers
abbrev pub answers_of : List ℕ → ℕ → List ℕ
answers_of times zero = []
answers_of times (suc n) = answers_of times n ++ greatest (take (suc n) times) ∷ []

-- they are told until it was asked too often
abbrev pub told_answers : Ticking → Option (List ℕ)
told_answers clock = if nat_lt clock.asked (2 ^ 64 - 1) then Some (answers_of clock.times clock.asked) else None
