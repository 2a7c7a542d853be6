-- Estimates of the cost to a goal.
use Rattle.std.specs.Prelude.{◌+◌, min}
use Rattle.lama_num.specs.declared.estimates.Estimate.{Estimate}
use Rattle.lama_num.specs.declared.estimates.Estimate.TheVariants.{Finite, Infinite}
use Rattle.lama_num.specs.declared.estimates.TheConstants.{LARGEST_ESTIMATE}

-- a sum stops at 1,000,000,000, and is infinite where either part is
abbrev pub estimate_sum : Estimate → Estimate → Estimate
estimate_sum (Finite a) (Finite b) = Finite (min (a + b) LARGEST_ESTIMATE)
estimate_sum (Finite a) Infinite = Infinite
estimate_sum Infinite b = Infinite
