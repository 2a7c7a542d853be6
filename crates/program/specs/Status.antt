-- The exit status of a run.
use Rattle.std.specs.Prelude.{ℕ}
use Rattle.run_report.specs.declared.report.Ended.{Ended}
use Rattle.run_report.specs.declared.report.Ended.TheVariants.{Done, NoMemory}

-- the report's code, or 40
abbrev pub status_of : Ended → ℕ
status_of (Done report) = report.code
status_of NoMemory = 40
