-- A line as the code keeps it.
use Rattle.std.specs.Prelude.{ℕ, List, Option, option_map}
use Rattle.std.specs.Borrow.{Bor}
use Rattle.driver_run.specs.declared.words.Line.{Line as KeptLine}
use Rattle.driver_run.specs.declared.words.Work.{Work as KeptWork}
use Rattle.driver_run.specs.declared.words.Work.TheVariants as kept
use Rattle.driver_run.specs.Words.{Work, Line, Alias, Search}

abbrev pub text_of : Option (Bor (List ℕ)) → Option (List ℕ)
text_of = option_map (λ text. text.now)

-- what is borrowed from the words, as texts
abbrev pub seen_work : KeptWork → Work
seen_work (kept.Alias name) = Alias name
seen_work (kept.Search text) = Search text.now

abbrev pub seen : KeptLine → Line
seen line = record { work = seen_work line.work; bound = line.bound; task = line.task.now }
