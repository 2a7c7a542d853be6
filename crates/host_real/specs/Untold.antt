-- What a real folder tells: which slots are in use, how often a call failed, and nothing of what it holds.
use Rattle.std.specs.Prelude.{ℕ, List, None}
use Rattle.lama_host.specs.Folder.{Told}

abbrev pub untold : List ℕ → ℕ → Told
untold busy faults = record { content = None; moments = None; faults = faults; busy = busy; left = None; started = None }
