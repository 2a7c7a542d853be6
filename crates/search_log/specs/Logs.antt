-- What contracts see of a log.
use Rattle.std.specs.Prelude.{ℕ, List}
use Rattle.guide.specs.declared.seen.Seen.{Seen}
use Rattle.search_log.specs.declared.turns.Pop.{Pop}

-- a visit: the number of its state, what it cost to reach by the kind of cost, and what the guides said of it
pub record Visit : Type 0 where
  pub id : ℕ
  pub g : ℕ
  pub seen : Seen

-- the visits and the pops, each in order
pub record Content : Type 0 where
  pub visits : List Visit
  pub pops : List Pop
