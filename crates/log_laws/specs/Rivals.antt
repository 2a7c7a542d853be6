-- An example: two goals that destroy each other. What one list does that is led by the costs of relaxed plans.
use Rattle.std.specs.Prelude.{ℕ, false, List, [], ◌∷◌, Option, None}
use Rattle.sas_task.specs.declared.contents.CostKind.TheVariants.{Normal}
use Rattle.sas_task.specs.declared.contents.Variable.{Variable}
use Rattle.sas_task.specs.declared.contents.Effect.{Effect}
use Rattle.sas_task.specs.declared.contents.Operator.{Operator}
use Rattle.sas_task.specs.declared.contents.Parts.{Parts}
use Rattle.search_log.specs.declared.setting.Stop.{Stop}
use Rattle.search_log.specs.declared.turns.Pop.{Pop}
use Rattle.search_log.specs.declared.turns.PopResult.{PopResult}
use Rattle.search_log.specs.declared.turns.PopResult.TheVariants.{Known, Visited, Full}
use Rattle.search_log.specs.Logs.{Visit}
use Rattle.search_log.specs.Phases.{Phase}

abbrev pub effect : ℕ → ℕ → Effect
effect var val = record { conds = []; fact = record { var = var; val = val } }

abbrev pub variable : Variable
variable = record { name = []; layer = None; values = [] ∷ [] ∷ [] }

-- it sets one variable and clears the other
abbrev pub operator : ℕ → ℕ → Operator
operator a b = record { name = []; pre = []; effects = effect 0 a ∷ effect 1 b ∷ []; cost = 1 }

abbrev pub rivals : Parts
rivals =
    record {
      metric = false;
      variables = variable ∷ variable ∷ [];
      groups = [];
      init = 0 ∷ 0 ∷ [];
      goal = record { var = 0; val = 1 } ∷ record { var = 1; val = 1 } ∷ [];
      operators = operator 1 0 ∷ operator 0 1 ∷ [];
      rules = [];
    }

-- a greedy phase with one guide
abbrev pub greedy : ℕ → ℕ → Option Stop → Phase
greedy most_pops most_states stop =
    record {
      parts = rivals;
      setting = record { cost = Normal; weight = None; reopen = false; boost = 1000; bound = None; most_pops = most_pops; most_states = most_states; stop = stop };
      guides = 1;
      preferring = false;
    }

abbrev pub visit : ℕ → ℕ → ℕ → Visit
visit id g estimate = record { id = id; g = g; seen = record { dead = false; estimates = estimate ∷ 0 ∷ 0 ∷ []; preferred = [] } }

abbrev pub pop : ℕ → ℕ → PopResult → Pop
pop parent op result = record { list = 0; parent = parent; op = op; result = result }

abbrev pub three_visits : List Visit
three_visits = visit 0 0 2 ∷ visit 1 1 1 ∷ visit 2 2 1 ∷ []

abbrev pub five_pops : List Pop
five_pops = pop 0 0 Visited ∷ pop 1 0 Known ∷ pop 1 1 Visited ∷ pop 2 0 Known ∷ pop 2 1 Known ∷ []

abbrev pub six_pops : List Pop
six_pops = pop 0 0 Visited ∷ pop 1 0 Known ∷ pop 1 1 Visited ∷ pop 2 0 Known ∷ pop 2 1 Known ∷ pop 0 1 Known ∷ []

abbrev pub two_visits : List Visit
two_visits = visit 0 0 2 ∷ visit 1 1 1 ∷ []

abbrev pub three_pops : List Pop
three_pops = pop 0 0 Visited ∷ pop 1 0 Known ∷ pop 1 1 Full ∷ []
