-- The limits of a task.
use Rattle.std.specs.Prelude.{ℕ}

abbrev pub most_variables : ℕ
most_variables = 1048576

-- the values of all variables
abbrev pub most_facts : ℕ
most_facts = 4194304

abbrev pub most_operators : ℕ
most_operators = 4194304

abbrev pub most_rules : ℕ
most_rules = 4194304

-- the values of one variable, mutex groups, the effects of one operator, and the facts of one list
abbrev pub most_listed : ℕ
most_listed = 1048576

abbrev pub highest_layer : ℕ
highest_layer = 1048576

abbrev pub highest_cost : ℕ
highest_cost = 2147483647

-- the bytes of a name
abbrev pub longest_name : ℕ
longest_name = 4096
