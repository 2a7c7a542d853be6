-- What value names and mutex groups say of facts.
use Rattle.std.specs.Prelude.{ℕ, List, Bool, ◌&&◌, ◌||◌, not, nat_eq, take, drop, codes, slice_get, position, Option, Some, None, option_map, option_and_then, if◌then◌else◌}
use Rattle.std.specs.List.{list_any, starts_with}
use Rattle.sas_task.specs.declared.contents.Fact.{Fact}
use Rattle.sas_task.specs.declared.contents.Parts.{Parts}

-- the name of a fact's value
abbrev pub value_name : Parts → Fact → Option (List ℕ)
value_name parts fact = option_and_then (λ v. slice_get v.values fact.val) (slice_get parts.variables fact.var)

-- what stands after `Atom `
abbrev pub atom_of : List ℕ → Option (List ℕ)
atom_of name = if starts_with nat_eq name (codes "Atom ") then Some (drop 5 name) else None

-- what stands before the first `(`
abbrev pub before_arguments : List ℕ → Option (List ℕ)
before_arguments atom = option_map (λ place. take place atom) (position (λ byte. nat_eq byte 40) atom)

-- The predicate of a fact: its value name is `Atom `, the predicate, `(` and more. Other value names have none.
abbrev pub predicate_of : Parts → Fact → Option (List ℕ)
predicate_of parts fact = option_and_then before_arguments (option_and_then atom_of (value_name parts fact))

abbrev pub same_fact : Fact → Fact → Bool
same_fact a b = nat_eq a.var b.var && nat_eq a.val b.val

abbrev pub has_fact : List Fact → Fact → Bool
has_fact facts fact = list_any (λ f. same_fact f fact) facts

-- two different facts that are two values of one variable, or stand in one mutex group
abbrev pub are_mutex : Parts → Fact → Fact → Bool
are_mutex parts a b = not (same_fact a b) && (nat_eq a.var b.var || list_any (λ group. has_fact group a && has_fact group b) parts.groups)
