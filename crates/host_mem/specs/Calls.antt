-- Which calls are to fail.
use Rattle.std.specs.Prelude.{ℕ, ◌+◌, ◌-◌, ◌^◌, List, Bool, ◌&&◌, Option, nat_eq, min, find, option_map, slice_index, slice_set}
use Rattle.host_mem.specs.declared.calls.HostCall.{HostCall}
use Rattle.host_mem.specs.declared.calls.HostCall.TheVariants.{ReadSome, Create, Append, Rename, Remove, Start, Wait}
use Rattle.host_mem.specs.declared.calls.Fail.{Fail}

abbrev pub kind_of : HostCall → ℕ
kind_of ReadSome = 0
kind_of Create = 1
kind_of Append = 2
kind_of Rename = 3
kind_of Remove = 4
kind_of Start = 5
kind_of Wait = 6

-- how many calls of this kind there were, of a list of numbers by kind
abbrev pub called : List ℕ → HostCall → ℕ
called calls call = slice_index calls (kind_of call)

-- one call more of this kind
abbrev pub raised : List ℕ → HostCall → List ℕ
raised calls call = slice_set calls (kind_of call) (min (called calls call + 1) (2 ^ 64 - 1))

-- an entry for the call of this kind after so many
abbrev pub is_for : HostCall → ℕ → Fail → Bool
is_for call earlier fail = nat_eq (kind_of fail.call) (kind_of call) && nat_eq fail.number (earlier + 1)

-- whether the call after so many is to fail, and then whether after its effect
abbrev pub fault_of : List Fail → HostCall → ℕ → Option Bool
fault_of failing call earlier = option_map (λ fail. fail.after) (find (is_for call earlier) failing)
