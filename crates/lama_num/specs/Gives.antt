-- A call that gives what a function of lists gives, unless memory ran out.
use Rattle.std.specs.Prelude.{◌≡◌, Option, Some, None, Result, Ok, Err}

-- one reading after another: the first fault stops
infixl 10 ◌>>=◌
abbrev pub ◌>>=◌ : {A B F : Type 0} → Result A F → (A → Result B F) → Result B F
(Ok x) >>= f = f x
(Err e) >>= f = Err e

-- an error is the fault that reading gives, where it has one; want of memory has none
abbrev pub Fails : {Y F : Type 0} → Option F → Result Y F → Type 0
Fails None read = Unit {0}
Fails (Some fault) read = read ≡ Err fault

-- what a call returned, seen by a view, is what reading gives
abbrev pub Gives : {X Y E F : Type 0} → (E → Option F) → (X → Y) → Result X E → Result Y F → Type 0
Gives fault_of view (Ok x) read = read ≡ Ok (view x)
Gives fault_of view (Err e) read = Fails (fault_of e) read
