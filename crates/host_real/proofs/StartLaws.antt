-- A start, of which nothing is told but the slots and the faults.
use Rattle.std.proofs.Common.{◌≡◌, ℕ, ◌≤◌, List, [], ◌∷◌, ◌++◌, Result, Ok, Err, OnOk, OnErr, is_ok, rules, sym}
use Rattle.std.proofs.lemmas.Bool.{false≢true}
use Rattle.lama_host.specs.declared.children.Limits.{Limits}
use Rattle.lama_host.specs.Folder.{Rose}
use Rattle.lama_host.specs.Host.{Starts}
use Rattle.host_real.specs.Untold.{untold}

-- what holds where one call succeeded or failed, where another ended the same way
pub on_ok : {T S E F : Type 0} (P : Type 0) → (answer : Result S F) (result : Result T E) → is_ok result ≡ is_ok answer → OnOk answer P → OnOk result P
on_ok P (Ok x) (Ok y) e p = p
on_ok P (Err x) (Ok y) e p = absurd (false≢true (sym e))
on_ok P answer (Err y) e p = tt

pub on_err : {T S E F : Type 0} (P : Type 0) → (answer : Result S F) (result : Result T E) → is_ok result ≡ is_ok answer → OnErr answer P → OnErr result P
on_err P (Err x) (Err y) e p = p
on_err P (Ok x) (Err y) e p = absurd (false≢true e)
on_err P answer (Ok y) e p = tt

pub starts_untold : {T E : Type 0} (slots now : List ℕ) (f g slot : ℕ) (words : List (List ℕ)) (input : List ℕ) (limits : Limits) (result : Result T E) →
    f ≤ g → OnErr result (Rose f g) → OnOk result (now ≡ slots ++ slot ∷ []) → OnErr result (now ≡ slots) →
    Starts (untold slots f) (untold now g) slot words input limits result
starts_untold slots now f g slot words input limits (Ok x) later rose added same = search rules
starts_untold slots now f g slot words input limits (Err e) later rose added same = search rules
