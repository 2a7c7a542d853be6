-- The configurations that are built in are within the limits.
use Rattle.std.proofs.Common.{◌≡◌, refl, ℕ, ◌≤◌, Bool, true, false, List, [], ◌∷◌, Option, Some, None, arith}
use Rattle.std.specs.Prelude.{All, IfSome, if◌then◌else◌, codes}
use Rattle.std.specs.Str.{bytes_eq}
use Rattle.std.proofs.lemmas.List.Elements.{All-nil, All-cons}
use Rattle.sas_task.specs.declared.contents.CostKind.{CostKind}
use Rattle.sas_task.specs.declared.contents.CostKind.TheVariants.{Normal, One, PlusOne}
use Rattle.conf_text.specs.Accepted.{IsPhase, IsConfig}
use Rattle.conf_text.specs.AliasConfigs.{greedy, weighted, weighted_phases, lama, lama_first, alias_config}
use Rattle.conf_text.specs.declared.config.Config.{Config}
use Rattle.conf_text.specs.declared.config.Phase.{Phase}

greedy_is : (cost estimate : CostKind) → IsPhase (greedy cost estimate)
greedy_is cost estimate = record { some = omega arith; guides = refl; preferred = refl; weight = tt; boost = omega arith; most_pops = omega arith; most_states = (omega arith, omega arith) }

weighted_is : (estimate : CostKind) (w : ℕ) → 1 ≤ w → w ≤ 1000 → IsPhase (weighted estimate w)
weighted_is estimate w low high = record { some = omega arith; guides = refl; preferred = refl; weight = (low, high); boost = omega arith; most_pops = omega arith; most_states = (omega arith, omega arith) }

more : (p : Phase) (ps : List Phase) → IsPhase p → All IsPhase ps → All IsPhase (p ∷ ps)
more = All-cons IsPhase

last_phases : (estimate : CostKind) → All IsPhase (weighted_phases estimate)
last_phases e =
    more (weighted e 5) (weighted e 3 ∷ weighted e 2 ∷ weighted e 1 ∷ []) (weighted_is e 5 (omega arith) (omega arith))
    (more (weighted e 3) (weighted e 2 ∷ weighted e 1 ∷ []) (weighted_is e 3 (omega arith) (omega arith))
    (more (weighted e 2) (weighted e 1 ∷ []) (weighted_is e 2 (omega arith) (omega arith))
    (more (weighted e 1) [] (weighted_is e 1 (omega arith) (omega arith)) (All-nil IsPhase))))

lama_is : (unit_cost : Bool) → IsConfig (lama unit_cost)
lama_is true = record { phases = more (greedy Normal Normal) (weighted_phases Normal) (greedy_is Normal Normal) (last_phases Normal); some = omega arith; few = omega arith; single = λ e. let k : true ≡ false = e in cc }
lama_is false = record {
  phases = more (greedy One One) (greedy Normal PlusOne ∷ weighted_phases PlusOne) (greedy_is One One) (more (greedy Normal PlusOne) (weighted_phases PlusOne) (greedy_is Normal PlusOne) (last_phases PlusOne));
  some = omega arith;
  few = omega arith;
  single = λ e. let k : true ≡ false = e in cc;
}

lama_first_is : IsConfig lama_first
lama_first_is = record { phases = more (greedy One One) [] (greedy_is One One) (All-nil IsPhase); some = omega arith; few = omega arith; single = λ e. (refl, refl) }

by_names : (is_lama is_first unit_cost : Bool) → IfSome (if is_lama then Some (lama unit_cost) else (if is_first then Some lama_first else None)) IsConfig
by_names true is_first unit_cost = lama_is unit_cost
by_names false true unit_cost = lama_first_is
by_names false false unit_cost = tt

pub alias_accepted : (config : Option Config) (name : List ℕ) (unit_cost : Bool) → config ≡ alias_config name unit_cost → IfSome config IsConfig
alias_accepted config name unit_cost is = rw is (by_names (bytes_eq name (codes "lama")) (bytes_eq name (codes "lama-first")) unit_cost)
