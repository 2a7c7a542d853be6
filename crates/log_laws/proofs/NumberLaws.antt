-- Costs of visits and counters fit 64 bits.
use Rattle.std.proofs.Common.{ℕ, ◌+◌, ◌*◌, ◌≤◌, Bool, true, false, List, [], ◌∷◌, length, Some, None, arith, pos, ◌-ℤ◌, ◌≡◌, ◌^◌, ◌<◌, slice_get, refl}
use Rattle.std.specs.Prelude.{if◌then◌else◌, ◌≤ℤ◌, ◌==◌, sum_by, nat_eq, None}
use Rattle.std.specs.List.{count_by}
use Rattle.std.proofs.Math.Nat.{mul-le-mul}
use Rattle.std.proofs.lemmas.Int.{ints}
use Rattle.std.proofs.lemmas.List.Sums.{sum_by-cons}
use Rattle.std.proofs.lemmas.Bool.Decides.{nat_tests}
use Rattle.lama_num.proofs.ListLaws.{list_all_get}
use Rattle.sas_task.specs.declared.contents.CostKind.{CostKind}
use Rattle.sas_task.specs.declared.contents.CostKind.TheVariants.{Normal, One, PlusOne}
use Rattle.sas_task.specs.declared.contents.Operator.{Operator}
use Rattle.sas_task.specs.declared.contents.Parts.{Parts}
use Rattle.sas_task.specs.Runs.{cost_at, cost_of}
use Rattle.sas_task.proofs.RunLaws.{cost_at-small}
use Rattle.search_log.specs.declared.turns.Pop.{Pop}
use Rattle.log_laws.proofs.ClockLaws.{count_few}
use Rattle.search_log.specs.Phases.{Phase, IsPhase, is_for_preferred}
use Rattle.search_log.specs.Places.{Node, Past, latest}
use Rattle.search_log.specs.Pending.{counter}
use Rattle.log_laws.proofs.LogLaws.{Numbers}
use Rattle.log_laws.proofs.Sound.{Sound, top_cost}
use Rattle.sas_task.specs.Costs as costs

-- Counters stay far from the ends of 64 bits.
pub counters_fit : (phase : Phase) (past : Past) (k : ℕ) → IsPhase phase → Numbers phase past → (counter phase past k ≤ℤ pos 1099511627776) × ((pos 0 -ℤ pos 1099511628776000000) ≤ℤ counter phase past k)
counters_fit phase past k is c =
    by_test (is_for_preferred phase k)
  where
    popped : count_by (λ (p : Pop). p.list == k) past.pops ≤ 1099511627776
    popped = omega (arith, count_few (λ (p : Pop). p.list == k) past.pops, c.pops, is.setting.pops)

    moved : phase.setting.boost * count_by (λ (n : Node). n.progress) past.nodes ≤ 1000000 * 1099511627777
    moved =
        let few : count_by (λ (n : Node). n.progress) past.nodes ≤ 1099511627777 = omega (arith, count_few (λ (n : Node). n.progress) past.nodes, c.visits, c.pops, is.setting.pops) in
        mul-le-mul is.setting.boost few

    by_test : (b : Bool) → ((pos (count_by (λ (p : Pop). p.list == k) past.pops) -ℤ pos (if b then phase.setting.boost * count_by (λ (n : Node). n.progress) past.nodes else 0)) ≤ℤ pos 1099511627776)
        × ((pos 0 -ℤ pos 1099511628776000000) ≤ℤ (pos (count_by (λ (p : Pop). p.list == k) past.pops) -ℤ pos (if b then phase.setting.boost * count_by (λ (n : Node). n.progress) past.nodes else 0)))
    by_test true = (omega (arith, ints, popped, moved), omega (arith, ints, popped, moved))
    by_test false = (omega (arith, ints, popped), omega (arith, ints, popped))

-- how much more the real cost can be than the adjusted one
abbrev factor : CostKind → ℕ
factor Normal = 1
factor One = 2147483647
factor PlusOne = 1

unit_costs : (parts : Parts) (op : ℕ) → costs.is_unit_cost parts ≡ true → cost_at parts op ≤ 1
unit_costs parts op unit =
    elim (slice_get parts.operators op) as (λ o. slice_get parts.operators op ≡ o → cost_at parts op ≤ 1) [
      | None ↦ λ at. rw at (omega arith)
      | Some o ↦ λ at. (let one : nat_eq o.cost 1 ≡ true = list_all_get (λ (x : Operator). nat_eq x.cost 1) parts.operators op o unit at in let e : o.cost ≡ 1 = grind (arith, nat_tests, one) in rw at (omega (arith, e)))
    ] refl

one_fits : (phase : Phase) (kind : CostKind) (op : ℕ) → IsPhase phase → cost_at phase.parts op ≤ costs.adjusted_cost phase.parts op kind * factor kind
one_fits phase Normal op is = omega arith
one_fits phase One op is = omega (arith, cost_at-small phase.parts op is.task)
one_fits phase PlusOne op is = by_test (costs.is_unit_cost phase.parts) refl
  where
    by_test : (b : Bool) → costs.is_unit_cost phase.parts ≡ b → cost_at phase.parts op ≤ (if b then 1 else cost_at phase.parts op + 1) * 1
    by_test true unit = omega (arith, unit_costs phase.parts op unit)
    by_test false unit = omega arith

path_fits : (phase : Phase) (kind : CostKind) (ops : List ℕ) → IsPhase phase → cost_of phase.parts ops ≤ sum_by (λ op. costs.adjusted_cost phase.parts op kind) ops * factor kind
path_fits phase kind [] is = omega arith
path_fits phase kind (op ∷ ops) is = by_kind kind (path_fits phase kind ops is) (one_fits phase kind op is)
  where
    by_kind : (k : CostKind) → cost_of phase.parts ops ≤ sum_by (λ o. costs.adjusted_cost phase.parts o k) ops * factor k → cost_at phase.parts op ≤ costs.adjusted_cost phase.parts op k * factor k
        → cost_of phase.parts (op ∷ ops) ≤ sum_by (λ o. costs.adjusted_cost phase.parts o k) (op ∷ ops) * factor k
    by_kind Normal rest one = omega (arith, rest, one, sum_by-cons (cost_at phase.parts) op ops, sum_by-cons (λ o. costs.adjusted_cost phase.parts o Normal) op ops)
    by_kind One rest one = omega (arith, rest, one, sum_by-cons (cost_at phase.parts) op ops, sum_by-cons (λ o. costs.adjusted_cost phase.parts o One) op ops)
    by_kind PlusOne rest one = omega (arith, rest, one, sum_by-cons (cost_at phase.parts) op ops, sum_by-cons (λ o. costs.adjusted_cost phase.parts o PlusOne) op ops)

pub costs_fit : (phase : Phase) (past : Past) (j : ℕ) (n : Node) → IsPhase phase → Sound phase past → slice_get past.nodes j ≡ Some n → (n.place.g < 2 ^ 62) × (n.place.real < 2 ^ 62)
costs_fit phase past j n is s at =
    let path = s.paths j n at in
    by_kind phase.setting.cost (s.small j n at) (path_fits phase phase.setting.cost n.place.path is) path.g
  where
    by_kind : (k : CostKind) → n.place.g ≤ length (latest past.nodes) * top_cost k → cost_of phase.parts n.place.path ≤ sum_by (λ o. costs.adjusted_cost phase.parts o k) n.place.path * factor k
        → n.place.g ≡ sum_by (λ o. costs.adjusted_cost phase.parts o k) n.place.path → (n.place.g < 2 ^ 62) × (n.place.real < 2 ^ 62)
    by_kind Normal small fits g = (omega (arith, small, s.few, is.setting.few_states), omega (arith, small, s.few, is.setting.few_states, fits, g, (s.paths j n at).real))
    by_kind One small fits g = (omega (arith, small, s.few, is.setting.few_states), omega (arith, small, s.few, is.setting.few_states, fits, g, (s.paths j n at).real))
    by_kind PlusOne small fits g = (omega (arith, small, s.few, is.setting.few_states), omega (arith, small, s.few, is.setting.few_states, fits, g, (s.paths j n at).real))
