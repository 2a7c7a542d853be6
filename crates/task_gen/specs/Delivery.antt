-- The delivery task: a truck brings packages along a road.
use Rattle.std.specs.Prelude.{ℕ, ◌+◌, ◌*◌, ◌%◌, ◌≤◌, List, [], ◌∷◌, ◌++◌, map, flat_map, codes, decimal, None, false}
use Rattle.std.specs.List.{range_with_len}
use Rattle.sas_task.specs.declared.contents.Fact.{Fact}
use Rattle.sas_task.specs.declared.contents.Variable.{Variable}
use Rattle.sas_task.specs.declared.contents.Operator.{Operator}
use Rattle.sas_task.specs.declared.contents.Parts.{Parts}

pub record IsPackageCount (n : ℕ) : Type 0 where
  pub low : 1 ≤ n
  pub high : n ≤ 100

-- places from 0 to n, and packages from 1 to n
abbrev pub places : ℕ → List ℕ
places n = range_with_len 0 (n + 1)

abbrev pub packages : ℕ → List ℕ
packages n = range_with_len 1 n

-- names of values: the truck at a place, a package at a place, and a package in the truck
abbrev pub truck_at : ℕ → List ℕ
truck_at i = codes "Atom truck-at(" ++ (decimal i ++ codes ")")

abbrev pub at_place : ℕ → ℕ → List ℕ
at_place k i = codes "Atom at(" ++ (decimal k ++ (codes ", " ++ (decimal i ++ codes ")")))

abbrev pub inside : ℕ → List ℕ
inside k = codes "Atom in(" ++ (decimal k ++ codes ")")

-- Variable 0 is the truck: value i is place i.
unfoldable pub truck_of : ℕ → Variable
truck_of n = record { name = codes "truck"; layer = None; values = map truck_at (places n) }

-- Variable k is package k: value i is place i, and value n + 1 is in the truck.
unfoldable pub package_of : ℕ → ℕ → Variable
package_of n k = record { name = codes "package" ++ decimal k; layer = None; values = map (at_place k) (places n) ++ inside k ∷ [] }

-- where package k is, and where it has to be
abbrev pub starts_at : ℕ → ℕ → ℕ
starts_at n k = (7 * k + 3) % (n + 1)

abbrev pub ends_at : ℕ → ℕ → ℕ
ends_at n k = (5 * k + 1) % (n + 1)

abbrev pub fact_of : ℕ → ℕ → Fact
fact_of var val = record { var = var; val = val }

-- an operator of cost 1 with one effect, which has no conditions
abbrev pub giving : List ℕ → List Fact → Fact → Operator
giving name pre fact = record { name = name; pre = pre; effects = record { conds = []; fact = fact } ∷ []; cost = 1 }

-- the truck goes from one place to another
unfoldable pub move_to : ℕ → ℕ → Operator
move_to i j = giving (codes "move " ++ (decimal i ++ (codes " " ++ decimal j))) (fact_of 0 i ∷ []) (fact_of 0 j)

-- where the truck is at place i, package k gets into it, and out of it
unfoldable pub load : ℕ → ℕ → ℕ → Operator
load n k i = giving (codes "load " ++ (decimal k ++ (codes " " ++ decimal i))) (fact_of 0 i ∷ fact_of k i ∷ []) (fact_of k (n + 1))

unfoldable pub unload : ℕ → ℕ → ℕ → Operator
unload n k i = giving (codes "unload " ++ (decimal k ++ (codes " " ++ decimal i))) (fact_of 0 i ∷ fact_of k (n + 1) ∷ []) (fact_of k i)

-- from each place to the next, and back
abbrev pub moves : ℕ → List Operator
moves n = flat_map (λ i. move_to i (i + 1) ∷ move_to (i + 1) i ∷ []) (range_with_len 0 n)

-- one package_of, at each place
abbrev pub loads_of : ℕ → ℕ → List Operator
loads_of n k = flat_map (λ i. load n k i ∷ unload n k i ∷ []) (places n)

abbrev pub loads : ℕ → List Operator
loads n = flat_map (loads_of n) (packages n)

-- the task of n packages and n + 1 places; the truck starts at place 0
unfoldable pub delivery : ℕ → Parts
delivery n = record {
  metric = false;
  variables = truck_of n ∷ map (package_of n) (packages n);
  groups = [];
  init = 0 ∷ map (starts_at n) (packages n);
  goal = map (λ k. fact_of k (ends_at n k)) (packages n);
  operators = moves n ++ loads n;
  rules = [];
}
