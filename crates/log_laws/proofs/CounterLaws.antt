-- Laws of CounterLaws.
use Rattle.std.proofs.Common.{◌≡◌, ◌≢◌, ℕ, zero, suc, ◌+◌, ◌*◌, ◌^◌, ◌<◌, ◌≤◌, min, Bool, true, false, not, cond, List, [], ◌∷◌, ◌++◌, refl, ap, sym, ◌∙◌, arith, inl, inr, pos, ◌+ℤ◌, ◌-ℤ◌}
use Rattle.std.specs.Prelude.{◌&&◌, ◌||◌, ◌==◌, nat_lt, slice_index, if◌then◌else◌}
use Rattle.std.specs.List.{range_with_len, count_by, list_all, list_any}
use Rattle.std.proofs.lemmas.List.Sums.{sum_by_push}
use Rattle.std.proofs.lemmas.List.Folds.{list_all-append}
use Rattle.std.proofs.lemmas.Int.{ints}
use Rattle.std.proofs.lemmas.Bool.{cases_lt, eq-eqb, ne_eqb, lt-ltb, le-ltb}
use Rattle.search_log.specs.declared.turns.Pop.{Pop}
use Rattle.search_log.specs.Logs.{Visit}
use Rattle.search_log.specs.Phases.{Phase, is_for_preferred}
use Rattle.search_log.specs.Places.{Place, Node, is_expanded, estimate, is_progress, is_least_so_far}
use Rattle.search_log.specs.Pending.{counter}
use Rattle.search_log.specs.Counters.{LeastStand}
use Rattle.lama_num.proofs.BoolLaws.{and-true}

abbrev from_list : ℕ → Pop → Bool
from_list k p = p.list == k

pub counter-pop_same : (phase : Phase) (nodes : List Node) (pops : List Pop) (p : Pop) → counter phase (record { nodes = nodes; pops = pops ++ p ∷ [] }) p.list ≡ counter phase (record { nodes = nodes; pops = pops }) p.list +ℤ pos 1
counter-pop_same phase nodes pops p =
    let more : count_by (from_list p.list) (pops ++ p ∷ []) ≡ count_by (from_list p.list) pops + 1 = sum_by_push (λ q. cond (from_list p.list q) 1 0) pops p ∙ ap (λ (b : Bool). count_by (from_list p.list) pops + cond b 1 0) (eq-eqb p.list p.list refl) in
    omega (arith, ints, more)

pub counter-pop_other : (phase : Phase) (nodes : List Node) (pops : List Pop) (p : Pop) (k : ℕ) → k ≢ p.list → counter phase (record { nodes = nodes; pops = pops ++ p ∷ [] }) k ≡ counter phase (record { nodes = nodes; pops = pops }) k
counter-pop_other phase nodes pops p k ne =
    let more : count_by (from_list k) (pops ++ p ∷ []) ≡ count_by (from_list k) pops + 0 = sum_by_push (λ q. cond (from_list k q) 1 0) pops p ∙ ap (λ (b : Bool). count_by (from_list k) pops + cond b 1 0) (ne_eqb p.list k (λ e. ne (sym e))) in
    omega (arith, ints, more)

abbrev progresses : Node → Bool
progresses n = n.progress

pub counter-visit : (phase : Phase) (nodes : List Node) (pops : List Pop) (n : Node) (k : ℕ)
    → counter phase (record { nodes = nodes ++ n ∷ []; pops = pops }) k ≡ (if is_for_preferred phase k && n.progress then counter phase (record { nodes = nodes; pops = pops }) k -ℤ pos phase.setting.boost else counter phase (record { nodes = nodes; pops = pops }) k)
counter-visit phase nodes pops n k = go (is_for_preferred phase k) n.progress (sum_by_push (λ m. cond (progresses m) 1 0) nodes n)
  where
    go : (preferred moved : Bool) → count_by progresses (nodes ++ n ∷ []) ≡ count_by progresses nodes + cond moved 1 0
        → (pos (count_by (from_list k) pops) -ℤ pos (if preferred then phase.setting.boost * count_by progresses (nodes ++ n ∷ []) else 0)) ≡ (if preferred && moved then (pos (count_by (from_list k) pops) -ℤ pos (if preferred then phase.setting.boost * count_by progresses nodes else 0)) -ℤ pos phase.setting.boost else (pos (count_by (from_list k) pops) -ℤ pos (if preferred then phase.setting.boost * count_by progresses nodes else 0)))
    go true true more = let more2 : phase.setting.boost * count_by progresses (nodes ++ n ∷ []) ≡ phase.setting.boost * (count_by progresses nodes + 1) = ap (λ (x : ℕ). phase.setting.boost * x) more in omega (arith, ints, more2)
    go true false more = let more2 : phase.setting.boost * count_by progresses (nodes ++ n ∷ []) ≡ phase.setting.boost * (count_by progresses nodes + 0) = ap (λ (x : ℕ). phase.setting.boost * x) more in omega (arith, ints, more2)
    go false true more = refl
    go false false more = refl

any-range : (f g : ℕ → Bool) (a len n : ℕ) → a + len ≤ n → ((j : ℕ) → j < n → f j ≡ g j) → list_any f (range_with_len a len) ≡ list_any g (range_with_len a len)
any-range f g a zero n h e = refl
any-range f g a (suc len) n h e = ap (λ b. b || list_any f (range_with_len (a + 1) len)) (e a (omega arith)) ∙ ap (λ b. g a || b) (any-range f g (a + 1) len n (omega arith) e)

-- what they say of progress
pub progress_by_least : (phase : Phase) (least : List ℕ) (nodes : List Node) (v : Visit) (place : Place) → LeastStand phase least nodes → ((j : ℕ) → estimate v j < 2 ^ 32)
    → is_progress phase nodes v place ≡ (is_expanded phase v place && list_any (λ j. nat_lt (estimate v j) (slice_index least j)) (range_with_len 0 phase.guides))
progress_by_least phase least nodes v place s small =
    ap (λ b. is_expanded phase v place && b) (sym (any-range (λ j. nat_lt (estimate v j) (slice_index least j)) (is_least_so_far phase nodes v) 0 phase.guides phase.guides (omega arith) (λ j l. s j (estimate v j) l (small j))))

ltb-min : (e a b : ℕ) → nat_lt e (min a b) ≡ (nat_lt e a && nat_lt e b)
ltb-min e a b =
    elim (cases_lt e a) [
      | inl l ↦ elim (cases_lt e b) [
        | inl m ↦ lt-ltb e (min a b) (omega arith) ∙ sym (ap (λ x. x && nat_lt e b) (lt-ltb e a l) ∙ lt-ltb e b m)
        | inr m ↦ le-ltb e (min a b) (omega arith) ∙ sym (ap (λ x. x && nat_lt e b) (lt-ltb e a l) ∙ le-ltb e b m)
      ]
      | inr l ↦ le-ltb e (min a b) (omega arith) ∙ sym (ap (λ x. x && nat_lt e b) (le-ltb e a l))
    ]

-- they fall with each expanded visit
pub least_visited : (phase : Phase) (old new : List ℕ) (nodes : List Node) (n : Node) → LeastStand phase old nodes
    → ((j : ℕ) → j < phase.guides → slice_index new j ≡ (if is_expanded phase n.visit n.place then min (slice_index old j) (estimate n.visit j) else slice_index old j)) → LeastStand phase new (nodes ++ n ∷ [])
least_visited phase old new nodes n s kept j e l small =
    let test = λ (m : Node). not (is_expanded phase m.visit m.place) || nat_lt e (estimate m.visit j) in
    ap (nat_lt e) (kept j l)
    ∙ go (is_expanded phase n.visit n.place) (list_all test nodes) (s j e l small)
    ∙ ap (λ b. list_all test nodes && b) (sym (and-true (test n)))
    ∙ sym (list_all-append test nodes (n ∷ []))
  where
    go : (expanded all : Bool) → nat_lt e (slice_index old j) ≡ all → nat_lt e (if expanded then min (slice_index old j) (estimate n.visit j) else slice_index old j) ≡ (all && (not expanded || nat_lt e (estimate n.visit j)))
    go true all h = ltb-min e (slice_index old j) (estimate n.visit j) ∙ ap (λ b. b && nat_lt e (estimate n.visit j)) h
    go false all h = h ∙ sym (and-true all)
