-- Loops over the nodes.
use Rattle.std.proofs.Common.{◌≡◌, ◌∙◌, sym, ap, refl, ℕ, zero, suc, ◌+◌, ◌%◌, ◌<◌, ◌≤◌, ◌⊎◌, inl, inr, List, [], ◌∷◌, ◌++◌, length, Bool, true, false, nat_eq, nat_lt, ◌||◌, ◌&&◌, not, arith}
use Rattle.std.proofs.Math.Path.{fun_ext}
use Rattle.std.proofs.lemmas.Bool.Decides.{nat_tests}
use Rattle.std.proofs.lemmas.List.Sums.{fold-append}
use Rattle.std.proofs.lemmas.Nat.Bits.{bit_at-zero}
use Rattle.lm_graph.specs.declared.nodes.Node.{Node}
use Rattle.lm_graph.specs.Graphs.{Content}
use Rattle.lm_status.specs.Accepted.{facts_of, opens, accepted_next}
use Rattle.bit_rows.specs.Rows.{has}
use Rattle.lm_status.specs.Rows.{StandsFor}
use Rattle.lama_num.proofs.BoolLaws.{or-false as or_false}

-- what was added to a row for the nodes below a number
pub record AddedBelow (n : ℕ) (row : List ℕ) (before test : ℕ → Bool) : Type 0 where
  pub each : (m : ℕ) → has row m ≡ (before m || (nat_lt m n && test m))

cases : (m n : ℕ) → (m < n) ⊎ ((m ≡ n) ⊎ (n < m))
cases m n = grind arith

pub none_below : (row : List ℕ) (before test : ℕ → Bool) → ((m : ℕ) → has row m ≡ before m) → AddedBelow 0 row before test
none_below row before test same = record { each = λ m. let none : nat_lt m 0 ≡ false = grind (arith, nat_tests) in rw (none, or_false (before m)) (same m) }

-- the next node is added
pub added_more : (n : ℕ) (old new : List ℕ) (before test : ℕ → Bool) → AddedBelow n old before test → (not (before n) && test n) ≡ true → ((m : ℕ) → has new m ≡ (nat_eq n m || has old m)) → AddedBelow (n + 1) new before test
added_more n old new before test added passes put = record { each = λ m. by_case m (cases m n) }
  where
    second : (a b : Bool) → (a && b) ≡ true → b ≡ true
    second true b e = e
    second false b e = let k : false ≡ true = e in cc

    ends : (b : Bool) → true ≡ (b || true)
    ends true = refl
    ends false = refl

    by_case : (m : ℕ) → (m < n) ⊎ ((m ≡ n) ⊎ (n < m)) → has new m ≡ (before m || (nat_lt m (n + 1) && test m))
    by_case m (inl lt) =
        let apart : nat_eq n m ≡ false = grind (arith, nat_tests) in
        let a : nat_lt m n ≡ true = grind (arith, nat_tests) in
        let b : nat_lt m (n + 1) ≡ true = grind (arith, nat_tests) in
        rw (put m, apart, added.each m, a, b) refl
    by_case m (inr (inl same)) =
        let here : nat_eq n m ≡ true = grind (arith, nat_tests) in
        let b : nat_lt m (n + 1) ≡ true = grind (arith, nat_tests) in
        let t : test m ≡ true = ap test same ∙ second (not (before n)) (test n) passes in
        rw (put m, here, b, t) (ends (before m))
    by_case m (inr (inr gt)) =
        let apart : nat_eq n m ≡ false = grind (arith, nat_tests) in
        let a : nat_lt m n ≡ false = grind (arith, nat_tests) in
        let b : nat_lt m (n + 1) ≡ false = grind (arith, nat_tests) in
        rw (put m, apart, added.each m, a, b) refl

-- the next node isn't
pub kept_more : (n : ℕ) (row : List ℕ) (before test : ℕ → Bool) → AddedBelow n row before test → (not (before n) && test n) ≡ false → AddedBelow (n + 1) row before test
kept_more n row before test added fails = record { each = λ m. by_case m (cases m n) }
  where
    neither : (a b : Bool) → (not a && b) ≡ false → (a || (false && b)) ≡ (a || b)
    neither true b e = refl
    neither false b e = sym e

    by_case : (m : ℕ) → (m < n) ⊎ ((m ≡ n) ⊎ (n < m)) → has row m ≡ (before m || (nat_lt m (n + 1) && test m))
    by_case m (inl lt) =
        let a : nat_lt m n ≡ true = grind (arith, nat_tests) in
        let b : nat_lt m (n + 1) ≡ true = grind (arith, nat_tests) in
        rw (added.each m, a, b) refl
    by_case m (inr (inl same)) =
        let a : nat_lt m n ≡ false = grind (arith, nat_tests) in
        let b : nat_lt m (n + 1) ≡ true = grind (arith, nat_tests) in
        let here : (not (before m) && test m) ≡ false = ap (λ k. not (before k) && test k) same ∙ fails in
        rw (added.each m, a, b) (neither (before m) (test m) here)
    by_case m (inr (inr gt)) =
        let a : nat_lt m n ≡ false = grind (arith, nat_tests) in
        let b : nat_lt m (n + 1) ≡ false = grind (arith, nat_tests) in
        rw (added.each m, a, b) refl

facts_past : (nodes : List Node) (m : ℕ) → length nodes ≤ m → facts_of nodes m ≡ []
facts_past [] m past = refl
facts_past (node ∷ nodes) zero past = absurd (omega arith)
facts_past (node ∷ nodes) (suc m) past = facts_past nodes m (omega arith)

-- after all nodes
pub all_added : (graph : Content) (row : List ℕ) (before : ℕ → Bool) (state : List ℕ) → AddedBelow (length graph.nodes) row before (opens graph before state) → (m : ℕ) → has row m ≡ accepted_next graph before state m
all_added graph row before state added m = by_case (cases m (length graph.nodes))
  where
    past : length graph.nodes ≤ m → opens graph before state m ≡ false
    past le = let none : facts_of graph.nodes m ≡ [] = facts_past graph.nodes m le in rw none refl

    by_end : length graph.nodes ≤ m → has row m ≡ accepted_next graph before state m
    by_end le =
        let a : nat_lt m (length graph.nodes) ≡ false = grind (arith, nat_tests) in
        let b : opens graph before state m ≡ false = past le in
        added.each m ∙ (ap (λ t. before m || (t && opens graph before state m)) a ∙ ap (λ t. before m || t) (sym b))

    by_case : (m < length graph.nodes) ⊎ ((m ≡ length graph.nodes) ⊎ (length graph.nodes < m)) → has row m ≡ accepted_next graph before state m
    by_case (inl lt) = let a : nat_lt m (length graph.nodes) ≡ true = grind (arith, nat_tests) in added.each m ∙ ap (λ t. before m || (t && opens graph before state m)) a
    by_case (inr (inl same)) = by_end (omega arith)
    by_case (inr (inr gt)) = by_end (omega arith)

-- the row of a path with one state
none_at : (m : ℕ) → has [] m ≡ false
none_at m = let zero_bit = bit_at-zero (m % 64) in rw zero_bit refl

pub first_stands : (graph : Content) (row : List ℕ) (state : List ℕ) → ((m : ℕ) → has row m ≡ accepted_next graph (has []) state m) → StandsFor graph row (state ∷ [])
first_stands graph row state each = record { same = fun_ext (λ m. each m ∙ ap (λ (f : ℕ → Bool). accepted_next graph f state m) (fun_ext none_at)) }

-- and of one that goes on by a state
pub next_stands : (graph : Content) (parent row : List ℕ) (states : List (List ℕ)) (state : List ℕ) → StandsFor graph parent states → ((m : ℕ) → has row m ≡ accepted_next graph (has parent) state m) → StandsFor graph row (states ++ state ∷ [])
next_stands graph parent row states state stands each = record {
  same = fun_ext (λ m. each m ∙ ap (λ (f : ℕ → Bool). accepted_next graph f state m) stands.same)
      ∙ sym (fold-append (accepted_next graph) (λ node. false) states (state ∷ []));
}
