-- How many pops there are, by what the visits put into the lists.
use Rattle.std.proofs.Common.{◌≡◌, ◌≢◌, ℕ, zero, suc, ◌+◌, ◌*◌, ◌<◌, ◌≤◌, Bool, true, false, List, [], ◌∷◌, ◌++◌, map, length, Some, refl, ap, sym, ◌∙◌, subst, arith, inl, inr}
use Rattle.std.specs.Prelude.{is_some, if◌then◌else◌, slice_set, nat_lt}
use Rattle.std.specs.List.{filter, flat_map, fold, list_all, range_with_len}
use Rattle.std.proofs.Math.Nat.{zero-mul, suc-mul}
use Rattle.std.proofs.lemmas.List.{append-nil, length-append, length-map}
use Rattle.std.proofs.lemmas.List.Concat.{flat_map-append}
use Rattle.std.proofs.lemmas.List.Edits.{length-remove}
use Rattle.std.proofs.lemmas.List.FromFn.{length-range_with_len}
use Rattle.std.proofs.lemmas.Option.{slice_get_within}
use Rattle.std.proofs.lemmas.Bool.{cases_Bool, cases_eq, cases_lt, false≢true, le-ltb}
use Rattle.sas_task.specs.States.{is_applicable}
use Rattle.open_lists.specs.Items.{Item}
use Rattle.search_log.specs.declared.turns.Pop.{Pop}
use Rattle.search_log.specs.Logs.{Visit}
use Rattle.search_log.specs.Phases.{Phase, IsPhase, lists_of}
use Rattle.search_log.specs.Places.{Node, Past, Turn, latest, id_of, is_expanded, makes_visit, node_at, extend, start_past, past_of, turns}
use Rattle.guide.specs.Operators.{applicable_operators}
use Rattle.search_log.specs.Pending.{pending, puts_of, is_put, item_for}
use Rattle.search_log.specs.Lawful.{IsNext, Follow, Lawful}
use Rattle.log_laws.proofs.Sound.{Sound}
use Rattle.log_laws.proofs.Elements.{filter-keep, filter-skip}
use Rattle.lama_num.proofs.ListLaws.{found_at}
use Rattle.log_laws.proofs.PendingLaws.{pending-visited, pending-popped, pending-other}
use Rattle.log_laws.proofs.TableLaws.{latest-push}
use Rattle.log_laws.proofs.SoundLaws.{sound_pop, first_node}
use Rattle.log_laws.proofs.TurnLaws.{bare, with_visit, extend_bare, extend_made, leads_to, visit_by_result}
use Rattle.log_laws.proofs.LogLaws.{Matched, by_made, matched_turns, sound_turn, start_sound}

-- the sum of a function's first n values
abbrev pub sum_below : (ℕ → ℕ) → ℕ → ℕ
sum_below f zero = 0
sum_below f (suc n) = sum_below f n + f n

sum_same : (f g : ℕ → ℕ) (n : ℕ) → ((k : ℕ) → k < n → f k ≡ g k) → sum_below f n ≡ sum_below g n
sum_same f g zero h = refl
sum_same f g (suc n) h = omega (arith, sum_same f g n (λ k l. h k (omega arith)), h n (omega arith))

sum_both : (f g h : ℕ → ℕ) (n : ℕ) → ((k : ℕ) → f k ≡ g k + h k) → sum_below f n ≡ sum_below g n + sum_below h n
sum_both f g h zero e = refl
sum_both f g h (suc n) e = omega (arith, sum_both f g h n e, e n)

-- two functions that differ by one at one place
sum_one : (f g : ℕ → ℕ) (j n : ℕ) → j < n → f j ≡ g j + 1 → ((k : ℕ) → k ≢ j → f k ≡ g k) → sum_below f n ≡ sum_below g n + 1
sum_one f g j zero l e others = absurd (omega (arith, l))
sum_one f g j (suc n) l e others =
    elim (cases_eq j n) [
      | inl here ↦
          let front = sum_same f g n (λ k m. others k (λ s. omega (arith, s, m, here))) in
          let last : f n ≡ g n + 1 = subst (λ (x : ℕ). f x ≡ g x + 1) here e in
          omega (arith, front, last)
      | inr there ↦ omega (arith, sum_one f g j n (omega (arith, l, there)) e others, others n (λ s. there (sym s)))
    ]

sum_most : (f : ℕ → ℕ) (most n : ℕ) → ((k : ℕ) → f k ≤ most) → sum_below f n ≤ n * most
sum_most f most zero h = omega (arith, zero-mul most)
sum_most f most (suc n) h = omega (arith, sum_most f most n h, h n, suc-mul n most)

-- what was put into list k, and what waits there
abbrev put_count : Phase → List Node → ℕ → ℕ
put_count phase nodes k = length (flat_map (puts_of phase k) nodes)

abbrev waiting : Phase → Past → ℕ → ℕ
waiting phase past k = length (pending phase past k)

abbrev pub all_waiting : Phase → Past → ℕ
all_waiting phase past = sum_below (waiting phase past) (lists_of phase)

abbrev pub all_put : Phase → Past → ℕ
all_put phase past = sum_below (put_count phase past.nodes) (lists_of phase)

-- Each entry that was put waits or was popped; and where no state is visited again, each visit is its state's latest.
pub record Counted (phase : Phase) (past : Past) : Type 0 where
  pub total : length past.pops + all_waiting phase past ≡ all_put phase past
  pub alone : phase.setting.reopen ≡ false → latest past.nodes ≡ past.nodes

put_more : (phase : Phase) (nodes : List Node) (n : Node) (k : ℕ) → put_count phase (nodes ++ n ∷ []) k ≡ put_count phase nodes k + length (puts_of phase k n)
put_more phase nodes n k =
    ap length (flat_map-append (puts_of phase k) nodes (n ∷ []))
    ∙ length-append (flat_map (puts_of phase k) nodes) (puts_of phase k n ++ [])
    ∙ ap (λ (xs : List Item). put_count phase nodes k + length xs) (append-nil (puts_of phase k n))

total_visit : (phase : Phase) (nodes : List Node) (pops : List Pop) (n : Node) → n.number ≡ length nodes → list_all (λ (p : Pop). nat_lt p.parent (length nodes)) pops ≡ true
    → length pops + all_waiting phase (record { nodes = nodes; pops = pops }) ≡ all_put phase (record { nodes = nodes; pops = pops })
    → length pops + all_waiting phase (record { nodes = nodes ++ n ∷ []; pops = pops }) ≡ all_put phase (record { nodes = nodes ++ n ∷ []; pops = pops })
total_visit phase nodes pops n num below total =
    let old : Past = record { nodes = nodes; pops = pops } in
    let new : Past = record { nodes = nodes ++ n ∷ []; pops = pops } in
    let more = λ (k : ℕ). length (puts_of phase k n) in
    let a = sum_both (waiting phase new) (waiting phase old) more (lists_of phase) (λ k. ap length (pending-visited phase nodes pops n k num below) ∙ length-append (pending phase old k) (puts_of phase k n)) in
    let b = sum_both (put_count phase (nodes ++ n ∷ [])) (put_count phase nodes) more (lists_of phase) (put_more phase nodes n) in
    omega (arith, a, b, total)

total_pop : (phase : Phase) (past : Past) (t : Turn) → Sound phase past → IsNext phase past t → length past.pops + all_waiting phase past ≡ all_put phase past
    → length (past.pops ++ t.pop ∷ []) + all_waiting phase (record { nodes = past.nodes; pops = past.pops ++ t.pop ∷ [] }) ≡ all_put phase past
total_pop phase past t s n total =
    let new : Past = record { nodes = past.nodes; pops = past.pops ++ t.pop ∷ [] } in
    let rest = pending-popped phase past.nodes past.pops t.pop n.place n.item s.numbered n.oldest.here n.entry in
    let one = length-remove (pending phase past t.pop.list) n.place (slice_get_within (pending phase past t.pop.list) n.place n.item n.oldest.here) in
    let less : waiting phase past t.pop.list ≡ waiting phase new t.pop.list + 1 = omega (arith, one, ap length rest) in
    let sum = sum_one (waiting phase past) (waiting phase new) t.pop.list (lists_of phase) n.list.exists less (λ k ne. ap length (sym (pending-other phase past.nodes past.pops t.pop k ne))) in
    omega (arith, sum, total, length-append past.pops (t.pop ∷ []))

-- a visit of a new state is put at the end
alone_visit : (nodes : List Node) (n : Node) → latest nodes ≡ nodes → length (latest nodes) ≤ n.visit.id → latest (nodes ++ n ∷ []) ≡ nodes ++ n ∷ []
alone_visit nodes n same over =
    latest-push nodes n
    ∙ ap (λ (b : Bool). if b then slice_set (latest nodes) n.visit.id n else latest nodes ++ n ∷ []) (le-ltb n.visit.id (length (latest nodes)) over)
    ∙ ap (λ (ns : List Node). ns ++ n ∷ []) same

counted_bare : (phase : Phase) (past : Past) (p : Pop) → Sound phase past → Counted phase past → IsNext phase past (bare p) → Counted phase (extend phase past (bare p))
counted_bare phase past p s c n =
    subst (Counted phase) (sym (extend_bare phase past p)) (record { total = total_pop phase past (bare p) s n c.total; alone = c.alone })

counted_made : (phase : Phase) (past : Past) (p : Pop) (v : Visit) → Sound phase past → Counted phase past → IsNext phase past (with_visit p v) → makes_visit p.result ≡ true → Counted phase (extend phase past (with_visit p v))
counted_made phase past p v s c n makes =
    let l = leads_to phase past p n.to n.leads in
    let node = node_at phase past.nodes n.to v in
    let popped = sound_pop phase past.nodes past.pops p s (slice_get_within past.nodes p.parent l.parent l.at) in
    let a = visit_by_result phase past n.to (Some v) (ap makes_visit (sym n.result) ∙ makes) in
    subst (Counted phase) (sym (extend_made phase past p v n.to n.leads)) (record {
      total = total_visit phase past.nodes (past.pops ++ p ∷ []) node refl popped.taken (total_pop phase past (with_visit p v) s n c.total);
      alone = λ closed. alone_visit past.nodes node (c.alone closed) (elim (cases_lt (id_of past.nodes n.to.state) (length (latest past.nodes))) [
        | inr over ↦ omega (arith, n.id, over)
        | inl l ↦
            let m = found_at (latest past.nodes) (id_of past.nodes n.to.state) l in
            absurd (false≢true (sym closed ∙ (a.known m.0 m.1).0))
      ]);
    })

counted_turn : (phase : Phase) (past : Past) (t : Turn) → Sound phase past → Counted phase past → IsNext phase past t → is_some t.made ≡ makes_visit t.pop.result → Counted phase (extend phase past t)
counted_turn phase past t s c n m =
    by_made (λ u. IsNext phase past u → Counted phase (extend phase past u)) t m
    (λ bars next. counted_bare phase past t.pop s c next)
    (λ v e makes next. counted_made phase past t.pop v s c next makes) n

counted_turns : (phase : Phase) (past : Past) (ts : List Turn) → IsPhase phase → Sound phase past → Counted phase past → Follow phase past ts → Matched ts → Counted phase (fold (extend phase) past ts)
counted_turns phase past [] is s c f m = c
counted_turns phase past (t ∷ ts) is s c f m =
    counted_turns phase (extend phase past t) ts is (sound_turn phase past t is s f.0 m.0) (counted_turn phase past t s c f.0 m.0) f.1 m.1

counted_start : (phase : Phase) (v : Visit) → Counted phase (start_past phase v)
counted_start phase v = record {
  total = total_visit phase [] [] (first_node phase v) refl refl (nothing (lists_of phase));
  alone = λ closed. alone_visit [] (first_node phase v) refl (omega arith);
}
  where
    none_put : (n : ℕ) → sum_below (put_count phase []) n ≡ 0
    none_put zero = refl
    none_put (suc n) = omega (arith, none_put n)

    none_waiting : (n : ℕ) → sum_below (waiting phase (record { nodes = []; pops = [] })) n ≡ 0
    none_waiting zero = refl
    none_waiting (suc n) = omega (arith, none_waiting n)

    nothing : (n : ℕ) → 0 + sum_below (waiting phase (record { nodes = []; pops = [] })) n ≡ sum_below (put_count phase []) n
    nothing n = omega (arith, none_put n, none_waiting n)

pub lawful_counted : (phase : Phase) (visits : List Visit) (pops : List Pop) → IsPhase phase → Lawful phase visits pops → 0 < length visits → Counted phase (past_of phase visits pops)
lawful_counted phase [] pops is l begun = absurd (omega (arith, begun))
lawful_counted phase (v ∷ vs) pops is l begun =
    counted_turns phase (start_past phase v) (turns pops vs) is (start_sound phase v is l.0.id) (counted_start phase v) l.1 (matched_turns pops vs l.2)

-- a visit puts at most one entry for each operator into a list
filter_few : {X : Type 0} (f : X → Bool) (xs : List X) → length (filter f xs) ≤ length xs
filter_few f [] = omega arith
filter_few f (x ∷ xs) = elim (cases_Bool (f x)) [
  | inl t ↦ omega (arith, ap length (filter-keep f x xs t), filter_few f xs)
  | inr e ↦ omega (arith, ap length (filter-skip f x xs e), filter_few f xs)
]

puts_few : (phase : Phase) (k : ℕ) (n : Node) → length (puts_of phase k n) ≤ length phase.parts.operators
puts_few phase k n = by_test (is_expanded phase n.visit n.place)
  where
    by_test : (b : Bool) → length (if b then map (item_for phase k n) (filter (is_put phase k n) (applicable_operators phase.parts n.place.state)) else []) ≤ length phase.parts.operators
    by_test false = omega arith
    by_test true = omega (
      arith,
      length-map (filter (is_put phase k n) (applicable_operators phase.parts n.place.state)) (item_for phase k n),
      filter_few (is_put phase k n) (applicable_operators phase.parts n.place.state),
      filter_few (is_applicable phase.parts n.place.state) (range_with_len 0 (length phase.parts.operators)),
      length-range_with_len 0 (length phase.parts.operators),
    )

list_few : (phase : Phase) (k : ℕ) (nodes : List Node) → put_count phase nodes k ≤ length nodes * length phase.parts.operators
list_few phase k [] = omega arith
list_few phase k (n ∷ ns) =
    omega (arith, length-append (puts_of phase k n) (flat_map (puts_of phase k) ns), puts_few phase k n, list_few phase k ns, suc-mul (length ns) (length phase.parts.operators))

-- all that was put
pub put_few : (phase : Phase) (past : Past) → all_put phase past ≤ lists_of phase * (length past.nodes * length phase.parts.operators)
put_few phase past = sum_most (put_count phase past.nodes) (length past.nodes * length phase.parts.operators) (lists_of phase) (λ k. list_few phase k past.nodes)

-- what waits in one list waits
pub one_waiting : (phase : Phase) (past : Past) (k : ℕ) → k < lists_of phase → length (pending phase past k) ≤ all_waiting phase past
one_waiting phase past k l = go (lists_of phase) l
  where
    go : (n : ℕ) → k < n → waiting phase past k ≤ sum_below (waiting phase past) n
    go zero l = absurd (omega (arith, l))
    go (suc n) l = elim (cases_eq k n) [
      | inl here ↦ let e : waiting phase past k ≡ waiting phase past n = ap (waiting phase past) here in omega (arith, e)
      | inr there ↦ omega (arith, go n (omega (arith, l, there)))
    ]
