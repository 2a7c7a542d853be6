-- Marked numbers, and a flood of marks over rows.
use Rattle.std.proofs.Common.{◌≡◌, ◌∙◌, sym, ap, refl, subst, ℕ, zero, suc, ◌+◌, ◌<◌, ◌≤◌, List, [], ◌∷◌, ◌++◌, length, take, get_or, Bool, true, false, ◌||◌, ◌&&◌, nat_eq, cond, Option, Some, None, slice_get, slice_set, inl, inr, arith, length-append, append_assoc, count_by, unwrap_or, replicate}
use Rattle.std.proofs.lemmas.List.{append-nil, length-set, length-replicate}
use Rattle.std.proofs.lemmas.List.Folds.{list_any_more}
use Rattle.std.proofs.lemmas.List.Sums.{sum_by-set}
use Rattle.std.proofs.lemmas.Bool.{cases_eq, eq-eqb, ne_eqb, or_cases, or_left, or_right, both_ways, cases_lt}
use Rattle.std.proofs.lemmas.Option.{same_Some, none-some, slice_get_within, slice_get-get_or}
use Rattle.lm_graph.specs.declared.orders.Order.{Order}
use Rattle.lm_graph.specs.declared.orders.Edge.{Edge}
use Rattle.lm_graph.specs.Orders.{is_strong}
use Rattle.lm_graph.specs.Rows.{kind_in, past_end, IsAscending}
use Rattle.lm_graph.specs.Graphs.{row_of}
use Rattle.lm_graph.specs.Paths.{Path, one, more}
use Rattle.lm_graph.specs.Marks.{is_seen, takes, is_taken, InStep, Marks, kinds_in, AreWithin}
use Rattle.lm_graph.proofs.FloodLaws.{Floods}
use Rattle.lm_graph.proofs.Lists.{get_set_here, get_set_other, push_get, get_front, front_get, get_last}
use Rattle.lm_graph.proofs.Strengths.{taken-strong, kind_at_place}

seen_within : (seen : List Bool) (i : ℕ) → is_seen seen i ≡ true → i < length seen
seen_within seen i h = by (slice_get seen i) refl h
  where
    by : (o : Option Bool) → slice_get seen i ≡ o → unwrap_or o false ≡ true → i < length seen
    by None at h = let k : false ≡ true = h in cc
    by (Some b) at h = slice_get_within seen i b at

or_false : (b : Bool) → b ≡ (b || false)
or_false true = refl
or_false false = refl

-- what was read at a place
pub seen_read : (seen : List Bool) (i : ℕ) (x b : Bool) → i < length seen → x ≡ get_or seen i x → x ≡ b → is_seen seen i ≡ b
seen_read seen i x b lt is e = rw (slice_get-get_or seen i x lt) (sym is ∙ e)

-- one number is marked

pub mark_old : (seen : List Bool) (queue : List ℕ) (number : ℕ) → is_seen seen number ≡ true → InStep seen queue → Marks seen queue (λ i. nat_eq number i) seen queue
mark_old seen queue number old s = record {
  in_step = s;
  long = refl;
  same = λ i. elim (cases_eq number i) [
    | inl e ↦ let k : is_seen seen i ≡ true = subst (λ j. is_seen seen j ≡ true) e old in rw k refl
    | inr ne ↦ rw (ne_eqb number i ne) (or_false (is_seen seen i))
  ];
  more = [];
  goes_on = sym (append-nil queue);
}

pub mark_new : (seen : List Bool) (queue : List ℕ) (number : ℕ) → number < length seen → is_seen seen number ≡ false → InStep seen queue →
    Marks seen queue (λ i. nat_eq number i) (slice_set seen number true) (queue ++ number ∷ [])
mark_new seen queue number lt new s = record {
  in_step = record {
    queued = λ i h. elim (cases_eq i number) [
      | inl e ↦ (length queue, rw e (get_last queue number))
      | inr ne ↦ let r = s.queued i (subst (λ o. unwrap_or o false ≡ true) (get_set_other seen number i true ne) h) in (r.0, get_front queue (number ∷ []) r.0 i r.1)
    ];
    marked = λ q i at. elim (cases_eq i number) [
      | inl e ↦ here i e
      | inr ne ↦ elim (push_get queue number q i at) [
        | inl old ↦ subst (λ o. unwrap_or o false ≡ true) (sym (get_set_other seen number i true ne)) (s.marked q i old)
        | inr e ↦ absurd (ne (sym e.1))
      ]
    ];
    count = omega (arith, length-append queue (number ∷ []), s.count, counted);
  };
  long = long;
  same = λ i. elim (cases_eq i number) [
    | inl e ↦ rw (here i e, eq-eqb number i (sym e)) (sym (or_right (is_seen seen i) true refl))
    | inr ne ↦ rw (get_set_other seen number i true ne, ne_eqb number i (λ e. ne (sym e))) (or_false (is_seen seen i))
  ];
  more = number ∷ [];
  goes_on = refl;
}
  where
    here : (i : ℕ) → i ≡ number → is_seen (slice_set seen number true) i ≡ true
    here i e = rw (e, get_set_here seen number true lt) refl

    long : length (slice_set seen number true) ≡ length seen
    long = length-set seen number true

    was : get_or seen number false ≡ false
    was = let at = slice_get-get_or seen number false lt in subst (λ o. unwrap_or o false ≡ false) at new

    counted : count_by (λ b. b) (slice_set seen number true) ≡ count_by (λ b. b) seen + 1
    counted =
        let f : Bool → ℕ = λ b. cond b 1 0 in
        let z : f (get_or seen number false) ≡ 0 = ap f was in
        omega (arith, sum_by-set f seen number true false lt, z)

-- the numbers of a row are marked

marks_more : (seen s1 s2 : List Bool) (queue q1 q2 : List ℕ) (t u v : ℕ → Bool) → Marks seen queue t s1 q1 → Marks s1 q1 u s2 q2 → ((i : ℕ) → v i ≡ (t i || u i)) → Marks seen queue v s2 q2
marks_more seen s1 s2 queue q1 q2 t u v a b is = record {
  in_step = b.in_step;
  long = b.long ∙ a.long;
  same = λ i. rw (b.same i, a.same i, is i) (assoc (is_seen seen i) (t i) (u i));
  more = a.more ++ b.more;
  goes_on = b.goes_on ∙ (ap (λ q. q ++ b.more) a.goes_on ∙ append_assoc queue a.more b.more);
}
  where
    assoc : (x y z : Bool) → ((x || y) || z) ≡ (x || (y || z))
    assoc true y z = refl
    assoc false y z = refl

marks_same : (seen s1 : List Bool) (queue q1 : List ℕ) (t v : ℕ → Bool) → Marks seen queue t s1 q1 → ((i : ℕ) → v i ≡ t i) → Marks seen queue v s1 q1
marks_same seen s1 queue q1 t v a is = record {
  in_step = a.in_step;
  long = a.long;
  same = λ i. rw (is i) (a.same i);
  more = a.more;
  goes_on = a.goes_on;
}

-- one more edge of a row, which is strong enough or not
pub row_yes : (seen s1 s2 : List Bool) (queue q1 q2 : List ℕ) (row : List Edge) (k : ℕ) (edge : Edge) (weakest : Order) → k < length row → edge ≡ get_or row k past_end → is_strong weakest (Some edge.kind) ≡ true →
    Marks seen queue (is_taken (take k row) weakest) s1 q1 → Marks s1 q1 (λ i. nat_eq edge.node i) s2 q2 → Marks seen queue (is_taken (take (k + 1) row) weakest) s2 q2
row_yes seen s1 s2 queue q1 q2 row k edge weakest lt is enough a b =
    marks_more seen s1 s2 queue q1 q2 (is_taken (take k row) weakest) (λ i. nat_eq edge.node i) (is_taken (take (k + 1) row) weakest) a b taken
  where
    and_true : (b : Bool) → (b && true) ≡ b
    and_true true = refl
    and_true false = refl

    taken : (i : ℕ) → is_taken (take (k + 1) row) weakest i ≡ (is_taken (take k row) weakest i || nat_eq edge.node i)
    taken i = list_any_more (takes weakest i) row k past_end lt ∙ rw (← is) (ap (λ b. is_taken (take k row) weakest i || b) (rw enough (and_true (nat_eq edge.node i))))

pub row_no : (seen s1 : List Bool) (queue q1 : List ℕ) (row : List Edge) (k : ℕ) (edge : Edge) (weakest : Order) → k < length row → edge ≡ get_or row k past_end → is_strong weakest (Some edge.kind) ≡ false →
    Marks seen queue (is_taken (take k row) weakest) s1 q1 → Marks seen queue (is_taken (take (k + 1) row) weakest) s1 q1
row_no seen s1 queue q1 row k edge weakest lt is weak a = marks_same seen s1 queue q1 (is_taken (take k row) weakest) (is_taken (take (k + 1) row) weakest) a taken
  where
    and_false : (b : Bool) → (b && false) ≡ false
    and_false true = refl
    and_false false = refl

    taken : (i : ℕ) → is_taken (take (k + 1) row) weakest i ≡ is_taken (take k row) weakest i
    taken i = list_any_more (takes weakest i) row k past_end lt ∙ rw (← is) (ap (λ b. is_taken (take k row) weakest i || b) (rw weak (and_false (nat_eq edge.node i))) ∙ sym (or_false (is_taken (take k row) weakest i)))

-- nothing is marked at the beginning

none_seen : (n i : ℕ) → is_seen (replicate n false) i ≡ false
none_seen zero i = refl
none_seen (suc n) zero = refl
none_seen (suc n) (suc i) = none_seen n i

none_counted : (n : ℕ) → count_by (λ b. b) (replicate n false) ≡ 0
none_counted zero = refl
none_counted (suc n) = none_counted n

pub none_in_step : (n : ℕ) → InStep (replicate n false) []
none_in_step n = record {
  queued = λ i h. absurd (both_ways _ (none_seen n i) h);
  marked = λ q i at. absurd (none-some i at);
  count = sym (none_counted n);
}

module _ (rows : List (List Edge)) (weakest : Order) (last : ℕ) where
  pub flood_begins : (seen s1 : List Bool) (queue q1 : List ℕ) (row : List Edge) → seen ≡ replicate (length rows) false → queue ≡ [] → row ≡ row_of rows last → IsAscending row →
      Marks seen queue (is_taken row weakest) s1 q1 → Floods rows weakest last s1 q1 0
  flood_begins seen s1 queue q1 row fresh none is ascending m = record {
    in_step = m.in_step;
    long = m.long ∙ (ap length fresh ∙ length-replicate (length rows) false);
    sound = λ i h. one (sym (strong i) ∙ taken i h);
    first = λ i h. m.same i ∙ or_right (is_seen seen i) _ (strong i ∙ h);
    expanded = λ q i j lt at h. absurd (omega arith);
  }
    where
      strong : (i : ℕ) → is_taken row weakest i ≡ is_strong weakest (kinds_in rows i last)
      strong i = taken-strong row weakest i ascending ∙ ap (λ r. is_strong weakest (kind_in r i)) is

      taken : (i : ℕ) → is_seen s1 i ≡ true → is_taken row weakest i ≡ true
      taken i h = elim (or_cases (is_seen seen i) _ (sym (m.same i) ∙ h)) [
        | inl s ↦ absurd (both_ways _ (none_seen (length rows) i) (subst (λ b. is_seen b i ≡ true) fresh s))
        | inr t ↦ t
      ]

  pub flood_goes_on : (seen s2 : List Bool) (queue q2 : List ℕ) (place node : ℕ) (row : List Edge) → Floods rows weakest last seen queue place →
      place < length queue → node ≡ get_or queue place node → row ≡ row_of rows node → IsAscending row → Marks seen queue (is_taken row weakest) s2 q2 → Floods rows weakest last s2 q2 (place + 1)
  flood_goes_on seen s2 queue q2 place node row f within read is ascending m = record {
    in_step = m.in_step;
    long = m.long ∙ f.long;
    sound = λ i h. elim (or_cases (is_seen seen i) _ (sym (m.same i) ∙ h)) [
      | inl old ↦ f.sound i old
      | inr t ↦ more (sym (strong i) ∙ t) (f.sound node (f.in_step.marked place node at))
    ];
    first = λ i h. kept i (f.first i h);
    expanded = λ q i j lt own h. elim (cases_lt q place) [
      | inl less ↦ kept i (f.expanded q i j less (old q j (omega (arith, less, within)) own) h)
      | inr here ↦
          let e : q ≡ place = omega arith in
          let same : node ≡ j = same_Some _ _ (sym at ∙ old place j within (subst (λ r. slice_get q2 r ≡ Some j) e own)) in
          m.same i ∙ or_right (is_seen seen i) _ (strong i ∙ (ap (λ k. is_strong weakest (kinds_in rows i k)) same ∙ h))
    ];
  }
    where
      strong : (i : ℕ) → is_taken row weakest i ≡ is_strong weakest (kinds_in rows i node)
      strong i = taken-strong row weakest i ascending ∙ ap (λ r. is_strong weakest (kind_in r i)) is

      at : slice_get queue place ≡ Some node
      at = slice_get-get_or queue place node within ∙ ap (λ n. Some n) (sym read)

      kept : (i : ℕ) → is_seen seen i ≡ true → is_seen s2 i ≡ true
      kept i h = m.same i ∙ or_left _ _ h

      old : (q j : ℕ) → q < length queue → slice_get q2 q ≡ Some j → slice_get queue q ≡ Some j
      old q j lt at = front_get queue m.more q j lt (subst (λ l. slice_get l q ≡ Some j) m.goes_on at)

  pub next_within : (seen : List Bool) (queue : List ℕ) (place node : ℕ) → Floods rows weakest last seen queue place → place < length queue → node ≡ get_or queue place node → node < length rows
  next_within seen queue place node f within read =
      let at = slice_get-get_or queue place node within ∙ ap (λ n. Some n) (sym read) in
      omega (arith, f.long, seen_within seen node (f.in_step.marked place node at))

  closed : (seen : List Bool) (queue : List ℕ) (place i j : ℕ) → j ≡ last → Floods rows weakest last seen queue place → length queue ≤ place → Path (kinds_in rows) weakest i j → is_seen seen i ≡ true
  closed seen queue place i j e f all (one h) = f.first i (ap (λ k. is_strong weakest (kinds_in rows i k)) (sym e) ∙ h)
  closed seen queue place i k e f all (more {j = j} h p) =
      let r = f.in_step.queued j (closed seen queue place j k e f all p) in
      f.expanded r.0 i j (omega (arith, slice_get_within queue r.0 j r.1)) r.1 h

  -- once the list was gone through
  pub flood_ends : (seen : List Bool) (queue : List ℕ) (place i : ℕ) → Floods rows weakest last seen queue place → length queue ≤ place →
      (is_seen seen i ≡ true → Path (kinds_in rows) weakest i last) × (Path (kinds_in rows) weakest i last → is_seen seen i ≡ true)
  flood_ends seen queue place i f all = (f.sound i, closed seen queue place i last refl f all)

-- the edges of a row come from numbers of rows
pub row_within : (rows : List (List Edge)) (node place : ℕ) (row : List Edge) (edge : Edge) → AreWithin rows → row ≡ row_of rows node → IsAscending row → slice_get row place ≡ Some edge → edge.node < length rows
row_within rows node place row edge within is ascending at =
    within.each edge.node node edge.kind (ap (λ r. kind_in r edge.node) (sym is) ∙ kind_at_place row place edge ascending at)
