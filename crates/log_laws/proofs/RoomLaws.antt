-- How many visits and pops a lawful log can have.
use Rattle.std.proofs.Common.{◌≡◌, ◌≢◌, ℕ, ◌+◌, ◌<◌, ◌≤◌, false, List, [], ◌∷◌, ◌++◌, map, length, slice_get, Some, ap, sym, ◌∙◌, subst, arith, inl, inr, ◌-◌, Bool, true, Option, None, refl}
use Rattle.std.proofs.Math.Nat.{mul-le-mul_left, mul-le-mul_right, mul_assoc}
use Rattle.std.proofs.lemmas.List.{length-append, length-map}
use Rattle.std.specs.Prelude.{nat_le, if◌then◌else◌}
use Rattle.std.specs.List.{fold}
use Rattle.std.proofs.lemmas.Bool.{leb-true}
use Rattle.std.proofs.lemmas.Option.{slice_get_within}
use Rattle.sas_task.specs.Runs.{is_goal}
use Rattle.search_log.specs.Phases.{Phase, lists_of, IsPhase}
use Rattle.lama_num.specs.Bounds.{is_below}
use Rattle.search_log.specs.Places.{Node, Past, latest, Place, Turn, id_of, makes_visit, turns, extend, start_past, past_of}
use Rattle.search_log.specs.Pending.{pending}
use Rattle.search_log.specs.Rooms.{assignments, room}
use Rattle.log_laws.proofs.Sound.{Sound}
use Rattle.search_log.specs.Spaces.{IsSettled}
use Rattle.log_laws.proofs.Elements.{from-map, push_cases}
use Rattle.lama_num.proofs.ListLaws.{found_at}
use Rattle.log_laws.proofs.AssignmentLaws.{states_few}
use Rattle.log_laws.proofs.CountLaws.{lawful_counted, Counted, all_waiting, all_put, put_few, one_waiting}
use Rattle.search_log.specs.declared.turns.Pop.{Pop}
use Rattle.search_log.specs.declared.turns.PopResult.{PopResult}
use Rattle.search_log.specs.declared.turns.PopResult.TheVariants.{Known, Dead, Goal, Visited, Again, Full}
use Rattle.search_log.specs.Logs.{Visit}
use Rattle.search_log.specs.Lawful.{is_reopened, IsNext, Follow, Lawful, is_called_dead, is_full, result_at, result_of}
use Rattle.search_log.specs.Ends.{last_of, EndsFull, EndsAtPops}
use Rattle.log_laws.proofs.TableLaws.{id_first}
use Rattle.log_laws.proofs.TurnLaws.{extend_bare, leads_to, result_below}
use Rattle.log_laws.proofs.LogLaws.{Matched, by_made, matched_turns, sound_turn, start_sound, pops_after, pops_in, lawful_sound}
use Rattle.log_laws.proofs.SoundLaws.{path_further, origin_visit}

abbrev state_of : Node → List ℕ
state_of n = n.place.state

-- the states that were visited
abbrev states : Past → List (List ℕ)
states past = map state_of (latest past.nodes)

state_settled : (phase : Phase) (past : Past) → Sound phase past → (i : ℕ) (s : List ℕ) → slice_get (states past) i ≡ Some s → IsSettled phase.parts s
state_settled phase past sound i s at =
    let from = from-map state_of (latest past.nodes) i s at in
    subst (IsSettled phase.parts) from.2 (sound.paths from.0.number from.0 (sound.visits i from.0 from.1)).settled

state_once : (phase : Phase) (past : Past) → Sound phase past → (i j : ℕ) (s t : List ℕ) → slice_get (states past) i ≡ Some s → slice_get (states past) j ≡ Some t → s ≡ t → i ≡ j
state_once phase past sound i j s t e f same =
    let a = from-map state_of (latest past.nodes) i s e in
    let b = from-map state_of (latest past.nodes) j t f in
    sound.once i j a.0 b.0 a.1 b.1 (a.2 ∙ same ∙ sym b.2)

pub visited_few : (phase : Phase) (past : Past) → Sound phase past → length (latest past.nodes) ≤ assignments phase.parts.variables
visited_few phase past sound =
    omega (arith, states_few phase.parts (states past) (state_settled phase past sound) (state_once phase past sound), length-map (latest past.nodes) state_of)

-- and one state fewer, where another is left
pub visited_fewer : (phase : Phase) (past : Past) (state : List ℕ) → Sound phase past → IsSettled phase.parts state → ((i : ℕ) (n : Node) → slice_get (latest past.nodes) i ≡ Some n → n.place.state ≢ state)
    → length (latest past.nodes) < assignments phase.parts.variables
visited_fewer phase past state sound is new =
    let few = states_few phase.parts (states past ++ state ∷ [])
    (λ i s at. elim (push_cases (states past) state i s at) [
      | inl here ↦ subst (IsSettled phase.parts) (sym here.1) is
      | inr old ↦ state_settled phase past sound i s old
    ])
    (λ i j s t e f same. elim (push_cases (states past) state i s e) [
      | inl here ↦ elim (push_cases (states past) state j t f) [
        | inl also ↦ here.0 ∙ sym also.0
        | inr old ↦ absurd (differs j t old (sym same ∙ here.1))
      ]
      | inr old ↦ elim (push_cases (states past) state j t f) [
        | inl also ↦ absurd (differs i s old (same ∙ also.1))
        | inr too ↦ state_once phase past sound i j s t old too same
      ]
    ]) in
    omega (arith, few, length-append (states past) (state ∷ []), length-map (latest past.nodes) state_of)
  where
    differs : (i : ℕ) (s : List ℕ) → slice_get (states past) i ≡ Some s → s ≢ state
    differs i s at same = let from = from-map state_of (latest past.nodes) i s at in new i from.0 from.1 (from.2 ∙ same)

-- where no state is visited again
pub no_state_twice : (phase : Phase) (past : Past) → Sound phase past → Counted phase past → phase.setting.reopen ≡ false
    → (i j : ℕ) (m n : Node) → slice_get past.nodes i ≡ Some m → slice_get past.nodes j ≡ Some n → m.place.state ≡ n.place.state → i ≡ j
no_state_twice phase past sound c closed i j m n e f same =
    let back = sym (c.alone closed) in
    sound.once i j m n (ap (λ (ns : List Node). slice_get ns i) (sym back) ∙ e) (ap (λ (ns : List Node). slice_get ns j) (sym back) ∙ f) same

pub visits_few : (phase : Phase) (past : Past) → Sound phase past → Counted phase past → phase.setting.reopen ≡ false → length past.nodes ≤ assignments phase.parts.variables
visits_few phase past sound c closed = omega (arith, visited_few phase past sound, ap length (c.alone closed))

put_in_room : (phase : Phase) (past : Past) → length past.nodes ≤ assignments phase.parts.variables → all_put phase past ≤ room phase
put_in_room phase past few =
    let ops = length phase.parts.operators in
    let more = mul-le-mul_left (lists_of phase) (mul-le-mul_right ops few) in
    omega (arith, put_few phase past, more, mul_assoc (lists_of phase) (assignments phase.parts.variables) ops)

pub pops_few : (phase : Phase) (past : Past) → Sound phase past → Counted phase past → phase.setting.reopen ≡ false → length past.pops + all_waiting phase past ≤ room phase
pops_few phase past sound c closed = omega (arith, c.total, put_in_room phase past (visits_few phase past sound c closed))

pub pops_fewer : (phase : Phase) (past : Past) (k : ℕ) → Sound phase past → Counted phase past → phase.setting.reopen ≡ false → k < lists_of phase → 0 < length (pending phase past k) → length past.pops < room phase
pops_fewer phase past k sound c closed exists filled = omega (arith, pops_few phase past sound c closed, one_waiting phase past k exists, filled)

-- What a pop says that found the states full: so many there are, and another one is reached.
pub record IsFull (phase : Phase) (past : Past) : Type 0 where
  pub count : length (latest past.nodes) ≡ phase.setting.most_states
  pub more : length (latest past.nodes) < assignments phase.parts.variables

full_at : (phase : Phase) (past : Past) (to : Place) (o : Option Node) (made : Option Visit) → is_full (result_at phase past to o made) ≡ true → (o ≡ None) × (phase.setting.most_states ≤ length (latest past.nodes))
full_at phase past to None made full = (refl, by_test (nat_le phase.setting.most_states (length (latest past.nodes))) refl)
  where
    never : (dead goal : Bool) → is_full (if dead then Dead else (if goal then Goal else Visited)) ≡ false
    never true goal = refl
    never false true = refl
    never false false = refl

    by_test : (b : Bool) → nat_le phase.setting.most_states (length (latest past.nodes)) ≡ b → phase.setting.most_states ≤ length (latest past.nodes)
    by_test true is = leb-true _ _ is
    by_test false is =
        let h : is_full (if is_called_dead made then Dead else (if is_goal phase.parts to.state then Goal else Visited)) ≡ true = rw is at full in
        let k : false ≡ true = sym (never (is_called_dead made) (is_goal phase.parts to.state)) ∙ h in
        cc
full_at phase past to (Some m) made full = absurd (never (is_reopened phase to m) (is_called_dead made) full)
  where
    never : (again dead : Bool) → is_full (if again then (if dead then Dead else Again) else Known) ≡ true → ⊥
    never true true h = let k : false ≡ true = h in cc
    never true false h = let k : false ≡ true = h in cc
    never false dead h = let k : false ≡ true = h in cc

full_turn : (phase : Phase) (past : Past) (t : Turn) → IsPhase phase → Sound phase past → IsNext phase past t → is_full t.pop.result ≡ true → IsFull phase past
full_turn phase past t is s n full =
    let l = leads_to phase past t.pop n.to n.leads in
    let path = path_further phase l.from.place t.pop.op l.next is (s.paths l.from.number l.from (origin_visit phase past t.pop n.to s l)) l.steps in
    let h = ap is_full (sym n.result) ∙ full in
    let new = by_bound (is_below phase.setting.bound n.to.real) refl n.to t.made h in
    let same : n.to.state ≡ l.next = ap (λ (x : Place). x.state) l.is in
    record {
      count = omega (arith, s.few, new.1);
      more = visited_fewer phase past l.next s path.settled (λ i m at e.
          let first = id_first past.nodes n.to.state i m at (e ∙ sym same) in
          let within = slice_get_within (latest past.nodes) i m at in
          let there = found_at (latest past.nodes) (id_of past.nodes n.to.state) (omega (arith, first, within)) in
          let k : ◌≡◌ {A = Option Node} None (Some there.0) = sym new.0 ∙ there.1 in
          cc);
    }
  where
    by_bound : (b : Bool) → is_below phase.setting.bound n.to.real ≡ b → (to : Place) (made : Option Visit) → is_full (result_of phase past n.to t.made) ≡ true →
        (slice_get (latest past.nodes) (id_of past.nodes n.to.state) ≡ None) × (phase.setting.most_states ≤ length (latest past.nodes))
    by_bound true below to made h = full_at phase past n.to (slice_get (latest past.nodes) (id_of past.nodes n.to.state)) t.made (ap is_full (sym (result_below phase past n.to t.made below)) ∙ h)
    by_bound false below to made h = let k : false ≡ true = rw below at h in cc

not_visit : (r : PopResult) → is_full r ≡ true → makes_visit r ≡ false
not_visit Full e = refl
not_visit Known e = refl
not_visit Dead e = let k : false ≡ true = e in cc
not_visit Goal e = let k : false ≡ true = e in cc
not_visit Visited e = let k : false ≡ true = e in cc
not_visit Again e = let k : false ≡ true = e in cc

-- where the last of the turns finds the states full, they are full afterwards
full_last : (phase : Phase) (past : Past) (ts : List Turn) (t : Turn) → IsPhase phase → Sound phase past → Follow phase past (t ∷ ts) → Matched (t ∷ ts) → (u : Turn) → slice_get (t ∷ ts) (length ts) ≡ Some u → is_full u.pop.result ≡ true → IsFull phase (fold (extend phase) past (t ∷ ts))
full_last phase past [] t is s f m u at full =
    let same : t ≡ u = cc in
    let full_t = ap (λ (x : Turn). is_full x.pop.result) same ∙ full in
    let before = full_turn phase past t is s f.0 full_t in
    by_made (λ w. IsFull phase (extend phase past w)) t m.0
    (λ bars. subst (IsFull phase) (sym (extend_bare phase past t.pop)) (record { count = before.count; more = before.more }))
    (λ v e makes. let k : false ≡ true = sym (not_visit t.pop.result full_t) ∙ makes in cc)
full_last phase past (r ∷ rest) t is s f m u at full =
    full_last phase (extend phase past t) rest r is (sound_turn phase past t is s f.0 m.0) f.1 m.1 u at full

pub lawful_full : (phase : Phase) (visits : List Visit) (pops : List Pop) → IsPhase phase → Lawful phase visits pops → EndsFull (past_of phase visits pops) → IsFull phase (past_of phase visits pops)
lawful_full phase [] pops is l ends = let k : ◌≡◌ {A = Option Pop} None (Some ends.pop) = ends.last in cc
lawful_full phase (v ∷ vs) pops is l ends = go (turns pops vs) l.1 (matched_turns pops vs l.2) (subst (λ (ps : List Pop). last_of ps ≡ Some ends.pop) (pops_after phase (start_past phase v) (turns pops vs)) ends.last)
  where
    from_last : (t : Turn) (rest : List Turn) → Follow phase (start_past phase v) (t ∷ rest) → Matched (t ∷ rest) → (u : Turn) → slice_get (t ∷ rest) (length rest) ≡ Some u → u.pop ≡ ends.pop →
        IsFull phase (fold (extend phase) (start_past phase v) (t ∷ rest))
    from_last t rest f m u at same = full_last phase (start_past phase v) rest t is (start_sound phase v is l.0.id) f m u at (ap (λ (p : Pop). is_full p.result) same ∙ ends.full)

    go : (ts : List Turn) → Follow phase (start_past phase v) ts → Matched ts → last_of (map (λ (t : Turn). t.pop) ts) ≡ Some ends.pop → IsFull phase (fold (extend phase) (start_past phase v) ts)
    go [] f m last = let k : ◌≡◌ {A = Option Pop} None (Some ends.pop) = last in cc
    go (t ∷ rest) f m last =
        let place : length (map (λ (u : Turn). u.pop) (t ∷ rest)) - 1 ≡ length rest = omega (arith, length-map (t ∷ rest) (λ (u : Turn). u.pop)) in
        let there : slice_get (map (λ (u : Turn). u.pop) (t ∷ rest)) (length rest) ≡ Some ends.pop = ap (slice_get (map (λ (u : Turn). u.pop) (t ∷ rest))) (sym place) ∙ last in
        let at = from-map (λ (u : Turn). u.pop) (t ∷ rest) (length rest) ends.pop there in
        from_last t rest f m at.0 at.1 at.2

-- what that says of a whole log, also of one without a visit
pub states_in_room : (phase : Phase) (visits : List Visit) (pops : List Pop) → IsPhase phase → Lawful phase visits pops → length (latest (past_of phase visits pops).nodes) ≤ assignments phase.parts.variables
states_in_room phase [] pops is l = omega arith
states_in_room phase (v ∷ vs) pops is l = visited_few phase (past_of phase (v ∷ vs) pops) (lawful_sound phase (v ∷ vs) pops is l (omega arith))

pub states_once : (phase : Phase) (visits : List Visit) (pops : List Pop) → IsPhase phase → Lawful phase visits pops → phase.setting.reopen ≡ false
    → (i j : ℕ) (m n : Node) → slice_get (past_of phase visits pops).nodes i ≡ Some m → slice_get (past_of phase visits pops).nodes j ≡ Some n → m.place.state ≡ n.place.state → i ≡ j
states_once phase [] pops is l closed i j m n e f same = let k : ◌≡◌ {A = Option Node} None (Some m) = e in cc
states_once phase (v ∷ vs) pops is l closed i j m n e f same =
    no_state_twice phase (past_of phase (v ∷ vs) pops) (lawful_sound phase (v ∷ vs) pops is l (omega arith)) (lawful_counted phase (v ∷ vs) pops is l (omega arith)) closed i j m n e f same

pub pops_in_room : (phase : Phase) (visits : List Visit) (pops : List Pop) → IsPhase phase → Lawful phase visits pops → phase.setting.reopen ≡ false → length pops ≤ room phase
pops_in_room phase [] pops is l closed = omega (arith, ap length l)
pops_in_room phase (v ∷ vs) pops is l closed =
    omega (
      arith,
      pops_few phase (past_of phase (v ∷ vs) pops) (lawful_sound phase (v ∷ vs) pops is l (omega arith)) (lawful_counted phase (v ∷ vs) pops is l (omega arith)) closed,
      ap length (pops_in phase (v ∷ vs) pops (omega arith)),
    )

pub full_below_room : (phase : Phase) (visits : List Visit) (pops : List Pop) → IsPhase phase → Lawful phase visits pops → EndsFull (past_of phase visits pops)
    → (length (latest (past_of phase visits pops).nodes) ≡ phase.setting.most_states) × (phase.setting.most_states < assignments phase.parts.variables)
full_below_room phase visits pops is l ends =
    let full = lawful_full phase visits pops is l ends in
    (full.count, omega (arith, full.count, full.more))

pub pops_below_room : (phase : Phase) (visits : List Visit) (pops : List Pop) → IsPhase phase → Lawful phase visits pops → EndsAtPops phase (past_of phase visits pops) → phase.setting.reopen ≡ false
    → phase.setting.most_pops < room phase
pops_below_room phase [] pops is l ends closed = absurd (let none : 0 < 0 = ends.filled in omega (arith, none))
pops_below_room phase (v ∷ vs) pops is l ends closed =
    omega (
      arith,
      pops_fewer phase (past_of phase (v ∷ vs) pops) ends.list (lawful_sound phase (v ∷ vs) pops is l (omega arith)) (lawful_counted phase (v ∷ vs) pops is l (omega arith)) closed ends.exists ends.filled,
      ends.pops,
    )
