-- The plan and the space of a machine that halts.
use Rattle.std.proofs.Common.{◌≡◌, ℕ, zero, suc, ◌+◌, ◌-◌, ◌<◌, ◌≤◌, ◌^◌, true, not, List, [], ◌∷◌, ◌++◌, map, take, length, slice_get, get_or, Option, Some, refl, ap, sym, ◌∙◌, subst, arith, inl, inr, ◌⊎◌}
use Rattle.std.specs.Prelude.{option_map, slice_index}
use Rattle.std.proofs.lemmas.List.{take_more, map-append, length-map}
use Rattle.std.proofs.lemmas.Bool.{cases_lt, cases_eq, and_parts}
use Rattle.std.proofs.lemmas.Option.{slice_get-map, slice_get_within, slice_get_past, get_or_from_slice_get}
use Rattle.sas_task.specs.Runs.{IsPlan, cost_of, is_goal, start_of}
use Rattle.sas_task.specs.States.{IsState}
use Rattle.sas_task.proofs.RunLaws.{ops-within}
use Rattle.open_lists.specs.declared.lists.OpenLists.{OpenLists}
use Rattle.open_lists.specs.declared.list.OpenList.{OpenList}
use Rattle.open_lists.specs.Lists.{Holds, entries_in_list, list_count}
use Rattle.search_log.specs.Logs.{Visit}
use Rattle.search_log.specs.Members.{Member}
use Rattle.search_log.specs.Phases.{Phase, IsPhase, lists_of}
use Rattle.lama_num.specs.Bounds.{is_below}
use Rattle.search_log.specs.Places.{Node, Past, latest, put_latest}
use Rattle.search_log.specs.Pending.{pending}
use Rattle.search_log.specs.Lawful.{GoesOn}
use Rattle.search_log.specs.Ends.{EndsInGoal, EndsExhausted, EndsAtPops, last_of}
use Rattle.search_log.specs.Spaces.{node_member, space_of, IsExhausted, is_exact}
use Rattle.search_log.specs.Guided.{TellsDead}
use Rattle.log_laws.proofs.Sound.{Sound, OnPath}
use Rattle.log_laws.proofs.Elements.{from-map}
use Rattle.log_laws.proofs.TableLaws.{latest-push, put_latest-at, table_grows}
use Rattle.log_laws.proofs.SpaceLaws.{lawful_exhausted}
use Rattle.lazy_search.specs.declared.rows.LatestVisit.{LatestVisit}
use Rattle.lazy_search.specs.declared.paths.Origin.{Origin}
use Rattle.lazy_search.specs.declared.machine.Machine.{Machine}
use Rattle.lazy_search.specs.States.{IsKept}
use Rattle.lazy_search.specs.Origins.{AreEarlier, Traced}
use Rattle.lazy_search.specs.Origins.Traced.{first, later}
use Rattle.lazy_search.specs.Machines.{past_in, row_of, visit_at, OriginsStand, Keeps, Rests}
use Rattle.lazy_search.specs.Ends.{EndsInPlan, EndsInSpace}
use Rattle.lazy_search.proofs.TakenEntries.{sound_of, row_there, nothing_held}
use Rattle.lazy_search.proofs.LookUps.{rows_count, words_there}

-- one element more in front
pub take_one : {X : Type 0} (xs : List X) (i : ℕ) (x : X) → slice_get xs i ≡ Some x → take (i + 1) xs ≡ take i xs ++ x ∷ []
take_one xs i x at = take_more xs i x (slice_get_within xs i x at) ∙ ap (λ y. take i xs ++ y ∷ []) (get_or_from_slice_get xs i x x at)

pub take_whole : {X : Type 0} (xs : List X) (n : ℕ) → length xs ≤ n → take n xs ≡ xs
take_whole [] zero le = refl
take_whole [] (suc n) le = refl
take_whole (x ∷ xs) zero le = absurd (omega (arith, le))
take_whole (x ∷ xs) (suc n) le = ap (λ ys. x ∷ ys) (take_whole xs n (omega (arith, le)))

pub take_front : {X : Type 0} (front rest : List X) (n : ℕ) → n ≡ length front → take n (front ++ rest) ≡ front
take_front [] rest zero e = refl
take_front [] rest (suc n) e = absurd (omega (arith, e))
take_front (x ∷ xs) rest zero e = absurd (omega (arith, e))
take_front (x ∷ xs) rest (suc n) e = ap (λ ys. x ∷ ys) (take_front xs rest n (omega (arith, e)))

take_few : {X : Type 0} (xs : List X) (n : ℕ) → length (take n xs) ≤ n
take_few xs zero = omega arith
take_few [] (suc n) = omega arith
take_few (x ∷ xs) (suc n) = omega (arith, take_few xs n)

pub space_few : (table : List Node) (space : List Member) (i : ℕ) → space ≡ map node_member (take i table) → length space ≤ i
space_few table space i is = omega (arith, ap length is, length-map (take i table) node_member, take_few table i)

-- the space has one member more
pub space_more : (table : List Node) (space more : List Member) (i : ℕ) (n : Node) (state : List ℕ) (cost : ℕ) → slice_get table i ≡ Some n → state ≡ n.place.state → cost ≡ n.place.real → space ≡ map node_member (take i table)
    → more ≡ space ++ record { state = state; cost = cost } ∷ [] → more ≡ map node_member (take (i + 1) table)
space_more table space more i n state cost at state_is cost_is so_far is =
    is
    ∙ ap (λ (s : List Member). s ++ record { state = state; cost = cost } ∷ []) so_far
    ∙ ap (λ (s : List ℕ). map node_member (take i table) ++ record { state = s; cost = cost } ∷ []) state_is
    ∙ ap (λ (c : ℕ). map node_member (take i table) ++ record { state = n.place.state; cost = c } ∷ []) cost_is
    ∙ sym (ap (map node_member) (take_one table i n at) ∙ map-append node_member (take i table) (n ∷ []))

-- the latest visit under a number that has a row
pub node_there : (phase : Phase) (m : Machine) (past : Past) (id : ℕ) → Keeps phase m m.states.registry.states past → id < length m.rows.items → (n : Node) × (slice_get (latest past.nodes) id ≡ Some n)
node_there phase m past id kept lt = found (latest past.nodes) id (omega (arith, lt, rows_count phase m m.states.registry.states past kept))
  where
    found : (xs : List Node) (i : ℕ) → i < length xs → (x : Node) × (slice_get xs i ≡ Some x)
    found [] i l = absurd (omega (arith, l))
    found (x ∷ xs) zero l = (x, refl)
    found (x ∷ xs) (suc i) l = found xs i (omega (arith, l))

-- there are few rows, and each is of a state that is kept
pub rows_few : (phase : Phase) (m : Machine) (past : Past) → IsPhase phase → Rests phase m past → length m.rows.items ≤ 2147483647
rows_few phase m past is rests =
    let sound = sound_of phase m.log.visits m.log.pops past is rests.kept.logged in
    omega (arith, rows_count phase m m.states.registry.states past rests.kept, sound.few, is.setting.few_states)

pub state_there : (phase : Phase) (m : Machine) (past : Past) (id : ℕ) (n : Node) → IsPhase phase → Rests phase m past → slice_get (latest past.nodes) id ≡ Some n → IsState phase.parts.variables n.place.state
state_there phase m past id n is rests at =
    let sound = sound_of phase m.log.visits m.log.pops past is rests.kept.logged in
    (sound.paths n.number n (sound.visits id n at)).settled.values

pub is_kept : (phase : Phase) (m : Machine) (past : Past) (id : ℕ) (n : Node) → IsPhase phase → Rests phase m past → slice_get (latest past.nodes) id ≡ Some n → IsKept m.states phase.parts id
is_kept phase m past id n is rests at = record {
  state = n.place.state;
  is_state = state_there phase m past id n is rests at;
  stored = words_there phase m m.states.registry.states past id n rests.kept at;
}

-- the origins goes back from each visit
pub origins_earlier : (nodes : List Node) (origins : List Origin) → OriginsStand nodes origins → AreEarlier origins
origins_earlier nodes origins s = record {
  earlier = λ j came lt at.
      let n = found nodes j (omega (arith, slice_get_within origins j came at, s.count)) in
      let c = s.later j n.0 lt n.1 in
      let e : Some c.came ≡ Some came = sym c.in_origins ∙ at in
      let same : c.came ≡ came = cc in
      subst (λ (x : Origin). x.origin < j) same c.earlier;
}
  where
    found : (xs : List Node) (i : ℕ) → i < length xs → (x : Node) × (slice_get xs i ≡ Some x)
    found [] i l = absurd (omega (arith, l))
    found (x ∷ xs) zero l = (x, refl)
    found (x ∷ xs) (suc i) l = found xs i (omega (arith, l))

pub traced_path : (nodes : List Node) (origins : List Origin) → OriginsStand nodes origins → (j : ℕ) (path : List ℕ) → Traced origins j path → (n : Node) → slice_get nodes j ≡ Some n → path ≡ n.place.path
traced_path nodes origins s _ _ first n at = sym (s.first n at)
traced_path nodes origins s _ _ (later j came front lt read t) n at =
    let c = s.later j n lt at in
    let e : Some c.came ≡ Some came = sym c.in_origins ∙ read in
    let same : c.came ≡ came = cc in
    let rest = traced_path nodes origins s came.origin front t c.origin (ap (λ (x : Origin). slice_get nodes x.origin) (sym same) ∙ c.at) in
    ap (λ (ops : List ℕ). ops ++ came.op ∷ []) rest ∙ ap (λ (x : Origin). c.origin.place.path ++ x.op ∷ []) (sym same) ∙ sym c.path

split_last : {X : Type 0} (xs : List X) (x : X) → slice_get xs (length xs - 1) ≡ Some x → (front : List X) × (xs ≡ front ++ x ∷ [])
split_last [] x h = cc
split_last (y ∷ []) x h = let e : y ≡ x = cc in ([], ap (λ z. z ∷ []) e)
split_last (y ∷ z ∷ zs) x h =
    let one : length (y ∷ z ∷ zs) - 1 ≡ suc (length (z ∷ zs) - 1) = omega arith in
    let r = split_last (z ∷ zs) x (ap (slice_get (y ∷ z ∷ zs)) (sym one) ∙ h) in
    (y ∷ r.0, ap (λ ws. y ∷ ws) r.1)

-- the last visit is the latest of its state
pub last_latest : (phase : Phase) (past : Past) (n : Node) → Sound phase past → last_of past.nodes ≡ Some n → slice_get (latest past.nodes) n.visit.id ≡ Some n
last_latest phase past n s last =
    let split = split_last past.nodes n last in
    let known = s.have_latest (length past.nodes - 1) n last in
    let is : latest past.nodes ≡ put_latest (latest split.0) n = ap latest split.1 ∙ latest-push split.0 n in
    elim (cases_lt (length (latest split.0)) n.visit.id) [
      | inr within ↦ ap (λ t. slice_get t n.visit.id) is ∙ put_latest-at (latest split.0) n within
      | inl over ↦ absurd (
          let at : slice_get (put_latest (latest split.0) n) n.visit.id ≡ Some known.last = ap (λ t. slice_get t n.visit.id) (sym is) ∙ known.at in
          omega (arith, slice_get_within (put_latest (latest split.0) n) n.visit.id known.last at, over, table_grows (latest split.0) n (omega (arith, over))))
    ]

-- the plan of a machine whose last visit is a goal
pub ends_in_plan : (phase : Phase) (m : Machine) (visit : ℕ) (path : List ℕ) (v : Visit) (row : LatestVisit) → IsPhase phase → Rests phase m (past_in phase m) → ((n : Node) × EndsInGoal phase (past_in phase m) n)
    → visit ≡ length m.log.visits - 1 → length m.log.visits < 2 ^ 32 → Traced m.origins.items visit path → slice_get m.log.visits visit ≡ Some v → row ≡ get_or m.rows.items v.id row
    → EndsInPlan phase path row.real m.log
ends_in_plan phase m visit path v row is rests goal at few traced read read_row =
    record {
      visit = n;
      goal = goal.1;
      path = path_is;
      plan = record {
        plan = subst (IsPlan phase.parts) (sym path_is) (record { last = n.place.state; leads = on_path.leads; goal = (and_parts (not n.visit.seen.dead) (is_goal phase.parts n.place.state) goal.1.goal).1 });
        cost_is = ap (λ (x : LatestVisit). x.real) row_is ∙ on_path.real ∙ ap (cost_of phase.parts) (sym path_is);
        operators = subst (λ (ops : List ℕ). (k : ℕ) → k < length ops → slice_index ops k < length phase.parts.operators) (sym path_is) (ops-within phase.parts (start_of phase.parts) n.place.path n.place.state on_path.leads);
        few = omega (arith, ap length path_is, sound.short (length past.nodes - 1) n goal.1.last, count, few);
      };
      below = subst (λ (c : ℕ). is_below phase.setting.bound c ≡ true) (sym (ap (λ (x : LatestVisit). x.real) row_is)) (sound.below (length past.nodes - 1) n goal.1.last);
    }
  where
    past : Past
    past = past_in phase m

    k : Keeps phase m m.states.registry.states past
    k = rests.kept

    n : Node
    n = goal.0

    sound : Sound phase past
    sound = sound_of phase m.log.visits m.log.pops past is k.logged

    count : length m.log.visits ≡ length past.nodes
    count = ap length k.visits ∙ length-map past.nodes visit_at

    last : visit ≡ length past.nodes - 1
    last = omega (arith, at, count)

    path_is : path ≡ n.place.path
    path_is = traced_path past.nodes m.origins.items k.origins visit path traced n (ap (slice_get past.nodes) last ∙ goal.1.last)

    on_path : OnPath phase n.place
    on_path = sound.paths (length past.nodes - 1) n goal.1.last

    visit_is : v ≡ n.visit
    visit_is =
        let there : slice_get m.log.visits visit ≡ Some n.visit = ap (λ (vs : List Visit). slice_get vs visit) k.visits ∙ slice_get-map visit_at past.nodes visit ∙ ap (λ (j : ℕ). option_map visit_at (slice_get past.nodes j)) last ∙ ap (option_map visit_at) goal.1.last in
        let e : Some v ≡ Some n.visit = sym read ∙ there in
        cc

    row_is : row ≡ row_of n
    row_is =
        read_row ∙ ap (λ (w : Visit). get_or m.rows.items w.id row) visit_is
        ∙ get_or_from_slice_get m.rows.items n.visit.id (row_of n) row (row_there phase m m.states.registry.states past n.visit.id n k (last_latest phase past n sound goal.1.last))

-- what the plan's reading asks for
pub last_visit_there : (phase : Phase) (m : Machine) (past : Past) → IsPhase phase → Rests phase m past → (length m.origins.items ≡ length m.log.visits) × (0 < length m.log.visits)
last_visit_there phase m past is rests =
    let k = rests.kept in
    let sound = sound_of phase m.log.visits m.log.pops past is k.logged in
    let count : length m.log.visits ≡ length past.nodes = ap length k.visits ∙ length-map past.nodes visit_at in
    (omega (arith, k.origins.count, count), omega (arith, count, sound.begun))

pub row_of_last : (phase : Phase) (m : Machine) (past : Past) (visit : ℕ) (v : Visit) → IsPhase phase → Rests phase m past → slice_get m.log.visits visit ≡ Some v → v.id < length m.rows.items
row_of_last phase m past visit v is rests read =
    let k = rests.kept in
    let sound = sound_of phase m.log.visits m.log.pops past is k.logged in
    let f = from-map visit_at past.nodes visit v (ap (λ (vs : List Visit). slice_get vs visit) (sym k.visits) ∙ read) in
    let l = sound.have_latest visit f.0 f.1 in
    omega (arith, ap (λ (w : Visit). w.id) f.2, slice_get_within (latest past.nodes) f.0.visit.id l.last l.at, rows_count phase m m.states.registry.states past k)

-- an exhausted space
pub ends_in_space : (phase : Phase) (m : Machine) (space : List Member) → IsPhase phase → Rests phase m (past_in phase m) → EndsExhausted phase (past_in phase m) → TellsDead phase (past_in phase m) → space ≡ space_of (past_in phase m) → EndsInSpace phase space m.log
ends_in_space phase m space is rests ends dead space_is = record {
  ends = ends;
  space_is = space_is;
  exhausted = subst (λ (s : List Member). IsExhausted phase.parts s phase.setting.bound (is_exact phase)) (sym space_is) (lawful_exhausted phase m.log.visits m.log.pops is rests.kept.logged.lawful ends dead);
}

-- All lists are empty, or one isn't.
some_filled : {X : Type 0} (n : ℕ) (f : ℕ → List X) → ((k : ℕ) → k < n → f k ≡ []) ⊎ ((k : ℕ) × (k < n) × (0 < length (f k)))
some_filled zero f = inl (λ k h. absurd (omega arith))
some_filled {X} (suc n) f =
    elim (some_filled n f) [
      | inr s ↦ inr (s.0, omega (arith, s.1), s.2)
      | inl none ↦ at (f n) refl none
    ]
  where
    at : (xs : List X) → f n ≡ xs → ((k : ℕ) → k < n → f k ≡ []) → ((k : ℕ) → k < suc n → f k ≡ []) ⊎ ((k : ℕ) × (k < suc n) × (0 < length (f k)))
    at [] e none = inl (λ k h. elim (cases_eq k n) [ inl same ↦ ap f same ∙ e | inr other ↦ none k (omega arith) ])
    at (x ∷ xs) e none = inr (n, omega arith, (let l = ap length e in omega (arith, l)))

pub lists_empty : (phase : Phase) (m : Machine) (past : Past) → Rests phase m past → ((k : ℕ) → Holds m.lists k []) → (k : ℕ) → k < lists_of phase → pending phase past k ≡ []
lists_empty phase m past rests none k l = nothing_held m.lists k (pending phase past k) (rests.lists.holds k l) (none k)

pub exhausted_now : (phase : Phase) (m : Machine) (past : Past) → IsPhase phase → Rests phase m past → GoesOn phase past → ((k : ℕ) → k < lists_of phase → pending phase past k ≡ []) → EndsExhausted phase past
exhausted_now phase m past is rests on empty = record { begun = (sound_of phase m.log.visits m.log.pops past is rests.kept.logged).begun; goes_on = on; empty = empty }

beyond : (lists : OpenLists) (k : ℕ) → list_count lists ≤ k → Holds lists k []
beyond lists k over = record { queues = λ key. ap (λ (o : Option OpenList). entries_in_list o key) (slice_get_past lists.lists.items k over) }

pub ends_at_pops : (phase : Phase) (m : Machine) (past : Past) → Rests phase m past → GoesOn phase past → (((k : ℕ) → Holds m.lists k []) → ⊥) → length m.log.pops ≡ phase.setting.most_pops → EndsAtPops phase past
ends_at_pops phase m past rests on filled count =
    elim (some_filled (lists_of phase) (pending phase past)) [
      | inl none ↦ absurd (filled (λ k. elim (cases_lt k (lists_of phase)) [
        | inl l ↦ subst (Holds m.lists k) (none k l) (rests.lists.holds k l)
        | inr over ↦ beyond m.lists k (omega (arith, over, rests.lists.count))
      ]))
      | inr some ↦ record { goes_on = on; list = some.0; exists = some.1; filled = some.2; pops = ap length (sym rests.kept.pops) ∙ count }
    ]
