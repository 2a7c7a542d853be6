-- A lawful past stays sound by a pop and by a visit.
use Rattle.std.proofs.Common.{◌≡◌, ◌≢◌, ℕ, zero, suc, ◌+◌, ◌*◌, ◌<◌, ◌≤◌, Bool, true, List, [], ◌∷◌, ◌++◌, length, slice_get, Some, refl, ap, sym, ◌∙◌, subst, arith, inl, inr, ◌⊎◌, false}
use Rattle.std.specs.Prelude.{nat_lt, if◌then◌else◌, ◌≢◌}
use Rattle.std.proofs.lemmas.List.{length-append, append_assoc}
use Rattle.std.proofs.lemmas.List.Folds.{list_all-append}
use Rattle.std.proofs.lemmas.Option.{slice_get_within}
use Rattle.std.proofs.lemmas.Bool.{cases_eq, cases_lt, and_from, ltb-true, lt-ltb, le-ltb}
use Rattle.std.proofs.lemmas.List.Sums.{sum_by_push}
use Rattle.sas_task.specs.declared.contents.CostKind.{CostKind}
use Rattle.sas_task.specs.declared.contents.CostKind.TheVariants.{Normal, One, PlusOne}
use Rattle.sas_task.proofs.RunLaws.{start-state, settled-settled, end_of-append, step-state, step-settled, cost_at-small, states_of-join}
use Rattle.sas_task.specs.declared.contents.Parts.{Parts}
use Rattle.sas_task.specs.States.{step}
use Rattle.sas_task.specs.Runs.{states_of, end_of, cost_at, start_of}
use Rattle.search_log.specs.declared.turns.Pop.{Pop}
use Rattle.search_log.specs.Logs.{Visit}
use Rattle.search_log.specs.Phases.{Phase, IsPhase, adjusted_cost}
use Rattle.lama_num.specs.Bounds.{is_below}
use Rattle.search_log.specs.Places.{Node, latest, put_latest, id_of, start_place, start_past, node_at, Past, Place, makes_visit, extend, place_by}
use Rattle.log_laws.proofs.Sound.{OnPath, Numbered, top_cost, HasLatest, Sound}
use Rattle.log_laws.proofs.Elements.{all-weaker, one_at, push_cases, slice_get-push_below}
use Rattle.lama_num.proofs.ListLaws.{slice_get-append_last as slice_get-push_at}
use Rattle.lama_num.proofs.ListLaws.{found_at}
use Rattle.log_laws.proofs.TableLaws.{latest-push, put_latest-at, put_latest-other, put_latest-cases, table_stays, table_grows, id_within, id_state, id_first}
use Rattle.search_log.specs.Lawful.{IsNext}
use Rattle.log_laws.proofs.TurnLaws.{Leads, leads_to, bare, with_visit, extend_bare, extend_made, visit_by_result}
use Rattle.sas_task.specs.Costs as costs

pub Numbered-push : (s : ℕ) (ns : List Node) (n : Node) → Numbered s ns → n.number ≡ s + length ns → Numbered s (ns ++ n ∷ [])
Numbered-push s [] n h e = (omega (arith, e), tt)
Numbered-push s (m ∷ ms) n h e = (h.0, Numbered-push (suc s) ms n h.1 (omega (arith, e)))

pub Numbered-at : (s : ℕ) (ns : List Node) (j : ℕ) (n : Node) → Numbered s ns → slice_get ns j ≡ Some n → n.number ≡ s + j
Numbered-at s [] j n h e = cc
Numbered-at s (m ∷ ms) zero n h e = let f : m ≡ n = cc in ap (λ (x : Node). x.number) (sym f) ∙ omega (arith, h.0)
Numbered-at s (m ∷ ms) (suc j) n h e = omega (arith, Numbered-at (suc s) ms j n h.1 e)

pub sound_pop : (phase : Phase) (nodes : List Node) (pops : List Pop) (p : Pop) → Sound phase (record { nodes = nodes; pops = pops }) → p.parent < length nodes → Sound phase (record { nodes = nodes; pops = pops ++ p ∷ [] })
sound_pop phase nodes pops p s l =
    record {
      begun = s.begun;
      numbered = s.numbered;
      ids = s.ids;
      visits = s.visits;
      have_latest = s.have_latest;
      once = s.once;
      start = s.start;
      paths = s.paths;
      below = s.below;
      small = s.small;
      few = s.few;
      short = s.short;
      taken = list_all-append (λ (q : Pop). nat_lt q.parent (length nodes)) pops (p ∷ []) ∙ and_from _ _ s.taken (and_from _ _ (lt-ltb _ _ l) refl);
    }

-- sums of so many costs
grown : (k : CostKind) (g old new : ℕ) → new ≡ old + 1 → g ≤ old * top_cost k + top_cost k → g ≤ new * top_cost k
grown Normal g old new e h = omega (arith, e, h)
grown One g old new e h = omega (arith, e, h)
grown PlusOne g old new e h = omega (arith, e, h)

more : (k : CostKind) (g old new : ℕ) → old ≤ new → g ≤ old * top_cost k → g ≤ new * top_cost k
more Normal g old new e h = omega (arith, e, h)
more One g old new e h = omega (arith, e, h)
more PlusOne g old new e h = omega (arith, e, h)

-- a visit of a new state, or again of a known one with less g
pub sound_visit : (phase : Phase) (nodes : List Node) (pops : List Pop) (n : Node) → Sound phase (record { nodes = nodes; pops = pops })
    → n.number ≡ length nodes → n.visit.id ≡ id_of nodes n.place.state → OnPath phase n.place
    → is_below phase.setting.bound n.place.real ≡ true
    → n.place.g ≤ length (latest nodes) * top_cost phase.setting.cost + top_cost phase.setting.cost
    → (length (latest nodes) ≤ n.visit.id → length (latest nodes) < phase.setting.most_states)
    → ((m : Node) → slice_get (latest nodes) n.visit.id ≡ Some m → n.place.g < m.place.g)
    → length n.place.path ≤ length nodes
    → Sound phase (record { nodes = nodes ++ n ∷ []; pops = pops })
sound_visit phase nodes pops n s num id path bounded small has_room less short =
    record {
      begun = omega (arith, length-append nodes (n ∷ []));
      numbered = Numbered-push 0 nodes n s.numbered (omega (arith, num));
      ids = λ i m e. elim (cases i m e) [
        | inl here ↦ ap (λ (q : Node). q.visit.id) here.1 ∙ sym here.0
        | inr there ↦ s.ids i m there.1
      ];
      visits = λ i m e. elim (cases i m e) [
        | inl here ↦ subst (λ (q : Node). slice_get (nodes ++ n ∷ []) q.number ≡ Some q) (sym here.1) (ap (slice_get (nodes ++ n ∷ [])) num ∙ slice_get-push_at nodes n)
        | inr there ↦ slice_get-push_below nodes n m.number m (s.visits i m there.1)
      ];
      have_latest = λ j m e. elim (push_cases nodes n j m e) [
        | inl last ↦ subst (HasLatest (nodes ++ n ∷ [])) (sym last.1) (record { last = n; at = at; state = refl; g = omega arith })
        | inr old ↦ later m (s.have_latest j m old)
      ];
      once = λ i j m q e f same. elim (cases i m e) [
        | inl here ↦ elim (cases j q f) [
          | inl also ↦ here.0 ∙ sym also.0
          | inr there ↦ here.0 ∙ sym (alone j q there.1 (sym same ∙ ap (λ (r : Node). r.place.state) here.1))
        ]
        | inr there ↦ elim (cases j q f) [
          | inl also ↦ alone i m there.1 (same ∙ ap (λ (r : Node). r.place.state) also.1) ∙ sym also.0
          | inr too ↦ s.once i j m q there.1 too.1 same
        ]
      ];
      start = elim (cases_eq 0 n.visit.id) [
        | inl here ↦ absurd (omega (arith, less s.start.0 (ap (slice_get table) (sym here) ∙ s.start.1), s.start.4))
        | inr there ↦ (s.start.0, other 0 there ∙ s.start.1, s.start.2, s.start.3, s.start.4)
      ];
      paths = λ j m e. elim (push_cases nodes n j m e) [
        | inl last ↦ subst (λ (q : Node). OnPath phase q.place) (sym last.1) path
        | inr old ↦ s.paths j m old
      ];
      below = λ j m e. elim (push_cases nodes n j m e) [
        | inl last ↦ subst (λ (q : Node). is_below phase.setting.bound q.place.real ≡ true) (sym last.1) bounded
        | inr old ↦ s.below j m old
      ];
      small = λ j m e. elim (push_cases nodes n j m e) [
        | inl last ↦ subst (λ (q : Node). q.place.g ≤ length (latest (nodes ++ n ∷ [])) * top_cost phase.setting.cost) (sym last.1) own
        | inr old ↦ more phase.setting.cost m.place.g (length table) (length (latest (nodes ++ n ∷ []))) longer (s.small j m old)
      ];
      few = elim (cases_lt n.visit.id (length table)) [
        | inl l ↦ omega (arith, s.few, ap length new, table_stays table n l)
        | inr o ↦ omega (arith, has_room o, ap length new, table_grows table n o)
      ];
      short = λ j m e. elim (push_cases nodes n j m e) [
        | inl last ↦ omega (arith, short, last.0, ap (λ (q : Node). length q.place.path) last.1)
        | inr old ↦ s.short j m old
      ];
      taken = all-weaker (λ (p : Pop). nat_lt p.parent (length nodes)) _ pops (λ p e. lt-ltb _ _ (omega (arith, ltb-true _ _ e, length-append nodes (n ∷ [])))) s.taken;
    }
  where
    table : List Node
    table = latest nodes

    new : latest (nodes ++ n ∷ []) ≡ put_latest (latest nodes) n
    new = latest-push nodes n

    within : n.visit.id ≤ length (latest nodes)
    within = omega (arith, id, id_within nodes n.place.state)

    at : slice_get (latest (nodes ++ n ∷ [])) n.visit.id ≡ Some n
    at = ap (λ t. slice_get t n.visit.id) new ∙ put_latest-at (latest nodes) n within

    other : (i : ℕ) → i ≢ n.visit.id → slice_get (latest (nodes ++ n ∷ [])) i ≡ slice_get (latest nodes) i
    other i ne = ap (λ t. slice_get t i) new ∙ put_latest-other (latest nodes) n i within ne

    cases : (i : ℕ) (m : Node) → slice_get (latest (nodes ++ n ∷ [])) i ≡ Some m → ((i ≡ n.visit.id) × (m ≡ n)) ⊎ ((i ≢ n.visit.id) × (slice_get (latest nodes) i ≡ Some m))
    cases i m e = put_latest-cases (latest nodes) n i m within (sym (ap (λ t. slice_get t i) new) ∙ e)

    longer : length (latest nodes) ≤ length (latest (nodes ++ n ∷ []))
    longer = elim (cases_lt n.visit.id (length (latest nodes))) [
      | inl l ↦ omega (arith, ap length new, table_stays (latest nodes) n l)
      | inr o ↦ omega (arith, ap length new, table_grows (latest nodes) n o)
    ]

    -- a known state with more g, or one state more
    own : n.place.g ≤ length (latest (nodes ++ n ∷ [])) * top_cost phase.setting.cost
    own = elim (cases_lt n.visit.id (length (latest nodes))) [
      | inr o ↦ grown phase.setting.cost n.place.g (length (latest nodes)) _ (ap length new ∙ table_grows (latest nodes) n o) small
      | inl l ↦
          let m = found_at (latest nodes) n.visit.id l in
          let b = more phase.setting.cost m.0.place.g (length (latest nodes)) (length (latest (nodes ++ n ∷ []))) longer (s.small m.0.number m.0 (s.visits n.visit.id m.0 m.1)) in
          omega (arith, b, less m.0 m.1)
    ]

    -- a state of the table that is the visit's stands at the visit's id
    alone : (i : ℕ) (m : Node) → slice_get (latest nodes) i ≡ Some m → m.place.state ≡ n.place.state → i ≡ n.visit.id
    alone i m e f =
        let first : n.visit.id ≤ i = omega (arith, id, id_first nodes n.place.state i m e f) in
        let l = slice_get_within (latest nodes) i m e in
        let there = found_at (latest nodes) n.visit.id (omega (arith, first, l)) in
        s.once i n.visit.id m there.0 e there.1 (f ∙ sym (id_state nodes n.place.state there.0 (ap (slice_get (latest nodes)) (sym id) ∙ there.1)))

    later : (m : Node) → HasLatest nodes m → HasLatest (nodes ++ n ∷ []) m
    later m old =
        elim (cases_eq m.visit.id n.visit.id) [
          | inl same ↦ record {
            last = n;
            at = ap (slice_get (latest (nodes ++ n ∷ []))) same ∙ at;
            state = sym (id_state nodes n.place.state old.last (ap (slice_get (latest nodes)) (sym id ∙ sym same) ∙ old.at)) ∙ old.state;
            g = omega (arith, old.g, less old.last (ap (slice_get (latest nodes)) (sym same) ∙ old.at));
          }
          | inr differs ↦ record { last = old.last; at = other m.visit.id differs ∙ old.at; state = old.state; g = old.g }
        ]

-- the start
abbrev pub first_node : Phase → Visit → Node
first_node phase v = node_at phase [] (start_place phase) v

table_is : (phase : Phase) (v : Visit) → latest (first_node phase v ∷ []) ≡ first_node phase v ∷ []
table_is phase v = ap (λ (b : Bool). if b then [] else first_node phase v ∷ []) (le-ltb v.id 0 (omega arith))

only : (phase : Phase) (v : Visit) (i : ℕ) (m : Node) → slice_get (latest (first_node phase v ∷ [])) i ≡ Some m → (i ≡ 0) × (first_node phase v ≡ m)
only phase v i m e = one_at (first_node phase v) m i (ap (λ t. slice_get t i) (sym (table_is phase v)) ∙ e)

pub here_at : (phase : Phase) (v : Visit) → slice_get (latest (first_node phase v ∷ [])) 0 ≡ Some (first_node phase v)
here_at phase v = ap (λ t. slice_get t 0) (table_is phase v)

pub sound_start : (phase : Phase) (v : Visit) → IsPhase phase → v.id ≡ 0 → is_below phase.setting.bound 0 ≡ true → Sound phase (start_past phase v)
sound_start phase v is id bound =
    record {
      begun = omega arith;
      numbered = (refl, tt);
      ids = λ i m e. let o = only phase v i m e in subst (λ (q : Node). q.visit.id ≡ i) o.1 (id ∙ sym o.0);
      visits = λ i m e. let o = only phase v i m e in subst (λ (q : Node). slice_get (first_node phase v ∷ []) q.number ≡ Some q) o.1 refl;
      have_latest = λ j m e. subst (HasLatest (first_node phase v ∷ [])) (one_at (first_node phase v) m j e).1
          (record { last = first_node phase v; at = ap (slice_get (latest (first_node phase v ∷ []))) id ∙ here_at phase v; state = refl; g = omega arith });
      once = λ i j m q e f same. (only phase v i m e).0 ∙ sym (only phase v j q f).0;
      start = (first_node phase v, here_at phase v, refl, refl, refl);
      paths = λ j m e. subst (λ (q : Node). OnPath phase q.place) (one_at (first_node phase v) m j e).1 on_path;
      below = λ j m e. subst (λ (q : Node). is_below phase.setting.bound q.place.real ≡ true) (one_at (first_node phase v) m j e).1 bound;
      small = λ j m e. let o = one_at (first_node phase v) m j e in omega (arith, ap (λ (q : Node). q.place.g) o.1);
      few = omega (arith, ap length (table_is phase v), is.setting.some_state);
      short = λ j m e. let o = one_at (first_node phase v) m j e in omega (arith, ap (λ (q : Node). length q.place.path) o.1);
      taken = refl;
    }
  where
    on_path : OnPath phase (start_place phase)
    on_path = record {
      leads = refl;
      settled = record { values = start-state phase.parts is.task; settled = settled-settled phase.parts phase.parts.init };
      states = refl;
      g = refl;
      real = refl;
    }

-- it stands there
pub id_known : (phase : Phase) (past : Past) (state : List ℕ) (i : ℕ) (m : Node) → Sound phase past → slice_get (latest past.nodes) i ≡ Some m → m.place.state ≡ state → id_of past.nodes state ≡ i
id_known phase past state i m s at same =
    let first = id_first past.nodes state i m at same in
    let within = slice_get_within (latest past.nodes) i m at in
    let there = found_at (latest past.nodes) (id_of past.nodes state) (omega (arith, first, within)) in
    s.once (id_of past.nodes state) i there.0 m there.1 at (id_state past.nodes state there.0 there.1 ∙ sym same)

-- it isn't there
pub id_new : (past : Past) (state : List ℕ) → ((i : ℕ) (m : Node) → slice_get (latest past.nodes) i ≡ Some m → m.place.state ≢ state) → id_of past.nodes state ≡ length (latest past.nodes)
id_new past state none =
    elim (cases_lt (id_of past.nodes state) (length (latest past.nodes))) [
      | inr over ↦ omega (arith, over, id_within past.nodes state)
      | inl l ↦
          let there = found_at (latest past.nodes) (id_of past.nodes state) l in
          absurd (none (id_of past.nodes state) there.0 there.1 (id_state past.nodes state there.0 there.1))
    ]

-- the states of a run, one operator further
states_further : (parts : Parts) (start ops : List ℕ) (op : ℕ) (mid next : List ℕ) (states : List (List ℕ)) → end_of parts start ops ≡ Some mid → states_of parts start ops ≡ Some states
    → step parts mid op ≡ Some next → states_of parts start (ops ++ op ∷ []) ≡ Some (states ++ next ∷ [])
states_further parts start ops op mid next states ends is steps =
    let e = states_of-join parts start ops mid ends in
    let same : Some (e.before ++ mid ∷ []) ≡ Some states = sym e.states ∙ is in
    let front : e.before ++ mid ∷ [] ≡ states = cc in
    let one : states_of parts mid (op ∷ []) ≡ Some (mid ∷ next ∷ []) = rw steps refl in
    e.goes_on (op ∷ []) (mid ∷ next ∷ []) one ∙ ap Some (sym (append_assoc e.before (mid ∷ []) (next ∷ [])) ∙ ap (λ (ss : List (List ℕ)). ss ++ next ∷ []) front)

-- no operator costs more than the most
adjusted_top : (phase : Phase) (op : ℕ) → IsPhase phase → adjusted_cost phase op ≤ top_cost phase.setting.cost
adjusted_top phase op is = by_kind phase.setting.cost
  where
    plus : (b : Bool) → (if b then 1 else cost_at phase.parts op + 1) ≤ 2147483648
    plus true = omega arith
    plus false = omega (arith, cost_at-small phase.parts op is.task)

    by_kind : (k : CostKind) → costs.adjusted_cost phase.parts op k ≤ top_cost k
    by_kind Normal = cost_at-small phase.parts op is.task
    by_kind One = omega arith
    by_kind PlusOne = plus (costs.is_unit_cost phase.parts)

-- one operator further on a path
pub path_further : (phase : Phase) (from : Place) (op : ℕ) (next : List ℕ) → IsPhase phase → OnPath phase from → step phase.parts from.state op ≡ Some next → OnPath phase (place_by phase from op next)
path_further phase from op next is path steps = record {
  leads = end_of-append phase.parts (start_of phase.parts) from.path op from.state path.leads ∙ steps;
  settled = record { values = step-state phase.parts from.state op next is.task path.settled.values steps; settled = step-settled phase.parts from.state op next steps };
  states = states_further phase.parts (start_of phase.parts) from.path op from.state next from.states path.leads path.states steps;
  g = omega (arith, path.g, sum_by_push (adjusted_cost phase) from.path op);
  real = omega (arith, path.real, sum_by_push (cost_at phase.parts) from.path op);
}

-- the origin of a pop is a visit
pub origin_visit : (phase : Phase) (past : Past) (p : Pop) (to : Place) → Sound phase past → (l : Leads phase past p to) → slice_get past.nodes l.from.number ≡ Some l.from
origin_visit phase past p to s l = s.visits l.parent.visit.id l.from l.at_from

pub sound_made : (phase : Phase) (past : Past) (p : Pop) (v : Visit) → IsPhase phase → Sound phase past → IsNext phase past (with_visit p v) → makes_visit p.result ≡ true → Sound phase (extend phase past (with_visit p v))
sound_made phase past p v is s n makes =
    let l = leads_to phase past p n.to n.leads in
    let a = visit_by_result phase past n.to (Some v) (ap makes_visit (sym n.result) ∙ makes) in
    let from_at = origin_visit phase past p n.to s l in
    let path = subst (OnPath phase) (sym l.is) (path_further phase l.from.place p.op l.next is (s.paths l.from.number l.from from_at) l.steps) in
    let small = s.small l.from.number l.from from_at in
    let popped = sound_pop phase past.nodes past.pops p s (slice_get_within past.nodes p.parent l.parent l.at) in
    subst (Sound phase) (sym (extend_made phase past p v n.to n.leads))
    (sound_visit phase past.nodes (past.pops ++ p ∷ []) (node_at phase past.nodes n.to v) popped refl n.id path a.below
    (omega (arith, ap (λ (q : Place). q.g) l.is, small, adjusted_top phase p.op is))
    (λ over. a.room (omega (arith, n.id, over)))
    (λ q at. (a.known q (ap (slice_get (latest past.nodes)) (sym n.id) ∙ at)).2)
    (omega (arith, ap (λ (q : Place). length q.path) l.is, length-append l.from.place.path (p.op ∷ []), s.short l.from.number l.from from_at, slice_get_within past.nodes l.from.number l.from from_at)))

pub sound_bare : (phase : Phase) (past : Past) (p : Pop) → Sound phase past → IsNext phase past (bare p) → Sound phase (extend phase past (bare p))
sound_bare phase past p s n =
    let l = leads_to phase past p n.to n.leads in
    subst (Sound phase) (sym (extend_bare phase past p)) (sound_pop phase past.nodes past.pops p s (slice_get_within past.nodes p.parent l.parent l.at))
