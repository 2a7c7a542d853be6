-- What a lawful turn leads to, and what its result says.
use Rattle.std.proofs.Common.{◌≡◌, ℕ, ◌<◌, ◌≤◌, Bool, true, false, not, List, [], ◌∷◌, ◌++◌, length, slice_get, Option, Some, None, refl, ap, sym, ◌∙◌, subst, arith, inl, inr, ◌⊎◌}
use Rattle.std.specs.Prelude.{◌&&◌, nat_lt, nat_le, if◌then◌else◌, option_map, option_and_then}
use Rattle.std.specs.Option.{option_to_list}
use Rattle.std.proofs.lemmas.List.{append-nil}
use Rattle.std.proofs.lemmas.Option.{slice_get_within}
use Rattle.std.proofs.lemmas.Bool.{and_parts, and_cases, not-true, not-false, false≢true, ltb-true, ltb-false, leb-false, le-leb, lt-leb}
use Rattle.sas_task.specs.States.{step}
use Rattle.sas_task.specs.Runs.{is_goal}
use Rattle.search_log.specs.declared.turns.Pop.{Pop}
use Rattle.search_log.specs.declared.turns.PopResult.TheVariants.{Known, Goal, Visited, Full, Dead, Again}
use Rattle.search_log.specs.Logs.{Visit}
use Rattle.search_log.specs.Phases.{Phase}
use Rattle.lama_num.specs.Bounds.{is_below}
use Rattle.search_log.specs.Places.{Place, Node, Past, Turn, latest, id_of, place_after, reached, node_at, makes_visit, extend, place_by}
use Rattle.search_log.specs.Lawful.{is_full, result_at, result_of, is_reopened, is_called_dead}

-- The visit that a pop names, the latest visit of its state, and the step from there.
pub record Leads (phase : Phase) (past : Past) (p : Pop) (to : Place) : Type 0 where
  pub parent : Node
  pub at : slice_get past.nodes p.parent ≡ Some parent
  pub from : Node
  pub at_from : slice_get (latest past.nodes) parent.visit.id ≡ Some from
  pub next : List ℕ
  pub steps : step phase.parts from.place.state p.op ≡ Some next
  pub is : to ≡ place_by phase from.place p.op next

pub leads_to : (phase : Phase) (past : Past) (p : Pop) (to : Place) → reached phase past p ≡ Some to → Leads phase past p to
leads_to phase past p to h = by_parent (slice_get past.nodes p.parent) refl h
  where
    by_step : (parent from : Node) → slice_get past.nodes p.parent ≡ Some parent → slice_get (latest past.nodes) parent.visit.id ≡ Some from →
        (o : Option (List ℕ)) → step phase.parts from.place.state p.op ≡ o → option_map (place_by phase from.place p.op) o ≡ Some to → Leads phase past p to
    by_step parent from at at_from None s e = let k : ◌≡◌ {A = Option Place} None (Some to) = e in cc
    by_step parent from at at_from (Some next) s e =
        let same : place_by phase from.place p.op next ≡ to = cc in
        record { parent = parent; at = at; from = from; at_from = at_from; next = next; steps = s; is = sym same }

    by_origin : (parent : Node) → slice_get past.nodes p.parent ≡ Some parent → (o : Option Node) → slice_get (latest past.nodes) parent.visit.id ≡ o →
        option_and_then (λ (from : Node). place_after phase from.place p.op) o ≡ Some to → Leads phase past p to
    by_origin parent at None a e = let k : ◌≡◌ {A = Option Place} None (Some to) = e in cc
    by_origin parent at (Some from) a e = by_step parent from at a (step phase.parts from.place.state p.op) refl e

    by_parent : (o : Option Node) → slice_get past.nodes p.parent ≡ o →
        option_and_then (λ (from : Node). place_after phase from.place p.op) (option_and_then (λ (parent : Node). slice_get (latest past.nodes) parent.visit.id) o) ≡ Some to → Leads phase past p to
    by_parent None a e = let k : ◌≡◌ {A = Option Place} None (Some to) = e in cc
    by_parent (Some parent) a e = by_origin parent a (slice_get (latest past.nodes) parent.visit.id) refl e

-- a past that goes on by a turn without a visit, or with one
abbrev pub bare : Pop → Turn
bare p = record { pop = p; made = None }

abbrev pub with_visit : Pop → Visit → Turn
with_visit p v = record { pop = p; made = Some v }

abbrev pub past_with : List Node → List Pop → Past
past_with nodes pops = record { nodes = nodes; pops = pops }

pub extend_bare : (phase : Phase) (past : Past) (p : Pop) → extend phase past (bare p) ≡ past_with past.nodes (past.pops ++ p ∷ [])
extend_bare phase past p =
    ap (λ (o : Option Node). past_with (past.nodes ++ option_to_list o) (past.pops ++ p ∷ [])) (none (reached phase past p))
    ∙ ap (λ (ns : List Node). past_with ns (past.pops ++ p ∷ [])) (append-nil past.nodes)
  where
    none : (o : Option Place) → option_and_then (λ (to : Place). option_map (node_at phase past.nodes to) None) o ≡ None
    none None = refl
    none (Some to) = refl

pub extend_made : (phase : Phase) (past : Past) (p : Pop) (v : Visit) (to : Place) → reached phase past p ≡ Some to → extend phase past (with_visit p v) ≡ past_with (past.nodes ++ node_at phase past.nodes to v ∷ []) (past.pops ++ p ∷ [])
extend_made phase past p v to h =
    ap (λ (o : Option Place). past_with (past.nodes ++ option_to_list (option_and_then (λ (there : Place). option_map (node_at phase past.nodes there) (Some v)) o)) (past.pops ++ p ∷ [])) h

-- what the result of a pop that makes a visit says
pub record IsVisit (phase : Phase) (past : Past) (to : Place) : Type 0 where
  pub below : is_below phase.setting.bound to.real ≡ true
  pub known : (m : Node) → slice_get (latest past.nodes) (id_of past.nodes to.state) ≡ Some m → (phase.setting.reopen ≡ true) × (m.visit.seen.dead ≡ false) × (to.g < m.place.g)
  pub room : length (latest past.nodes) ≤ id_of past.nodes to.state → length (latest past.nodes) < phase.setting.most_states

new_room : (phase : Phase) (past : Past) (to : Place) (made : Option Visit) → makes_visit (result_at phase past to None made) ≡ true → length (latest past.nodes) < phase.setting.most_states
new_room phase past to made makes = by_test (nat_le phase.setting.most_states (length (latest past.nodes))) refl
  where
    by_test : (b : Bool) → nat_le phase.setting.most_states (length (latest past.nodes)) ≡ b → length (latest past.nodes) < phase.setting.most_states
    by_test true is = let k : false ≡ true = rw is at makes in cc
    by_test false is = leb-false _ _ is

again_reopens : (phase : Phase) (past : Past) (to : Place) (m : Node) (made : Option Visit) → makes_visit (result_at phase past to (Some m) made) ≡ true → is_reopened phase to m ≡ true
again_reopens phase past to m made makes = by_test (is_reopened phase to m) refl
  where
    by_test : (b : Bool) → is_reopened phase to m ≡ b → b ≡ true
    by_test true is = refl
    by_test false is = let k : false ≡ true = rw is at makes in cc

-- the two cases of a result: the cost isn't below the bound, or the state decides
pub result_below : (phase : Phase) (past : Past) (to : Place) (made : Option Visit) → is_below phase.setting.bound to.real ≡ true
    → result_of phase past to made ≡ result_at phase past to (slice_get (latest past.nodes) (id_of past.nodes to.state)) made
result_below phase past to made is = ap (λ (b : Bool). if b then result_at phase past to (slice_get (latest past.nodes) (id_of past.nodes to.state)) made else Known) is

pub visit_by_result : (phase : Phase) (past : Past) (to : Place) (made : Option Visit) → makes_visit (result_of phase past to made) ≡ true → IsVisit phase past to
visit_by_result phase past to made makes = by_bound (is_below phase.setting.bound to.real) refl
  where
    by_state : is_below phase.setting.bound to.real ≡ true → (o : Option Node) → slice_get (latest past.nodes) (id_of past.nodes to.state) ≡ o → makes_visit (result_at phase past to o made) ≡ true → IsVisit phase past to
    by_state below None at h = record {
      below = below;
      known = λ m e. let k : ◌≡◌ {A = Option Node} None (Some m) = sym at ∙ e in cc;
      room = λ _. new_room phase past to made h;
    }
    by_state below (Some m) at h = record {
      below = below;
      known = λ q e.
          let f : Some m ≡ Some q = sym at ∙ e in
          let g : m ≡ q = cc in
          let parts = and_parts phase.setting.reopen (not m.visit.seen.dead && nat_lt to.g m.place.g) (again_reopens phase past to m made h) in
          let both = and_parts (not m.visit.seen.dead) (nat_lt to.g m.place.g) parts.1 in
          subst (λ (x : Node). (phase.setting.reopen ≡ true) × (x.visit.seen.dead ≡ false) × (to.g < x.place.g)) g (parts.0, not-true _ both.0, ltb-true _ _ both.1);
      room = λ over. absurd (let w = slice_get_within (latest past.nodes) (id_of past.nodes to.state) m at in omega (arith, w, over));
    }

    by_bound : (b : Bool) → is_below phase.setting.bound to.real ≡ b → IsVisit phase past to
    by_bound true is = by_state is (slice_get (latest past.nodes) (id_of past.nodes to.state)) refl (ap makes_visit (sym (result_below phase past to made is)) ∙ makes)
    by_bound false is = let k : false ≡ true = rw is at makes in cc

-- what a result that is neither a visit nor Full says of a state below the bound
pub record IsKnown (phase : Phase) (past : Past) (to : Place) : Type 0 where
  pub last : Node
  pub at : slice_get (latest past.nodes) (id_of past.nodes to.state) ≡ Some last
  pub cost : phase.setting.reopen ≡ true → (last.visit.seen.dead ≡ true) ⊎ (last.place.g ≤ to.g)

pub known_by_result : (phase : Phase) (past : Past) (to : Place) → makes_visit (result_of phase past to None) ≡ false → is_full (result_of phase past to None) ≡ false
    → is_below phase.setting.bound to.real ≡ true → IsKnown phase past to
known_by_result phase past to bars roomy below =
    let same = sym (result_below phase past to None below) in
    by_state (slice_get (latest past.nodes) (id_of past.nodes to.state)) refl (ap makes_visit same ∙ bars) (ap is_full same ∙ roomy)
  where
    -- a new state is visited or finds no room
    never : (full goal : Bool) → makes_visit (if full then Full else (if goal then Goal else Visited)) ≡ false → is_full (if full then Full else (if goal then Goal else Visited)) ≡ false → ⊥
    never true goal a b = let k : true ≡ false = b in cc
    never false true a b = let k : true ≡ false = a in cc
    never false false a b = let k : true ≡ false = a in cc

    stays : (m : Node) → makes_visit (result_at phase past to (Some m) None) ≡ false → is_reopened phase to m ≡ false
    stays m h = by_test (is_reopened phase to m) refl
      where
        by_test : (b : Bool) → is_reopened phase to m ≡ b → b ≡ false
        by_test true is = let k : true ≡ false = rw is at h in cc
        by_test false is = refl

    by_state : (o : Option Node) → slice_get (latest past.nodes) (id_of past.nodes to.state) ≡ o → makes_visit (result_at phase past to o None) ≡ false → is_full (result_at phase past to o None) ≡ false → IsKnown phase past to
    by_state None at a b = absurd (never (nat_le phase.setting.most_states (length (latest past.nodes))) (is_goal phase.parts to.state) a b)
    by_state (Some m) at a b = record {
      last = m;
      at = at;
      cost = λ reopen. elim (and_cases phase.setting.reopen _ (stays m a)) [
        | inl closed ↦ absurd (false≢true (sym closed ∙ reopen))
        | inr rest ↦ elim (and_cases (not m.visit.seen.dead) (nat_lt to.g m.place.g) rest) [
          | inl dead ↦ inl (not-false _ dead)
          | inr no_less ↦ inr (ltb-false _ _ no_less)
        ]
      ];
    }

-- the real cost isn't below the bound
pub result_over : (phase : Phase) (past : Past) (to : Place) (made : Option Visit) → is_below phase.setting.bound to.real ≡ false → result_of phase past to made ≡ Known
result_over phase past to made over = ap (λ (b : Bool). if b then result_at phase past to (slice_get (latest past.nodes) (id_of past.nodes to.state)) made else Known) over

at_state : (phase : Phase) (past : Past) (to : Place) (made : Option Visit) (o : Option Node) → is_below phase.setting.bound to.real ≡ true → slice_get (latest past.nodes) (id_of past.nodes to.state) ≡ o → result_of phase past to made ≡ result_at phase past to o made
at_state phase past to made o below at = result_below phase past to made below ∙ ap (λ (n : Option Node). result_at phase past to n made) at

-- a new state, without and with room for it
pub result_full : (phase : Phase) (past : Past) (to : Place) (made : Option Visit) → is_below phase.setting.bound to.real ≡ true → slice_get (latest past.nodes) (id_of past.nodes to.state) ≡ None
    → phase.setting.most_states ≤ length (latest past.nodes) → result_of phase past to made ≡ Full
result_full phase past to made below at full =
    at_state phase past to made None below at ∙ ap (λ (b : Bool). if b then Full else (if is_called_dead made then Dead else (if is_goal phase.parts to.state then Goal else Visited))) (le-leb _ _ full)

pub result_new : (phase : Phase) (past : Past) (to : Place) (made : Option Visit) → is_below phase.setting.bound to.real ≡ true → slice_get (latest past.nodes) (id_of past.nodes to.state) ≡ None
    → length (latest past.nodes) < phase.setting.most_states → result_of phase past to made ≡ (if is_called_dead made then Dead else (if is_goal phase.parts to.state then Goal else Visited))
result_new phase past to made below at room =
    at_state phase past to made None below at ∙ ap (λ (b : Bool). if b then Full else (if is_called_dead made then Dead else (if is_goal phase.parts to.state then Goal else Visited))) (lt-leb _ _ room)

-- a known state, visited again or not
pub result_again : (phase : Phase) (past : Past) (to : Place) (m : Node) (made : Option Visit) → is_below phase.setting.bound to.real ≡ true → slice_get (latest past.nodes) (id_of past.nodes to.state) ≡ Some m
    → is_reopened phase to m ≡ true → result_of phase past to made ≡ (if is_called_dead made then Dead else Again)
result_again phase past to m made below at again =
    at_state phase past to made (Some m) below at ∙ ap (λ (b : Bool). if b then (if is_called_dead made then Dead else Again) else Known) again

pub result_stays : (phase : Phase) (past : Past) (to : Place) (m : Node) (made : Option Visit) → is_below phase.setting.bound to.real ≡ true → slice_get (latest past.nodes) (id_of past.nodes to.state) ≡ Some m
    → is_reopened phase to m ≡ false → result_of phase past to made ≡ Known
result_stays phase past to m made below at stays =
    at_state phase past to made (Some m) below at ∙ ap (λ (b : Bool). if b then (if is_called_dead made then Dead else Again) else Known) stays
