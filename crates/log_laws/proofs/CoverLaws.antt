-- Each operator of an expanded latest visit is still pending, or leads to a visited state.
use Rattle.std.proofs.Common.{◌≡◌, ℕ, ◌+◌, ◌<◌, ◌≤◌, true, false, not, List, [], ◌∷◌, ◌++◌, length, slice_get, Some, refl, ap, sym, ◌∙◌, subst, arith, inl, inr, ◌⊎◌, Option, None}
use Rattle.std.specs.Prelude.{◌==◌, nat_lt, is_some}
use Rattle.std.specs.List.{filter, list_all, range_with_len, fold, list_any}
use Rattle.std.proofs.lemmas.Option.{slice_get_within}
use Rattle.std.proofs.lemmas.Bool.{cases_Bool, cases_eq, and_parts, and_from, and_right, or_left, false≢true, eqb-true, or_parts, or_from}
use Rattle.sas_task.specs.States.{step, is_applicable}
use Rattle.sas_task.specs.Runs.{cost_at}
use Rattle.sas_task.proofs.RunLaws.{taken-within, is_some-step}
use Rattle.open_lists.specs.Items.{Item}
use Rattle.search_log.specs.declared.turns.Pop.{Pop}
use Rattle.search_log.specs.Phases.{Phase, adjusted_cost, is_for_preferred, IsPhase}
use Rattle.lama_num.specs.Bounds.{is_below}
use Rattle.search_log.specs.Places.{Node, Past, latest, put_latest, is_expanded, Place, Turn, id_of, node_at, makes_visit, turns, extend, start_past, past_of, place_by}
use Rattle.guide.specs.Operators.{applicable_operators}
use Rattle.search_log.specs.Pending.{pending, puts_of, is_put, item_for}
use Rattle.log_laws.proofs.Elements.{in-map, StandsIn, in-filter, in-left, in-right, in-range}
use Rattle.log_laws.proofs.PendingLaws.{pending-visited, pending-after_pop, takes}
use Rattle.log_laws.proofs.TableLaws.{latest-push, put_latest-at, put_latest-other, put_latest-cases, id_within, id_state}
use Rattle.search_log.specs.Logs.{Visit}
use Rattle.search_log.specs.Lawful.{IsNext, Follow, Lawful, is_full}
use Rattle.log_laws.proofs.Sound.{Sound}
use Rattle.log_laws.proofs.SoundLaws.{first_node}
use Rattle.log_laws.proofs.TurnLaws.{Leads, leads_to, bare, with_visit, extend_bare, extend_made, visit_by_result, known_by_result}
use Rattle.log_laws.proofs.LogLaws.{turns-cons_made, turns-cons_bare, Matched, matched_turns, by_made, sound_turn, start_sound}

-- an entry for an operator of a visit waits in list 0
pub record IsPending (phase : Phase) (past : Past) (n : Node) (op : ℕ) : Type 0 where
  pub place : ℕ
  pub item : Item
  pub at : slice_get (pending phase past 0) place ≡ Some item
  pub of_node : item.entry.parent ≡ n.number
  pub of_op : item.entry.op ≡ op

-- the state is visited, and where states are visited again it is dead or has no more g
pub record Found (phase : Phase) (table : List Node) (n : Node) (op : ℕ) (next : List ℕ) : Type 0 where
  pub id : ℕ
  pub to : Node
  pub at : slice_get table id ≡ Some to
  pub state : to.place.state ≡ next
  pub cost : phase.setting.reopen ≡ true → (to.visit.seen.dead ≡ true) ⊎ (to.place.g ≤ n.place.g + adjusted_cost phase op)

pub record Covered (phase : Phase) (past : Past) : Type 0 where
  pub each : (i : ℕ) (n : Node) → slice_get (latest past.nodes) i ≡ Some n → is_expanded phase n.visit n.place ≡ true
      → (op : ℕ) (next : List ℕ) → step phase.parts n.place.state op ≡ Some next → is_below phase.setting.bound (n.place.real + cost_at phase.parts op) ≡ true
      → IsPending phase past n op ⊎ Found phase (latest past.nodes) n op next

-- an operator that an expanded visit puts into list 0
in-puts : (phase : Phase) (n : Node) (op : ℕ) (next : List ℕ) → is_expanded phase n.visit n.place ≡ true → step phase.parts n.place.state op ≡ Some next
    → is_below phase.setting.bound (n.place.real + cost_at phase.parts op) ≡ true → StandsIn (puts_of phase 0 n) (item_for phase 0 n op)
in-puts phase n op next expanded steps below =
    let ops = range_with_len 0 (length phase.parts.operators) in
    let at : slice_get ops op ≡ Some op = in-range 0 (length phase.parts.operators) op (taken-within phase.parts n.place.state op next steps) ∙ ap Some (omega arith) in
    let applies : is_applicable phase.parts n.place.state op ≡ true = sym (is_some-step phase.parts n.place.state op) ∙ ap is_some steps in
    let first = in-filter (is_applicable phase.parts n.place.state) ops op op at applies in
    let for_all : is_for_preferred phase 0 ≡ false = and_right phase.preferring false refl in
    let put : is_put phase 0 n op ≡ true = and_from _ _ below (or_left _ _ (ap not for_all)) in
    rw expanded (in-map (item_for phase 0 n) (filter (is_put phase 0 n) (applicable_operators phase.parts n.place.state)) op (in-filter (is_put phase 0 n) (applicable_operators phase.parts n.place.state) first.0 op first.1 put))

-- what was found is still found after a visit that goes on from it with less g
found_later : (phase : Phase) (table : List Node) (n q : Node) (op : ℕ) (next : List ℕ) → Found phase table q op next → n.visit.id ≤ length table
    → ((m : Node) → slice_get table n.visit.id ≡ Some m → (m.place.state ≡ n.place.state) × (m.visit.seen.dead ≡ false) × (n.place.g < m.place.g))
    → Found phase (put_latest table n) q op next
found_later phase table n q op next f within again =
    elim (cases_eq f.id n.visit.id) [
      | inl same ↦
          let a = again f.to (ap (slice_get table) (sym same) ∙ f.at) in
          record {
            id = n.visit.id;
            to = n;
            at = put_latest-at table n within;
            state = sym a.0 ∙ f.state;
            cost = λ r. elim (f.cost r) [
              | inl d ↦ absurd (false≢true (sym a.1 ∙ d))
              | inr le ↦ inr (omega (arith, le, a.2))
            ];
          }
      | inr other ↦ record { id = f.id; to = f.to; at = put_latest-other table n f.id within other ∙ f.at; state = f.state; cost = f.cost }
    ]

pub covered_visit : (phase : Phase) (nodes : List Node) (pops : List Pop) (n : Node) → Covered phase (record { nodes = nodes; pops = pops })
    → n.number ≡ length nodes → n.visit.id ≤ length (latest nodes) → list_all (λ (p : Pop). nat_lt p.parent (length nodes)) pops ≡ true
    → ((m : Node) → slice_get (latest nodes) n.visit.id ≡ Some m → (m.place.state ≡ n.place.state) × (m.visit.seen.dead ≡ false) × (n.place.g < m.place.g))
    → Covered phase (record { nodes = nodes ++ n ∷ []; pops = pops })
covered_visit phase nodes pops n c num within below again =
    let new = latest-push nodes n in
    let grown = pending-visited phase nodes pops n 0 num below in
    record {
      each = λ i q e expanded op next steps bounded.
          elim (put_latest-cases (latest nodes) n i q within (sym (ap (λ t. slice_get t i) new) ∙ e)) [
            | inl here ↦
                let put = in-puts phase q op next expanded steps bounded in
                let there = in-right (pending phase (record { nodes = nodes; pops = pops }) 0) (puts_of phase 0 n) put.0 (item_for phase 0 q op) (ap (λ (r : Node). slice_get (puts_of phase 0 r) put.0) (sym here.1) ∙ put.1) in
                inl (record { place = there.0; item = item_for phase 0 q op; at = ap (λ xs. slice_get xs there.0) grown ∙ there.1; of_node = refl; of_op = refl })
            | inr there ↦ elim (c.each i q there.1 expanded op next steps bounded) [
              | inl p ↦ inl (record { place = p.place; item = p.item; at = ap (λ xs. slice_get xs p.place) grown ∙ in-left _ (puts_of phase 0 n) p.place p.item p.at; of_node = p.of_node; of_op = p.of_op })
              | inr f ↦ inr (subst (λ (t : List Node). Found phase t q op next) (sym new) (found_later phase (latest nodes) n q op next f within again))
            ]
          ];
    }

pub covered_pop : (phase : Phase) (nodes : List Node) (pops : List Pop) (p : Pop) → Covered phase (record { nodes = nodes; pops = pops })
    → ((i : ℕ) (n : Node) (next : List ℕ) → slice_get (latest nodes) i ≡ Some n → n.number ≡ p.parent → step phase.parts n.place.state p.op ≡ Some next
    → is_below phase.setting.bound (n.place.real + cost_at phase.parts p.op) ≡ true → Found phase (latest nodes) n p.op next)
    → Covered phase (record { nodes = nodes; pops = pops ++ p ∷ [] })
covered_pop phase nodes pops p c popped =
    record {
      each = λ i n e expanded op next steps bounded.
          elim (c.each i n e expanded op next steps bounded) [
            | inr f ↦ inr f
            | inl q ↦ elim (cases_Bool (takes 0 p q.item)) [
              | inl t ↦
                  let parts = and_parts (p.list == 0) _ t in
                  let entry = and_parts (p.parent == q.item.entry.parent) (p.op == q.item.entry.op) parts.1 in
                  let same : p.op ≡ op = eqb-true _ _ entry.1 ∙ q.of_op in
                  inr (subst (λ (o : ℕ). Found phase (latest nodes) n o next) same (popped i n next e (sym q.of_node ∙ sym (eqb-true _ _ entry.0))
                  (subst (λ (o : ℕ). step phase.parts n.place.state o ≡ Some next) (sym same) steps)
                  (subst (λ (o : ℕ). is_below phase.setting.bound (n.place.real + cost_at phase.parts o) ≡ true) (sym same) bounded)))
              | inr left ↦
                  let kept = in-filter (λ x. not (takes 0 p x)) (pending phase (record { nodes = nodes; pops = pops }) 0) q.place q.item q.at (ap not left) in
                  inl (record { place = kept.0; item = q.item; at = ap (λ xs. slice_get xs kept.0) (pending-after_pop phase nodes pops p 0) ∙ kept.1; of_node = q.of_node; of_op = q.of_op })
            ]
          ];
    }

-- the latest visit that stands at the number of a pop's parent is its origin
origin_is : (phase : Phase) (past : Past) (p : Pop) (to : Place) (i : ℕ) (n : Node) → Sound phase past → (l : Leads phase past p to) → slice_get (latest past.nodes) i ≡ Some n → n.number ≡ p.parent → l.from ≡ n
origin_is phase past p to i n s l at num =
    let a : Some l.parent ≡ Some n = sym l.at ∙ ap (slice_get past.nodes) (sym num) ∙ s.visits i n at in
    let b : l.parent ≡ n = cc in
    let c : Some l.from ≡ Some n = sym l.at_from ∙ ap (λ (q : Node). slice_get (latest past.nodes) q.visit.id) b ∙ ap (slice_get (latest past.nodes)) (s.ids i n at) ∙ at in
    let d : l.from ≡ n = cc in d

-- where the pop leads, seen from such a visit
leads_from : (phase : Phase) (past : Past) (p : Pop) (to : Place) (i : ℕ) (n : Node) (next : List ℕ) → Sound phase past → Leads phase past p to → slice_get (latest past.nodes) i ≡ Some n → n.number ≡ p.parent
    → step phase.parts n.place.state p.op ≡ Some next → to ≡ place_by phase n.place p.op next
leads_from phase past p to i n next s l at num steps =
    let from = origin_is phase past p to i n s l at num in
    let a : Some l.next ≡ Some next = sym l.steps ∙ ap (λ (q : Node). step phase.parts q.place.state p.op) from ∙ steps in
    let b : l.next ≡ next = cc in
    l.is ∙ ap (λ (q : Node). place_by phase q.place p.op l.next) from ∙ ap (place_by phase n.place p.op) b

covered_made : (phase : Phase) (past : Past) (p : Pop) (v : Visit) → Sound phase past → Covered phase past → IsNext phase past (with_visit p v) → makes_visit p.result ≡ true → Covered phase (extend phase past (with_visit p v))
covered_made phase past p v s c n makes =
    let l = leads_to phase past p n.to n.leads in
    let node = node_at phase past.nodes n.to v in
    let a = visit_by_result phase past n.to (Some v) (ap makes_visit (sym n.result) ∙ makes) in
    let within : v.id ≤ length (latest past.nodes) = omega (arith, n.id, id_within past.nodes n.to.state) in
    let parent_within = slice_get_within past.nodes p.parent l.parent l.at in
    let visited = covered_visit phase past.nodes past.pops node c refl within s.taken (λ q at.
    let at_id = ap (slice_get (latest past.nodes)) (sym n.id) ∙ at in
    let k = a.known q at_id in
    (id_state past.nodes n.to.state q at_id, k.1, k.2)) in
    subst (Covered phase) (sym (extend_made phase past p v n.to n.leads)) (covered_pop phase (past.nodes ++ node ∷ []) past.pops p visited (λ i q next at num steps below.
    elim (put_latest-cases (latest past.nodes) node i q within (sym (ap (λ t. slice_get t i) (latest-push past.nodes node)) ∙ at)) [
      | inl same ↦ absurd (let f = ap (λ (x : Node). x.number) same.1 in omega (arith, f, num, parent_within))
      | inr old ↦
          let here = leads_from phase past p n.to i q next s l old.1 num steps in
          record {
            id = v.id;
            to = node;
            at = ap (λ t. slice_get t v.id) (latest-push past.nodes node) ∙ put_latest-at (latest past.nodes) node within;
            state = ap (λ (x : Place). x.state) here;
            cost = λ _. inr (omega (arith, ap (λ (x : Place). x.g) here));
          }
    ]))

covered_bare : (phase : Phase) (past : Past) (p : Pop) → Sound phase past → Covered phase past → IsNext phase past (bare p) → makes_visit p.result ≡ false → is_full p.result ≡ false → Covered phase (extend phase past (bare p))
covered_bare phase past p s c n bars roomy =
    let l = leads_to phase past p n.to n.leads in
    subst (Covered phase) (sym (extend_bare phase past p)) (covered_pop phase past.nodes past.pops p c (λ i q next at num steps below.
    let here = leads_from phase past p n.to i q next s l at num steps in
    let k = known_by_result phase past n.to (ap makes_visit (sym n.result) ∙ bars) (ap is_full (sym n.result) ∙ roomy) (ap (λ (x : Place). is_below phase.setting.bound x.real) here ∙ below) in
    record {
      id = id_of past.nodes n.to.state;
      to = k.last;
      at = k.at;
      state = id_state past.nodes n.to.state k.last k.at ∙ ap (λ (x : Place). x.state) here;
      cost = λ r. elim (k.cost r) [ inl dead ↦ inl dead | inr le ↦ inr (omega (arith, le, ap (λ (x : Place). x.g) here)) ];
    }))

covered_turn : (phase : Phase) (past : Past) (t : Turn) → Sound phase past → Covered phase past → IsNext phase past t → is_some t.made ≡ makes_visit t.pop.result → is_full t.pop.result ≡ false → Covered phase (extend phase past t)
covered_turn phase past t s c n m roomy =
    by_made (λ u. IsNext phase past u → Covered phase (extend phase past u)) t m
    (λ bars next. covered_bare phase past t.pop s c next bars roomy)
    (λ v e makes next. covered_made phase past t.pop v s c next makes) n

covered_turns : (phase : Phase) (past : Past) (ts : List Turn) → IsPhase phase → Sound phase past → Covered phase past → Follow phase past ts → Matched ts → list_any (λ (t : Turn). is_full t.pop.result) ts ≡ false → Covered phase (fold (extend phase) past ts)
covered_turns phase past [] is s c f m roomy = c
covered_turns phase past (t ∷ ts) is s c f m roomy =
    let o = or_parts (is_full t.pop.result) _ roomy in
    covered_turns phase (extend phase past t) ts is (sound_turn phase past t is s f.0 m.0) (covered_turn phase past t s c f.0 m.0 o.0) f.1 m.1 o.1

covered_start : (phase : Phase) (v : Visit) → v.id ≡ 0 → Covered phase (start_past phase v)
covered_start phase v id =
    covered_visit phase [] [] (first_node phase v) (record { each = λ i n e. absurd (let none : ◌≡◌ {A = Option Node} None (Some n) = e in cc) }) refl (omega (arith, id)) refl (λ m e. absurd (let none : ◌≡◌ {A = Option Node} None (Some m) = e in cc))

pub lawful_covered : (phase : Phase) (visits : List Visit) (pops : List Pop) → IsPhase phase → Lawful phase visits pops → 0 < length visits
    → list_any (λ (p : Pop). is_full p.result) pops ≡ false → Covered phase (past_of phase visits pops)
lawful_covered phase [] pops is l begun roomy = absurd (omega (arith, begun))
lawful_covered phase (v ∷ vs) pops is l begun roomy =
    covered_turns phase (start_past phase v) (turns pops vs) is (start_sound phase v is l.0.id) (covered_start phase v l.0.id) l.1 (matched_turns pops vs l.2) (full_turns pops vs roomy)
  where
    full_turns : (ps : List Pop) (ws : List Visit) → list_any (λ (p : Pop). is_full p.result) ps ≡ false → list_any (λ (t : Turn). is_full t.pop.result) (turns ps ws) ≡ false
    full_turns [] ws h = refl
    full_turns (p ∷ ps) [] h = let o = or_parts (is_full p.result) _ h in or_from _ _ o.0 (full_turns ps [] o.1)
    full_turns (p ∷ ps) (w ∷ ws) h =
        let o = or_parts (is_full p.result) _ h in
        elim (cases_Bool (makes_visit p.result)) [
          | inl makes ↦ ap (list_any (λ (t : Turn). is_full t.pop.result)) (turns-cons_made p ps w ws makes) ∙ or_from _ _ o.0 (full_turns ps ws o.1)
          | inr bars ↦ ap (list_any (λ (t : Turn). is_full t.pop.result)) (turns-cons_bare p ps (w ∷ ws) bars) ∙ or_from _ _ o.0 (full_turns ps (w ∷ ws) o.1)
        ]
