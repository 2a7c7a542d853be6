-- What a waiting entry says: its visit, and that it leads on from the latest visit of that state.
use Rattle.std.proofs.Common.{◌≡◌, ℕ, ◌+◌, ◌≤◌, Bool, true, false, not, List, [], map, length, slice_get, Option, Some, None, refl, ap, sym, ◌∙◌, subst, arith, inl, inr}
use Rattle.std.specs.Prelude.{◌≢◌, is_some, option_map, option_and_then, if◌then◌else◌}
use Rattle.std.specs.List.{filter, flat_map, range_with_len}
use Rattle.std.proofs.lemmas.Bool.{cases_Bool, and_parts, ltb-true, ltb-false}
use Rattle.sas_task.specs.declared.contents.CostKind.TheVariants.{Normal}
use Rattle.sas_task.specs.States.{step, is_applicable}
use Rattle.sas_task.specs.Runs.{cost_at}
use Rattle.open_lists.specs.Items.{Item}
use Rattle.open_lists.specs.declared.entry.Entry.{Entry}
use Rattle.sas_task.proofs.RunLaws.{is_some-step}
use Rattle.search_log.specs.declared.turns.Pop.{Pop}
use Rattle.search_log.specs.Phases.{Phase}
use Rattle.lama_num.specs.Bounds.{is_below}
use Rattle.search_log.specs.Places.{Place, Node, Past, Turn, latest, is_expanded, place_after, reached, place_by}
use Rattle.guide.specs.Operators.{applicable_operators}
use Rattle.search_log.specs.Pending.{pending, puts_of, is_put, item_for, is_taken}
use Rattle.search_log.specs.Lawful.{IsNext}
use Rattle.log_laws.proofs.Sound.{Sound, LeadsOn}
use Rattle.log_laws.proofs.CountLaws.{Counted}
use Rattle.log_laws.proofs.Elements.{from-map, from-filter, from-flat_map, there_is}
use Rattle.log_laws.proofs.SpaceLaws.{normal_g}
use Rattle.log_laws.proofs.SoundLaws.{Numbered-at}
use Rattle.log_laws.proofs.TurnLaws.{leads_to}

-- an item that a visit puts
record IsPut (phase : Phase) (n : Node) (entry : Entry) : Type 0 where
  parent : entry.parent ≡ n.number
  below : is_below phase.setting.bound (n.place.real + cost_at phase.parts entry.op) ≡ true
  steps : is_some (step phase.parts n.place.state entry.op) ≡ true

from-puts : (phase : Phase) (k : ℕ) (n : Node) (i : ℕ) (item : Item) → slice_get (puts_of phase k n) i ≡ Some item → IsPut phase n item.entry
from-puts phase k n i item h = by_test (is_expanded phase n.visit n.place) h
  where
    by_test : (b : Bool) → slice_get (if b then map (item_for phase k n) (filter (is_put phase k n) (applicable_operators phase.parts n.place.state)) else []) i ≡ Some item → IsPut phase n item.entry
    by_test false h = let k : ◌≡◌ {A = Option Item} None (Some item) = h in cc
    by_test true h =
        let m = from-map (item_for phase k n) (filter (is_put phase k n) (applicable_operators phase.parts n.place.state)) i item h in
        let kept = from-filter (is_put phase k n) (applicable_operators phase.parts n.place.state) i m.0 m.1 in
        let ok = from-filter (is_applicable phase.parts n.place.state) (range_with_len 0 (length phase.parts.operators)) kept.1.0 m.0 kept.1.1 in
        let own : IsPut phase n (item_for phase k n m.0).entry = record { parent = refl; below = (and_parts _ _ kept.0).0; steps = is_some-step phase.parts n.place.state m.0 ∙ ok.0 } in
        subst (λ (x : Item). IsPut phase n x.entry) m.2 own

-- entries that wait lead on
pub waiting_leads : (phase : Phase) (past : Past) (k place : ℕ) (item : Item) → Sound phase past → slice_get (pending phase past k) place ≡ Some item → LeadsOn phase past item.entry
waiting_leads phase past k place item s e =
    let put = from-filter (λ x. not (is_taken past.pops k x)) (flat_map (puts_of phase k) past.nodes) place item e in
    let by = from-flat_map (puts_of phase k) past.nodes put.1.0 item put.1.1 in
    let own = from-puts phase k by.1 by.3.0 item by.3.1 in
    let number : item.entry.parent ≡ by.0 = own.parent ∙ Numbered-at 0 past.nodes by.0 by.1 s.numbered by.2 ∙ omega arith in
    let last = s.have_latest by.0 by.1 by.2 in
    let next = there_is (step phase.parts by.1.place.state item.entry.op) own.steps in
    let steps : step phase.parts last.last.place.state item.entry.op ≡ Some next.0 = ap (λ (x : List ℕ). step phase.parts x item.entry.op) last.state ∙ next.1 in
    record {
      parent = by.1;
      at = ap (slice_get past.nodes) number ∙ by.2;
      below = own.below;
      from = last.last;
      at_from = last.at;
      state = last.state;
      to = place_by phase last.last.place item.entry.op next.0;
      there = ap (option_map (place_by phase last.last.place item.entry.op)) steps;
    }

-- so a pop that takes it reaches that place
pub waiting_reached : (phase : Phase) (past : Past) (p : Pop) → (l : LeadsOn phase past (record { parent = p.parent; op = p.op })) → reached phase past p ≡ Some l.to
waiting_reached phase past p l =
    ap (λ (o : Option Node). option_and_then (λ (from : Node). place_after phase from.place p.op) (option_and_then (λ (parent : Node). slice_get (latest past.nodes) parent.visit.id) o)) l.at
    ∙ ap (λ (o : Option Node). option_and_then (λ (from : Node). place_after phase from.place p.op) o) l.at_from
    ∙ l.there

not_below : (bound : Option ℕ) (a b : ℕ) → a ≤ b → is_below bound b ≡ true → is_below bound a ≡ false → ⊥
not_below None a b le small over = let k : true ≡ false = over in cc
not_below (Some c) a b le small over = omega (arith, le, ltb-true _ _ small, ltb-false _ _ over)

-- A pop that the bound makes Known: the origin's real cost has risen. So states are visited again, and not by real costs.
pub over_reopens : (phase : Phase) (past : Past) (t : Turn) → Sound phase past → Counted phase past → (n : IsNext phase past t) → is_below phase.setting.bound n.to.real ≡ false → (phase.setting.reopen ≡ true) × (phase.setting.cost ≢ Normal)
over_reopens phase past t s c n over =
    let w = waiting_leads phase past t.pop.list n.place n.item s n.oldest.here in
    let l = leads_to phase past t.pop n.to n.leads in
    let a : Some l.parent ≡ Some w.parent = sym l.at ∙ ap (slice_get past.nodes) (ap (λ (x : Entry). x.parent) (sym n.entry)) ∙ w.at in
    let parent : l.parent ≡ w.parent = cc in
    let bounded : is_below phase.setting.bound (l.parent.place.real + cost_at phase.parts t.pop.op) ≡ true =
    ap (λ (x : Node). is_below phase.setting.bound (x.place.real + cost_at phase.parts t.pop.op)) parent ∙ ap (λ (o : ℕ). is_below phase.setting.bound (w.parent.place.real + cost_at phase.parts o)) (ap (λ (x : Entry). x.op) (sym n.entry)) ∙ w.below in
    let cost = ap (λ (x : Place). x.real) l.is in
    let risen : l.from.place.real ≤ l.parent.place.real → ⊥ = λ le. not_below phase.setting.bound n.to.real (l.parent.place.real + cost_at phase.parts t.pop.op) (omega (arith, cost, le)) bounded over in (
      elim (cases_Bool phase.setting.reopen) [
        | inl set ↦ set
        | inr unset ↦
            -- each visit is its state's latest
            let back = c.alone unset in
            let at : slice_get (latest past.nodes) t.pop.parent ≡ Some l.parent = ap (λ (ns : List Node). slice_get ns t.pop.parent) back ∙ l.at in
            let id : l.parent.visit.id ≡ t.pop.parent = s.ids t.pop.parent l.parent at in
            let e : Some l.from ≡ Some l.parent = sym l.at_from ∙ ap (slice_get (latest past.nodes)) id ∙ at in
            let same : l.from ≡ l.parent = cc in
            absurd (risen (omega (arith, ap (λ (x : Node). x.place.real) same)))
      ],
      λ kind.
          let last = s.have_latest t.pop.parent l.parent l.at in
          let e : Some l.from ≡ Some last.last = sym l.at_from ∙ last.at in
          let same : l.from ≡ last.last = cc in
          let p = s.paths t.pop.parent l.parent l.at in
          let q = s.paths l.from.number l.from (s.visits l.parent.visit.id l.from l.at_from) in
          risen (omega (arith, last.g, ap (λ (x : Node). x.place.g) same, p.g, p.real, q.g, q.real, normal_g phase phase.setting.cost l.parent.place.path kind, normal_g phase phase.setting.cost l.from.place.path kind)),
    )
