-- The tests of a reasonable order.
use Rattle.std.proofs.Common.{◌≡◌, ◌≢◌, ◌∙◌, sym, ap, refl, subst, ℕ, ◌<◌, List, length, true, false, ◌↔◌, Option, Some, None, slice_get}
use Rattle.std.specs.List.{list_any}
use Rattle.std.specs.Option.{is_none}
use Rattle.std.proofs.lemmas.Bool.{and_parts, and_from, not-true, both_ways, eqb-false, ne_eqb, not_from_false, false_from_ne_true}
use Rattle.std.proofs.lemmas.Map.Keys.{any_passes_from_place}
use Rattle.std.proofs.lemmas.Option.{same_Some}
use Rattle.lama_num.specs.Rows.{row_at}
use Rattle.sas_task.specs.declared.contents.Fact.{Fact}
use Rattle.sas_task.specs.declared.contents.Parts.{Parts}
use Rattle.lm_graph.specs.declared.orders.Edge.{Edge}
use Rattle.lm_graph.specs.declared.orders.Order.{Order}
use Rattle.lm_graph.specs.declared.orders.Order.TheVariants.{Reasonable, Natural, GreedyNecessary}
use Rattle.lm_graph.specs.Graphs.{Content, row_of, kind_of}
use Rattle.lm_graph.specs.Marks.{is_seen}
use Rattle.lm_graph.specs.Orders.{is_strong}
use Rattle.lm_graph.specs.Paths.{Path}
use Rattle.lm_graph.specs.Rows.{kind_in}
use Rattle.lm_graph.specs.Turned.{kinds_from}
use Rattle.lm_orders.specs.declared.sources.Source.{Source}
use Rattle.lm_orders.specs.declared.tables.Tables.{Tables}
use Rattle.lm_orders.specs.Interference.{fact_of, Interferes}
use Rattle.lm_orders.specs.Reasonable.{LeadsPast, IsWanted, IsReasonable}
use Rattle.lm_orders.specs.Sources.{IsSource, is_past, is_new_by, interferes_by}
use Rattle.lm_orders.specs.Tables.{mutex_by, AreTables, SameStrong}
use Rattle.lm_orders.proofs.Companies.{kind_place, greedy_is}
use Rattle.lm_orders.proofs.RowsByFact.{mutex_same}
use Rattle.lm_orders.proofs.ListLaws.{any_has, has_any}
use Rattle.lama_num.proofs.ListLaws.{any_get}
use Rattle.lm_orders.proofs.OrderPaths.{path_along}

none_is : (o : Option Order) → is_none o ≡ true → o ≡ None
none_is None h = refl
none_is (Some kind) h = let k : false ≡ true = h in cc

is_none-at : (o : Option Order) → o ≡ None → is_none o ≡ true
is_none-at o e = ap (λ (k : Option Order). is_none k) e

-- new, and on no cycle

pub record IsNew (kinds : ℕ → ℕ → Option Order) (before after : ℕ) : Type 0 where
  pub different : before ≢ after
  pub no_path : Path kinds Reasonable after before → ⊥
  pub no_order : kinds before after ≡ None

pub new_from : (graph : Content) (source : Source) (after : ℕ) → IsSource graph source → is_new_by graph source after ≡ true → IsNew (kind_of graph) source.node after
new_from graph source after fits h =
    let t = and_parts _ _ h in
    let u = and_parts _ _ t.1 in
    record {
      different = eqb-false source.node after (not-true _ t.0);
      no_path = λ p. both_ways _ (not-true _ u.0) ((fits.leads after).1 p);
      no_order = none_is _ u.1;
    }

pub new_differs : (graph : Content) (source : Source) (after : ℕ) → is_new_by graph source after ≡ true → source.node ≢ after
new_differs graph source after h = eqb-false source.node after (not-true _ (and_parts _ _ h).0)

pub new_to : (graph : Content) (source : Source) (after : ℕ) → IsSource graph source → IsNew (kind_of graph) source.node after → is_new_by graph source after ≡ true
new_to graph source after fits is =
    and_from _ _ (not_from_false _ (ne_eqb source.node after is.different))
    (and_from _ _ (not_from_false _ (false_from_ne_true (is_seen source.leads after) (λ seen. is.no_path ((fits.leads after).0 seen)))) (is_none-at _ is.no_order))

-- needed past the source

module _ (graph : Content) (successors : List (List Edge)) (source : Source) (after : ℕ) (row : List Edge) where
  pub past_from : SameStrong (kinds_from successors) (kind_of graph) → IsSource graph source →
      ((place : ℕ) (edge : Edge) → slice_get row place ≡ Some edge → (edge.node < length successors) × (kinds_from successors after edge.node ≡ Some edge.kind)) →
      list_any (is_past source) row ≡ true → LeadsPast (kind_of graph) source.node after
  past_from same fits each h =
      let r = any_get (is_past source) row h in
      let t = and_parts _ _ r.3 in
      let u = and_parts _ _ t.1 in
      let kind = (each r.0 r.1 r.2).1 in
      record {
        last = r.1.node;
        other = eqb-false r.1.node source.node (not-true _ u.0);
        order = greedy_is _ (sym (same.greedy after r.1.node) ∙ (ap (is_strong GreedyNecessary) kind ∙ t.0));
        path = (fits.reached r.1.node).0 u.1;
      }

  pub past_to : SameStrong (kinds_from successors) (kind_of graph) → IsSource graph source → row ≡ row_of successors after → LeadsPast (kind_of graph) source.node after → list_any (is_past source) row ≡ true
  past_to same fits is past =
      let kind : kinds_from successors after past.last ≡ Some GreedyNecessary = greedy_is _ (same.greedy after past.last ∙ ap (is_strong GreedyNecessary) past.order) in
      let r = kind_place row past.last GreedyNecessary (ap (λ (l : List Edge). kind_in l past.last) is ∙ kind) in
      any_passes_from_place (is_past source) row r.0 r.1 r.2
      (and_from _ _ (ap (λ (k : Order). is_strong GreedyNecessary (Some k)) r.4)
      (and_from _ _ (not_from_false _ (ne_eqb r.1.node source.node (λ e. past.other (sym r.3 ∙ e)))) (ap (is_seen source.reached) r.3 ∙ (fits.reached past.last).1 past.path)))

-- what interferes

module _ (parts : Parts) (graph : Content) (tables : Tables) (source : Source) (own : Fact) (within : source.node < length graph.nodes) (is_own : fact_of graph.nodes source.node ≡ Some own) (fit : AreTables parts graph tables) where
  pub hindered_from : (fact : Fact) → list_any (λ x. mutex_by tables.groups x fact) (row_at tables.company source.node) ≡ true → Interferes parts graph.nodes (kind_of graph) fact source.node own
  hindered_from fact h =
      let r = has_any (λ x. mutex_by tables.groups x fact) (row_at tables.company source.node) h in
      record {
        other = r.0;
        goes = ((fit.company.each source.node own within is_own).each r.0).0 r.1;
        mutex = sym (mutex_same parts tables.groups r.0 fact fit.groups) ∙ r.2;
      }

  pub hindered_to : (fact : Fact) → Interferes parts graph.nodes (kind_of graph) fact source.node own → list_any (λ x. mutex_by tables.groups x fact) (row_at tables.company source.node) ≡ true
  hindered_to fact i =
      any_has (λ x. mutex_by tables.groups x fact) (row_at tables.company source.node) i.other (((fit.company.each source.node own within is_own).each i.other).1 i.goes)
      (mutex_same parts tables.groups i.other fact fit.groups ∙ i.mutex)

  -- all tests together
  pub reasonable_from : (after : ℕ) → IsNew (kind_of graph) source.node after → IsWanted graph.nodes (kind_of graph) source.node after → interferes_by tables source (fact_of graph.nodes after) ≡ true → IsReasonable parts graph.nodes (kind_of graph) source.node after
  reasonable_from after new wanted h = by (fact_of graph.nodes after) refl h
    where
      by : (o : Option Fact) → fact_of graph.nodes after ≡ o → interferes_by tables source o ≡ true → IsReasonable parts graph.nodes (kind_of graph) source.node after
      by None is h = let k : false ≡ true = h in cc
      by (Some fact) is h = record {
        different = new.different;
        first = own;
        second = fact;
        is_first = is_own;
        is_second = is;
        interferes = hindered_from fact h;
        wanted = wanted;
        no_path = new.no_path;
        no_order = new.no_order;
      }

  pub reasonable_hinders : (after : ℕ) → IsReasonable parts graph.nodes (kind_of graph) source.node after → interferes_by tables source (fact_of graph.nodes after) ≡ true
  reasonable_hinders after r =
      let same : r.first ≡ own = same_Some _ _ (sym r.is_first ∙ is_own) in
      ap (interferes_by tables source) r.is_second ∙ hindered_to r.second (subst (λ f. Interferes parts graph.nodes (kind_of graph) r.second source.node f) same r.interferes)

pub reasonable_is_new : (parts : Parts) (graph : Content) (source : Source) (after : ℕ) → IsReasonable parts graph.nodes (kind_of graph) source.node after → IsNew (kind_of graph) source.node after
reasonable_is_new parts graph source after r = record { different = r.different; no_path = r.no_path; no_order = r.no_order }

-- the source of a node
pub source_fits : (parts : Parts) (graph : Content) (tables : Tables) (source : Source) → AreTables parts graph tables →
    ((other : ℕ) → (is_seen source.leads other ≡ true) ↔ Path (kind_of graph) Reasonable other source.node) →
    ((other : ℕ) → (is_seen source.reached other ≡ true) ↔ Path (kinds_from tables.successors) Natural source.node other) → IsSource graph source
source_fits parts graph tables source fit leads reached = record {
  leads = leads;
  reached = λ other. (
    (λ h. path_along (kinds_from tables.successors) (kind_of graph) Natural (λ i j e. sym (fit.strong.natural i j) ∙ e) source.node other ((reached other).0 h)),
    (λ p. (reached other).1 (path_along (kind_of graph) (kinds_from tables.successors) Natural (λ i j e. fit.strong.natural i j ∙ e) source.node other p)),
  );
}
