-- What goes with a node of one fact.
use Rattle.std.proofs.Common.{◌≡◌, ◌∙◌, sym, ap, refl, ℕ, suc, ◌+◌, ◌<◌, ◌⊎◌, inl, inr, List, [], ◌∷◌, ◌++◌, length, Bool, true, false, ◌||◌, nat_eq, if◌then◌else◌, Option, Some, None, slice_get, subst, length-append, arith}
use Rattle.std.specs.List.{list_any, list_all, filter_map}
use Rattle.std.proofs.lemmas.Bool.{or_cases, or_left, or_right, eqb-true, eq-eqb, cases_eq}
use Rattle.std.proofs.lemmas.List.Folds.{list_any-append}
use Rattle.std.proofs.lemmas.Option.{same_Some, none-some}
use Rattle.lama_num.specs.Rows.{row_at}
use Rattle.sas_task.specs.Facts.{same_fact, has_fact}
use Rattle.sas_task.specs.declared.contents.Fact.{Fact}
use Rattle.sas_task.specs.declared.contents.Operator.{Operator}
use Rattle.sas_task.specs.declared.contents.Parts.{Parts}
use Rattle.lm_graph.specs.declared.nodes.Node.{Node}
use Rattle.lm_graph.specs.declared.orders.Edge.{Edge}
use Rattle.lm_graph.specs.declared.orders.Order.{Order}
use Rattle.lm_graph.specs.declared.orders.Order.TheVariants.{Reasonable, Natural, GreedyNecessary}
use Rattle.lm_graph.specs.FactTables.{numbers_at}
use Rattle.lm_graph.specs.Graphs.{Content, kind_of}
use Rattle.lm_graph.specs.Orders.{is_strong}
use Rattle.lm_graph.specs.Rows.{kind_in}
use Rattle.lm_orders.specs.declared.givers.Givers.{Givers}
use Rattle.lm_orders.specs.Interference.{fact_of, given_facts, always_given, IsGiver, ComesWith, IsDirectlyBefore, GoesWith}
use Rattle.lm_orders.specs.Givers.{AreGivers, is_common, fact_before, IsCompany, HasCompanies}
use Rattle.lm_orders.proofs.ListLaws.{from_given, to_given, all_from, all_gives, row_last, row_other, row_of_map, has_row}
use Rattle.sas_task.proofs.FactLists.{same-true as facts_equal}
use Rattle.sas_task.proofs.FactLists.{same-refl as same_self}

-- what all operators always give that give a fact

common_from : (rows : List (List Fact)) (numbers : List ℕ) (fact : Fact) (n : ℕ) → list_any (nat_eq n) numbers ≡ true → list_all (λ m. has_fact (row_at rows m) fact) numbers ≡ true → is_common rows numbers fact ≡ true
common_from rows [] fact n some all = let k : false ≡ true = some in cc
common_from rows (m ∷ numbers) fact n some all = all

common_parts : (rows : List (List Fact)) (numbers : List ℕ) (fact : Fact) → is_common rows numbers fact ≡ true → ((n : ℕ) × (list_any (nat_eq n) numbers ≡ true)) × (list_all (λ m. has_fact (row_at rows m) fact) numbers ≡ true)
common_parts rows [] fact h = let k : false ≡ true = h in cc
common_parts rows (n ∷ numbers) fact h = ((n, or_left _ _ (eq-eqb n n refl)), h)

module _ (parts : Parts) (givers : Givers) (are : AreGivers parts givers) (fact other : Fact) where
  giver_at : (op : ℕ) → list_any (nat_eq op) (numbers_at givers.table fact) ≡ true → (operator : Operator) × (slice_get parts.operators op ≡ Some operator) × (has_fact (given_facts operator) fact ≡ true)
  giver_at op h = has_row given_facts parts.operators op fact (sym (are.table.each fact op) ∙ h)

  at_giver : (op : ℕ) (operator : Operator) → IsGiver parts fact op operator → list_any (nat_eq op) (numbers_at givers.table fact) ≡ true
  at_giver op operator g = are.table.each fact op ∙ (ap (λ (r : List Fact). has_fact r fact) (row_of_map given_facts parts.operators op operator g.at) ∙ g.gives)

  always_at : (op : ℕ) (operator : Operator) → slice_get parts.operators op ≡ Some operator → has_fact (row_at givers.always op) other ≡ has_fact (always_given operator) other
  always_at op operator at =
      ap (λ (rows : List (List Fact)). has_fact (row_at rows op) other) are.always
      ∙ ap (λ (r : List Fact). has_fact r other) (row_of_map always_given parts.operators op operator at)

  pub comes_from : is_common givers.always (numbers_at givers.table fact) other ≡ true → ComesWith parts fact other
  comes_from h =
      let t = common_parts givers.always (numbers_at givers.table fact) other h in
      let g = giver_at t.0.0 t.0.1 in
      record {
        some = (t.0.0, g.0, record { at = g.1; gives = g.2 });
        every = λ op operator is. sym (always_at op operator is.at) ∙ all_gives (λ m. has_fact (row_at givers.always m) other) (numbers_at givers.table fact) t.1 op (at_giver op operator is);
      }

  pub comes_to : ComesWith parts fact other → is_common givers.always (numbers_at givers.table fact) other ≡ true
  comes_to comes =
      common_from givers.always (numbers_at givers.table fact) other comes.some.0 (at_giver comes.some.0 comes.some.1 comes.some.2)
      (all_from (λ m. has_fact (row_at givers.always m) other) (numbers_at givers.table fact) (λ op h.
      let g = giver_at op h in
      always_at op g.0 g.1 ∙ comes.every op g.0 (record { at = g.1; gives = g.2 })))

-- what is to hold directly before

pub kind_place : (row : List Edge) (i : ℕ) (kind : Order) → kind_in row i ≡ Some kind → (place : ℕ) × (edge : Edge) × (slice_get row place ≡ Some edge) × (edge.node ≡ i) × (edge.kind ≡ kind)
kind_place [] i kind h = absurd (none-some kind h)
kind_place (edge ∷ row) i kind h = by (nat_eq edge.node i) refl h (kind_place row i kind)
  where
    by : (b : Bool) → nat_eq edge.node i ≡ b → (if b then Some edge.kind else kind_in row i) ≡ Some kind →
        (kind_in row i ≡ Some kind → (place : ℕ) × (e : Edge) × (slice_get row place ≡ Some e) × (e.node ≡ i) × (e.kind ≡ kind)) →
        (place : ℕ) × (e : Edge) × (slice_get (edge ∷ row) place ≡ Some e) × (e.node ≡ i) × (e.kind ≡ kind)
    by true is h later = (0, edge, refl, eqb-true edge.node i is, same_Some edge.kind kind h)
    by false is h later = let r = later h in (suc r.0, r.1, r.2, r.3, r.4)

pub greedy_is : (kind : Option Order) → is_strong GreedyNecessary kind ≡ true → kind ≡ Some GreedyNecessary
greedy_is None h = let k : false ≡ true = h in cc
greedy_is (Some Reasonable) h = let k : false ≡ true = h in cc
greedy_is (Some Natural) h = let k : false ≡ true = h in cc
greedy_is (Some GreedyNecessary) h = refl

before_parts : (nodes : List Node) (edge : Edge) (fact : Fact) → fact_before nodes edge ≡ Some fact → (Some edge.kind ≡ Some GreedyNecessary) × (fact_of nodes edge.node ≡ Some fact)
before_parts nodes edge fact h = by (is_strong GreedyNecessary (Some edge.kind)) refl h
  where
    by : (b : Bool) → is_strong GreedyNecessary (Some edge.kind) ≡ b → (if b then fact_of nodes edge.node else None) ≡ Some fact → (Some edge.kind ≡ Some GreedyNecessary) × (fact_of nodes edge.node ≡ Some fact)
    by true is h = (greedy_is (Some edge.kind) is, h)
    by false is h = absurd (none-some fact h)

module _ (nodes : List Node) (kinds : ℕ → ℕ → Option Order) (node : ℕ) (row : List Edge) (other : Fact) where
  pub before_from : ((place : ℕ) (edge : Edge) → slice_get row place ≡ Some edge → kinds edge.node node ≡ Some edge.kind) → has_fact (filter_map (fact_before nodes) row) other ≡ true → IsDirectlyBefore nodes kinds node other
  before_from each h =
      let r = from_given (fact_before nodes) row other h in
      let t = before_parts nodes r.1 other r.3 in
      record { before = r.1.node; fact = t.1; order = each r.0 r.1 r.2 ∙ t.0 }

  pub before_to : ((i : ℕ) → kinds i node ≡ kind_in row i) → IsDirectlyBefore nodes kinds node other → has_fact (filter_map (fact_before nodes) row) other ≡ true
  before_to same b =
      let r = kind_place row b.before GreedyNecessary (sym (same b.before) ∙ b.order) in
      let strong : is_strong GreedyNecessary (Some r.1.kind) ≡ true = ap (λ (k : Order). is_strong GreedyNecessary (Some k)) r.4 in
      to_given (fact_before nodes) row other r.0 r.1 r.2
      (ap (λ b. if b then fact_of nodes r.1.node else None) strong ∙ (ap (fact_of nodes) r.3 ∙ b.fact))

-- what goes with a node of one fact
pub company_goes : (parts : Parts) (givers : Givers) (nodes : List Node) (kinds : ℕ → ℕ → Option Order) (node : ℕ) (row : List Edge) (fact : Fact) (partners before company : List Fact) →
    AreGivers parts givers →
    ((place : ℕ) (edge : Edge) → slice_get row place ≡ Some edge → kinds edge.node node ≡ Some edge.kind) → ((i : ℕ) → kinds i node ≡ kind_in row i) →
    ((other : Fact) → has_fact partners other ≡ is_common givers.always (numbers_at givers.table fact) other) → before ≡ filter_map (fact_before nodes) row → company ≡ (partners ++ before) ++ fact ∷ [] →
    IsCompany parts nodes kinds node fact company
company_goes parts givers nodes kinds node row fact partners before company are each same partners_are before_are company_are = record { each = λ other. (there other, back other) }
  where
    goes_by : (other : Fact) → has_fact company other ≡ ((has_fact partners other || has_fact before other) || (same_fact fact other || false))
    goes_by other =
        ap (λ (c : List Fact). has_fact c other) company_are
        ∙ (list_any-append (λ f. same_fact f other) (partners ++ before) (fact ∷ [])
        ∙ ap (λ b. b || (same_fact fact other || false)) (list_any-append (λ f. same_fact f other) partners before))

    there : (other : Fact) → has_fact company other ≡ true → GoesWith parts nodes kinds node fact other
    there other h = elim (or_cases _ _ (sym (goes_by other) ∙ h)) [
      | inl more ↦ elim (or_cases _ _ more) [
        | inl p ↦ inr (inl (comes_from parts givers are fact other (sym (partners_are other) ∙ p)))
        | inr b ↦ inr (inr (before_from nodes kinds node row other each (ap (λ (l : List Fact). has_fact l other) (sym before_are) ∙ b)))
      ]
      | inr own ↦ elim (or_cases _ _ own) [
        | inl is ↦ inl (sym (facts_equal fact other is))
        | inr none ↦ let k : false ≡ true = none in cc
      ]
    ]

    back : (other : Fact) → GoesWith parts nodes kinds node fact other → has_fact company other ≡ true
    back other (inl is) = goes_by other ∙ or_right _ _ (or_left _ _ (ap (same_fact fact) is ∙ same_self fact))
    back other (inr (inl comes)) = goes_by other ∙ or_left _ _ (or_left _ _ (partners_are other ∙ comes_to parts givers are fact other comes))
    back other (inr (inr b)) = goes_by other ∙ or_left _ _ (or_right _ _ (ap (λ (l : List Fact). has_fact l other) before_are ∙ before_to nodes kinds node row other same b))

-- one more node

module _ (parts : Parts) (nodes : List Node) (kinds : ℕ → ℕ → Option Order) where
  pub companies_none : HasCompanies parts nodes kinds 0 []
  companies_none = record { each = λ node fact lt is. absurd (omega arith) }

  pub companies_more : (n : ℕ) (rows : List (List Fact)) (row : List Fact) → n ≡ length rows → HasCompanies parts nodes kinds n rows → ((fact : Fact) → fact_of nodes n ≡ Some fact → IsCompany parts nodes kinds n fact row) → HasCompanies parts nodes kinds (n + 1) (rows ++ row ∷ [])
  companies_more n rows row long so_far here = record { each = λ node fact lt is. by node fact lt is (cases_eq node n) }
    where
      by : (node : ℕ) (fact : Fact) → node < n + 1 → fact_of nodes node ≡ Some fact → (node ≡ n) ⊎ (node ≡ n → ⊥) → IsCompany parts nodes kinds node fact (row_at (rows ++ row ∷ []) node)
      by node fact lt is (inl same) =
          let read : row_at (rows ++ row ∷ []) node ≡ row = ap (row_at (rows ++ row ∷ [])) (same ∙ long) ∙ row_last rows row in
          rw (read, same) (here fact (ap (fact_of nodes) (sym same) ∙ is))
      by node fact lt is (inr ne) =
          let read : row_at (rows ++ row ∷ []) node ≡ row_at rows node = row_other rows row node (λ e. ne (e ∙ sym long)) in
          rw read (so_far.each node fact (omega arith) is)

pub rows_next : (givers : Givers) (graph : Content) (n : ℕ) (old new : List (List Fact)) (row : List Fact) → n ≡ length old → new ≡ old ++ row ∷ [] →
    ((parts : Parts) → AreGivers parts givers → HasCompanies parts graph.nodes (kind_of graph) n old) →
    ((parts : Parts) → AreGivers parts givers → (fact : Fact) → fact_of graph.nodes n ≡ Some fact → IsCompany parts graph.nodes (kind_of graph) n fact row) →
    (n + 1 ≡ length new) × ((parts : Parts) → AreGivers parts givers → HasCompanies parts graph.nodes (kind_of graph) (n + 1) new)
rows_next givers graph n old new row long is so_far here = (
  omega (arith, long, ap length is, length-append old (row ∷ [])),
  (λ parts are. subst (HasCompanies parts graph.nodes (kind_of graph) (n + 1)) (sym is) (companies_more parts graph.nodes (kind_of graph) n old row long (so_far parts are) (here parts are))),
)
