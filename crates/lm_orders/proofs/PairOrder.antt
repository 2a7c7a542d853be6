-- Pairs in turn.
use Rattle.std.proofs.Common.{◌≡◌, ◌≢◌, ◌∙◌, sym, ap, refl, subst, ℕ, ◌+◌, ◌<◌, ◌≤◌, ◌⊎◌, inl, inr, List, length, Bool, true, false, nat_lt, if◌then◌else◌, Option, Some, None, is_some, Result, Ok, Err, OnErr, arith}
use Rattle.std.proofs.Math.Path.{fun_ext}
use Rattle.std.proofs.lemmas.Bool.{cases_eq, cases_lt, eqb-true, eq-eqb, ltb-true, lt-ltb, or_cases, or_left, or_right, and_parts, and_from, false_from_ne_true, both_ways}
use Rattle.std.proofs.lemmas.Option.{none-some, slice_get_past}
use Rattle.sas_task.specs.declared.contents.Fact.{Fact}
use Rattle.sas_task.specs.declared.contents.Parts.{Parts}
use Rattle.lm_graph.specs.declared.nodes.Node.{Node}
use Rattle.lm_graph.specs.declared.orders.Order.{Order}
use Rattle.lm_graph.specs.declared.orders.Order.TheVariants.{Reasonable, Natural, GreedyNecessary}
use Rattle.lm_graph.specs.Graphs.{Content, kind_of, PutsOrder}
use Rattle.lm_graph.specs.Orders.{is_strong}
use Rattle.lm_graph.specs.Paths.{Path}
use Rattle.lm_orders.specs.declared.sources.Source.{Source}
use Rattle.lm_orders.specs.declared.tables.Tables.{Tables}
use Rattle.lm_orders.specs.Givers.{IsCompany}
use Rattle.lm_orders.specs.Interference.{fact_of, GoesWith}
use Rattle.lm_orders.specs.Reasonable.{IsReasonable, is_earlier, standing, IsJudged, AddsBefore, AddsSome}
use Rattle.lm_orders.specs.Sources.{IsSource, IsUnderWay, IsAtSource}
use Rattle.lm_orders.specs.Tables.{AreTables, SameStrong}
use Rattle.lm_orders.proofs.Companies.{greedy_is}
use Rattle.lm_orders.proofs.OrderPaths.{path_along, path_back, put_here, strong_stay, orders_grow}

-- which pairs are earlier

early_parts : (i j a b : ℕ) → is_earlier i j a b ≡ true → (i < a) ⊎ ((i ≡ a) × (j < b))
early_parts i j a b h = elim (or_cases (nat_lt i a) _ h) [
  | inl less ↦ inl (ltb-true i a less)
  | inr both ↦ let t = and_parts _ _ both in inr (eqb-true i a t.0, ltb-true j b t.1)
]

early_from : (i j a b : ℕ) → (i < a) ⊎ ((i ≡ a) × (j < b)) → is_earlier i j a b ≡ true
early_from i j a b (inl less) = or_left _ _ (lt-ltb i a less)
early_from i j a b (inr both) = or_right (nat_lt i a) _ (and_from _ _ (eq-eqb i a both.0) (lt-ltb j b both.1))

early_apart : (i j a b : ℕ) → is_earlier i j a b ≡ true → i ≡ a → j ≡ b → ⊥
early_apart i j a b h x y = elim (early_parts i j a b h) [
  | inl less ↦ omega (arith, less, x)
  | inr both ↦ omega (arith, both.1, y)
]

early_along : (p q i j a b : ℕ) → is_earlier p q i j ≡ true → is_earlier i j a b ≡ true → is_earlier p q a b ≡ true
early_along p q i j a b h k = elim (early_parts p q i j h) [
  | inl less ↦ elim (early_parts i j a b k) [
    | inl next ↦ early_from p q a b (inl (omega (arith, less, next)))
    | inr both ↦ early_from p q a b (inl (omega (arith, less, both.0)))
  ]
  | inr same ↦ elim (early_parts i j a b k) [
    | inl next ↦ early_from p q a b (inl (omega (arith, same.0, next)))
    | inr both ↦ early_from p q a b (inr (same.0 ∙ both.0, omega (arith, same.1, both.1)))
  ]
]

early_next : (i j a b : ℕ) → is_earlier i j a (b + 1) ≡ true → (is_earlier i j a b ≡ true) ⊎ ((i ≡ a) × (j ≡ b))
early_next i j a b h = elim (early_parts i j a (b + 1) h) [
  | inl less ↦ inl (early_from i j a b (inl less))
  | inr both ↦ elim (cases_eq j b) [
    | inl here ↦ inr (both.0, here)
    | inr ne ↦ inl (early_from i j a b (inr (both.0, omega (arith, both.1, ne))))
  ]
]

late_next : (i j a b : ℕ) → is_earlier i j a (b + 1) ≡ false → (is_earlier i j a b ≡ false) × (i ≡ a → j ≡ b → ⊥)
late_next i j a b h = (
  false_from_ne_true _ (λ k. elim (early_parts i j a b k) [
    | inl less ↦ both_ways _ h (early_from i j a (b + 1) (inl less))
    | inr both ↦ both_ways _ h (early_from i j a (b + 1) (inr (both.0, omega (arith, both.1))))
  ]),
  λ x y. both_ways _ h (early_from i j a (b + 1) (inr (x, omega (arith, y)))),
)

-- the orders that stand

standing_same : (old now next : Content) (a b : ℕ) → ((i j : ℕ) → is_earlier i j a b ≡ true → kind_of next i j ≡ kind_of now i j) → standing old next a b ≡ standing old now a b
standing_same old now next a b same = fun_ext (λ i. fun_ext (λ j. by i j (is_earlier i j a b) refl))
  where
    by : (i j : ℕ) (e : Bool) → is_earlier i j a b ≡ e → (if e then kind_of next i j else kind_of old i j) ≡ (if e then kind_of now i j else kind_of old i j)
    by i j true is = same i j is
    by i j false is = refl

module _ (parts : Parts) (old now : Content) where
  stands : (a b : ℕ) → AddsBefore parts old now a b → standing old now a b ≡ kind_of now
  stands a b adds = fun_ext (λ i. fun_ext (λ j. by i j (is_earlier i j a b) refl))
    where
      by : (i j : ℕ) (e : Bool) → is_earlier i j a b ≡ e → (if e then kind_of now i j else kind_of old i j) ≡ kind_of now i j
      by i j true is = refl
      by i j false is = sym (adds.others i j is)

  -- one more pair, that got an order or was left alone
  adds_next : (next : Content) (a b : ℕ) → AddsBefore parts old now a b → next.nodes ≡ now.nodes → ((i j : ℕ) → (i ≡ a → j ≡ b → ⊥) → kind_of next i j ≡ kind_of now i j) →
      IsJudged parts old next a b → AddsBefore parts old next a (b + 1)
  adds_next next a b adds nodes others here = record {
    nodes = nodes ∙ adds.nodes;
    judged = λ i j is. elim (early_next i j a b is) [
      | inl before ↦
          kept i j
          (standing_same old now next i j (λ p q e. others p q (early_apart p q a b (early_along p q i j a b e before))))
          (others i j (early_apart i j a b before)) (adds.judged i j before)
      | inr at ↦ subst (λ m. IsJudged parts old next m j) (sym at.0) (subst (λ m. IsJudged parts old next a m) (sym at.1) here)
    ];
    others = λ i j is. let late = late_next i j a b is in others i j late.1 ∙ adds.others i j late.0;
  }
    where
      kept : (i j : ℕ) → standing old next i j ≡ standing old now i j → kind_of next i j ≡ kind_of now i j → IsJudged parts old now i j → IsJudged parts old next i j
      kept i j stay same (inl ordered) = inl (subst (λ kinds. IsReasonable parts old.nodes kinds i j) (sym stay) ordered.0, same ∙ ordered.1)
      kept i j stay same (inr alone) = inr ((λ r. alone.0 (subst (λ kinds. IsReasonable parts old.nodes kinds i j) stay r)), same ∙ alone.1)

  -- the orders that stand as a pair's turn comes
  here_stands : (next : Content) (a b : ℕ) → AddsBefore parts old now a b → ((i j : ℕ) → (i ≡ a → j ≡ b → ⊥) → kind_of next i j ≡ kind_of now i j) → standing old next a b ≡ kind_of now
  here_stands next a b adds others = standing_same old now next a b (λ i j e. others i j (early_apart i j a b e)) ∙ stands a b adds

  pub adds_yes : (next : Content) (a b : ℕ) → AddsBefore parts old now a b → IsReasonable parts now.nodes (kind_of now) a b → PutsOrder now next a b Reasonable → AddsBefore parts old next a (b + 1)
  adds_yes next a b adds r puts =
      adds_next next a b adds puts.nodes puts.others
      (inl (subst (λ kinds. IsReasonable parts old.nodes kinds a b) (sym (here_stands next a b adds puts.others)) (subst (λ nodes. IsReasonable parts nodes (kind_of now) a b) adds.nodes r), put_here now next a b puts r.no_order))

  pub adds_no : (a b : ℕ) → AddsBefore parts old now a b → (IsReasonable parts now.nodes (kind_of now) a b → ⊥) → AddsBefore parts old now a (b + 1)
  adds_no a b adds never =
      adds_next now a b adds refl (λ i j ne. refl)
      (inr ((λ r. never (subst (λ nodes. IsReasonable parts nodes (kind_of now) a b) (sym adds.nodes) (subst (λ kinds. IsReasonable parts old.nodes kinds a b) (stands a b adds) r))), adds.others a b (false_from_ne_true _ (λ e. early_apart a b a b e refl refl))))

  -- all pairs of a node, of which the others are not reasonable
  adds_row : (a m : ℕ) → AddsBefore parts old now a m → ((j : ℕ) → m ≤ j → (kinds : ℕ → ℕ → Option Order) → IsReasonable parts old.nodes kinds a j → ⊥) → AddsBefore parts old now (a + 1) 0
  adds_row a m adds never = record {
    nodes = adds.nodes;
    judged = λ i j is. by i j (early_parts i j (a + 1) 0 is);
    others = λ i j is. adds.others i j (false_from_ne_true _ (λ e. both_ways _ is (early_from i j (a + 1) 0 (inl (below i j e)))));
  }
    where
      below : (i j : ℕ) → is_earlier i j a m ≡ true → i < a + 1
      below i j e = elim (early_parts i j a m e) [ inl less ↦ omega (arith, less) | inr both ↦ omega (arith, both.0) ]

      past : (i j : ℕ) → i ≡ a → m ≤ j → IsJudged parts old now i j
      past i j x le = inr (
        (λ r. never j le (standing old now i j) (subst (λ k. IsReasonable parts old.nodes (standing old now i j) k j) x r)),
        adds.others i j (false_from_ne_true _ (λ e. elim (early_parts i j a m e) [
          | inl less ↦ omega (arith, less, x)
          | inr both ↦ omega (arith, both.1, le)
        ])),
      )

      at : (i j : ℕ) → i ≡ a → (j < m) ⊎ (m ≤ j) → IsJudged parts old now i j
      at i j x (inl lt) = adds.judged i j (early_from i j a m (inr (x, lt)))
      at i j x (inr le) = past i j x le

      by : (i j : ℕ) → (i < a + 1) ⊎ ((i ≡ a + 1) × (j < 0)) → IsJudged parts old now i j
      by i j (inl less) = elim (cases_eq i a) [
        | inl x ↦ at i j x (cases_lt j m)
        | inr ne ↦ adds.judged i j (early_from i j a m (inl (omega (arith, less, ne))))
      ]
      by i j (inr none) = absurd (omega (arith, none.1))

  fact_past : (nodes : List Node) (j : ℕ) → length nodes ≤ j → fact_of nodes j ≡ None
  fact_past nodes j le = let none = slice_get_past nodes j le in rw none refl

  pub row_ends : (a m : ℕ) → length old.nodes ≤ m → AddsBefore parts old now a m → AddsBefore parts old now (a + 1) 0
  row_ends a m all adds = adds_row a m adds (λ j le kinds r. none-some r.second (sym (fact_past old.nodes j (omega (arith, all, le))) ∙ r.is_second))

  pub row_without : (a : ℕ) → fact_of now.nodes a ≡ None → AddsBefore parts old now a 0 → AddsBefore parts old now (a + 1) 0
  row_without a none adds = adds_row a 0 adds (λ j le kinds r. none-some r.first (sym (ap (λ nodes. fact_of nodes a) (sym adds.nodes) ∙ none) ∙ r.is_first))

-- nothing was judged yet
pub adds_none : (parts : Parts) (graph : Content) → AddsBefore parts graph graph 0 0
adds_none parts graph = record {
  nodes = refl;
  judged = λ i j is. absurd (elim (early_parts i j 0 0 is) [ inl less ↦ omega (arith, less) | inr both ↦ omega (arith, both.1) ]);
  others = λ i j is. refl;
}

-- the tables and the source fit on

module _ (parts : Parts) (old new : Content) (a b : ℕ) (puts : PutsOrder old new a b Reasonable) (none : kind_of old a b ≡ None) where
  company_stays : (node : ℕ) (fact : Fact) (company : List Fact) → IsCompany parts old.nodes (kind_of old) node fact company → IsCompany parts new.nodes (kind_of new) node fact company
  company_stays node fact company is = record { each = λ other. ((λ h. there other ((is.each other).0 h)), (λ g. (is.each other).1 (back other g))) }
    where
      same : SameStrong (kind_of new) (kind_of old)
      same = strong_stay old new a b puts none

      there : (other : Fact) → GoesWith parts old.nodes (kind_of old) node fact other → GoesWith parts new.nodes (kind_of new) node fact other
      there other (inl own) = inl own
      there other (inr (inl comes)) = inr (inl comes)
      there other (inr (inr b)) = inr (inr (record {
        before = b.before;
        fact = ap (λ nodes. fact_of nodes b.before) puts.nodes ∙ b.fact;
        order = greedy_is _ (same.greedy b.before node ∙ ap (is_strong GreedyNecessary) b.order);
      }))

      back : (other : Fact) → GoesWith parts new.nodes (kind_of new) node fact other → GoesWith parts old.nodes (kind_of old) node fact other
      back other (inl own) = inl own
      back other (inr (inl comes)) = inr (inl comes)
      back other (inr (inr b)) = inr (inr (record {
        before = b.before;
        fact = ap (λ nodes. fact_of nodes b.before) (sym puts.nodes) ∙ b.fact;
        order = greedy_is _ (sym (same.greedy b.before node) ∙ ap (is_strong GreedyNecessary) b.order);
      }))

  pub tables_stay : (tables : Tables) → AreTables parts old tables → AreTables parts new tables
  tables_stay tables fit = record {
    groups = fit.groups;
    company = record { each = λ node fact lt is. company_stays node fact _ (fit.company.each node fact (omega (arith, lt, ap length puts.nodes)) (ap (λ nodes. fact_of nodes node) (sym puts.nodes) ∙ is)) };
    strong = record {
      natural = λ i j. fit.strong.natural i j ∙ sym (same.natural i j);
      greedy = λ i j. fit.strong.greedy i j ∙ sym (same.greedy i j);
    };
  }
    where
      same : SameStrong (kind_of new) (kind_of old)
      same = strong_stay old new a b puts none

  pub source_stays : (source : Source) → source.node ≡ a → a ≢ b → (Path (kind_of old) Reasonable b a → ⊥) → IsSource old source → IsSource new source
  source_stays source at ne never fits = record {
    leads = λ other. (
      (λ h. path_along (kind_of old) (kind_of new) Reasonable (orders_grow old new a b puts none) other source.node ((fits.leads other).0 h)),
      (λ p. (fits.leads other).1 (path_back (kind_of old) (kind_of new) Reasonable a b ne puts.others never other source.node at p)),
    );
    reached = λ other. (
      (λ h. path_along (kind_of old) (kind_of new) Natural (λ i j e. same.natural i j ∙ e) source.node other ((fits.reached other).0 h)),
      (λ p. (fits.reached other).1 (path_along (kind_of new) (kind_of old) Natural (λ i j e. sym (same.natural i j) ∙ e) source.node other p)),
    );
  }
    where
      same : SameStrong (kind_of new) (kind_of old)
      same = strong_stay old new a b puts none

-- one more pair, with the tables

pub step_yes : (parts : Parts) (old now next : Content) (tables : Tables) (source : Source) (after : ℕ) → IsAtSource parts old now tables source after → IsReasonable parts now.nodes (kind_of now) source.node after →
    PutsOrder now next source.node after Reasonable → IsAtSource parts old next tables source (after + 1)
step_yes parts old now next tables source after at r puts = record {
  within = omega (arith, at.within, ap length puts.nodes);
  fact = at.fact;
  is_fact = ap (λ nodes. fact_of nodes source.node) puts.nodes ∙ at.is_fact;
  fits = source_stays parts now next source.node after puts r.no_order source refl r.different r.no_path at.fits;
  under_way = record {
    fit = tables_stay parts now next source.node after puts r.no_order tables at.under_way.fit;
    adds = adds_yes parts old now next source.node after at.under_way.adds r puts;
  };
}

pub step_no : (parts : Parts) (old now : Content) (tables : Tables) (source : Source) (after : ℕ) → IsAtSource parts old now tables source after → (IsReasonable parts now.nodes (kind_of now) source.node after → ⊥) →
    IsAtSource parts old now tables source (after + 1)
step_no parts old now tables source after at never = record {
  within = at.within;
  fact = at.fact;
  is_fact = at.is_fact;
  fits = at.fits;
  under_way = record { fit = at.under_way.fit; adds = adds_no parts old now source.node after at.under_way.adds never };
}

-- the first pair of a node
pub source_begins : (parts : Parts) (old now : Content) (tables : Tables) (source : Source) (node : ℕ) (fact : Fact) → source.node ≡ node → node < length now.nodes → fact_of now.nodes node ≡ Some fact → IsSource now source →
    IsUnderWay parts old now tables node 0 → IsAtSource parts old now tables source 0
source_begins parts old now tables source node fact is within is_fact fits under = record {
  within = omega (arith, is, within);
  fact = fact;
  is_fact = ap (fact_of now.nodes) is ∙ is_fact;
  fits = fits;
  under_way = subst (λ n. IsUnderWay parts old now tables n 0) (sym is) under;
}

pub some_fact : (o : Option Fact) → is_some o ≡ true → (fact : Fact) × (o ≡ Some fact)
some_fact None h = let k : false ≡ true = h in cc
some_fact (Some fact) h = (fact, refl)

pub no_fact : (o : Option Fact) → is_some o ≡ false → o ≡ None
no_fact None h = refl
no_fact (Some fact) h = let k : true ≡ false = h in cc

-- the pairs so far
pub some_pairs : (parts : Parts) (old now : Content) (before after : ℕ) → AddsBefore parts old now before after → AddsSome parts old now
some_pairs parts old now before after adds = record { before = before; after = after; adds = adds }

pub on_error : {T E P : Type 0} (r : Result T E) → P → OnErr r P
on_error (Ok t) p = tt
on_error (Err e) p = p
