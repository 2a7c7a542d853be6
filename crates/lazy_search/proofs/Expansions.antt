-- What a visit adds to the lists, the least estimates, the origins and the rows.
use Rattle.std.proofs.Common.{◌≡◌, ℕ, ◌+◌, ◌<◌, min, Bool, true, false, not, List, [], ◌∷◌, ◌++◌, map, length, slice_get, Some, refl, ap, sym, ◌∙◌, subst, arith, inl, inr}
use Rattle.std.specs.Prelude.{filter, ◌&&◌, ◌||◌, if◌then◌else◌, slice_index, slice_set, pos, ℤ, ◌-ℤ◌}
use Rattle.std.proofs.lemmas.List.{append-nil, length-append, length-map, map-append, map-set}
use Rattle.std.proofs.lemmas.Bool.{cases_eq, cases_lt, lt-ltb, le-ltb}
use Rattle.std.proofs.lemmas.Option.{slice_get_within}
use Rattle.sas_task.specs.declared.contents.Parts.{Parts}
use Rattle.sas_task.specs.Runs.{cost_at}
use Rattle.open_lists.specs.declared.lists.OpenLists.{OpenLists}
use Rattle.open_lists.specs.Items.{Item}
use Rattle.open_lists.specs.Lists.{Holds, SameShape, is_preferred, boost_of, counter as counter_now}
use Rattle.guide.specs.Operators.{applicable_operators, is_among}
use Rattle.search_log.specs.declared.setting.Setting.{Setting}
use Rattle.search_log.specs.declared.turns.Pop.{Pop}
use Rattle.search_log.specs.Phases.{Phase, lists_of, is_for_preferred}
use Rattle.lama_num.specs.Bounds.{is_below}
use Rattle.search_log.specs.Places.{Node, put_latest, is_expanded, estimate}
use Rattle.search_log.specs.Pending.{pending, puts_of, is_put, item_for}
use Rattle.log_laws.proofs.Elements.{filter-same, slice_get-push_other, slice_get-push_below}
use Rattle.lama_num.proofs.ListLaws.{slice_get-append_last as slice_get-push_at}
use Rattle.log_laws.proofs.PendingLaws.{pending-visited}
use Rattle.log_laws.proofs.CounterLaws.{counter-visit}
use Rattle.log_laws.proofs.TurnLaws.{past_with}
use Rattle.std.specs.List.{list_all}
use Rattle.std.specs.Prelude.{nat_lt}
use Rattle.lazy_search.specs.declared.shape.Shape.{Shape}
use Rattle.lazy_search.specs.declared.paths.Origin.{Origin}
use Rattle.lazy_search.specs.Rows.{row_put}
use Rattle.lazy_search.specs.Shapes.{is_preferred_by}
use Rattle.lazy_search.specs.Entries.{puts_in, operators_below, is_less, Expands}
use Rattle.lazy_search.specs.Machines.{row_of, ListsStand, OriginsStand}
use Rattle.lazy_search.specs.Phases.{phase_of}
use Rattle.lama_num.proofs.BoolLaws.{and-false, and-true}

filter-filter : {X : Type 0} (a b : X → Bool) (xs : List X) → filter (λ x. a x && b x) xs ≡ filter a (filter b xs)
filter-filter a b [] = refl
filter-filter a b (x ∷ xs) = by_tests (a x) (b x) refl refl (filter-filter a b xs)
  where
    by_tests : (p q : Bool) → a x ≡ p → b x ≡ q → filter (λ y. a y && b y) xs ≡ filter a (filter b xs) → filter (λ y. a y && b y) (x ∷ xs) ≡ filter a (filter b (x ∷ xs))
    by_tests true true p q rest = rw (q, p) (ap (λ ys. x ∷ ys) rest)
    by_tests true false p q rest = rw (q, p) rest
    by_tests false true p q rest = rw (q, p) rest
    by_tests false false p q rest = rw (q, p) rest

-- what an expanded visit puts into a list
pub puts_equal : (parts : Parts) (setting : Setting) (shape : Shape) (n : Node) (operators : List ℕ) (k : ℕ) → is_expanded (phase_of parts setting shape) n.visit n.place ≡ true
    → operators ≡ applicable_operators parts n.place.state → n.visit.seen.preferred ≡ filter (is_among n.visit.seen.preferred) operators
    → puts_in setting shape (row_of n) n.visit.seen.estimates (operators_below parts setting.bound n.place.real operators) (operators_below parts setting.bound n.place.real n.visit.seen.preferred) k ≡ puts_of (phase_of parts setting shape) k n
puts_equal parts setting shape n operators k expanded are preferred =
    by_sort (is_preferred_by shape k) refl
    ∙ ap (λ (ops : List ℕ). map (item_for phase k n) (filter (is_put phase k n) ops)) are
    ∙ sym (ap (λ (b : Bool). if b then map (item_for phase k n) (filter (is_put phase k n) (applicable_operators parts n.place.state)) else []) expanded)
  where
    phase : Phase
    phase = phase_of parts setting shape

    by_sort : (b : Bool) → is_preferred_by shape k ≡ b
        → map (item_for (phase_of parts setting shape) k n) (if is_preferred_by shape k then operators_below parts setting.bound n.place.real n.visit.seen.preferred else operators_below parts setting.bound n.place.real operators)
        ≡ map (item_for (phase_of parts setting shape) k n) (filter (is_put (phase_of parts setting shape) k n) operators)
    by_sort true sort =
        ap (λ (b : Bool). map (item_for (phase_of parts setting shape) k n) (if b then operators_below parts setting.bound n.place.real n.visit.seen.preferred else operators_below parts setting.bound n.place.real operators)) sort
        ∙ ap (map (item_for (phase_of parts setting shape) k n)) (
        ap (filter (λ op. is_below setting.bound (n.place.real + cost_at parts op))) preferred
        ∙ sym (filter-filter (λ op. is_below setting.bound (n.place.real + cost_at parts op)) (is_among n.visit.seen.preferred) operators)
        ∙ filter-same (λ op. is_below setting.bound (n.place.real + cost_at parts op) && is_among n.visit.seen.preferred op) (is_put (phase_of parts setting shape) k n) operators
        (λ op. ap (λ (b : Bool). is_below setting.bound (n.place.real + cost_at parts op) && (not b || is_among n.visit.seen.preferred op)) (sym sort))
        )
    by_sort false sort =
        ap (λ (b : Bool). map (item_for (phase_of parts setting shape) k n) (if b then operators_below parts setting.bound n.place.real n.visit.seen.preferred else operators_below parts setting.bound n.place.real operators)) sort
        ∙ ap (map (item_for (phase_of parts setting shape) k n)) (
        filter-same (λ op. is_below setting.bound (n.place.real + cost_at parts op)) (is_put (phase_of parts setting shape) k n) operators
        (λ op. sym (and-true (is_below setting.bound (n.place.real + cost_at parts op)))
        ∙ ap (λ (b : Bool). is_below setting.bound (n.place.real + cost_at parts op) && (not b || is_among n.visit.seen.preferred op)) (sym sort))
        )

-- What a visit changes in the lists and in the least estimates.
pub record Grown (phase : Phase) (old : OpenLists) (least : List ℕ) (n : Node) (new : OpenLists) (new_least : List ℕ) : Type 0 where
  pub put : (k : ℕ) (items : List Item) → k < lists_of phase → Holds old k items → Holds new k (items ++ puts_of phase k n)
  pub counters : (k : ℕ) → counter_now new k ≡ (if is_preferred old k && n.progress then counter_now old k -ℤ pos (boost_of old) else counter_now old k)
  pub shape_is : SameShape old new
  pub kept : (j : ℕ) → j < phase.guides → slice_index new_least j ≡ (if is_expanded phase n.visit n.place then min (slice_index least j) (estimate n.visit j) else slice_index least j)

pub grown_expanded : (parts : Parts) (setting : Setting) (shape : Shape) (old new : OpenLists) (least new_least operators : List ℕ) (n : Node) → is_expanded (phase_of parts setting shape) n.visit n.place ≡ true
    → operators ≡ applicable_operators parts n.place.state → n.visit.seen.preferred ≡ filter (is_among n.visit.seen.preferred) operators
    → n.progress ≡ is_less shape.guides least n.visit.seen.estimates
    → Expands parts setting shape (row_of n) n.visit.seen operators old least new new_least → Grown (phase_of parts setting shape) old least n new new_least
grown_expanded parts setting shape old new least new_least operators n expanded are preferred progress e =
    record {
      put = λ k items l h. subst (λ (ps : List Item). Holds new k (items ++ ps)) (puts_equal parts setting shape n operators k expanded are preferred) (e.put k items l h);
      counters = λ k. e.counters k ∙ ap (λ (b : Bool). if is_preferred old k && b then counter_now old k -ℤ pos (boost_of old) else counter_now old k) (sym progress);
      shape_is = e.shape_is;
      kept = λ j l. e.kept j l ∙ sym (ap (λ (b : Bool). if b then min (slice_index least j) (estimate n.visit j) else slice_index least j) expanded);
    }

pub grown_still : (phase : Phase) (old new : OpenLists) (least new_least : List ℕ) (n : Node) → is_expanded phase n.visit n.place ≡ false → n.progress ≡ false → new ≡ old → new_least ≡ least → Grown phase old least n new new_least
grown_still phase old new least new_least n closed progress same same_least =
    let none : (k : ℕ) → puts_of phase k n ≡ [] = λ k. ap (λ (b : Bool). if b then map (item_for phase k n) (filter (is_put phase k n) (applicable_operators phase.parts n.place.state)) else []) closed in
    record {
      put = λ k items l h. subst (λ (ls : OpenLists). Holds ls k (items ++ puts_of phase k n)) (sym same) (subst (Holds old k) (sym (ap (λ (ps : List Item). items ++ ps) (none k) ∙ append-nil items)) h);
      counters = λ k. ap (λ (ls : OpenLists). counter_now ls k) same ∙ sym (ap (λ (b : Bool). if b then counter_now old k -ℤ pos (boost_of old) else counter_now old k) (ap (λ (b : Bool). is_preferred old k && b) progress ∙ and-false (is_preferred old k)));
      shape_is = record { count = ap (λ (ls : OpenLists). length ls.lists.items) same; sorts = λ k. ap (λ (ls : OpenLists). is_preferred ls k) same; boost = ap boost_of same };
      kept = λ j l. ap (λ (ls : List ℕ). slice_index ls j) same_least ∙ sym (ap (λ (b : Bool). if b then min (slice_index least j) (estimate n.visit j) else slice_index least j) closed);
    }

-- the lists after a visit
pub lists_visited : (phase : Phase) (old new : OpenLists) (least new_least : List ℕ) (nodes : List Node) (pops : List Pop) (n : Node) → n.number ≡ length nodes → list_all (λ (p : Pop). nat_lt p.parent (length nodes)) pops ≡ true
    → ListsStand phase old (past_with nodes pops) → Grown phase old least n new new_least → ListsStand phase new (past_with (nodes ++ n ∷ []) pops)
lists_visited phase old new least new_least nodes pops n number taken s g =
    record {
      count = g.shape_is.count ∙ s.count;
      sorts = λ k l. g.shape_is.sorts k ∙ s.sorts k l;
      boost = g.shape_is.boost ∙ s.boost;
      holds = λ k l. subst (Holds new k) (sym (pending-visited phase nodes pops n k number taken)) (g.put k (pending phase (past_with nodes pops) k) l (s.holds k l));
      counters = λ k l.
          g.counters k
          ∙ ap (λ (b : Bool). if b && n.progress then counter_now old k -ℤ pos (boost_of old) else counter_now old k) (s.sorts k l)
          ∙ ap (λ (b : ℕ). if is_for_preferred phase k && n.progress then counter_now old k -ℤ pos b else counter_now old k) s.boost
          ∙ ap (λ (z : ℤ). if is_for_preferred phase k && n.progress then z -ℤ pos phase.setting.boost else z) (s.counters k l)
          ∙ sym (counter-visit phase nodes pops n k);
    }

-- the origins after a visit
pub origins_visited : (nodes : List Node) (origins : List Origin) (n : Node) (came : Origin) (from : Node) → OriginsStand nodes origins → 0 < length nodes → slice_get nodes came.origin ≡ Some from → n.place.path ≡ from.place.path ++ came.op ∷ []
    → OriginsStand (nodes ++ n ∷ []) (origins ++ came ∷ [])
origins_visited nodes origins n came from s begun at path =
    record {
      count = length-append origins (came ∷ []) ∙ omega (arith, s.count, length-append nodes (n ∷ []));
      first = λ m e. s.first m (sym (slice_get-push_other nodes n 0 (λ f. omega (arith, f, begun))) ∙ e);
      later = λ j m l e. elim (cases_eq j (length nodes)) [
        | inl here ↦
            let f : Some m ≡ Some n = sym e ∙ ap (slice_get (nodes ++ n ∷ [])) here ∙ slice_get-push_at nodes n in
            let g : m ≡ n = cc in
            record {
              came = came;
              origin = from;
              in_origins = ap (slice_get (origins ++ came ∷ [])) (here ∙ sym s.count) ∙ slice_get-push_at origins came;
              earlier = omega (arith, here, slice_get_within nodes came.origin from at);
              at = slice_get-push_below nodes n came.origin from at;
              path = ap (λ (q : Node). q.place.path) g ∙ path;
            }
        | inr there ↦
            let c = s.later j m l (sym (slice_get-push_other nodes n j there) ∙ e) in
            record {
              came = c.came;
              origin = c.origin;
              in_origins = slice_get-push_below origins came j c.came c.in_origins;
              earlier = c.earlier;
              at = slice_get-push_below nodes n c.came.origin c.origin c.at;
              path = c.path;
            }
      ];
    }

-- the rows after a visit
pub rows_visited : (table : List Node) (n : Node) → map row_of (put_latest table n) ≡ row_put (map row_of table) n.visit.id (row_of n)
rows_visited table n =
    elim (cases_lt n.visit.id (length table)) [
      | inl l ↦
          ap (λ b. map row_of (if b then slice_set table n.visit.id n else table ++ n ∷ [])) (lt-ltb _ _ l) ∙ map-set row_of table n.visit.id n
          ∙ sym (ap (λ b. if b then slice_set (map row_of table) n.visit.id (row_of n) else map row_of table ++ row_of n ∷ []) (lt-ltb n.visit.id (length (map row_of table)) (omega (arith, l, length-map table row_of))))
      | inr g ↦
          ap (λ b. map row_of (if b then slice_set table n.visit.id n else table ++ n ∷ [])) (le-ltb _ _ g) ∙ map-append row_of table (n ∷ [])
          ∙ sym (ap (λ b. if b then slice_set (map row_of table) n.visit.id (row_of n) else map row_of table ++ row_of n ∷ []) (le-ltb n.visit.id (length (map row_of table)) (omega (arith, g, length-map table row_of))))
    ]
