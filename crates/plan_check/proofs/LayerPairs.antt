-- Pairs of last state and cost as words, and one pair more.
use Rattle.std.proofs.Common.{◌≡◌, ◌∙◌, sym, ap, refl, subst, ℕ, zero, suc, ◌+◌, ◌^◌, ◌<◌, ◌≤◌, List, [], ◌∷◌, ◌++◌, ◌⊎◌, length, take, drop, map, get_or, Vec, Bool, true, false, Option, Some, None, arith, append_assoc, append-nil, length-append, inl, inr}
use Rattle.std.specs.declared.alloc.Global.{Global}
use Rattle.std.specs.Prelude.{slice_get, ◌||◌, if◌then◌else◌, option_map, MatchBool}
use Rattle.std.specs.List.{list_any, flat_map}
use Rattle.std.specs.Str.{bytes_eq}
use Rattle.std.proofs.lemmas.Grind.{flat_map-append}
use Rattle.std.proofs.lemmas.List.{length-map, map-append, take-append-drop, take_all}
use Rattle.std.proofs.lemmas.Option.{slice_get-map, slice_get_within, slice_get_read}
use Rattle.std.proofs.lemmas.Slice.Eq.{bytes_eq-Decides}
use Rattle.lama_num.proofs.ListLaws.{slice_get-append_last}
use Rattle.sas_task.specs.declared.contents.Parts.{Parts}
use Rattle.sas_task.specs.WellFormed.{IsWellFormed}
use Rattle.sas_task.specs.States.{IsState, step}
use Rattle.sas_task.specs.Runs.{cost_at, cost_of}
use Rattle.packed_state.specs.Packing.{Places, IsFor, CanHold, packed}
use Rattle.plan_check.specs.Verdicts.{last_state, same_end, ends, pairs_after}
use Rattle.plan_check.specs.Choices.{candidates}
use Rattle.plan_check.specs.Layers.{pair_words, end_words, Leads, LeadOn, AreEnds, IsLayer, IsGrowing, IsGrown, IsEnd, EndsAt, longer, one_each}
use Rattle.plan_check.proofs.LayerLaws.{one_more}
use Rattle.plan_check.specs.declared.tracing.Link.{Link}
use Rattle.plan_check.proofs.Ends.{by_kind, kind_of, last_state-state, end_more, words_at_end, cost_of-small, take_more, ends-step}
use Rattle.plan_check.proofs.Firsts.{firsts_more, firsts_fewer}
use Rattle.plan_check.proofs.LinkPaths.{leads_more, leads_long}
use Rattle.plan_check.proofs.GoalChoices.{item_at}

last_same : (xs ys : List ℕ) (x y : ℕ) → xs ++ x ∷ [] ≡ ys ++ y ∷ [] → (xs ≡ ys) × (x ≡ y)
last_same [] [] x y is = (refl, (let same : x ≡ y = cc in same))
last_same [] (b ∷ ys) x y is = let one : suc zero ≡ suc (length (ys ++ y ∷ [])) = ap length is in let more = length-append ys (y ∷ []) in absurd (omega (arith, one, more))
last_same (a ∷ xs) [] x y is = let one : suc (length (xs ++ x ∷ [])) ≡ suc zero = ap length is in let more = length-append xs (x ∷ []) in absurd (omega (arith, one, more))
last_same (a ∷ xs) (b ∷ ys) x y is =
    let first : a ≡ b = cc in
    let rest : xs ++ x ∷ [] ≡ ys ++ y ∷ [] = cc in
    let more = last_same xs ys x y rest in
    let front : xs ≡ ys = more.0 in
    (cc, more.1)

same_tests : (a b : Bool) → (a ≡ true → b ≡ true) → (b ≡ true → a ≡ true) → a ≡ b
same_tests true b one two = sym (one refl)
same_tests false true one two = two refl
same_tests false false one two = refl

pub get_last : {A : Type 0} (xs : List A) (x : A) (i : ℕ) (y : A) → slice_get (xs ++ x ∷ []) i ≡ Some y → (slice_get xs i ≡ Some y) ⊎ ((i ≡ length xs) × (y ≡ x))
get_last [] x zero y at = inr (refl, (let is : y ≡ x = cc in is))
get_last {A} [] x (suc i) y at = let none : ◌≡◌ {A = Option A} None (Some y) = at in absurd (cc)
get_last (z ∷ zs) x zero y at = inl at
get_last (z ∷ zs) x (suc i) y at = elim (get_last zs x i y at) [
  | inl before ↦ inl before
  | inr here ↦ inr ((let n : i ≡ length zs = here.0 in let m : suc i ≡ suc (length zs) = ap suc n in m), here.1)
]

module _ (parts : Parts) (layout : Places) (formed : IsWellFormed parts) (for : IsFor layout parts) where
  pub can_end : (ops : List ℕ) → CanHold layout (last_state parts ops)
  can_end ops = for.holds (last_state parts ops) (last_state-state parts ops formed)

  pub length-end_words : (ops : List ℕ) → length (end_words parts layout ops) ≡ layout.words + 1
  length-end_words ops = length-append (packed layout (last_state parts ops)) (cost_of parts ops ∷ []) ∙ ap (λ n. n + 1) (for.wide (last_state parts ops))

  -- what stands at a place of a layer
  pub end_at : (pairs all : List (List ℕ)) (place : ℕ) (choice : List ℕ) → pairs ≡ map (end_words parts layout) all → slice_get all place ≡ Some choice → slice_get pairs place ≡ Some (end_words parts layout choice)
  end_at pairs all place choice are at = ap (λ ps. slice_get ps place) are ∙ slice_get-map (end_words parts layout) all place ∙ ap (option_map (end_words parts layout)) at

  pub wide_at : (pairs all : List (List ℕ)) (place : ℕ) (words : List ℕ) → pairs ≡ map (end_words parts layout) all → slice_get pairs place ≡ Some words → length words ≡ layout.words + 1
  wide_at pairs all place words are at =
      let within : place < length pairs = slice_get_within pairs place words at in
      let as_many : length pairs ≡ length all = ap length are ∙ length-map all (end_words parts layout) in
      let item = item_at all place (omega (arith, within, as_many)) in
      let some : Some words ≡ Some (end_words parts layout item.0) = sym at ∙ end_at pairs all place item.0 are item.1 in
      let same : words ≡ end_words parts layout item.0 = cc in
      ap length same ∙ length-end_words item.0

  -- words are equal exactly where the pairs are
  words_same : (x y : List ℕ) → end_words parts layout x ≡ end_words parts layout y → kind_of parts x ≡ kind_of parts y
  words_same x y is =
      let both = last_same (packed layout (last_state parts x)) (packed layout (last_state parts y)) (cost_of parts x) (cost_of parts y) is in
      let state : last_state parts x ≡ last_state parts y = for.apart (last_state parts x) (last_state parts y) (can_end x) (can_end y) both.0 in
      let cost : cost_of parts x ≡ cost_of parts y = both.1 in
      cc

  same_words : (x y : List ℕ) → kind_of parts x ≡ kind_of parts y → end_words parts layout x ≡ end_words parts layout y
  same_words x y is = ap (λ (p : List ℕ × ℕ). pair_words layout p.0 p.1) is

  words_tell : (x y : List ℕ) → bytes_eq (end_words parts layout x) (end_words parts layout y) ≡ same_end parts x y
  words_tell x y =
      same_tests (bytes_eq (end_words parts layout x) (end_words parts layout y)) (same_end parts x y)
      (λ is. (by_kind parts).kind_same x y (words_same x y ((bytes_eq-Decides (end_words parts layout x) (end_words parts layout y)).0 is)))
      (λ is. (bytes_eq-Decides (end_words parts layout x) (end_words parts layout y)).1 (same_words x y ((by_kind parts).same_kind x y is)))

  any_words : (x : List ℕ) (all : List (List ℕ)) → list_any (bytes_eq (end_words parts layout x)) (map (end_words parts layout) all) ≡ list_any (same_end parts x) all
  any_words x [] = refl
  any_words x (y ∷ all) =
      ap (λ b. b || list_any (bytes_eq (end_words parts layout x)) (map (end_words parts layout) all)) (words_tell x y)
      ∙ ap (λ b. same_end parts x y || b) (any_words x all)

  -- one pair more, where it isn't there
  module _ (links : List Link) (first steps : ℕ) (pairs done : List (List ℕ)) (growing : IsGrowing parts layout links first (suc steps) pairs done)
      (before : List ℕ) (link : Link) (leads : Leads links steps link.from before) where
    abbrev next : List ℕ
    next = before ++ link.op ∷ []

    abbrev Grows : List Link → List (List ℕ) → Type 0
    Grows now more = IsGrowing parts layout now first (suc steps) more (done ++ next ∷ [])

    kept_all : list_any (same_end parts next) (one_each parts done) ≡ true → Grows links pairs
    kept_all seen =
        let same : one_each parts (done ++ next ∷ []) ≡ one_each parts done =
        firsts_more (kind_of parts) (same_end parts) (by_kind parts) done next
        ∙ ap (λ b. if b then one_each parts done else (one_each parts done ++ next ∷ [])) seen in
        record { layer = subst (IsLayer parts layout links first (suc steps) pairs) (sym same) growing.layer; fits = growing.fits }

    one_longer : list_any (same_end parts next) (one_each parts done) ≡ false → Grows (links ++ link ∷ []) (pairs ++ end_words parts layout next ∷ [])
    one_longer new =
        let old = one_each parts done in
        let same : one_each parts (done ++ next ∷ []) ≡ one_each parts done ++ next ∷ [] =
        firsts_more (kind_of parts) (same_end parts) (by_kind parts) done next
        ∙ ap (λ b. if b then one_each parts done else (one_each parts done ++ next ∷ [])) new in
        let as_many : length pairs ≡ length (one_each parts done) = ap length growing.layer.words ∙ length-map (one_each parts done) (end_words parts layout) in
        let layer : IsLayer parts layout (links ++ link ∷ []) first (suc steps) (pairs ++ end_words parts layout next ∷ []) (one_each parts done ++ next ∷ []) = record {
          words = ap (λ ws. ws ++ end_words parts layout next ∷ []) growing.layer.words ∙ sym (map-append (end_words parts layout) old (next ∷ []));
          leads = λ place ops at. elim (get_last old next place ops at) [
            | inl there ↦ leads_more links (link ∷ []) (suc steps) (first + place) ops (growing.layer.leads place ops there)
            | inr here ↦
                let end : first + place ≡ length links = let n : place ≡ length (one_each parts done) = here.0 in omega (arith, growing.fits, as_many) in
                (link, before, ap (slice_get (links ++ link ∷ [])) end ∙ slice_get-append_last links link, here.1, leads_more links (link ∷ []) steps link.from before leads)
          ];
        } in
        record {
          layer = subst (IsLayer parts layout (links ++ link ∷ []) first (suc steps) (pairs ++ end_words parts layout next ∷ [])) (sym same) layer;
          fits = let n = length-append pairs (end_words parts layout next ∷ []) in let m = length-append links (link ∷ []) in omega (arith, n, m, growing.fits);
        }

    pub one_pair_more : (now : List Link) (more : List (List ℕ)) →
        now ≡ (if list_any (bytes_eq (end_words parts layout next)) pairs then links else (links ++ link ∷ [])) →
        more ≡ (if list_any (bytes_eq (end_words parts layout next)) pairs then pairs else (pairs ++ end_words parts layout next ∷ [])) →
        Grows now more
    one_pair_more now more links_are pairs_are =
        let there : list_any (bytes_eq (end_words parts layout next)) pairs ≡ list_any (same_end parts next) (one_each parts done) =
        ap (list_any (bytes_eq (end_words parts layout next))) growing.layer.words ∙ any_words next (one_each parts done) in
        elim (list_any (same_end parts next) (one_each parts done)) as (λ b. list_any (same_end parts next) (one_each parts done) ≡ b → Grows now more) [
          | true ↦ λ is.
              let seen : list_any (bytes_eq (end_words parts layout next)) pairs ≡ true = there ∙ is in
              let l : now ≡ links = links_are ∙ ap (λ b. if b then links else (links ++ link ∷ [])) seen in
              let p : more ≡ pairs = pairs_are ∙ ap (λ b. if b then pairs else (pairs ++ end_words parts layout next ∷ [])) seen in
              rw (l, p) (kept_all is)
          | false ↦ λ is.
              let new : list_any (bytes_eq (end_words parts layout next)) pairs ≡ false = there ∙ is in
              let l : now ≡ links ++ link ∷ [] = links_are ∙ ap (λ b. if b then links else (links ++ link ∷ [])) new in
              let p : more ≡ pairs ++ end_words parts layout next ∷ [] = pairs_are ∙ ap (λ b. if b then pairs else (pairs ++ end_words parts layout next ∷ [])) new in
              rw (l, p) (one_longer is)
        ] refl

  -- one operator more of one pair
  pub step_more : (links now : List Link) (first steps cost own : ℕ) (pairs more done : List (List ℕ)) (choice here next : List ℕ) (link : Link) →
      EndsAt parts links steps link.from choice here cost → IsGrowing parts layout links first (suc steps) pairs done → step parts here link.op ≡ Some next → own ≡ cost_at parts link.op →
      now ≡ (if list_any (bytes_eq (pair_words layout next (cost + own))) pairs then links else (links ++ link ∷ [])) →
      more ≡ (if list_any (bytes_eq (pair_words layout next (cost + own))) pairs then pairs else (pairs ++ pair_words layout next (cost + own) ∷ [])) →
      IsGrowing parts layout now first (suc steps) more (done ++ (choice ++ link.op ∷ []) ∷ [])
  step_more links now first steps cost own pairs more done choice here next link end growing taken own_is links_are pairs_are =
      let words : pair_words layout next (cost + own) ≡ end_words parts layout (choice ++ link.op ∷ []) = words_at_end parts layout (choice ++ link.op ∷ []) next (cost + own) (end_more parts choice here next link.op cost own end.end taken own_is) in
      one_pair_more links first steps pairs done growing choice link end.leads now more
      (links_are ∙ ap (λ w. if list_any (bytes_eq w) pairs then links else (links ++ link ∷ [])) words)
      (pairs_are ∙ ap (λ w. if list_any (bytes_eq w) pairs then pairs else (pairs ++ w ∷ [])) words)

  -- too many pairs of some choices are too many of more choices
  pub still_many : (links : List Link) (first steps : ℕ) (pairs some all rest : List (List ℕ)) → IsGrowing parts layout links first steps pairs some → 65536 < length pairs → all ≡ some ++ rest → 65536 < length (one_each parts all)
  still_many links first steps pairs some all rest growing many is =
      let as_many : length pairs ≡ length (one_each parts some) = ap length growing.layer.words ∙ length-map (one_each parts some) (end_words parts layout) in
      let fewer : length (one_each parts some) ≤ length (one_each parts (some ++ rest)) = firsts_fewer (kind_of parts) (same_end parts) (by_kind parts) some rest in
      rw is (omega (arith, as_many, fewer))

-- an item that is read from a vector that is still the same
pub taken_at : (v w : Vec ℕ Global) (i op n : ℕ) → v ≡ w → n ≡ length w.items → i < n → op ≡ get_or v.items i op → slice_get w.items i ≡ Some op
taken_at v w i op n same long lt read = slice_get_read w.items (length w.items) i op refl (omega (arith, long)) (read ∙ ap (λ (u : Vec ℕ Global). get_or u.items i op) same)

pub longer_more : (choice ops : List ℕ) (done : List (List ℕ)) (i op : ℕ) → slice_get ops i ≡ Some op → (done ++ longer choice (take i ops)) ++ (choice ++ op ∷ []) ∷ [] ≡ done ++ longer choice (take (i + 1) ops)
longer_more choice ops done i op at =
    let next_place : suc i ≡ i + 1 = omega arith in
    append_assoc done (longer choice (take i ops)) ((choice ++ op ∷ []) ∷ [])
    ∙ ap (λ xs. done ++ xs) (sym (map-append (λ o. choice ++ o ∷ []) (take i ops) (op ∷ [])))
    ∙ ap (λ xs. done ++ longer choice xs) (sym (take_more i ops op at))
    ∙ ap (λ k. done ++ longer choice (take k ops)) next_place

pub longer_split : (choice ops : List ℕ) (done : List (List ℕ)) (i : ℕ) → done ++ longer choice ops ≡ (done ++ longer choice (take i ops)) ++ longer choice (drop i ops)
longer_split choice ops done i =
    ap (λ os. done ++ longer choice os) (sym (take-append-drop i ops))
    ∙ ap (λ xs. done ++ xs) (map-append (λ o. choice ++ o ∷ []) (take i ops) (drop i ops))
    ∙ sym (append_assoc done (longer choice (take i ops)) (longer choice (drop i ops)))

-- no pair yet
pub growing_none : (parts : Parts) (layout : Places) (links : List Link) (first steps : ℕ) (pairs : List (List ℕ)) → pairs ≡ [] → first ≡ length links → IsGrowing parts layout links first steps pairs []
growing_none parts layout links first steps pairs none end = record {
  layer = record { words = none; leads = λ place ops at. let nothing : ◌≡◌ {A = Option (List ℕ)} None (Some ops) = at in absurd (cc) };
  fits = let long : length pairs ≡ 0 = ap length none in omega (arith, end, long);
}

-- choices that come of one layer more
pub flat_more : (parts : Parts) (name : List ℕ) (all : List (List ℕ)) (i : ℕ) (choice : List ℕ) → slice_get all i ≡ Some choice → flat_map (one_more parts name) (take i all) ++ one_more parts name choice ≡ flat_map (one_more parts name) (take (i + 1) all)
flat_more parts name all i choice at =
    let next_place : suc i ≡ i + 1 = omega arith in
    ap (λ xs. flat_map (one_more parts name) (take i all) ++ xs) (sym (append-nil (one_more parts name choice)))
    ∙ sym (flat_map-append (one_more parts name) (take i all) (choice ∷ []))
    ∙ ap (flat_map (one_more parts name)) (sym (take_more i all choice at))
    ∙ ap (λ n. flat_map (one_more parts name) (take n all)) next_place

pub flat_split : (parts : Parts) (name : List ℕ) (all : List (List ℕ)) (i : ℕ) → flat_map (one_more parts name) all ≡ flat_map (one_more parts name) (take i all) ++ flat_map (one_more parts name) (drop i all)
flat_split parts name all i = ap (flat_map (one_more parts name)) (sym (take-append-drop i all)) ∙ flat_map-append (one_more parts name) (take i all) (drop i all)

-- what is unpacked of a pair is what its choice leads to
pub unpacked : (parts : Parts) (layout : Places) (pairs : List (List ℕ)) (place cost : ℕ) (state : List ℕ) → IsWellFormed parts → IsFor layout parts →
    ((held : List ℕ) (c : ℕ) → CanHold layout held → slice_get pairs place ≡ Some (pair_words layout held c) → state ≡ held) →
    ((held : List ℕ) (c : ℕ) → CanHold layout held → slice_get pairs place ≡ Some (pair_words layout held c) → cost ≡ c) →
    (all : List (List ℕ)) (choice : List ℕ) → AreEnds parts layout pairs all → slice_get all place ≡ Some choice → IsEnd parts choice state cost
unpacked parts layout pairs place cost state formed for states costs all choice are at =
    let there = end_at parts layout formed for pairs all place choice are at in
    record {
      state_is = states (last_state parts choice) (cost_of parts choice) (can_end parts layout formed for choice) there;
      cost_is = costs (last_state parts choice) (cost_of parts choice) (can_end parts layout formed for choice) there;
    }

-- a place of a layer, and the choice to which it belongs
pub record IsPlace (parts : Parts) (links : List Link) (steps from : ℕ) (choice here : List ℕ) (cost : ℕ) : Type 0 where
  pub end : EndsAt parts links steps from choice here cost
  pub is_state : IsState parts.variables here
  pub low : steps < 67108864 → cost < 2 ^ 63

pub place_in : (parts : Parts) (layout : Places) (links : List Link) (first steps place cost : ℕ) (pairs all : List (List ℕ)) (here : List ℕ) → IsWellFormed parts → IsLayer parts layout links first steps pairs all → place < length pairs →
    ((all : List (List ℕ)) (choice : List ℕ) → AreEnds parts layout pairs all → slice_get all place ≡ Some choice → IsEnd parts choice here cost) →
    (choice : List ℕ) × (slice_get all place ≡ Some choice) × IsPlace parts links steps (first + place) choice here cost
place_in parts layout links first steps place cost pairs all here formed layer lt told =
    let as_many : length pairs ≡ length all = ap length layer.words ∙ length-map all (end_words parts layout) in
    let item = item_at all place (omega (arith, lt, as_many)) in
    let end = told all item.0 layer.words item.1 in
    let leads = layer.leads place item.0 item.1 in
    let small = cost_of-small parts item.0 formed in
    let long = leads_long links steps (first + place) item.0 leads in
    let own : cost ≡ cost_of parts item.0 = end.cost_is in (
      item.0,
      item.1,
      record {
        end = record { end = end; leads = leads };
        is_state = subst (IsState parts.variables) (sym end.state_is) (last_state-state parts item.0 formed);
        low = λ few. omega (arith, small, long, own, few);
      },
    )

pub end_kept : (parts : Parts) (links now : List Link) (steps place : ℕ) (ops state : List ℕ) (cost : ℕ) → ((n p : ℕ) (os : List ℕ) → Leads links n p os → Leads now n p os) → EndsAt parts links steps place ops state cost → EndsAt parts now steps place ops state cost
end_kept parts links now steps place ops state cost kept end = record { end = end.end; leads = kept steps place ops end.leads }

-- the layer after one name more, place by place
module _ (parts : Parts) (layout : Places) (names : List (List ℕ)) (count place : ℕ) (name choice ops : List ℕ) (there : slice_get (ends parts (take count names)) place ≡ Some choice)
    (are : ops ≡ candidates parts (last_state parts choice) name) where
  place_more : flat_map (one_more parts name) (take place (ends parts (take count names))) ++ longer choice ops ≡ flat_map (one_more parts name) (take (place + 1) (ends parts (take count names)))
  place_more =
      ap (λ os. flat_map (one_more parts name) (take place (ends parts (take count names))) ++ longer choice os) are
      ∙ flat_more parts name (ends parts (take count names)) place choice there

  pub grown_place : (links : List Link) (first : ℕ) (pairs : List (List ℕ)) → IsGrowing parts layout links first (suc count) pairs (flat_map (one_more parts name) (take place (ends parts (take count names))) ++ longer choice ops) →
      IsGrowing parts layout links first (suc count) pairs (flat_map (one_more parts name) (take (place + 1) (ends parts (take count names))))
  grown_place links first pairs growing = subst (IsGrowing parts layout links first (suc count) pairs) place_more growing

  pub many_after : slice_get names count ≡ Some name → 65536 < length (one_each parts (flat_map (one_more parts name) (take place (ends parts (take count names))) ++ longer choice ops)) → 65536 < pairs_after parts names (suc count)
  many_after at many =
      let front = flat_map (one_more parts name) (take (place + 1) (ends parts (take count names))) in
      let rest = flat_map (one_more parts name) (drop (place + 1) (ends parts (take count names))) in
      let fewer = firsts_fewer (kind_of parts) (same_end parts) (by_kind parts) front rest in
      let whole : pairs_after parts names (suc count) ≡ length (one_each parts (front ++ rest)) =
      ap length (ends-step parts names count name at) ∙ ap (λ cs. length (one_each parts cs)) (flat_split parts name (ends parts (take count names)) (place + 1)) in
      let some : 65536 < length (one_each parts front) = subst (λ cs. 65536 < length (one_each parts cs)) place_more many in
      omega (arith, fewer, whole, some)

pub grown_all : (parts : Parts) (layout : Places) (names : List (List ℕ)) (links : List Link) (first count place : ℕ) (name : List ℕ) (pairs : List (List ℕ)) → slice_get names count ≡ Some name → length (ends parts (take count names)) ≤ place →
    IsGrowing parts layout links first (suc count) pairs (flat_map (one_more parts name) (take place (ends parts (take count names)))) → length pairs ≤ 65536 → IsGrown parts layout names links first (suc count) pairs
grown_all parts layout names links first count place name pairs at all growing few =
    let whole : one_each parts (flat_map (one_more parts name) (take place (ends parts (take count names)))) ≡ ends parts (take (suc count) names) =
    ap (λ cs. one_each parts (flat_map (one_more parts name) cs)) (take_all place (ends parts (take count names)) all) ∙ sym (ends-step parts names count name at) in
    record { layer = subst (IsLayer parts layout links first (suc count) pairs) whole growing.layer; fits = growing.fits; few = few }

-- The layer after one name more, made from so many pairs of the layer before.
pub record IsPart (parts : Parts) (layout : Places) (names : List (List ℕ)) (before now : List Link) (count place : ℕ) (pairs : List (List ℕ)) : Type 0 where
  pub kept : LeadOn before now
  pub few : length pairs ≤ 65536
  pub growing : (name : List ℕ) → slice_get names count ≡ Some name → IsGrowing parts layout now (length before) (suc count) pairs (flat_map (one_more parts name) (take place (ends parts (take count names))))

pub part_none : (parts : Parts) (layout : Places) (names : List (List ℕ)) (links : List Link) (count : ℕ) (pairs : List (List ℕ)) → pairs ≡ [] → IsPart parts layout names links links count 0 pairs
part_none parts layout names links count pairs none = record {
  kept = λ steps place ops leads. leads;
  few = let long : length pairs ≡ 0 = ap length none in omega (arith, long);
  growing = λ name at. growing_none parts layout links (length links) (suc count) pairs none refl;
}

-- one pair of the layer before more, or there are too many pairs
pub part_more : (parts : Parts) (layout : Places) (names : List (List ℕ)) (before links now : List Link) (first count place cost : ℕ) (pairs layer more : List (List ℕ)) (here own found : List ℕ) (room : Bool) → IsWellFormed parts →
    IsLayer parts layout before first count pairs (ends parts (take count names)) → place < length pairs →
    ((all : List (List ℕ)) (choice : List ℕ) → AreEnds parts layout pairs all → slice_get all place ≡ Some choice → IsEnd parts choice here cost) →
    slice_get names count ≡ Some own → found ≡ candidates parts here own → IsPart parts layout names before links count place layer → LeadOn links now → (room ≡ true → length more ≤ 65536) →
    ((choice : List ℕ) (done : List (List ℕ)) (start steps : ℕ) → EndsAt parts links steps (first + place) choice here cost → IsGrowing parts layout links start (suc steps) layer done →
    MatchBool room (IsGrowing parts layout now start (suc steps) more (done ++ longer choice found)) (65536 < length (one_each parts (done ++ longer choice found)))) →
    MatchBool room (IsPart parts layout names before now count (place + 1) more) (65536 < pairs_after parts names (suc count))
part_more parts layout names before links now first count place cost pairs layer more here own found true formed last lt told at are part on few wider =
    let own_place = place_in parts layout before first count place cost pairs (ends parts (take count names)) here formed last lt told in
    let end = end_kept parts before links count (first + place) own_place.0 here cost part.kept own_place.2.end in
    let found_is : found ≡ candidates parts (last_state parts own_place.0) own = are ∙ ap (λ s. candidates parts s own) end.end.state_is in
    record {
      kept = λ steps p ops leads. on steps p ops (part.kept steps p ops leads);
      few = few refl;
      growing = λ name there.
          let some : Some own ≡ Some name = sym at ∙ there in
          let same : own ≡ name = cc in
          grown_place parts layout names count place name own_place.0 found own_place.1 (found_is ∙ ap (candidates parts (last_state parts own_place.0)) same) now (length before) more
          (wider own_place.0 (flat_map (one_more parts name) (take place (ends parts (take count names)))) (length before) count end (part.growing name there));
    }
part_more parts layout names before links now first count place cost pairs layer more here own found false formed last lt told at are part on few wider =
    let own_place = place_in parts layout before first count place cost pairs (ends parts (take count names)) here formed last lt told in
    let end = end_kept parts before links count (first + place) own_place.0 here cost part.kept own_place.2.end in
    let found_is : found ≡ candidates parts (last_state parts own_place.0) own = are ∙ ap (λ s. candidates parts s own) end.end.state_is in
    many_after parts layout names count place own own_place.0 found own_place.1 found_is at
    (wider own_place.0 (flat_map (one_more parts own) (take place (ends parts (take count names)))) (length before) count end (part.growing own at))

-- all pairs of the layer before
pub part_all : (parts : Parts) (layout : Places) (names : List (List ℕ)) (before now : List Link) (first count place : ℕ) (pairs layer : List (List ℕ)) → count < length names → IsLayer parts layout before first count pairs (ends parts (take count names)) →
    length pairs ≤ place → IsPart parts layout names before now count place layer → IsGrown parts layout names now (length before) (suc count) layer
part_all parts layout names before now first count place pairs layer lt last le part =
    let item = item_at names count lt in
    let as_many : length pairs ≡ length (ends parts (take count names)) = ap length last.words ∙ length-map (ends parts (take count names)) (end_words parts layout) in
    grown_all parts layout names now (length before) count place item.0 layer item.1 (omega (arith, as_many, le)) (part.growing item.0 item.1) part.few

-- whether there was room
pub room_yes : (A B : Type 0) (room : Bool) → room ≡ true → MatchBool room A B → A
room_yes A B true is told = told
room_yes A B false is told = let clash : false ≡ true = is in absurd (cc)

pub room_no : (A B : Type 0) (room : Bool) → room ≡ false → MatchBool room A B → B
room_no A B true is told = let clash : true ≡ false = is in absurd (cc)
room_no A B false is told = told
