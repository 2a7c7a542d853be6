-- Rows of orders that are turned round.
use Rattle.std.proofs.Common.{◌≡◌, ◌≢◌, ◌∙◌, sym, ap, refl, ℕ, zero, suc, ◌+◌, ◌<◌, ◌≤◌, List, [], ◌∷◌, ◌++◌, ◌⊎◌, inl, inr, length, take, get_or, Bool, true, false, nat_eq, nat_lt, if◌then◌else◌, Option, Some, None, replicate, arith, add-one}
use Rattle.std.proofs.lemmas.List.{length-set, length-replicate, length-take, get_or-take}
use Rattle.std.proofs.lemmas.List.{take_more}
use Rattle.std.proofs.lemmas.Bool.{cases_eq, cases_lt, ne_eqb, eq-eqb}
use Rattle.std.proofs.lemmas.Bool.Decides.{nat_tests}
use Rattle.lm_graph.specs.declared.orders.Order.{Order}
use Rattle.lm_graph.specs.declared.orders.Edge.{Edge}
use Rattle.lm_graph.specs.declared.nodes.Node.{Node}
use Rattle.lm_graph.specs.Orders.{stronger}
use Rattle.lm_graph.specs.Rows.{kind_in, node_at, past_end, IsAscending}
use Rattle.lm_graph.specs.Graphs.{content, row_of, RaisesAt, IsGraph}
use Rattle.lm_graph.specs.Marks.{AreWithin}
use Rattle.lm_graph.specs.Orders.{is_strong}
use Rattle.lm_graph.specs.Paths.{Path, one, more}
use Rattle.lm_graph.specs.Turned.{kinds_from, TurnsRow, IsTurned, AreSuccessors}
use Rattle.lm_graph.proofs.Edges.{kind_in-none}
use Rattle.lm_graph.proofs.Contents.{row_of-set_same, row_of-set_other}

kind_in-push : (row : List Edge) (edge : Edge) (i : ℕ) → kind_in row edge.node ≡ None → kind_in (row ++ edge ∷ []) i ≡ (if nat_eq edge.node i then Some edge.kind else kind_in row i)
kind_in-push [] edge i none = refl
kind_in-push (e ∷ row) edge i none = by (nat_eq e.node edge.node) refl none (kind_in-push row edge i)
  where
    by : (b : Bool) → nat_eq e.node edge.node ≡ b → (if b then Some e.kind else kind_in row edge.node) ≡ None →
        (kind_in row edge.node ≡ None → kind_in (row ++ edge ∷ []) i ≡ (if nat_eq edge.node i then Some edge.kind else kind_in row i)) →
        kind_in (e ∷ row ++ edge ∷ []) i ≡ (if nat_eq edge.node i then Some edge.kind else kind_in (e ∷ row) i)
    by true is none rest = absurd (cc)
    by false is none rest = let now = rest none in grind (arith, nat_tests, is, now)

-- the edges before a place have other nodes than the one there
none_before : (row : List Edge) (k : ℕ) → IsAscending row → k < length row → kind_in (take k row) (node_at row k) ≡ None
none_before row k ascending lt = kind_in-none (take k row) (node_at row k) (λ i within same.
    let long = length-take k row in
    let less : i < k = omega (arith, long, within) in
    let here : node_at (take k row) i ≡ node_at row i = ap (λ (e : Edge). e.node) (get_or-take k row i past_end less) in
    omega (arith, here, same, ascending.each i k less lt))

-- one more edge of a row is put to the node that it comes from
pub turn_more : (old rows new : List (List Edge)) (row : List Edge) (k after : ℕ) (edge : Edge) → IsAscending row → k < length row → edge ≡ get_or row k past_end → edge.node < length old →
    TurnsRow old rows (take k row) after → RaisesAt rows new after edge.node edge.kind → TurnsRow old new (take (k + 1) row) after
turn_more old rows new row k after edge ascending lt is within so_far raises = record {
  long = ap length raises.rows ∙ (length-set rows edge.node raises.row ∙ so_far.long);
  here = λ i. here i (cases_eq i edge.node);
  others = λ i j ne. others i j ne (cases_eq i edge.node);
}
  where
    node_is : edge.node ≡ node_at row k
    node_is = ap (λ (e : Edge). e.node) is

    none : kind_in (take k row) edge.node ≡ None
    none = ap (kind_in (take k row)) node_is ∙ none_before row k ascending lt

    more : take (k + 1) row ≡ take k row ++ edge ∷ []
    more = take_more row k past_end lt ∙ ap (λ (e : Edge). take k row ++ e ∷ []) (sym is)

    now : (i : ℕ) → kind_in (take (k + 1) row) i ≡ (if nat_eq edge.node i then Some edge.kind else kind_in (take k row) i)
    now i = ap (λ (r : List Edge). kind_in r i) more ∙ kind_in-push (take k row) edge i none

    in_range : edge.node < length rows
    in_range = omega (arith, so_far.long, within)

    own_row : (i : ℕ) → i ≡ edge.node → row_of new i ≡ raises.row
    own_row i same = ap (λ (rs : List (List Edge)). row_of rs i) raises.rows ∙ rw same (row_of-set_same rows edge.node raises.row in_range)

    other_row : (i : ℕ) → i ≢ edge.node → row_of new i ≡ row_of rows i
    other_row i ne = ap (λ (rs : List (List Edge)). row_of rs i) raises.rows ∙ row_of-set_other rows edge.node i raises.row ne

    here : (i : ℕ) → (i ≡ edge.node) ⊎ (i ≢ edge.node) → kinds_from new i after ≡ kind_in (take (k + 1) row) i
    here i (inl same) =
        let was : kind_in (row_of rows edge.node) after ≡ None = so_far.here edge.node ∙ none in
        let raised : kind_in raises.row after ≡ Some edge.kind = raises.raises.here ∙ ap (λ o. Some (stronger o edge.kind)) was in
        let test : nat_eq edge.node i ≡ true = eq-eqb edge.node i (sym same) in
        ap (λ (r : List Edge). kind_in r after) (own_row i same) ∙ (raised ∙ sym (now i ∙ ap (λ b. if b then Some edge.kind else kind_in (take k row) i) test))
    here i (inr ne) =
        let test : nat_eq edge.node i ≡ false = ne_eqb edge.node i (λ e. ne (sym e)) in
        ap (λ (r : List Edge). kind_in r after) (other_row i ne) ∙ (so_far.here i ∙ sym (now i ∙ ap (λ b. if b then Some edge.kind else kind_in (take k row) i) test))

    others : (i j : ℕ) → j ≢ after → (i ≡ edge.node) ⊎ (i ≢ edge.node) → kinds_from new i j ≡ kinds_from old i j
    others i j ne (inl same) =
        ap (λ (r : List Edge). kind_in r j) (own_row i same)
        ∙ (raises.raises.others j ne ∙ (ap (λ n. kind_in (row_of rows n) j) (sym same) ∙ so_far.others i j ne))
    others i j ne (inr apart) = ap (λ (r : List Edge). kind_in r j) (other_row i apart) ∙ so_far.others i j ne

pub turn_none : (rows : List (List Edge)) (after : ℕ) → ((before : ℕ) → kind_in (row_of rows before) after ≡ None) → TurnsRow rows rows [] after
turn_none rows after none = record { long = refl; here = none; others = λ i j ne. refl }

-- rows up to a number

-- the second rows have the orders of the first below a number, by the node that they come from
pub record TurnedBelow (rows turned : List (List Edge)) (n : ℕ) : Type 0 where
  pub long : length turned ≡ length rows
  pub same : (before after : ℕ) → kinds_from turned before after ≡ (if nat_lt after n then kind_in (row_of rows after) before else None)

row_of-replicate : (n i : ℕ) → row_of (replicate n []) i ≡ []
row_of-replicate zero i = refl
row_of-replicate (suc n) zero = refl
row_of-replicate (suc n) (suc i) = row_of-replicate n i

pub turned_none : (rows turned : List (List Edge)) → turned ≡ replicate (length rows) [] → TurnedBelow rows turned 0
turned_none rows turned is = record {
  long = ap length is ∙ length-replicate (length rows) [];
  same = λ before after.
      let below : nat_lt after 0 ≡ false = grind (arith, nat_tests) in
      ap (λ (ts : List (List Edge)). kinds_from ts before after) is ∙ (ap (λ (r : List Edge). kind_in r after) (row_of-replicate (length rows) before) ∙ sym (ap (λ b. if b then kind_in (row_of rows after) before else None) below));
}

replicate_more : {X : Type 0} (x : X) (n : ℕ) → replicate n x ++ x ∷ [] ≡ replicate (suc n) x
replicate_more x zero = refl
replicate_more x (suc n) = ap (λ xs. x ∷ xs) (replicate_more x n)

pub one_more_row : (rows new : List (List Edge)) (n : ℕ) → rows ≡ replicate n [] → new ≡ rows ++ [] ∷ [] → new ≡ replicate (n + 1) []
one_more_row rows new n is pushed =
    let none : List Edge = [] in
    pushed ∙ (ap (λ (rs : List (List Edge)). rs ++ none ∷ []) is ∙ (replicate_more none n ∙ rw (add-one n) refl))

-- nothing is there yet of the next row
pub next_none : (rows turned : List (List Edge)) (n before : ℕ) → TurnedBelow rows turned n → kind_in (row_of turned before) n ≡ None
next_none rows turned n before so_far =
    let below : nat_lt n n ≡ false = grind (arith, nat_tests) in
    so_far.same before n ∙ ap (λ b. if b then kind_in (row_of rows n) before else None) below

pub turned_more : (rows old new : List (List Edge)) (row : List Edge) (n : ℕ) → TurnedBelow rows old n → row ≡ row_of rows n → TurnsRow old new row n → TurnedBelow rows new (n + 1)
turned_more rows old new row n so_far is turns = record {
  long = turns.long ∙ so_far.long;
  same = λ before after. by before after (cases_eq after n);
}
  where
    by : (before after : ℕ) → (after ≡ n) ⊎ (after ≢ n) → kinds_from new before after ≡ (if nat_lt after (n + 1) then kind_in (row_of rows after) before else None)
    by before after (inl same) =
        let below : nat_lt after (n + 1) ≡ true = grind (arith, nat_tests, same) in
        ap (kinds_from new before) same
        ∙ (turns.here before ∙ (ap (λ (r : List Edge). kind_in r before) is ∙ (ap (λ m. kind_in (row_of rows m) before) (sym same) ∙ sym (ap (λ b. if b then kind_in (row_of rows after) before else None) below))))
    by before after (inr ne) =
        let test : nat_lt after n ≡ nat_lt after (n + 1) = grind (arith, nat_tests, ne) in
        turns.others before after ne ∙ (so_far.same before after ∙ ap (λ b. if b then kind_in (row_of rows after) before else None) test)

row_of-past : (rows : List (List Edge)) (i : ℕ) → length rows ≤ i → row_of rows i ≡ []
row_of-past [] i le = refl
row_of-past (row ∷ rows) zero le = absurd (omega arith)
row_of-past (row ∷ rows) (suc i) le = row_of-past rows i (omega arith)

pub turned_all : (rows turned : List (List Edge)) (n : ℕ) → n ≡ length rows → TurnedBelow rows turned n → IsTurned rows turned
turned_all rows turned n is so_far = record { long = so_far.long; same = λ before after. so_far.same before after ∙ by before after (cases_lt after n) }
  where
    by : (before after : ℕ) → (after < n) ⊎ (n ≤ after) → (if nat_lt after n then kind_in (row_of rows after) before else None) ≡ kind_in (row_of rows after) before
    by before after (inl lt) = let test : nat_lt after n ≡ true = grind (arith, nat_tests, lt) in rw test refl
    by before after (inr ge) =
        let test : nat_lt after n ≡ false = grind (arith, nat_tests, ge) in
        let none : row_of rows after ≡ [] = row_of-past rows after (omega (arith, is, ge)) in
        rw (test, none) refl

-- orders that are turned round lead to nodes

pub turned_within : (nodes : List Node) (rows turned : List (List Edge)) → IsGraph (content nodes rows) → IsTurned rows turned → AreWithin turned
turned_within nodes rows turned graph is = record {
  each = λ i j kind at.
      let pair = graph.between j i kind (sym (is.same j i) ∙ at) in
      omega (arith, pair.second, graph.long, is.long);
}

-- paths the other way

path_end : {kinds : ℕ → ℕ → Option Order} {weakest : Order} {i j k : ℕ} → Path kinds weakest i j → is_strong weakest (kinds j k) ≡ true → Path kinds weakest i k
path_end (one a) last = more a (one last)
path_end (more a path) last = more a (path_end path last)

pub path_turned : (kinds : ℕ → ℕ → Option Order) (weakest : Order) (i j : ℕ) → Path kinds weakest i j → Path (λ a b. kinds b a) weakest j i
path_turned kinds weakest i j (one a) = one a
path_turned kinds weakest i j (more {j = k} a path) = path_end (path_turned kinds weakest k j path) a

pub are_successors : (nodes : List Node) (rows turned : List (List Edge)) → IsGraph (content nodes rows) → IsTurned rows turned → AreSuccessors (content nodes rows) turned
are_successors nodes rows turned graph is = record { long = is.long ∙ graph.long; same = is.same }
