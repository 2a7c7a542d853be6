-- There are at most as many settled states as assignments of the variables that aren't derived.
use Rattle.std.proofs.Common.{◌≡◌, ℕ, zero, suc, ◌+◌, ◌*◌, ◌<◌, ◌≤◌, Bool, true, false, List, [], ◌∷◌, map, length, slice_get, Some, refl, ap, sym, ◌∙◌, subst, arith}
use Rattle.std.specs.Prelude.{is_some, if◌then◌else◌, ◌||◌, ◌≢◌}
use Rattle.std.specs.List.{flat_map, range_with_len, enumerate_from, list_any, AllPairs}
use Rattle.std.specs.Cmp.{IsEquivalence}
use Rattle.std.specs.Set.{is_member}
use Rattle.std.specs.Str.{bytes_eq}
use Rattle.std.proofs.Math.Nat.{zero-mul, suc-mul}
use Rattle.std.proofs.lemmas.List.{length-append, length-map}
use Rattle.std.proofs.lemmas.Option.{slice_get-get_or}
use Rattle.std.proofs.lemmas.Slice.Eq.{bytes_eq-Decides}
use Rattle.std.proofs.lemmas.Map.Made.{length-le_from_is_member, IsDistinct-from_AllPairs}
use Rattle.sas_task.specs.declared.contents.Variable.{Variable}
use Rattle.sas_task.specs.declared.contents.Parts.{Parts}
use Rattle.sas_task.specs.WellFormed.{is_derived}
use Rattle.sas_task.specs.States.{IsState, default_or, reset, settled_below, top_of}
use Rattle.search_log.specs.Rooms.{assignments}
use Rattle.search_log.specs.Spaces.{IsSettled}
use Rattle.log_laws.proofs.Elements.{in-map, StandsIn, in-left, in-right, in-range, from-map}

-- the values of the variables that aren't derived
abbrev own_values : List Variable → List ℕ → List ℕ
own_values [] state = []
own_values (v ∷ vs) [] = []
own_values (v ∷ vs) (x ∷ xs) = if is_some v.layer then own_values vs xs else x ∷ own_values vs xs

abbrev with_each : List (List ℕ) → ℕ → List (List ℕ)
with_each rest x = map (λ (xs : List ℕ). x ∷ xs) rest

-- all such lists
abbrev all_values : List Variable → List (List ℕ)
all_values [] = [] ∷ []
all_values (v ∷ vs) = if is_some v.layer then all_values vs else flat_map (with_each (all_values vs)) (range_with_len 0 (length v.values))

length-with_each : (rest : List (List ℕ)) (a n : ℕ) → length (flat_map (with_each rest) (range_with_len a n)) ≡ n * length rest
length-with_each rest a zero = sym (zero-mul (length rest))
length-with_each rest a (suc n) =
    let front = length-append (with_each rest a) (flat_map (with_each rest) (range_with_len (a + 1) n)) in
    let here = length-map rest (λ (xs : List ℕ). a ∷ xs) in
    let again = length-with_each rest (a + 1) n in
    let step = suc-mul n (length rest) in
    omega (arith, front, here, again, step)

length-all_values : (vs : List Variable) → length (all_values vs) ≡ assignments vs
length-all_values [] = refl
length-all_values (v ∷ vs) = by_test (length-all_values vs) (is_some v.layer)
  where
    by_test : length (all_values vs) ≡ assignments vs → (b : Bool) → length (if b then all_values vs else flat_map (with_each (all_values vs)) (range_with_len 0 (length v.values))) ≡ (if b then assignments vs else length v.values * assignments vs)
    by_test rest true = rest
    by_test rest false = length-with_each (all_values vs) 0 (length v.values) ∙ ap (λ (n : ℕ). length v.values * n) rest

in-flat_map : {X Y : Type 0} (f : X → List Y) (xs : List X) (i : ℕ) (x : X) (y : Y) → slice_get xs i ≡ Some x → StandsIn (f x) y → StandsIn (flat_map f xs) y
in-flat_map f [] i x y at there = cc
in-flat_map f (z ∷ zs) zero x y at there =
    let same : z ≡ x = cc in
    let here : StandsIn (f z) y = subst (λ w. StandsIn (f w) y) (sym same) there in
    (here.0, in-left (f z) (flat_map f zs) here.0 y here.1)
in-flat_map f (z ∷ zs) (suc i) x y at there =
    let rest = in-flat_map f zs i x y at there in
    in-right (f z) (flat_map f zs) rest.0 y rest.1

-- a state's values are among them
own_among : (vs : List Variable) (state : List ℕ) → IsState vs state → StandsIn (all_values vs) (own_values vs state)
own_among [] state is = (0, refl)
own_among (v ∷ vs) [] is = absurd (let e = is.long in omega (arith, e))
own_among (v ∷ vs) (x ∷ xs) is = by_test (own_among vs xs (record { long = omega (arith, is.long); in_range = λ var lt. is.in_range (suc var) (omega arith) })) (is_some v.layer)
  where
    by_test : StandsIn (all_values vs) (own_values vs xs) → (b : Bool) → StandsIn (if b then all_values vs else flat_map (with_each (all_values vs)) (range_with_len 0 (length v.values))) (if b then own_values vs xs else x ∷ own_values vs xs)
    by_test rest true = rest
    by_test rest false =
        let small : x < length v.values = is.in_range 0 (omega arith) in
        in-flat_map (with_each (all_values vs)) (range_with_len 0 (length v.values)) x x (x ∷ own_values vs xs) (in-range 0 (length v.values) x small ∙ ap Some (omega arith))
        (in-map (λ (ys : List ℕ). x ∷ ys) (all_values vs) (own_values vs xs) rest)

-- derived variables have their defaults after a reset, so the other values decide it
same_reset : (parts : Parts) (k : ℕ) (vs : List Variable) (s t : List ℕ) → length s ≡ length vs → length t ≡ length vs → ((i : ℕ) → slice_get parts.variables (k + i) ≡ slice_get vs i)
    → own_values vs s ≡ own_values vs t → map (λ p. default_or parts p.0 p.1) (enumerate_from k s) ≡ map (λ p. default_or parts p.0 p.1) (enumerate_from k t)
same_reset parts k [] [] [] a b at same = refl
same_reset parts k [] [] (y ∷ ys) a b at same = absurd (omega (arith, b))
same_reset parts k [] (x ∷ xs) t a b at same = absurd (omega (arith, a))
same_reset parts k (v ∷ vs) [] t a b at same = absurd (omega (arith, a))
same_reset parts k (v ∷ vs) (x ∷ xs) [] a b at same = absurd (omega (arith, b))
same_reset parts k (v ∷ vs) (x ∷ xs) (y ∷ ys) a b at same =
    by_test (λ e. same_reset parts (k + 1) vs xs ys (omega (arith, a)) (omega (arith, b)) (λ i. ap (slice_get parts.variables) (let z : (k + 1) + i ≡ k + suc i = omega arith in z) ∙ at (suc i)) e)
    (is_some v.layer) derived same
  where
    derived : is_derived parts.variables k ≡ is_some v.layer
    derived = let here : slice_get parts.variables k ≡ Some v = ap (slice_get parts.variables) (let z : k ≡ k + 0 = omega arith in z) ∙ at 0 in rw here refl

    by_test : (own_values vs xs ≡ own_values vs ys → map (λ p. default_or parts p.0 p.1) (enumerate_from (k + 1) xs) ≡ map (λ p. default_or parts p.0 p.1) (enumerate_from (k + 1) ys)) →
        (c : Bool) → is_derived parts.variables k ≡ c → (if c then own_values vs xs else x ∷ own_values vs xs) ≡ (if c then own_values vs ys else y ∷ own_values vs ys) →
        map (λ p. default_or parts p.0 p.1) (enumerate_from k (x ∷ xs)) ≡ map (λ p. default_or parts p.0 p.1) (enumerate_from k (y ∷ ys))
    by_test rest true is e =
        let here : default_or parts k x ≡ default_or parts k y = rw is refl in
        let later = rest e in
        cc
    by_test rest false is e =
        let head : x ≡ y = cc in
        let tail : own_values vs xs ≡ own_values vs ys = cc in
        let here : default_or parts k x ≡ default_or parts k y = ap (default_or parts k) head in
        let later = rest tail in
        cc

-- settled states with the same values are the same
own_decide : (parts : Parts) (s t : List ℕ) → IsSettled parts s → IsSettled parts t → own_values parts.variables s ≡ own_values parts.variables t → s ≡ t
own_decide parts s t a b e =
    let same : reset parts s ≡ reset parts t = same_reset parts 0 parts.variables s t a.values.long b.values.long (λ i. ap (slice_get parts.variables) (let z : 0 + i ≡ i = omega arith in z)) e in
    sym a.settled ∙ ap (settled_below parts (top_of parts.variables)) same ∙ b.settled

-- equality of lists of numbers
same_tests : (a b : Bool) → (a ≡ true → b ≡ true) → (b ≡ true → a ≡ true) → a ≡ b
same_tests true b f g = sym (f refl)
same_tests false true f g = g refl
same_tests false false f g = refl

equal_lists : IsEquivalence bytes_eq
equal_lists = record {
  refl = λ x. (bytes_eq-Decides x x).1 refl;
  symm = λ x y. same_tests (bytes_eq x y) (bytes_eq y x) (λ e. (bytes_eq-Decides y x).1 (sym ((bytes_eq-Decides x y).0 e))) (λ e. (bytes_eq-Decides x y).1 (sym ((bytes_eq-Decides y x).0 e)));
  congr = λ x y z e. ap (λ (w : List ℕ). bytes_eq w z) ((bytes_eq-Decides x y).0 e);
}

member_in : (xs : List (List ℕ)) (i : ℕ) (x : List ℕ) → slice_get xs i ≡ Some x → is_member bytes_eq xs x ≡ true
member_in [] i x at = cc
member_in (y ∷ ys) zero x at =
    let same : y ≡ x = cc in
    rw (let here : bytes_eq x y ≡ true = (bytes_eq-Decides x y).1 (sym same) in here) refl
member_in (y ∷ ys) (suc i) x at = by_test (bytes_eq x y) (member_in ys i x at)
  where
    by_test : (b : Bool) → list_any (bytes_eq x) ys ≡ true → (b || list_any (bytes_eq x) ys) ≡ true
    by_test true e = refl
    by_test false e = e

found_member : (xs : List (List ℕ)) (x : List ℕ) → is_member bytes_eq xs x ≡ true → StandsIn xs x
found_member [] x e = let k : false ≡ true = e in cc
found_member (y ∷ ys) x e = by_test (found_member ys x) (bytes_eq x y) refl e
  where
    by_test : (list_any (bytes_eq x) ys ≡ true → StandsIn ys x) → (b : Bool) → bytes_eq x y ≡ b → (b || list_any (bytes_eq x) ys) ≡ true → StandsIn (y ∷ ys) x
    by_test rest true is h = (0, ap Some (sym ((bytes_eq-Decides x y).0 is)))
    by_test rest false is h = let r = rest h in (suc r.0, r.1)

-- so many settled states, none of which stands twice
pub states_few : (parts : Parts) (states : List (List ℕ)) → ((i : ℕ) (s : List ℕ) → slice_get states i ≡ Some s → IsSettled parts s)
    → ((i j : ℕ) (s t : List ℕ) → slice_get states i ≡ Some s → slice_get states j ≡ Some t → s ≡ t → i ≡ j) → length states ≤ assignments parts.variables
states_few parts states each once =
    let own = map (own_values parts.variables) states in
    let apart : AllPairs (λ x y. x ≢ y) own = λ i j d l m same.
    let at_j = slice_get-get_or own j d m in
    let at_i = slice_get-get_or own i d (omega (arith, l, m)) in
    let a = from-map (own_values parts.variables) states i _ at_i in
    let b = from-map (own_values parts.variables) states j _ at_j in
    let alike : a.0 ≡ b.0 = own_decide parts a.0 b.0 (each i a.0 a.1) (each j b.0 b.1) (a.2 ∙ same ∙ sym b.2) in
    let k : i ≡ j = once i j a.0 b.0 a.1 b.1 alike in
    omega (arith, k, l) in
    let few = length-le_from_is_member equal_lists own (all_values parts.variables) (IsDistinct-from_AllPairs bytes_eq-Decides own apart) (λ q is.
    let at = found_member own q is in
    let from = from-map (own_values parts.variables) states at.0 q at.1 in
    let there = own_among parts.variables from.0 (each at.0 from.0 from.1).values in
    member_in (all_values parts.variables) there.0 q (there.1 ∙ ap Some from.2)) in
    omega (arith, few, length-map states (own_values parts.variables), length-all_values parts.variables)
