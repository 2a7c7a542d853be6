-- The rounds of a layer give what any order of its rules gives.
use Rattle.std.proofs.Common.{◌≡◌, ◌≢◌, ◌∙◌, sym, ap, refl, subst, ℕ, zero, suc, ◌+◌, ◌-◌, ◌<◌, ◌≤◌, ◌⊎◌, inl, inr, List, [], ◌∷◌, length, map, Bool, true, false, not, nat_eq, nat_le, nat_lt, ◌&&◌, ◌||◌, arith, slice_set, get_or, get_or-set_same, get_or-set_other, if◌then◌else◌, count_by}
use Rattle.std.specs.List.{list_all, list_any, enumerate_from}
use Rattle.std.proofs.lemmas.Bool.Decides.{nat_tests}
use Rattle.std.proofs.lemmas.List.{ext_get_or, get_or_past, length-set}
use Rattle.std.proofs.lemmas.List.Sums.{count_by-le-length, sum_by-cons}
use Rattle.lama_num.proofs.ListLaws.{both}
use Rattle.sas_task.specs.declared.contents.Fact.{Fact}
use Rattle.sas_task.specs.declared.contents.Variable.{Variable}
use Rattle.sas_task.specs.declared.contents.Effect.{Effect}
use Rattle.sas_task.specs.declared.contents.Rule.{Rule}
use Rattle.sas_task.specs.declared.contents.Parts.{Parts}
use Rattle.sas_task.specs.WellFormed.{layer_of}
use Rattle.sas_task.specs.States.{given, last_or, holds, all_hold, written, rules_of, is_layer, round_of, rounds_of, size_of}
use Rattle.axiom_eval.specs.Layers.{is_of, gain, Below, open_among, open_of}
use Rattle.axiom_eval.proofs.FiringLaws.{fires_on, some_fires}
use Rattle.std.proofs.lemmas.Bool.{eqb-true as same_nat}

-- a rule of the layer gives the gain, and its conditions in the layer are on gains
abbrev pub is_sound_cond : Parts → ℕ → Fact → Bool
is_sound_cond parts layer fact = if is_of parts layer fact.var then nat_eq fact.val (gain parts fact.var) else true

abbrev pub is_sound_rule : Parts → ℕ → Rule → Bool
is_sound_rule parts layer rule = if is_of parts layer rule.head.var then nat_eq rule.head.val (gain parts rule.head.var) && list_all (is_sound_cond parts layer) rule.conds else true

abbrev pub are_sound : Parts → ℕ → List Rule → Bool
are_sound parts layer rules = list_all (is_sound_rule parts layer) rules

bool_cases : (b : Bool) → (b ≡ true) ⊎ (b ≡ false)
bool_cases true = inl refl
bool_cases false = inr refl

none_of : (a b : Bool) → (a || b) ≡ false → (a ≡ false) × (b ≡ false)
none_of true b h = let k : true ≡ false = h in cc
none_of false b h = (refl, h)

nat_same : (m n : ℕ) → m ≡ n → nat_eq m n ≡ true
nat_same m n is = grind (arith, nat_tests)

-- what a round makes of one variable
written_from : (state : List ℕ) (effects : List Effect) (k : ℕ) (xs : List ℕ) (i : ℕ) → i < length xs → get_or (map (λ p. last_or p.1 (given state effects p.0)) (enumerate_from k xs)) i 0 ≡ last_or (get_or xs i 0) (given state effects (k + i))
written_from state effects k [] i lt = absurd (omega arith)
written_from state effects k (x ∷ xs) zero lt = let e : k ≡ k + 0 = omega arith in ap (λ (n : ℕ). last_or x (given state effects n)) e
written_from state effects k (x ∷ xs) (suc i) lt = let e : k + 1 + i ≡ k + suc i = omega arith in written_from state effects (k + 1) xs i (omega arith) ∙ ap (λ (n : ℕ). last_or (get_or xs i 0) (given state effects n)) e

written_at : (state : List ℕ) (effects : List Effect) (var : ℕ) → var < length state → get_or (written state effects) var 0 ≡ last_or (get_or state var 0) (given state effects var)
written_at state effects var lt = let e : 0 + var ≡ var = omega arith in written_from state effects 0 state var lt ∙ ap (λ (n : ℕ). last_or (get_or state var 0) (given state effects n)) e

long_from : (state : List ℕ) (effects : List Effect) (k : ℕ) (xs : List ℕ) → length (map (λ p. last_or p.1 (given state effects p.0)) (enumerate_from k xs)) ≡ length xs
long_from state effects k [] = refl
long_from state effects k (x ∷ xs) = let rest = long_from state effects (k + 1) xs in omega arith

pub round_long : (parts : Parts) (layer : ℕ) (state : List ℕ) → length (round_of parts layer state) ≡ length state
round_long parts layer state = long_from state (rules_of parts.variables layer parts.rules) 0 state

pub rounds_long : (parts : Parts) (layer n : ℕ) (state : List ℕ) → length (rounds_of parts layer n state) ≡ length state
rounds_long parts layer zero state = refl
rounds_long parts layer (suc n) state = round_long parts layer (rounds_of parts layer n state) ∙ rounds_long parts layer n state

-- what the rules give, rule by rule
given_cons : (parts : Parts) (layer : ℕ) (state : List ℕ) (var : ℕ) (rule : Rule) (rules : List Rule) →
    given state (rules_of parts.variables layer (rule ∷ rules)) var ≡ (if fires_on parts layer state var rule then rule.head.val ∷ given state (rules_of parts.variables layer rules) var else given state (rules_of parts.variables layer rules) var)
given_cons parts layer state var rule rules = by (is_of parts layer rule.head.var) (all_hold state rule.conds && nat_eq rule.head.var var) refl refl
  where
    by : (a b : Bool) → is_of parts layer rule.head.var ≡ a → (all_hold state rule.conds && nat_eq rule.head.var var) ≡ b →
        given state (rules_of parts.variables layer (rule ∷ rules)) var ≡ (if fires_on parts layer state var rule then rule.head.val ∷ given state (rules_of parts.variables layer rules) var else given state (rules_of parts.variables layer rules) var)
    by true true ea eb = rw (ea, eb) refl
    by true false ea eb = rw (ea, eb) refl
    by false b ea eb = rw ea refl

none_given : (parts : Parts) (layer : ℕ) (state : List ℕ) (var : ℕ) (rules : List Rule) → some_fires parts layer state var rules ≡ false → given state (rules_of parts.variables layer rules) var ≡ []
none_given parts layer state var [] none = refl
none_given parts layer state var (rule ∷ rules) none =
    let split = none_of (fires_on parts layer state var rule) (some_fires parts layer state var rules) none in
    given_cons parts layer state var rule rules ∙ rw split.0 (none_given parts layer state var rules split.1)

-- the head of a rule that fires
fires_gain : (parts : Parts) (layer : ℕ) (state : List ℕ) (var : ℕ) (rule : Rule) → is_sound_rule parts layer rule ≡ true → fires_on parts layer state var rule ≡ true → rule.head.val ≡ gain parts var
fires_gain parts layer state var rule sound fires =
    let split = both (is_of parts layer rule.head.var) (all_hold state rule.conds && nat_eq rule.head.var var) fires in
    let own : rule.head.var ≡ var = same_nat rule.head.var var (both (all_hold state rule.conds) (nat_eq rule.head.var var) split.1).1 in
    let gains = rw split.0 at sound in
    same_nat rule.head.val (gain parts rule.head.var) (both (nat_eq rule.head.val (gain parts rule.head.var)) (list_all (is_sound_cond parts layer) rule.conds) gains).0 ∙ ap (gain parts) own

some_given : (parts : Parts) (layer : ℕ) (state : List ℕ) (var : ℕ) (rules : List Rule) → are_sound parts layer rules ≡ true → some_fires parts layer state var rules ≡ true → (x : ℕ) → last_or x (given state (rules_of parts.variables layer rules) var) ≡ gain parts var
some_given parts layer state var [] sound some x = let k : false ≡ true = some in cc
some_given parts layer state var (rule ∷ rules) sound some x =
    let sounds = both (is_sound_rule parts layer rule) (are_sound parts layer rules) sound in
    by sounds.0 (fires_on parts layer state var rule) (some_fires parts layer state var rules) refl refl (λ more y. some_given parts layer state var rules sounds.1 more y)
  where
    by : is_sound_rule parts layer rule ≡ true → (a b : Bool) → fires_on parts layer state var rule ≡ a → some_fires parts layer state var rules ≡ b →
        (some_fires parts layer state var rules ≡ true → (y : ℕ) → last_or y (given state (rules_of parts.variables layer rules) var) ≡ gain parts var) →
        last_or x (given state (rules_of parts.variables layer (rule ∷ rules)) var) ≡ gain parts var
    by sounds true true ea eb rest = ap (last_or x) (given_cons parts layer state var rule rules) ∙ rw ea (rest eb rule.head.val)
    by sounds true false ea eb rest =
        let none = none_given parts layer state var rules eb in
        ap (last_or x) (given_cons parts layer state var rule rules) ∙ rw (ea, none) (fires_gain parts layer state var rule sounds ea)
    by sounds false true ea eb rest = ap (last_or x) (given_cons parts layer state var rule rules) ∙ rw ea (rest eb x)
    by sounds false false ea eb rest = let k : false ≡ true = rw (ea, eb) at some in cc

round_fires : (parts : Parts) (layer : ℕ) (state : List ℕ) (var : ℕ) → are_sound parts layer parts.rules ≡ true → var < length state → some_fires parts layer state var parts.rules ≡ true → get_or (round_of parts layer state) var 0 ≡ gain parts var
round_fires parts layer state var sound lt some = written_at state (rules_of parts.variables layer parts.rules) var lt ∙ some_given parts layer state var parts.rules sound some (get_or state var 0)

round_still : (parts : Parts) (layer : ℕ) (state : List ℕ) (var : ℕ) → var < length state → some_fires parts layer state var parts.rules ≡ false → get_or (round_of parts layer state) var 0 ≡ get_or state var 0
round_still parts layer state var lt none =
    let given_none = none_given parts layer state var parts.rules none in
    written_at state (rules_of parts.variables layer parts.rules) var lt ∙ rw given_none refl

-- only variables of the layer are given
fires_of : (parts : Parts) (layer : ℕ) (state : List ℕ) (var : ℕ) (rules : List Rule) → some_fires parts layer state var rules ≡ true → is_of parts layer var ≡ true
fires_of parts layer state var [] some = let k : false ≡ true = some in cc
fires_of parts layer state var (rule ∷ rules) some = by (fires_on parts layer state var rule) refl (λ more. fires_of parts layer state var rules more)
  where
    by : (a : Bool) → fires_on parts layer state var rule ≡ a → (some_fires parts layer state var rules ≡ true → is_of parts layer var ≡ true) → is_of parts layer var ≡ true
    by true ea rest =
        let split = both (is_of parts layer rule.head.var) (all_hold state rule.conds && nat_eq rule.head.var var) ea in
        let own : rule.head.var ≡ var = same_nat rule.head.var var (both (all_hold state rule.conds) (nat_eq rule.head.var var) split.1).1 in
        ap (is_of parts layer) (sym own) ∙ split.0
    by false ea rest = rest (rw ea at some)

-- the order of states
pub below_same : (parts : Parts) (layer : ℕ) (state : List ℕ) → Below parts layer state state
below_same parts layer state = record { long = refl; at = λ var. inl refl }

below_on : (parts : Parts) (layer : ℕ) (s t u : List ℕ) → Below parts layer s t → Below parts layer t u → Below parts layer s u
below_on parts layer s t u first second = record { long = first.long ∙ second.long; at = λ var. by var (first.at var) (second.at var) }
  where
    by : (var : ℕ) → (get_or s var 0 ≡ get_or t var 0) ⊎ ((is_of parts layer var ≡ true) × (get_or t var 0 ≡ gain parts var)) → (get_or t var 0 ≡ get_or u var 0) ⊎ ((is_of parts layer var ≡ true) × (get_or u var 0 ≡ gain parts var)) →
        (get_or s var 0 ≡ get_or u var 0) ⊎ ((is_of parts layer var ≡ true) × (get_or u var 0 ≡ gain parts var))
    by var (inl a) (inl b) = inl (a ∙ b)
    by var (inl a) (inr b) = inr b
    by var (inr a) (inl b) = inr (a.0, sym b ∙ a.1)
    by var (inr a) (inr b) = inr b

below_both : (parts : Parts) (layer : ℕ) (s t : List ℕ) → Below parts layer s t → Below parts layer t s → s ≡ t
below_both parts layer s t up down = ext_get_or 0 s t up.long (λ var lt. by var (up.at var) (down.at var))
  where
    by : (var : ℕ) → (get_or s var 0 ≡ get_or t var 0) ⊎ ((is_of parts layer var ≡ true) × (get_or t var 0 ≡ gain parts var)) → (get_or t var 0 ≡ get_or s var 0) ⊎ ((is_of parts layer var ≡ true) × (get_or s var 0 ≡ gain parts var)) → get_or s var 0 ≡ get_or t var 0
    by var (inl a) b = a
    by var (inr a) (inl b) = sym b
    by var (inr a) (inr b) = b.1 ∙ sym a.1

-- what holds below holds above
hold_more : (parts : Parts) (layer : ℕ) (s t : List ℕ) (conds : List Fact) → Below parts layer s t → list_all (is_sound_cond parts layer) conds ≡ true → all_hold s conds ≡ true → all_hold t conds ≡ true
hold_more parts layer s t [] below sound hold = refl
hold_more parts layer s t (fact ∷ conds) below sound hold =
    let sounds = both (is_sound_cond parts layer fact) (list_all (is_sound_cond parts layer) conds) sound in
    let holding = both (holds s fact) (all_hold s conds) hold in
    rw (by sounds.0 (same_nat (get_or s fact.var 0) fact.val holding.0) (below.at fact.var)) (hold_more parts layer s t conds below sounds.1 holding.1)
  where
    by : is_sound_cond parts layer fact ≡ true → get_or s fact.var 0 ≡ fact.val → (get_or s fact.var 0 ≡ get_or t fact.var 0) ⊎ ((is_of parts layer fact.var ≡ true) × (get_or t fact.var 0 ≡ gain parts fact.var)) → holds t fact ≡ true
    by sounds here (inl a) = nat_same (get_or t fact.var 0) fact.val (sym a ∙ here)
    by sounds here (inr a) =
        let gains = rw a.0 at sounds in
        nat_same (get_or t fact.var 0) fact.val (a.1 ∙ sym (same_nat fact.val (gain parts fact.var) gains))

fires_more : (parts : Parts) (layer : ℕ) (s t : List ℕ) (var : ℕ) (rules : List Rule) → Below parts layer s t → are_sound parts layer rules ≡ true → some_fires parts layer s var rules ≡ true → some_fires parts layer t var rules ≡ true
fires_more parts layer s t var [] below sound some = some
fires_more parts layer s t var (rule ∷ rules) below sound some =
    let sounds = both (is_sound_rule parts layer rule) (are_sound parts layer rules) sound in
    by (fires_on parts layer s var rule) refl (λ more. fires_more parts layer s t var rules below sounds.1 more)
  where
    yes_or : (a b : Bool) → a ≡ true → (a || b) ≡ true
    yes_or a b is = rw is refl

    or_yes : (a b : Bool) → b ≡ true → (a || b) ≡ true
    or_yes true b is = refl
    or_yes false b is = is

    by : (a : Bool) → fires_on parts layer s var rule ≡ a → (some_fires parts layer s var rules ≡ true → some_fires parts layer t var rules ≡ true) → some_fires parts layer t var (rule ∷ rules) ≡ true
    by true ea rest =
        let sounds = both (is_sound_rule parts layer rule) (are_sound parts layer rules) sound in
        let split = both (is_of parts layer rule.head.var) (all_hold s rule.conds && nat_eq rule.head.var var) ea in
        let fired = both (all_hold s rule.conds) (nat_eq rule.head.var var) split.1 in
        let gains = rw split.0 at sounds.0 in
        let conds = (both (nat_eq rule.head.val (gain parts rule.head.var)) (list_all (is_sound_cond parts layer) rule.conds) gains).1 in
        let more = hold_more parts layer s t rule.conds below conds fired.0 in
        yes_or (fires_on parts layer t var rule) (some_fires parts layer t var rules) (rw (split.0, more, fired.1) refl)
    by false ea rest = or_yes (fires_on parts layer t var rule) (some_fires parts layer t var rules) (rest (rw ea at some))

in_or_past : (xs : List ℕ) (var : ℕ) → (var < length xs) ⊎ (length xs ≤ var)
in_or_past xs var = by (nat_lt var (length xs)) refl
  where
    by : (b : Bool) → nat_lt var (length xs) ≡ b → (var < length xs) ⊎ (length xs ≤ var)
    by true is = inl (grind (arith, nat_tests))
    by false is = inr (grind (arith, nat_tests))

past_both : (xs ys : List ℕ) (var : ℕ) → length xs ≡ length ys → length xs ≤ var → get_or xs var 0 ≡ get_or ys var 0
past_both xs ys var long le = get_or_past xs var 0 le ∙ sym (get_or_past ys var 0 (omega arith))

round_below : (parts : Parts) (layer : ℕ) (s : List ℕ) → are_sound parts layer parts.rules ≡ true → Below parts layer s (round_of parts layer s)
round_below parts layer s sound = record { long = sym (round_long parts layer s); at = λ var. at_var var (in_or_past s var) }
  where
    by : (var : ℕ) → var < length s → (some_fires parts layer s var parts.rules ≡ true) ⊎ (some_fires parts layer s var parts.rules ≡ false) →
        (get_or s var 0 ≡ get_or (round_of parts layer s) var 0) ⊎ ((is_of parts layer var ≡ true) × (get_or (round_of parts layer s) var 0 ≡ gain parts var))
    by var lt (inl fired) = inr (fires_of parts layer s var parts.rules fired, round_fires parts layer s var sound lt fired)
    by var lt (inr quiet) = inl (sym (round_still parts layer s var lt quiet))

    at_var : (var : ℕ) → (var < length s) ⊎ (length s ≤ var) →
        (get_or s var 0 ≡ get_or (round_of parts layer s) var 0) ⊎ ((is_of parts layer var ≡ true) × (get_or (round_of parts layer s) var 0 ≡ gain parts var))
    at_var var (inl lt) = by var lt (bool_cases (some_fires parts layer s var parts.rules))
    at_var var (inr le) = inl (past_both s (round_of parts layer s) var (sym (round_long parts layer s)) le)

pub rounds_grow : (parts : Parts) (layer : ℕ) (s : List ℕ) (m n : ℕ) → are_sound parts layer parts.rules ≡ true → m ≤ n → Below parts layer (rounds_of parts layer m s) (rounds_of parts layer n s)
rounds_grow parts layer s m zero sound le = let e : m ≡ 0 = omega arith in rw e (below_same parts layer s)
rounds_grow parts layer s m (suc n) sound le = further (nat_le m n) refl (rounds_grow parts layer s m n sound)
  where
    further : (b : Bool) → nat_le m n ≡ b → (m ≤ n → Below parts layer (rounds_of parts layer m s) (rounds_of parts layer n s)) → Below parts layer (rounds_of parts layer m s) (rounds_of parts layer (suc n) s)
    further true is earlier =
        let fewer : m ≤ n = grind (arith, nat_tests, is) in
        below_on parts layer (rounds_of parts layer m s) (rounds_of parts layer n s) (rounds_of parts layer (suc n) s) (earlier fewer) (round_below parts layer (rounds_of parts layer n s) sound)
    further false is earlier = let e : m ≡ suc n = grind (arith, nat_tests, is, le) in rw e (below_same parts layer (rounds_of parts layer (suc n) s))

-- a state is closed where every rule of the layer that fires was heard
pub record IsClosed (parts : Parts) (layer : ℕ) (state : List ℕ) : Type 0 where
  pub at : (var : ℕ) → var < length state → some_fires parts layer state var parts.rules ≡ true → get_or state var 0 ≡ gain parts var

round_below_closed : (parts : Parts) (layer : ℕ) (s f : List ℕ) → are_sound parts layer parts.rules ≡ true → Below parts layer s f → IsClosed parts layer f → Below parts layer (round_of parts layer s) f
round_below_closed parts layer s f sound below closed = record { long = round_long parts layer s ∙ below.long; at = λ var. at_var var (in_or_past s var) }
  where
    still : (var : ℕ) → get_or (round_of parts layer s) var 0 ≡ get_or s var 0 → (get_or s var 0 ≡ get_or f var 0) ⊎ ((is_of parts layer var ≡ true) × (get_or f var 0 ≡ gain parts var)) →
        (get_or (round_of parts layer s) var 0 ≡ get_or f var 0) ⊎ ((is_of parts layer var ≡ true) × (get_or f var 0 ≡ gain parts var))
    still var same (inl a) = inl (same ∙ a)
    still var same (inr a) = inr a

    by : (var : ℕ) → var < length s → (some_fires parts layer s var parts.rules ≡ true) ⊎ (some_fires parts layer s var parts.rules ≡ false) →
        (get_or (round_of parts layer s) var 0 ≡ get_or f var 0) ⊎ ((is_of parts layer var ≡ true) × (get_or f var 0 ≡ gain parts var))
    by var lt (inl fired) =
        let long = below.long in
        let there = closed.at var (omega arith) (fires_more parts layer s f var parts.rules below sound fired) in
        inl (round_fires parts layer s var sound lt fired ∙ sym there)
    by var lt (inr quiet) = still var (round_still parts layer s var lt quiet) (below.at var)

    at_var : (var : ℕ) → (var < length s) ⊎ (length s ≤ var) → (get_or (round_of parts layer s) var 0 ≡ get_or f var 0) ⊎ ((is_of parts layer var ≡ true) × (get_or f var 0 ≡ gain parts var))
    at_var var (inl lt) = by var lt (bool_cases (some_fires parts layer s var parts.rules))
    at_var var (inr le) =
        let long = round_long parts layer s in
        inl (past_both (round_of parts layer s) f var (long ∙ below.long) (omega arith))

rounds_below_closed : (parts : Parts) (layer n : ℕ) (s f : List ℕ) → are_sound parts layer parts.rules ≡ true → Below parts layer s f → IsClosed parts layer f → Below parts layer (rounds_of parts layer n s) f
rounds_below_closed parts layer zero s f sound below closed = below
rounds_below_closed parts layer (suc n) s f sound below closed = round_below_closed parts layer (rounds_of parts layer n s) f sound (rounds_below_closed parts layer n s f sound below closed) closed

-- A closed state between the start and some of the rounds is what the rounds give.
pub closed_is_rounds : (parts : Parts) (layer m n : ℕ) (s f : List ℕ) → are_sound parts layer parts.rules ≡ true → Below parts layer s f → IsClosed parts layer f → Below parts layer f (rounds_of parts layer m s) → m ≤ n → f ≡ rounds_of parts layer n s
closed_is_rounds parts layer m n s f sound below closed reached le =
    below_both parts layer f (rounds_of parts layer n s) (below_on parts layer f (rounds_of parts layer m s) (rounds_of parts layer n s) reached (rounds_grow parts layer s m n sound le)) (rounds_below_closed parts layer n s f sound below closed)

-- one rule that fires
cases_var : (m n : ℕ) → (m ≡ n) ⊎ (m ≢ n)
cases_var m n = by (nat_eq m n) refl
  where
    by : (b : Bool) → nat_eq m n ≡ b → (m ≡ n) ⊎ (m ≢ n)
    by true is = inl (same_nat m n is)
    by false is = inr (λ same. let k : true ≡ false = sym (nat_same m n same) ∙ is in cc)

pub fire_grows : (parts : Parts) (layer : ℕ) (s now : List ℕ) (var : ℕ) → is_of parts layer var ≡ true → var < length now → Below parts layer s now → Below parts layer s (slice_set now var (gain parts var))
fire_grows parts layer s now var own lt below = record { long = below.long ∙ sym (length-set now var (gain parts var)); at = λ v. at_var v (cases_var v var) }
  where
    other : (v : ℕ) → get_or (slice_set now var (gain parts var)) v 0 ≡ get_or now v 0 → (get_or s v 0 ≡ get_or now v 0) ⊎ ((is_of parts layer v ≡ true) × (get_or now v 0 ≡ gain parts v)) →
        (get_or s v 0 ≡ get_or (slice_set now var (gain parts var)) v 0) ⊎ ((is_of parts layer v ≡ true) × (get_or (slice_set now var (gain parts var)) v 0 ≡ gain parts v))
    other v same (inl a) = inl (a ∙ sym same)
    other v same (inr a) = inr (a.0, same ∙ a.1)

    at_var : (v : ℕ) → (v ≡ var) ⊎ (v ≢ var) → (get_or s v 0 ≡ get_or (slice_set now var (gain parts var)) v 0) ⊎ ((is_of parts layer v ≡ true) × (get_or (slice_set now var (gain parts var)) v 0 ≡ gain parts v))
    at_var v (inl same) = rw same (inr (own, get_or-set_same now var (gain parts var) 0 lt))
    at_var v (inr ne) = other v (get_or-set_other now var v (gain parts var) 0 ne) (below.at v)

pub fire_reached : (parts : Parts) (layer : ℕ) (now reach : List ℕ) (var : ℕ) → are_sound parts layer parts.rules ≡ true → some_fires parts layer now var parts.rules ≡ true → var < length now → Below parts layer now reach → Below parts layer (slice_set now var (gain parts var)) (round_of parts layer reach)
fire_reached parts layer now reach var sound fires lt below = record { long = length-set now var (gain parts var) ∙ (below.long ∙ sym (round_long parts layer reach)); at = λ v. at_var v (cases_var v var) }
  where
    on : Below parts layer now (round_of parts layer reach)
    on = below_on parts layer now reach (round_of parts layer reach) below (round_below parts layer reach sound)

    other : (v : ℕ) → get_or (slice_set now var (gain parts var)) v 0 ≡ get_or now v 0 → (get_or now v 0 ≡ get_or (round_of parts layer reach) v 0) ⊎ ((is_of parts layer v ≡ true) × (get_or (round_of parts layer reach) v 0 ≡ gain parts v)) →
        (get_or (slice_set now var (gain parts var)) v 0 ≡ get_or (round_of parts layer reach) v 0) ⊎ ((is_of parts layer v ≡ true) × (get_or (round_of parts layer reach) v 0 ≡ gain parts v))
    other v same (inl a) = inl (same ∙ a)
    other v same (inr a) = inr a

    at_var : (v : ℕ) → (v ≡ var) ⊎ (v ≢ var) → (get_or (slice_set now var (gain parts var)) v 0 ≡ get_or (round_of parts layer reach) v 0) ⊎ ((is_of parts layer v ≡ true) × (get_or (round_of parts layer reach) v 0 ≡ gain parts v))
    at_var v (inl same) =
        let long = below.long in
        rw same (inl (get_or-set_same now var (gain parts var) 0 lt ∙ sym (round_fires parts layer reach var sound (omega arith) (fires_more parts layer now reach var parts.rules below sound fires))))
    at_var v (inr ne) = other v (get_or-set_other now var v (gain parts var) 0 ne) (on.at v)

-- how many are open
size_cons : (layer : ℕ) (v : Variable) (variables : List Variable) → size_of (v ∷ variables) layer ≡ (if is_layer v.layer layer then 1 else 0) + size_of variables layer
size_cons layer v variables = sum_by-cons (λ (x : Variable). if is_layer x.layer layer then 1 else 0) v variables

pub open_le_size : (layer : ℕ) (variables : List Variable) (defaults values : List ℕ) → open_among layer variables defaults values ≤ size_of variables layer
open_le_size layer [] defaults values = omega arith
open_le_size layer (v ∷ variables) [] values = omega arith
open_le_size layer (v ∷ variables) (d ∷ defaults) [] = omega arith
open_le_size layer (v ∷ variables) (d ∷ defaults) (x ∷ values) =
    subst (λ (n : ℕ). open_among layer (v ∷ variables) (d ∷ defaults) (x ∷ values) ≤ n) (sym (size_cons layer v variables)) (by (is_layer v.layer layer) (not (nat_eq x (1 - d))) refl refl (open_le_size layer variables defaults values))
  where
    by : (a b : Bool) → is_layer v.layer layer ≡ a → not (nat_eq x (1 - d)) ≡ b → open_among layer variables defaults values ≤ size_of variables layer → open_among layer (v ∷ variables) (d ∷ defaults) (x ∷ values) ≤ (if is_layer v.layer layer then 1 else 0) + size_of variables layer
    by true true ea eb rest = rw (ea, eb) (omega arith)
    by true false ea eb rest = rw (ea, eb) (omega arith)
    by false b ea eb rest = rw ea (omega arith)

pub size_le_length : (layer : ℕ) (variables : List Variable) → size_of variables layer ≤ length variables
size_le_length layer variables = count_by-le-length (λ (v : Variable). is_layer v.layer layer) variables

pub open_less : (layer : ℕ) (variables : List Variable) (defaults values : List ℕ) (var : ℕ) → length defaults ≡ length variables → length values ≡ length variables → var < length values → is_layer (layer_of variables var) layer ≡ true → get_or values var 0 ≢ 1 - get_or defaults var 0 →
    open_among layer variables defaults (slice_set values var (1 - get_or defaults var 0)) + 1 ≡ open_among layer variables defaults values
open_less layer [] defaults values var dl vl lt own ne = absurd (omega arith)
open_less layer (v ∷ variables) [] values var dl vl lt own ne = absurd (omega arith)
open_less layer (v ∷ variables) (d ∷ defaults) [] var dl vl lt own ne = absurd (omega arith)
open_less layer (v ∷ variables) (d ∷ defaults) (x ∷ values) zero dl vl lt own ne =
    let now : not (nat_eq (1 - d) (1 - d)) ≡ false = grind (arith, nat_tests) in
    let was : not (nat_eq x (1 - d)) ≡ true = grind (arith, nat_tests, ne) in
    rw (own, now, was) (omega arith)
open_less layer (v ∷ variables) (d ∷ defaults) (x ∷ values) (suc var) dl vl lt own ne =
    let rest = open_less layer variables defaults values var (omega arith) (omega arith) (omega arith) own ne in
    omega arith
