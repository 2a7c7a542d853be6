-- Texts that grow line by line.
use Rattle.std.proofs.Common.{◌≡◌, ◌∙◌, sym, ap, refl, ℕ, zero, suc, ◌+◌, ◌<◌, ◌≤◌, List, [], ◌∷◌, ◌++◌, length, take, get_or, map, append_assoc, append-nil, arith}
use Rattle.std.specs.List.{flat_map}
use Rattle.std.proofs.lemmas.List.{take_more, take_all, map-append, length-take-le}
use Rattle.std.proofs.lemmas.Grind.{flat_map-append, take_at_read}
use Rattle.std.specs.Prelude.{decimal, Option, Result, Ok, Err, OnOk}
use Rattle.std.specs.List.{zip, enumerate_from}
use Rattle.text_lines.specs.Texts.{text_of}
use Rattle.sas_task.specs.declared.contents.Fact.{Fact}
use Rattle.sas_task.specs.declared.contents.Effect.{Effect}
use Rattle.task_gen.specs.Printed.{spaced, behind_blanks, number_or_none, fact_words, fact_lines, effect_line, old_value, effect_lines, change_lines}
use Rattle.sas_task.specs.Order.{prevail}

pub text_of-append : (ls ms : List (List ℕ)) → text_of (ls ++ ms) ≡ text_of ls ++ text_of ms
text_of-append [] ms = refl
text_of-append (l ∷ ls) ms = ap (λ t. l ++ 10 ∷ t) (text_of-append ls ms) ∙ sym (append_assoc l (10 ∷ text_of ls) (text_of ms))

pub ruleset growing = (take_at_read, map-append, flat_map-append, text_of-append, append_assoc, append-nil)

-- one after another
pub printed_then : (before : List ℕ) (ls ms : List (List ℕ)) (now after : List ℕ) → now ≡ before ++ text_of ls → after ≡ now ++ text_of ms → after ≡ before ++ text_of (ls ++ ms)
printed_then before ls ms now after first second =
    second ∙ ap (λ t. t ++ text_of ms) first ∙ append_assoc before (text_of ls) (text_of ms) ∙ ap (λ t. before ++ t) (sym (text_of-append ls ms))

-- what follows where a call succeeded
pub on_ok : {A E : Type 0} (result : Result A E) {P Q : Type 0} → (P → Q) → OnOk result P → OnOk result Q
on_ok (Ok x) follows holds = follows holds
on_ok (Err e) follows holds = tt

-- the lines of one more
pub grown : {X : Type 0} (lines : X → List (List ℕ)) (xs : List X) (i : ℕ) (x : X) (before now after : List ℕ) → i < length xs → x ≡ get_or xs i x →
    now ≡ before ++ text_of (flat_map lines (take i xs)) → after ≡ now ++ text_of (lines x) → after ≡ before ++ text_of (flat_map lines (take (i + 1) xs))
grown lines xs i x before now after lt at so more =
    let one : take (i + 1) xs ≡ take i xs ++ x ∷ [] = take_more xs i x lt ∙ ap (λ y. take i xs ++ y ∷ []) (sym at) in
    let split : flat_map lines (take (i + 1) xs) ≡ flat_map lines (take i xs) ++ lines x =
    ap (flat_map lines) one ∙ flat_map-append lines (take i xs) (x ∷ []) ∙ ap (λ ls. flat_map lines (take i xs) ++ ls) (append-nil (lines x)) in
    more ∙ ap (λ t. t ++ text_of (lines x)) so ∙ append_assoc before (text_of (flat_map lines (take i xs))) (text_of (lines x))
    ∙ ap (λ t. before ++ t) (sym (text_of-append (flat_map lines (take i xs)) (lines x)) ∙ ap text_of (sym split))

-- one more line
pub line_grown : {X : Type 0} (line : X → List ℕ) (xs : List X) (i : ℕ) (x : X) (before now after : List ℕ) → i < length xs → x ≡ get_or xs i x →
    now ≡ before ++ text_of (map line (take i xs)) → after ≡ now ++ text_of (line x ∷ []) → after ≡ before ++ text_of (map line (take (i + 1) xs))
line_grown line xs i x before now after lt at so more =
    let one : take (i + 1) xs ≡ take i xs ++ x ∷ [] = take_more xs i x lt ∙ ap (λ y. take i xs ++ y ∷ []) (sym at) in
    let split : map line (take (i + 1) xs) ≡ map line (take i xs) ++ line x ∷ [] = ap (map line) one ∙ map-append line (take i xs) (x ∷ []) in
    more ∙ ap (λ t. t ++ text_of (line x ∷ [])) so ∙ append_assoc before (text_of (map line (take i xs))) (text_of (line x ∷ []))
    ∙ ap (λ t. before ++ t) (sym (text_of-append (map line (take i xs)) (line x ∷ [])) ∙ ap text_of (sym split))

-- lines of words

spaced_is : (w : List ℕ) (ws : List (List ℕ)) → spaced (w ∷ ws) ≡ w ++ behind_blanks ws
spaced_is w [] = sym (append-nil w)
spaced_is w (v ∷ ws) = ap (λ t. w ++ 32 ∷ t) (spaced_is v ws)

pub fact_line_is : (f : Fact) → spaced (fact_words f) ≡ decimal f.var ++ 32 ∷ decimal f.val
fact_line_is f = refl

pub effect_line_is : (old : Option ℕ) (e : Effect) → effect_line old e
    ≡ decimal (length e.conds) ++ (behind_blanks (flat_map fact_words e.conds) ++ 32 ∷ (decimal e.fact.var ++ 32 ∷ (number_or_none old ++ 32 ∷ decimal e.fact.val)))
unfolding effect_line
effect_line_is old e =
    spaced_is (decimal (length e.conds)) (flat_map fact_words e.conds ++ decimal e.fact.var ∷ number_or_none old ∷ decimal e.fact.val ∷ [])
    ∙ ap (λ t. decimal (length e.conds) ++ t) (flat_map-append (λ w. 32 ∷ w) (flat_map fact_words e.conds) (decimal e.fact.var ∷ number_or_none old ∷ decimal e.fact.val ∷ [])
    ∙ ap (λ t. behind_blanks (flat_map fact_words e.conds) ++ 32 ∷ (decimal e.fact.var ++ 32 ∷ (number_or_none old ++ 32 ∷ t))) (append-nil (decimal e.fact.val)))

-- effects with their old values
zip-enumerate : (g : ℕ × Effect → Option ℕ) (n : ℕ) (es : List Effect) → map (λ p. effect_line p.0 p.1) (zip (map g (enumerate_from n es)) es) ≡ map (λ e. effect_line (g e) e.1) (enumerate_from n es)
zip-enumerate g n [] = refl
zip-enumerate g n (e ∷ es) = ap (λ ls. effect_line (g (n, e)) e ∷ ls) (zip-enumerate g (n + 1) es)

pub effect_lines_is : (pre : List Fact) (es : List Effect) (olds : List (Option ℕ)) → olds ≡ map (old_value pre es) (enumerate_from 0 es) → map (λ p. effect_line p.0 p.1) (zip olds es) ≡ effect_lines pre es
unfolding effect_lines
effect_lines_is pre es olds is = ap (λ xs. map (λ p. effect_line p.0 p.1) (zip xs es)) is ∙ zip-enumerate (old_value pre es) 0 es

-- one more effect
pub effects_grown : (es : List Effect) (olds : List (Option ℕ)) (i : ℕ) (e d : Effect) (o : Option ℕ) (before now after : List ℕ) → length olds ≡ length es → i < length es → e ≡ get_or es i d →
    now ≡ before ++ text_of (map (λ p. effect_line p.0 p.1) (zip (take i olds) (take i es))) → after ≡ now ++ text_of (effect_line (get_or olds i o) e ∷ []) →
    after ≡ before ++ text_of (map (λ p. effect_line p.0 p.1) (zip (take (i + 1) olds) (take (i + 1) es)))
effects_grown es olds i e d o before now after long lt at so more =
    let old = get_or olds i o in
    let one : take (i + 1) es ≡ take i es ++ e ∷ [] = take_more es i d lt ∙ ap (λ x. take i es ++ x ∷ []) (sym at) in
    let one_old : take (i + 1) olds ≡ take i olds ++ old ∷ [] = take_more olds i o (omega (arith, long)) in
    let same : length (take i olds) ≡ length (take i es) = length-take-le i olds (omega (arith, long)) ∙ sym (length-take-le i es (omega arith)) in
    let pairs : zip (take (i + 1) olds) (take (i + 1) es) ≡ zip (take i olds) (take i es) ++ (old, e) ∷ [] = ap (λ xs. zip xs (take (i + 1) es)) one_old ∙ ap (λ ys. zip (take i olds ++ old ∷ []) ys) one ∙ zip-push (take i olds) (take i es) old e same in
    let split : map (λ p. effect_line p.0 p.1) (zip (take (i + 1) olds) (take (i + 1) es)) ≡ map (λ p. effect_line p.0 p.1) (zip (take i olds) (take i es)) ++ effect_line old e ∷ [] =
    ap (map (λ p. effect_line p.0 p.1)) pairs ∙ map-append (λ p. effect_line p.0 p.1) (zip (take i olds) (take i es)) ((old, e) ∷ []) in
    printed_then before (map (λ p. effect_line p.0 p.1) (zip (take i olds) (take i es))) (effect_line old e ∷ []) now after so more ∙ ap (λ ls. before ++ text_of ls) (sym split)
  where
    zip-push : (xs : List (Option ℕ)) (ys : List Effect) (x : Option ℕ) (y : Effect) → length xs ≡ length ys → zip (xs ++ x ∷ []) (ys ++ y ∷ []) ≡ zip xs ys ++ (x, y) ∷ []
    zip-push [] [] x y long = refl
    zip-push [] (v ∷ ys) x y long = absurd (omega (arith, long))
    zip-push (u ∷ xs) [] x y long = absurd (omega (arith, long))
    zip-push (u ∷ xs) (v ∷ ys) x y long = ap (λ ps. (u, v) ∷ ps) (zip-push xs ys x y (omega (arith, long)))

pub zip_all : (es : List Effect) (olds : List (Option ℕ)) (i : ℕ) → length olds ≡ length es → length es ≤ i → zip (take i olds) (take i es) ≡ zip olds es
zip_all es olds i long le = ap (λ xs. zip xs (take i es)) (take_all i olds (omega (arith, long))) ∙ ap (zip olds) (take_all i es le)

pub change_lines_is : (pre : List Fact) (es kept : List Effect) (left : List Fact) (olds : List (Option ℕ)) → left ≡ prevail pre es → olds ≡ map (old_value pre es) (enumerate_from 0 es) → kept ≡ es →
    fact_lines left ++ decimal (length kept) ∷ map (λ p. effect_line p.0 p.1) (zip olds kept) ≡ change_lines pre es
unfolding change_lines
change_lines_is pre es kept left olds prevails stands same =
    ap (λ fs. fact_lines fs ++ decimal (length kept) ∷ map (λ p. effect_line p.0 p.1) (zip olds kept)) prevails
    ∙ ap (λ xs. fact_lines (prevail pre es) ++ decimal (length xs) ∷ map (λ p. effect_line p.0 p.1) (zip olds xs)) same
    ∙ ap (λ ls. fact_lines (prevail pre es) ++ decimal (length es) ∷ ls) (effect_lines_is pre es olds stands)
