-- When the clock is asked as a log goes on, and that a phase ends by time exactly where an answer is late.
use Rattle.std.proofs.Common.{◌≡◌, ◌≢◌, ℕ, ◌+◌, ◌/◌, ◌%◌, ◌≤◌, Bool, true, false, not, cond, List, [], ◌∷◌, ◌++◌, length, Option, Some, None, refl, ap, sym, ◌∙◌, subst, arith}
use Rattle.std.specs.Prelude.{◌||◌, is_some, count_by, if◌then◌else◌, IfSome}
use Rattle.std.specs.List.{list_any}
use Rattle.std.specs.Option.{option_to_list}
use Rattle.std.proofs.lemmas.Bool.{or_left, or_from}
use Rattle.std.proofs.lemmas.List.{length-append, append-nil}
use Rattle.std.proofs.lemmas.List.Folds.{list_any-append}
use Rattle.std.proofs.lemmas.List.Sums.{sum_by-cons, sum_by_push}
use Rattle.search_log.specs.declared.setting.Stop.{Stop}
use Rattle.search_log.specs.declared.turns.Pop.{Pop}
use Rattle.search_log.specs.Phases.{Phase}
use Rattle.search_log.specs.Clocks.{is_final, unfinal, times_asked, is_late, AreAnswers}

pub count_few : {X : Type 0} (p : X → Bool) (xs : List X) → count_by p xs ≤ length xs
count_few p [] = omega arith
count_few p (x ∷ xs) = omega (arith, sum_by-cons (λ y. cond (p y) 1 0) x xs, count_few p xs, at_most (p x))
  where
    at_most : (b : Bool) → cond b 1 0 ≤ 1
    at_most true = omega arith
    at_most false = omega arith

-- Pops of which none ends the log, and one more.
unfinal_push : (pops : List Pop) (p : Pop) (b : Bool) → is_final p.result ≡ b → unfinal (pops ++ p ∷ []) ≡ unfinal pops + cond (not b) 1 0
unfinal_push pops p b is = sum_by_push (λ (q : Pop). cond (not (is_final q.result)) 1 0) pops p ∙ ap (λ (f : Bool). unfinal pops + cond (not f) 1 0) is

pub unfinal_more : (pops : List Pop) (p : Pop) → is_final p.result ≡ false → unfinal pops ≡ length pops → unfinal (pops ++ p ∷ []) ≡ length (pops ++ p ∷ [])
unfinal_more pops p on all = omega (arith, unfinal_push pops p false on, all, length-append pops (p ∷ []))

-- how often it is asked after so many pops that don't end the log
abbrev times : Bool → ℕ → ℕ
times stopped n = if stopped then 1 + n / 256 else 0

-- a pop that ends the log, or after which the number of pops is no multiple of 256: the clock isn't asked
pub unasked_final : (phase : Phase) (pops : List Pop) (p : Pop) → is_final p.result ≡ true → times_asked phase (pops ++ p ∷ []) ≡ times_asked phase pops
unasked_final phase pops p ends =
    let same : unfinal (pops ++ p ∷ []) ≡ unfinal pops + 0 = unfinal_push pops p true ends in
    ap (times (is_some phase.setting.stop)) (omega (arith, same))

pub unasked_between : (phase : Phase) (pops : List Pop) (p : Pop) → is_final p.result ≡ false → unfinal pops ≡ length pops → length (pops ++ p ∷ []) % 256 ≢ 0 → times_asked phase (pops ++ p ∷ []) ≡ times_asked phase pops
unasked_between phase pops p on all between = by_stop (is_some phase.setting.stop)
  where
    same : unfinal (pops ++ p ∷ []) / 256 ≡ unfinal pops / 256
    same = omega (arith, unfinal_more pops p on all, all, length-append pops (p ∷ []), between)

    by_stop : (b : Bool) → times b (unfinal (pops ++ p ∷ [])) ≡ times b (unfinal pops)
    by_stop true = ap (λ (n : ℕ). 1 + n) same
    by_stop false = refl

-- else it is asked once more, under a limit
pub asked_again : (phase : Phase) (pops : List Pop) (p : Pop) (stop : Stop) → phase.setting.stop ≡ Some stop → is_final p.result ≡ false → unfinal pops ≡ length pops → length (pops ++ p ∷ []) % 256 ≡ 0
    → times_asked phase (pops ++ p ∷ []) ≡ times_asked phase pops + 1
asked_again phase pops p stop is on all multiple =
    let more : unfinal (pops ++ p ∷ []) / 256 ≡ unfinal pops / 256 + 1 = omega (arith, unfinal_more pops p on all, all, length-append pops (p ∷ []), multiple) in
    ap (λ (o : Option Stop). times (is_some o) (unfinal (pops ++ p ∷ []))) is
    ∙ (let e : 1 + unfinal (pops ++ p ∷ []) / 256 ≡ (1 + unfinal pops / 256) + 1 = omega (arith, more) in e)
    ∙ ap (λ (o : Option Stop). times (is_some o) (unfinal pops) + 1) (sym is)

-- what is said of the answers under a limit
abbrev AreSo : Option Stop → List ℕ → Option ℕ → Type 0
AreSo stop before moment = IfSome stop (λ s. list_any (is_late s) before ≡ false) × IfSome stop (λ s. IfSome moment (λ t. is_late s t ≡ true))

-- Without a limit nothing is asked.
pub unasked : (phase : Phase) (pops : List Pop) → phase.setting.stop ≡ None → AreAnswers phase pops None []
unasked phase pops none =
    let so : AreSo phase.setting.stop [] None = subst (λ (o : Option Stop). AreSo o [] None) (sym none) (tt, tt) in
    record { count = sym (ap (λ (o : Option Stop). times (is_some o) (unfinal pops)) none); before = []; are = refl; early = so.0; late = so.1 }

-- The first answer, before the first visit.
pub first_early : (phase : Phase) (stop : Stop) (t : ℕ) → phase.setting.stop ≡ Some stop → is_late stop t ≡ false → AreAnswers phase [] None (t ∷ [])
first_early phase stop t is early =
    let so : AreSo phase.setting.stop (t ∷ []) None = subst (λ (o : Option Stop). AreSo o (t ∷ []) None) (sym is) (or_from _ _ early refl, tt) in
    record { count = sym (ap (λ (o : Option Stop). times (is_some o) 0) is); before = t ∷ []; are = refl; early = so.0; late = so.1 }

pub first_late : (phase : Phase) (stop : Stop) (t : ℕ) → phase.setting.stop ≡ Some stop → is_late stop t ≡ true → AreAnswers phase [] (Some t) (t ∷ [])
first_late phase stop t is late =
    let so : AreSo phase.setting.stop [] (Some t) = subst (λ (o : Option Stop). AreSo o [] (Some t)) (sym is) (refl, late) in
    record { count = sym (ap (λ (o : Option Stop). times (is_some o) 0) is); before = []; are = refl; early = so.0; late = so.1 }

-- The answers stay where the clock isn't asked, and else there is one more, which is early or late.
pub answers_stay : (phase : Phase) (pops : List Pop) (p : Pop) (answers : List ℕ) → AreAnswers phase pops None answers → times_asked phase (pops ++ p ∷ []) ≡ times_asked phase pops → AreAnswers phase (pops ++ p ∷ []) None answers
answers_stay phase pops p answers a same = record { count = a.count ∙ sym same; before = a.before; are = a.are; early = a.early; late = a.late }

pub one_early : (phase : Phase) (pops : List Pop) (p : Pop) (answers : List ℕ) (stop : Stop) (t : ℕ) → AreAnswers phase pops None answers → phase.setting.stop ≡ Some stop → times_asked phase (pops ++ p ∷ []) ≡ times_asked phase pops + 1
    → is_late stop t ≡ false → AreAnswers phase (pops ++ p ∷ []) None (answers ++ t ∷ [])
one_early phase pops p answers stop t a is more early =
    let old : list_any (is_late stop) a.before ≡ false = subst (λ (o : Option Stop). IfSome o (λ s. list_any (is_late s) a.before ≡ false)) is a.early in
    let new : list_any (is_late stop) (a.before ++ t ∷ []) ≡ false = list_any-append (is_late stop) a.before (t ∷ []) ∙ or_from _ _ old (or_from _ _ early refl) in
    let so : AreSo phase.setting.stop (a.before ++ t ∷ []) None = subst (λ (o : Option Stop). AreSo o (a.before ++ t ∷ []) None) (sym is) (new, tt) in
    record {
      count = omega (arith, length-append answers (t ∷ []), a.count, more);
      before = a.before ++ t ∷ [];
      are = ap (λ (xs : List ℕ). xs ++ t ∷ []) (a.are ∙ append-nil a.before) ∙ sym (append-nil (a.before ++ t ∷ []));
      early = so.0;
      late = so.1;
    }

pub one_late : (phase : Phase) (pops : List Pop) (p : Pop) (answers : List ℕ) (stop : Stop) (t : ℕ) → AreAnswers phase pops None answers → phase.setting.stop ≡ Some stop → times_asked phase (pops ++ p ∷ []) ≡ times_asked phase pops + 1
    → is_late stop t ≡ true → AreAnswers phase (pops ++ p ∷ []) (Some t) (answers ++ t ∷ [])
one_late phase pops p answers stop t a is more late =
    let old : list_any (is_late stop) a.before ≡ false = subst (λ (o : Option Stop). IfSome o (λ s. list_any (is_late s) a.before ≡ false)) is a.early in
    let so : AreSo phase.setting.stop a.before (Some t) = subst (λ (o : Option Stop). AreSo o a.before (Some t)) (sym is) (old, late) in
    record {
      count = omega (arith, length-append answers (t ∷ []), a.count, more);
      before = a.before;
      are = ap (λ (xs : List ℕ). xs ++ t ∷ []) (a.are ∙ append-nil a.before);
      early = so.0;
      late = so.1;
    }

-- A phase ends by time exactly where an answer is late.
pub late_exactly : (phase : Phase) (pops : List Pop) (moment : Option ℕ) (answers : List ℕ) (stop : Stop) → AreAnswers phase pops moment answers → phase.setting.stop ≡ Some stop
    → list_any (is_late stop) answers ≡ is_some moment
late_exactly phase pops moment answers stop a is =
    let so : AreSo (Some stop) a.before moment = subst (λ (o : Option Stop). AreSo o a.before moment) is (a.early, a.late) in
    ap (list_any (is_late stop)) a.are
    ∙ list_any-append (is_late stop) a.before (option_to_list moment)
    ∙ ap (λ (b : Bool). b || list_any (is_late stop) (option_to_list moment)) so.0
    ∙ last moment so.1
  where
    last : (m : Option ℕ) → IfSome m (λ t. is_late stop t ≡ true) → list_any (is_late stop) (option_to_list m) ≡ is_some m
    last None h = refl
    last (Some t) h = or_left _ _ h

pub answers_few : (phase : Phase) (pops : List Pop) (moment : Option ℕ) (answers : List ℕ) → AreAnswers phase pops moment answers → length answers ≤ 1 + length pops / 256
answers_few phase pops moment answers a = omega (arith, a.count, by_stop (is_some phase.setting.stop))
  where
    by_stop : (b : Bool) → times b (unfinal pops) ≤ 1 + length pops / 256
    by_stop true = omega (arith, count_few (λ (p : Pop). not (is_final p.result)) pops)
    by_stop false = omega arith

pub no_answers : (phase : Phase) (pops : List Pop) (moment : Option ℕ) (answers : List ℕ) → AreAnswers phase pops moment answers → phase.setting.stop ≡ None → (answers ≡ []) × (moment ≡ None)
no_answers phase pops moment answers a none = by_moment answers a.before moment (a.count ∙ ap (λ (o : Option Stop). times (is_some o) (unfinal pops)) none) a.are
  where
    by_moment : (xs before : List ℕ) (m : Option ℕ) → length xs ≡ 0 → xs ≡ before ++ option_to_list m → (xs ≡ []) × (m ≡ None)
    by_moment [] before None e is = (refl, refl)
    by_moment [] before (Some t) e is = absurd (omega (arith, ap length is, length-append before (t ∷ [])))
    by_moment (x ∷ xs) before m e is = absurd (omega (arith, e))
