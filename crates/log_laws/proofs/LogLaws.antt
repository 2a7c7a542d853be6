-- A lawful log is sound, and goes on by one lawful turn.
use Rattle.std.proofs.Common.{◌≡◌, ℕ, ◌+◌, ◌<◌, ◌≤◌, Bool, true, false, cond, List, [], ◌∷◌, ◌++◌, map, length, Option, Some, None, refl, ap, sym, ◌∙◌, subst, arith, inl, inr}
use Rattle.std.specs.Prelude.{is_some, IfSome}
use Rattle.std.specs.List.{fold, count_by}
use Rattle.std.proofs.lemmas.List.{append-nil, append_assoc, length-append}
use Rattle.std.proofs.lemmas.List.Sums.{sum_by-cons, sum_by_push, fold-append}
use Rattle.std.proofs.lemmas.Bool.{cases_Bool, lt-ltb}
use Rattle.std.specs.Option.{option_to_list}
use Rattle.search_log.specs.declared.turns.Pop.{Pop}
use Rattle.search_log.specs.Logs.{Visit}
use Rattle.search_log.specs.Phases.{Phase, IsPhase}
use Rattle.lama_num.specs.Bounds.{is_below}
use Rattle.search_log.specs.Places.{Node, Past, Turn, makes_visit, turns, extend, start_past, past_of, made_node}
use Rattle.search_log.specs.Lawful.{Logged, IsNext, Follow, Lawful}
use Rattle.log_laws.proofs.Sound.{Sound}
use Rattle.log_laws.proofs.SoundLaws.{sound_start, sound_made, sound_bare}
use Rattle.log_laws.proofs.TurnLaws.{bare, with_visit}

-- each turn has a visit exactly where its pop makes one
abbrev pub made_by : List Pop → ℕ
made_by pops = count_by (λ (p : Pop). makes_visit p.result) pops

pub made_by-cons : (q : Pop) (qs : List Pop) → made_by (q ∷ qs) ≡ cond (makes_visit q.result) 1 0 + made_by qs
made_by-cons q qs = sum_by-cons (λ (p : Pop). cond (makes_visit p.result) 1 0) q qs

pub turns-cons_made : (q : Pop) (qs : List Pop) (v : Visit) (vs : List Visit) → makes_visit q.result ≡ true → turns (q ∷ qs) (v ∷ vs) ≡ with_visit q v ∷ turns qs vs
turns-cons_made q qs v vs m = rw m refl

pub turns-cons_bare : (q : Pop) (qs : List Pop) (vs : List Visit) → makes_visit q.result ≡ false → turns (q ∷ qs) vs ≡ bare q ∷ turns qs vs
turns-cons_bare q qs [] m = refl
turns-cons_bare q qs (v ∷ vs) m = rw m refl

abbrev pub Matched : List Turn → Type 0
Matched [] = Unit {0}
Matched (t ∷ ts) = (is_some t.made ≡ makes_visit t.pop.result) × Matched ts

pub matched_turns : (pops : List Pop) (vs : List Visit) → length vs ≡ made_by pops → Matched (turns pops vs)
matched_turns [] vs e = tt
matched_turns (p ∷ ps) [] e =
    elim (cases_Bool (makes_visit p.result)) [
      | inr bars ↦ (let c : made_by (p ∷ ps) ≡ 0 + made_by ps = made_by-cons p ps ∙ ap (λ (b : Bool). cond b 1 0 + made_by ps) bars in (sym bars, matched_turns ps [] (omega (arith, e, c))))
      | inl makes ↦ absurd (let c : made_by (p ∷ ps) ≡ 1 + made_by ps = made_by-cons p ps ∙ ap (λ (b : Bool). cond b 1 0 + made_by ps) makes in omega (arith, e, c))
    ]
matched_turns (p ∷ ps) (v ∷ vs) e =
    elim (cases_Bool (makes_visit p.result)) [
      | inr bars ↦
          let c : made_by (p ∷ ps) ≡ 0 + made_by ps = made_by-cons p ps ∙ ap (λ (b : Bool). cond b 1 0 + made_by ps) bars in
          subst Matched (sym (turns-cons_bare p ps (v ∷ vs) bars)) (sym bars, matched_turns ps (v ∷ vs) (omega (arith, e, c)))
      | inl makes ↦
          let c : made_by (p ∷ ps) ≡ 1 + made_by ps = made_by-cons p ps ∙ ap (λ (b : Bool). cond b 1 0 + made_by ps) makes in
          subst Matched (sym (turns-cons_made p ps v vs makes)) (sym makes, matched_turns ps vs (omega (arith, e, c)))
    ]

-- a turn without a visit, or with one
pub by_made : (P : Turn → Type 0) (t : Turn) → is_some t.made ≡ makes_visit t.pop.result → (makes_visit t.pop.result ≡ false → P (bare t.pop)) → ((v : Visit) → t.made ≡ Some v → makes_visit t.pop.result ≡ true → P (with_visit t.pop v)) → P t
by_made P t m none some = go t.made refl
  where
    go : (made : Option Visit) → t.made ≡ made → P t
    go None e = let same : t ≡ bare t.pop = ap (λ (x : Option Visit). let q : Turn = record { pop = t.pop; made = x } in q) e in
        subst P (sym same) (none (sym m ∙ ap is_some e))
    go (Some v) e = let same : t ≡ with_visit t.pop v = ap (λ (x : Option Visit). let q : Turn = record { pop = t.pop; made = x } in q) e in
        subst P (sym same) (some v e (sym m ∙ ap is_some e))

pub sound_turn : (phase : Phase) (past : Past) (t : Turn) → IsPhase phase → Sound phase past → IsNext phase past t → is_some t.made ≡ makes_visit t.pop.result → Sound phase (extend phase past t)
sound_turn phase past t is s n m =
    by_made (λ u. IsNext phase past u → Sound phase (extend phase past u)) t m
    (λ bars next. sound_bare phase past t.pop s next)
    (λ v e makes next. sound_made phase past t.pop v is s next makes) n

sound_turns : (phase : Phase) (past : Past) (ts : List Turn) → IsPhase phase → Sound phase past → Follow phase past ts → Matched ts → Sound phase (fold (extend phase) past ts)
sound_turns phase past [] is s f m = s
sound_turns phase past (t ∷ ts) is s f m = sound_turns phase (extend phase past t) ts is (sound_turn phase past t is s f.0 m.0) f.1 m.1

bound_zero : (bound : Option ℕ) → IfSome bound (λ b. 0 < b) → is_below bound 0 ≡ true
bound_zero None h = refl
bound_zero (Some b) h = lt-ltb 0 b h

pub start_sound : (phase : Phase) (v : Visit) → IsPhase phase → v.id ≡ 0 → Sound phase (start_past phase v)
start_sound phase v is id = sound_start phase v is id (bound_zero phase.setting.bound is.setting.bound)

pub lawful_sound : (phase : Phase) (visits : List Visit) (pops : List Pop) → IsPhase phase → Lawful phase visits pops → 0 < length visits → Sound phase (past_of phase visits pops)
lawful_sound phase [] pops is l begun = absurd (omega (arith, begun))
lawful_sound phase (v ∷ vs) pops is l begun =
    sound_turns phase (start_past phase v) (turns pops vs) is (start_sound phase v is l.0.id) l.1 (matched_turns pops vs l.2)

-- the pops and the visits that a past has are those of the log
pub pops_after : (phase : Phase) (past : Past) (ts : List Turn) → (fold (extend phase) past ts).pops ≡ past.pops ++ map (λ (t : Turn). t.pop) ts
pops_after phase past [] = sym (append-nil past.pops)
pops_after phase past (t ∷ ts) = pops_after phase (extend phase past t) ts ∙ append_assoc past.pops (t.pop ∷ []) (map (λ (u : Turn). u.pop) ts)

pops_of_turns : (pops : List Pop) (vs : List Visit) → map (λ (t : Turn). t.pop) (turns pops vs) ≡ pops
pops_of_turns [] vs = refl
pops_of_turns (p ∷ ps) [] = ap (λ qs. p ∷ qs) (pops_of_turns ps [])
pops_of_turns (p ∷ ps) (v ∷ vs) =
    elim (cases_Bool (makes_visit p.result)) [
      | inl makes ↦ ap (map (λ (t : Turn). t.pop)) (turns-cons_made p ps v vs makes) ∙ ap (λ qs. p ∷ qs) (pops_of_turns ps vs)
      | inr bars ↦ ap (map (λ (t : Turn). t.pop)) (turns-cons_bare p ps (v ∷ vs) bars) ∙ ap (λ qs. p ∷ qs) (pops_of_turns ps (v ∷ vs))
    ]

pub pops_in : (phase : Phase) (visits : List Visit) (pops : List Pop) → 0 < length visits → (past_of phase visits pops).pops ≡ pops
pops_in phase [] pops h = absurd (omega (arith, h))
pops_in phase (v ∷ vs) pops h = pops_after phase (start_past phase v) (turns pops vs) ∙ pops_of_turns pops vs

-- a past with a visit is of a log with one
pub visits_begun : (phase : Phase) (visits : List Visit) (pops : List Pop) → 0 < length (past_of phase visits pops).nodes → 0 < length visits
visits_begun phase [] pops h = h
visits_begun phase (v ∷ vs) pops h = omega arith

turns-push_bare : (pops : List Pop) (visits : List Visit) (p : Pop) → makes_visit p.result ≡ false → turns (pops ++ p ∷ []) visits ≡ turns pops visits ++ bare p ∷ []
turns-push_bare [] visits p m = turns-cons_bare p [] visits m
turns-push_bare (q ∷ qs) [] p m = ap (λ ts. bare q ∷ ts) (turns-push_bare qs [] p m)
turns-push_bare (q ∷ qs) (v ∷ vs) p m =
    elim (cases_Bool (makes_visit q.result)) [
      | inl makes ↦ turns-cons_made q (qs ++ p ∷ []) v vs makes ∙ ap (λ ts. with_visit q v ∷ ts) (turns-push_bare qs vs p m) ∙ ap (λ ts. ts ++ bare p ∷ []) (sym (turns-cons_made q qs v vs makes))
      | inr bars ↦ turns-cons_bare q (qs ++ p ∷ []) (v ∷ vs) bars ∙ ap (λ ts. bare q ∷ ts) (turns-push_bare qs (v ∷ vs) p m) ∙ ap (λ ts. ts ++ bare p ∷ []) (sym (turns-cons_bare q qs (v ∷ vs) bars))
    ]

made_by-push : (pops : List Pop) (p : Pop) → made_by (pops ++ p ∷ []) ≡ made_by pops + cond (makes_visit p.result) 1 0
made_by-push pops p = sum_by_push (λ (q : Pop). cond (makes_visit q.result) 1 0) pops p

made_by-push_made : (pops : List Pop) (p : Pop) → makes_visit p.result ≡ true → made_by (pops ++ p ∷ []) ≡ made_by pops + 1
made_by-push_made pops p m = made_by-push pops p ∙ ap (λ (b : Bool). made_by pops + cond b 1 0) m

made_by-push_bare : (pops : List Pop) (p : Pop) → makes_visit p.result ≡ false → made_by (pops ++ p ∷ []) ≡ made_by pops
made_by-push_bare pops p m = let e : made_by (pops ++ p ∷ []) ≡ made_by pops + 0 = made_by-push pops p ∙ ap (λ (b : Bool). made_by pops + cond b 1 0) m in omega (arith, e)

turns-push_made : (pops : List Pop) (visits : List Visit) (p : Pop) (w : Visit) → length visits ≡ made_by pops → makes_visit p.result ≡ true → turns (pops ++ p ∷ []) (visits ++ w ∷ []) ≡ turns pops visits ++ with_visit p w ∷ []
turns-push_made [] [] p w e m = turns-cons_made p [] w [] m
turns-push_made [] (v ∷ vs) p w e m = absurd (omega (arith, e))
turns-push_made (q ∷ qs) [] p w e m =
    elim (cases_Bool (makes_visit q.result)) [
      | inl makes ↦ absurd (let c : made_by (q ∷ qs) ≡ 1 + made_by qs = made_by-cons q qs ∙ ap (λ (b : Bool). cond b 1 0 + made_by qs) makes in omega (arith, e, c))
      | inr bars ↦
          let c : made_by (q ∷ qs) ≡ 0 + made_by qs = made_by-cons q qs ∙ ap (λ (b : Bool). cond b 1 0 + made_by qs) bars in
          turns-cons_bare q (qs ++ p ∷ []) (w ∷ []) bars ∙ ap (λ ts. bare q ∷ ts) (turns-push_made qs [] p w (omega (arith, e, c)) m)
    ]
turns-push_made (q ∷ qs) (v ∷ vs) p w e m =
    elim (cases_Bool (makes_visit q.result)) [
      | inl makes ↦
          let c : made_by (q ∷ qs) ≡ 1 + made_by qs = made_by-cons q qs ∙ ap (λ (b : Bool). cond b 1 0 + made_by qs) makes in
          turns-cons_made q (qs ++ p ∷ []) v (vs ++ w ∷ []) makes ∙ ap (λ ts. with_visit q v ∷ ts) (turns-push_made qs vs p w (omega (arith, e, c)) m) ∙ ap (λ ts. ts ++ with_visit p w ∷ []) (sym (turns-cons_made q qs v vs makes))
      | inr bars ↦
          let c : made_by (q ∷ qs) ≡ 0 + made_by qs = made_by-cons q qs ∙ ap (λ (b : Bool). cond b 1 0 + made_by qs) bars in
          turns-cons_bare q (qs ++ p ∷ []) (v ∷ vs ++ w ∷ []) bars ∙ ap (λ ts. bare q ∷ ts) (turns-push_made qs (v ∷ vs) p w (omega (arith, e, c)) m) ∙ ap (λ ts. ts ++ with_visit p w ∷ []) (sym (turns-cons_bare q qs (v ∷ vs) bars))
    ]

Follow-push : (phase : Phase) (past : Past) (ts : List Turn) (t : Turn) → Follow phase past ts → IsNext phase (fold (extend phase) past ts) t → Follow phase past (ts ++ t ∷ [])
Follow-push phase past [] t f n = (n, tt)
Follow-push phase past (u ∷ us) t f n = (f.0, Follow-push phase (extend phase past u) us t f.1 n)

pub logged_start : (phase : Phase) (v : Visit) → v.id ≡ 0 → v.g ≡ 0 → Logged phase (v ∷ []) [] (start_past phase v)
logged_start phase v i g = record { lawful = (record { id = i; g = g }, tt, refl); past_is = refl; begun = omega arith }

pub logged_bare : (phase : Phase) (visits : List Visit) (pops : List Pop) (past : Past) (p : Pop) → Logged phase visits pops past
    → makes_visit p.result ≡ false → IsNext phase past (bare p) → Logged phase visits (pops ++ p ∷ []) (extend phase past (bare p))
logged_bare phase [] pops past p l m n = absurd (omega (arith, l.begun))
logged_bare phase (v ∷ vs) pops past p l m n =
    let e = turns-push_bare pops vs p m in
    let at : IsNext phase (past_of phase (v ∷ vs) pops) (bare p) = subst (λ (q : Past). IsNext phase q (bare p)) (sym l.past_is) n in
    record {
      lawful = (
        l.lawful.0,
        subst (Follow phase (start_past phase v)) (sym e) (Follow-push phase (start_past phase v) (turns pops vs) (bare p) l.lawful.1 at),
        l.lawful.2 ∙ sym (made_by-push_bare pops p m),
      );
      past_is = ap (fold (extend phase) (start_past phase v)) e ∙ fold-append (extend phase) (start_past phase v) (turns pops vs) (bare p ∷ []) ∙ ap (λ (q : Past). extend phase q (bare p)) l.past_is;
      begun = l.begun;
    }

pub logged_made : (phase : Phase) (visits : List Visit) (pops : List Pop) (past : Past) (p : Pop) (w : Visit) → Logged phase visits pops past
    → makes_visit p.result ≡ true → IsNext phase past (with_visit p w) → Logged phase (visits ++ w ∷ []) (pops ++ p ∷ []) (extend phase past (with_visit p w))
logged_made phase [] pops past p w l m n = absurd (omega (arith, l.begun))
logged_made phase (v ∷ vs) pops past p w l m n =
    let e = turns-push_made pops vs p w l.lawful.2 m in
    let at : IsNext phase (past_of phase (v ∷ vs) pops) (with_visit p w) = subst (λ (q : Past). IsNext phase q (with_visit p w)) (sym l.past_is) n in
    record {
      lawful = (
        l.lawful.0,
        subst (Follow phase (start_past phase v)) (sym e) (Follow-push phase (start_past phase v) (turns pops vs) (with_visit p w) l.lawful.1 at),
        omega (arith, made_by-push_made pops p m, l.lawful.2, length-append vs (w ∷ [])),
      );
      past_is = ap (fold (extend phase) (start_past phase v)) e ∙ fold-append (extend phase) (start_past phase v) (turns pops vs) (with_visit p w ∷ []) ∙ ap (λ (q : Past). extend phase q (with_visit p w)) l.past_is;
      begun = omega arith;
    }

-- each turn makes at most one visit, and is a pop that is allowed
pub record Numbers (phase : Phase) (past : Past) : Type 0 where
  pub visits : length past.nodes ≤ length past.pops + 1
  pub pops : length past.pops ≤ phase.setting.most_pops

one_more : (o : Option Node) → length (option_to_list o) ≤ 1
one_more None = omega arith
one_more (Some n) = omega arith

numbers_turn : (phase : Phase) (past : Past) (t : Turn) → IsNext phase past t → Numbers phase past → Numbers phase (extend phase past t)
numbers_turn phase past t n c = record {
  visits = omega (arith, c.visits, length-append past.nodes (option_to_list (made_node phase past t)), one_more (made_node phase past t), length-append past.pops (t.pop ∷ []));
  pops = omega (arith, n.allowed, length-append past.pops (t.pop ∷ []));
}

numbers_turns : (phase : Phase) (past : Past) (ts : List Turn) → Follow phase past ts → Numbers phase past → Numbers phase (fold (extend phase) past ts)
numbers_turns phase past [] f c = c
numbers_turns phase past (t ∷ ts) f c = numbers_turns phase (extend phase past t) ts f.1 (numbers_turn phase past t f.0 c)

pub lawful_numbers : (phase : Phase) (visits : List Visit) (pops : List Pop) → Lawful phase visits pops → Numbers phase (past_of phase visits pops)
lawful_numbers phase [] pops l = record { visits = omega arith; pops = omega arith }
lawful_numbers phase (v ∷ vs) pops l = numbers_turns phase (start_past phase v) (turns pops vs) l.1 (record { visits = omega arith; pops = omega arith })
