-- A pop by which a lawful log goes on.
use Rattle.std.proofs.Common.{◌≡◌, ℕ, ◌-◌, ◌^◌, ◌<◌, Bool, false, List, [], ◌∷◌, ◌++◌, map, length, slice_get, Option, Some, None, refl, ap, sym, ◌∙◌, subst, arith, inl, inr, IfSome}
use Rattle.std.specs.Prelude.{option_map, option_and_then, ◌+ℤ◌, pos, ℤ}
use Rattle.std.proofs.lemmas.Int.{ints}
use Rattle.std.proofs.lemmas.List.{length-append}
use Rattle.std.proofs.lemmas.List.Folds.{list_any-append}
use Rattle.std.proofs.lemmas.Bool.{cases_eq, or_from}
use Rattle.std.proofs.lemmas.Option.{slice_get_within}
use Rattle.open_lists.specs.declared.lists.OpenLists.{OpenLists}
use Rattle.open_lists.specs.declared.entry.Popped.{Popped}
use Rattle.open_lists.specs.Items.{popped_item}
use Rattle.open_lists.specs.Lists.{Pops, Holds, counter as counter_now}
use Rattle.search_log.specs.declared.turns.Pop.{Pop}
use Rattle.search_log.specs.declared.turns.PopResult.{PopResult}
use Rattle.search_log.specs.declared.turns.PopResult.TheVariants.{Full, Known}
use Rattle.guide.specs.declared.seen.Seen.{Seen}
use Rattle.search_log.specs.Logs.{Visit, Content}
use Rattle.search_log.specs.Phases.{Phase, IsPhase, lists_of}
use Rattle.search_log.specs.Places.{Node, Past, latest, id_of, place_after, place_by, past_of, reached, makes_visit}
use Rattle.search_log.specs.Pending.{pending, counter}
use Rattle.search_log.specs.Lawful.{Logged, IsNext, GoesOn, result_of, is_full}
use Rattle.search_log.specs.Ends.{EndsFull}
use Rattle.search_log.specs.Clocks.{is_final}
use Rattle.log_laws.proofs.Sound.{Numbered}
use Rattle.lama_num.proofs.ListLaws.{slice_get-append_last as slice_get-push_at}
use Rattle.log_laws.proofs.PendingLaws.{pending-popped, pending-other}
use Rattle.search_log.specs.Counters.{LeastStand}
use Rattle.log_laws.proofs.CounterLaws.{counter-pop_same, counter-pop_other}
use Rattle.log_laws.proofs.TurnLaws.{past_with, extend_bare}
use Rattle.log_laws.proofs.LogLaws.{logged_bare}
use Rattle.log_laws.proofs.SpaceLaws.{few_lists}
use Rattle.std.specs.Prelude.{Vec}
use Rattle.std.specs.declared.alloc.Global.{Global}
use Rattle.lazy_search.specs.declared.rows.LatestVisit.{LatestVisit}
use Rattle.lazy_search.specs.declared.paths.Origin.{Origin}
use Rattle.lazy_search.specs.declared.states.States.{States}
use Rattle.lazy_search.specs.States.{AreFor}
use Rattle.lazy_search.specs.declared.machine.Machine.{Machine}
use Rattle.lazy_search.specs.declared.steps.Reached.{Reached}
use Rattle.lazy_search.specs.Outcomes.{pop_by, PopsOne}
use Rattle.lazy_search.specs.declared.steps.Decision.TheVariants as decision
use Rattle.lazy_search.specs.declared.steps.Turned.TheVariants.{Empty, Done, AtFull}
use Rattle.lazy_search.specs.Machines.{past_in, packed_at, OriginsStand, ListsStand, Rests, GoesFrom, place_there, Reaches, Arrives, IsGuided, AfterTurn}
use Rattle.lazy_search.proofs.TakenEntries.{sound_of}

-- where a pop of an entry leads
pub goes_reached : (phase : Phase) (past : Past) (popped : Popped) (outcome : PopResult) (g : GoesFrom phase past popped.entry) → reached phase past (pop_by popped outcome) ≡ Some (place_there phase past popped.entry g)
goes_reached phase past popped outcome g =
    ap (λ (o : Option Node). option_and_then (λ (from : Node). place_after phase from.place popped.entry.op) (option_and_then (λ (parent : Node). slice_get (latest past.nodes) parent.visit.id) o)) g.at
    ∙ ap (λ (o : Option Node). option_and_then (λ (from : Node). place_after phase from.place popped.entry.op) o) g.at_from
    ∙ ap (option_map (place_by phase g.from.place popped.entry.op)) g.steps

-- a lawful log may go on by it
pub next_turn : (phase : Phase) (m : Machine) (words : List (List ℕ)) (past : Past) (r : Reached) (outcome : PopResult) (made : Option Visit) (R : Reaches phase m words past r) → GoesOn phase past → length past.pops < phase.setting.most_pops
    → outcome ≡ result_of phase past (place_there phase past r.popped.entry R.goes) made
    → IfSome made (λ v. v.id ≡ id_of past.nodes (place_there phase past r.popped.entry R.goes).state) → IfSome made (λ v. v.g ≡ (place_there phase past r.popped.entry R.goes).g)
    → IsNext phase past (record { pop = pop_by r.popped outcome; made = made })
next_turn phase m words past r outcome made R on allowed result id g =
    let k = r.popped.list in
    let lt : k < lists_of phase = omega (arith, R.pops.exists, R.stood.count) in
    let t = R.pops.taken (pending phase past k) (R.stood.holds k lt) in
    let own = R.stood.counters k lt in
    record {
      goes_on = on;
      allowed = allowed;
      list = record {
        exists = lt;
        filled = (let w = slice_get_within (pending phase past k) t.0 (popped_item r.popped) t.1.here in omega (arith, w));
        least = λ j l f.
            let p = R.pops.least j (pending phase past j) (R.stood.holds j l) (λ e. let n = ap length e in omega (arith, n, f)) in
            omega (arith, ints, own, R.stood.counters j l, p);
        lowest = λ j l f.
            let p = R.pops.lowest j (pending phase past j) l (R.stood.holds j (omega (arith, l, lt))) (λ e. let n = ap length e in omega (arith, n, f)) in
            let other = R.stood.counters j (omega (arith, l, lt)) in
            omega (arith, ints, own, other, p);
      };
      place = t.0;
      item = popped_item r.popped;
      oldest = t.1;
      entry = refl;
      to = place_there phase past r.popped.entry R.goes;
      leads = goes_reached phase past r.popped outcome R.goes;
      result = result;
      id = id;
      g = g;
    }

-- the number of its list is small
pub list_small : (phase : Phase) (m : Machine) (words : List (List ℕ)) (past : Past) (r : Reached) (pop : Pop) (outcome : PopResult) → IsPhase phase → Reaches phase m words past r → pop ≡ pop_by r.popped outcome → pop.list < 2 ^ 8
list_small phase m words past r pop outcome is R same = omega (arith, ap (λ (p : Pop). p.list) same, R.pops.exists, R.stood.count, few_lists phase is)

-- the lists after it
pub lists_popped : (phase : Phase) (lists new : OpenLists) (nodes : List Node) (pops : List Pop) (popped : Popped) (outcome : PopResult) → Numbered 0 nodes → ListsStand phase lists (past_with nodes pops) → Pops lists popped new
    → ListsStand phase new (past_with nodes (pops ++ pop_by popped outcome ∷ []))
lists_popped phase lists new nodes pops popped outcome num s p =
    let lt : popped.list < lists_of phase = omega (arith, p.exists, s.count) in
    let t = p.taken (pending phase (past_with nodes pops) popped.list) (s.holds popped.list lt) in
    let pop = pop_by popped outcome in
    record {
      count = p.shape.count ∙ s.count;
      sorts = λ k l. p.shape.sorts k ∙ s.sorts k l;
      boost = p.shape.boost ∙ s.boost;
      holds = λ k l. elim (cases_eq k popped.list) [
        | inl same ↦
            let own : Holds new popped.list (pending phase (past_with nodes (pops ++ pop ∷ [])) popped.list) =
            subst (Holds new popped.list) (sym (pending-popped phase nodes pops pop t.0 (popped_item popped) num t.1.here refl)) t.2 in
            subst (λ (j : ℕ). Holds new j (pending phase (past_with nodes (pops ++ pop ∷ [])) j)) (sym same) own
        | inr other ↦ subst (Holds new k) (sym (pending-other phase nodes pops pop k other)) (p.others k other (pending phase (past_with nodes pops) k) (s.holds k l))
      ];
      counters = λ k l. elim (cases_eq k popped.list) [
        | inl same ↦
            let own : counter_now new popped.list ≡ counter phase (past_with nodes (pops ++ pop ∷ [])) popped.list =
            p.counted ∙ ap (λ (z : ℤ). z +ℤ pos 1) (s.counters popped.list lt) ∙ sym (counter-pop_same phase nodes pops pop) in
            subst (λ (j : ℕ). counter_now new j ≡ counter phase (past_with nodes (pops ++ pop ∷ [])) j) (sym same) own
        | inr other ↦ p.other_counters k other ∙ s.counters k l ∙ sym (counter-pop_other phase nodes pops pop k other)
      ];
    }

-- A pop that makes no visit.
pub record Stays (m new : Machine) (pop : Pop) : Type 0 where
  pub visits : new.log.visits ≡ m.log.visits
  pub pops : new.log.pops ≡ m.log.pops ++ pop ∷ []
  pub states : new.states ≡ m.states
  pub rows : new.rows ≡ m.rows
  pub origins : new.origins ≡ m.origins
  pub lists : new.lists ≡ m.lists
  pub least : new.least ≡ m.least

abbrev pub past_bare : Past → Reached → PopResult → Past
past_bare past r outcome = past_with past.nodes (past.pops ++ pop_by r.popped outcome ∷ [])

-- the machine rests on the past with that pop
pub rests_bare : (phase : Phase) (m new : Machine) (words : List (List ℕ)) (past : Past) (r : Reached) (outcome : PopResult) → IsPhase phase → (R : Reaches phase m words past r) → GoesOn phase past → length past.pops < phase.setting.most_pops
    → m.states.registry.states ≡ words → makes_visit outcome ≡ false → result_of phase past (place_there phase past r.popped.entry R.goes) None ≡ outcome → Stays m new (pop_by r.popped outcome)
    → Rests phase new (past_bare past r outcome)
rests_bare phase m new words past r outcome is R on allowed same_words bars result st =
    let k = R.kept in
    let pop = pop_by r.popped outcome in
    let sound = sound_of phase m.log.visits m.log.pops past is k.logged in
    let next = next_turn phase m words past r outcome None R on allowed (sym result) tt tt in
    let logged = subst (Logged phase m.log.visits (m.log.pops ++ pop ∷ [])) (extend_bare phase past pop) (logged_bare phase m.log.visits m.log.pops past pop k.logged bars next) in
    let lists = lists_popped phase R.lists m.lists past.nodes past.pops r.popped outcome sound.numbered R.stood R.pops in
    record {
      kept = record {
        logged = subst (λ (vs : List Visit). Logged phase vs new.log.pops (past_bare past r outcome)) (sym st.visits) (subst (λ (ps : List Pop). Logged phase m.log.visits ps (past_bare past r outcome)) (sym st.pops) logged);
        visits = st.visits ∙ k.visits;
        pops = st.pops ∙ ap (λ (ps : List Pop). ps ++ pop ∷ []) k.pops;
        ready = subst (λ (s : States). AreFor s phase.parts) (sym st.states) k.ready;
        most = ap (λ (s : States). s.registry.most) st.states ∙ k.most;
        stored = ap (λ (s : States). s.registry.states) st.states ∙ same_words ∙ k.stored ∙ ap (λ (s : States). map (packed_at s.registry.layout) (latest past.nodes)) (sym st.states);
        rows = ap (λ (rs : Vec LatestVisit Global). rs.items) st.rows ∙ k.rows;
        origins = subst (λ (cs : Vec Origin Global). OriginsStand past.nodes cs.items) (sym st.origins) k.origins;
        least = subst (λ (ls : List ℕ). LeastStand phase ls past.nodes) (sym st.least) k.least;
      };
      lists = subst (λ (ls : OpenLists). ListsStand phase ls (past_bare past r outcome)) (sym st.lists) lists;
    }

-- the guide's answers stay
pub guided_bare : (phase : Phase) (KeptFor : ℕ → List (List ℕ) → Type 0) (Fits : List (List ℕ) → Seen → Type 0) (past : Past) (r : Reached) (outcome : PopResult) → IsGuided phase KeptFor Fits past → IsGuided phase KeptFor Fits (past_bare past r outcome)
guided_bare phase KeptFor Fits past r outcome g = record { keeps = g.keeps; fits = g.fits; dead = g.dead }

-- the log goes on, or ends full
pub goes_on_bare : (phase : Phase) (past : Past) (r : Reached) (outcome : PopResult) → GoesOn phase past → is_full outcome ≡ false → GoesOn phase (past_bare past r outcome)
goes_on_bare phase past r outcome on not_full = record {
  no_goal = on.no_goal;
  not_full = list_any-append (λ (p : Pop). is_full p.result) past.pops (pop_by r.popped outcome ∷ []) ∙ or_from _ _ on.not_full (or_from _ _ not_full refl);
}

pub ends_full : (past : Past) (r : Reached) → EndsFull (past_bare past r Full)
ends_full past r =
    let pop = pop_by r.popped Full in
    let last : length (past.pops ++ pop ∷ []) - 1 ≡ length past.pops = omega (arith, length-append past.pops (pop ∷ [])) in
    record { pop = pop; last = ap (slice_get (past.pops ++ pop ∷ [])) last ∙ slice_get-push_at past.pops pop; full = refl }

-- What is known between turns, of the past that the log tells.
pub rests_told : (phase : Phase) (KeptFor : ℕ → List (List ℕ) → Type 0) (Fits : List (List ℕ) → Seen → Type 0) (m : Machine) → AfterTurn phase KeptFor Fits m Done → Rests phase m (past_in phase m)
rests_told phase KeptFor Fits m a = subst (Rests phase m) (sym a.rests.kept.logged.past_is) a.rests

pub past_told : (phase : Phase) (KeptFor : ℕ → List (List ℕ) → Type 0) (Fits : List (List ℕ) → Seen → Type 0) (m new : Machine) → (a : AfterTurn phase KeptFor Fits m Done) → new.log ≡ m.log → a.past ≡ past_in phase new
past_told phase KeptFor Fits m new a same = sym (ap (λ (l : Content). past_of phase l.visits l.pops) same ∙ a.rests.kept.logged.past_is)

pub on_told : (phase : Phase) (KeptFor : ℕ → List (List ℕ) → Type 0) (Fits : List (List ℕ) → Seen → Type 0) (m new : Machine) → AfterTurn phase KeptFor Fits m Done → new.log ≡ m.log → GoesOn phase (past_in phase new)
on_told phase KeptFor Fits m new a same = subst (GoesOn phase) (past_told phase KeptFor Fits m new a same) a.ends

pub guided_told : (phase : Phase) (KeptFor : ℕ → List (List ℕ) → Type 0) (Fits : List (List ℕ) → Seen → Type 0) (m new : Machine) → AfterTurn phase KeptFor Fits m Done → new.log ≡ m.log → IsGuided phase KeptFor Fits (past_in phase new)
guided_told phase KeptFor Fits m new a same = subst (IsGuided phase KeptFor Fits) (past_told phase KeptFor Fits m new a same) a.guided

-- no entry was left
pub after_empty : (phase : Phase) (KeptFor : ℕ → List (List ℕ) → Type 0) (Fits : List (List ℕ) → Seen → Type 0) (m new : Machine) → IsPhase phase → AfterTurn phase KeptFor Fits m Done → new ≡ m → ((k : ℕ) → k < lists_of phase → pending phase (past_in phase m) k ≡ []) → AfterTurn phase KeptFor Fits new Empty
after_empty phase KeptFor Fits m new is a same empty =
    let rests = rests_told phase KeptFor Fits m a in
    subst (λ (x : Machine). AfterTurn phase KeptFor Fits x Empty) (sym same)
    (record {
      past = past_in phase m;
      rests = rests;
      guided = guided_told phase KeptFor Fits m m a refl;
      ends = record {
        begun = (sound_of phase m.log.visits m.log.pops (past_in phase m) is rests.kept.logged).begun;
        goes_on = on_told phase KeptFor Fits m m a refl;
        empty = empty;
      };
    })

-- an entry led to no visit
pub after_known : (phase : Phase) (KeptFor : ℕ → List (List ℕ) → Type 0) (Fits : List (List ℕ) → Seen → Type 0) (m new : Machine) (past : Past) (r : Reached) → IsPhase phase → Arrives phase m past r decision.Known → GoesOn phase past → IsGuided phase KeptFor Fits past → length m.log.pops < phase.setting.most_pops
    → Stays m new (pop_by r.popped Known) → AfterTurn phase KeptFor Fits new Done
after_known phase KeptFor Fits m new past r is a on guided allowed st = record {
  past = past_bare past r Known;
  rests = rests_bare phase m new a.words past r Known is a.reaches on (omega (arith, allowed, ap length a.reaches.kept.pops)) a.decides.1 refl a.decides.0 st;
  guided = guided_bare phase KeptFor Fits past r Known guided;
  ends = goes_on_bare phase past r Known on refl;
}

pub after_full : (phase : Phase) (KeptFor : ℕ → List (List ℕ) → Type 0) (Fits : List (List ℕ) → Seen → Type 0) (m new : Machine) (past : Past) (r : Reached) → IsPhase phase → Arrives phase m past r decision.Full → GoesOn phase past → IsGuided phase KeptFor Fits past → length m.log.pops < phase.setting.most_pops
    → Stays m new (pop_by r.popped Full) → AfterTurn phase KeptFor Fits new AtFull
after_full phase KeptFor Fits m new past r is a on guided allowed st = record {
  past = past_bare past r Full;
  rests = rests_bare phase m new a.words past r Full is a.reaches on (omega (arith, allowed, ap length a.reaches.kept.pops)) a.decides.1 refl a.decides.0 st;
  guided = guided_bare phase KeptFor Fits past r Full guided;
  ends = ends_full past r;
}

pub pops_one : (old middle new : List Pop) (pop : Pop) (final : Bool) → middle ≡ old → new ≡ middle ++ pop ∷ [] → is_final pop.result ≡ final → PopsOne old new final
pops_one old middle new pop final same is ends = record { pop = pop; is = is ∙ ap (λ (ps : List Pop). ps ++ pop ∷ []) same; ends = ends }
