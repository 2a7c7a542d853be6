-- A past with nothing left has an exhausted space, and no plan leaves an exhausted space.
use Rattle.std.proofs.Common.{◌≡◌, ℕ, ◌+◌, ◌*◌, ◌-◌, ◌<◌, ◌≤◌, length, Bool, true, false, not, List, [], ◌∷◌, slice_get, Option, Some, None, refl, ap, sym, ◌∙◌, subst, arith, inl, inr, ◌⊎◌}
use Rattle.std.specs.List.{list_any}
use Rattle.std.specs.Prelude.{if◌then◌else◌, option_map, option_and_then, sum_by}
use Rattle.std.proofs.lemmas.List.Sums.{sum_by-cons}
use Rattle.std.proofs.lemmas.Option.{slice_get-map, slice_get_within}
use Rattle.std.proofs.lemmas.Bool.{cases_Bool, cases_lt, and_parts, and_from, and_cases, not-false, false≢true, lt-ltb}
use Rattle.sas_task.specs.declared.contents.CostKind.{CostKind}
use Rattle.sas_task.specs.declared.contents.CostKind.TheVariants.{Normal, One, PlusOne}
use Rattle.sas_task.specs.declared.contents.Parts.{Parts}
use Rattle.sas_task.specs.WellFormed.{IsWellFormed}
use Rattle.sas_task.specs.States.{step}
use Rattle.sas_task.specs.Runs.{IsPlan, start_of, end_of, is_goal, cost_at, cost_of}
use Rattle.relaxed_task.specs.Reached.{IsDead}
use Rattle.relaxed_task.proofs.ReachLaws.{no_operators_reach_the_goal}
use Rattle.search_log.specs.Members.{Member}
use Rattle.search_log.specs.Phases.{IsPhase, lists_of, Phase, adjusted_cost}
use Rattle.lama_num.specs.Bounds.{is_below}
use Rattle.search_log.specs.Places.{past_of, Node, Past, latest, is_goal_node}
use Rattle.search_log.specs.Pending.{pending}
use Rattle.search_log.specs.Lawful.{Lawful, is_full, GoesOn}
use Rattle.search_log.specs.Spaces.{IsSettled, IsIn, IsFound, StaysIn, IsClosed, IsExhausted, node_member, space_of, is_exact}
use Rattle.sas_task.specs.Costs.{is_normal}
use Rattle.search_log.specs.Guided.{TellsDead}
use Rattle.log_laws.proofs.Sound.{Sound}
use Rattle.log_laws.proofs.Elements.{from-map, none-at}
use Rattle.search_log.specs.declared.turns.Pop.{Pop}
use Rattle.search_log.specs.Logs.{Visit}
use Rattle.search_log.specs.Ends.{EndsInGoal, EndsExhausted}
use Rattle.log_laws.proofs.LogLaws.{lawful_sound, pops_in, visits_begun}
use Rattle.log_laws.proofs.CoverLaws.{Covered, lawful_covered}
use Rattle.sas_task.specs.Costs as costs

normal_from : (kind : CostKind) → is_normal kind ≡ true → kind ≡ Normal
normal_from Normal e = refl
normal_from One e = let k : false ≡ true = e in cc
normal_from PlusOne e = let k : false ≡ true = e in cc

-- by the real cost, g is the real cost
pub normal_g : (phase : Phase) (kind : CostKind) (path : List ℕ) → kind ≡ Normal → sum_by (λ op. costs.adjusted_cost phase.parts op kind) path ≡ cost_of phase.parts path
normal_g phase kind path e = ap (λ (k : CostKind). sum_by (λ op. costs.adjusted_cost phase.parts op k) path) e

-- a goal isn't dead
goal_lives : (parts : Parts) (state : List ℕ) → IsWellFormed parts → IsSettled parts state → IsDead parts state → is_goal parts state ≡ false
goal_lives parts state formed is dead = no_operators_reach_the_goal parts state [] state formed is.values dead refl

-- a visit that isn't dead is no goal, where the log goes on
no_goal_at : (phase : Phase) (past : Past) (n : Node) → GoesOn phase past → slice_get past.nodes n.number ≡ Some n → n.visit.seen.dead ≡ false → is_goal phase.parts n.place.state ≡ false
no_goal_at phase past n on at alive = elim (and_cases (not n.visit.seen.dead) (is_goal phase.parts n.place.state) (none-at (is_goal_node phase) past.nodes n.number n on.no_goal at)) [
  | inl d ↦ absurd (false≢true (sym alive ∙ not-false _ d))
  | inr f ↦ f
]

pub closed_space : (phase : Phase) (past : Past) → IsWellFormed phase.parts → Sound phase past → Covered phase past → GoesOn phase past → pending phase past 0 ≡ [] → TellsDead phase past
    → IsClosed phase.parts (space_of past) phase.setting.bound (is_exact phase)
closed_space phase past formed s c on empty dead =
    record {
      start = (
        0,
        slice_get-map node_member (latest past.nodes) 0 ∙ ap (option_map node_member) s.start.1
            ∙ ap Some (let a = s.start.2 in let b = s.start.3 in ap (λ (x : List ℕ). member x s.start.0.place.real) a ∙ ap (member (start_of phase.parts)) b),
      );
      settled = λ m i.
          let from = from-map node_member (latest past.nodes) i.0 m i.1 in
          subst (λ (x : Member). IsSettled phase.parts x.state) from.2 (s.paths from.0.number from.0 (s.visits i.0 from.0 from.1)).settled;
      once = λ i j m n e f same.
          let a = from-map node_member (latest past.nodes) i m e in
          let b = from-map node_member (latest past.nodes) j n f in
          s.once i j a.0 b.0 a.1 b.1 (ap (λ (x : Member). x.state) a.2 ∙ same ∙ sym (ap (λ (x : Member). x.state) b.2));
      no_goal = λ m i.
          let from = from-map node_member (latest past.nodes) i.0 m i.1 in
          subst (λ (x : Member). is_goal phase.parts x.state ≡ false) from.2 (no_goal from.0 (s.visits i.0 from.0 from.1));
      closed = λ m i.
          let from = from-map node_member (latest past.nodes) i.0 m i.1 in
          subst (λ (x : Member). IsDead phase.parts x.state ⊎ StaysIn phase.parts (space_of past) phase.setting.bound (is_exact phase) x) from.2
          (closed from.0 i.0 from.1 (s.visits i.0 from.0 from.1));
    }
  where
    member : List ℕ → ℕ → Member
    member state cost = record { state = state; cost = cost }

    no_goal : (n : Node) → slice_get past.nodes n.number ≡ Some n → is_goal phase.parts n.place.state ≡ false
    no_goal n at = elim (cases_Bool n.visit.seen.dead) [
      | inl d ↦ goal_lives phase.parts n.place.state formed (s.paths n.number n at).settled (dead n.number n at d)
      | inr alive ↦ no_goal_at phase past n on at alive
    ]

    -- the sum is what the state costs at most, where costs are real
    cheaper : (n to : Node) (op : ℕ) → slice_get past.nodes n.number ≡ Some n → slice_get past.nodes to.number ≡ Some to → phase.setting.cost ≡ Normal
        → to.place.g ≤ n.place.g + adjusted_cost phase op → to.place.real ≤ n.place.real + cost_at phase.parts op
    cheaper n to op e f kind le =
        let p = s.paths n.number n e in
        let q = s.paths to.number to f in
        let d : adjusted_cost phase op ≡ cost_at phase.parts op = ap (λ (k : CostKind). costs.adjusted_cost phase.parts op k) kind in
        omega (arith, p.g, p.real, q.g, q.real, normal_g phase phase.setting.cost n.place.path kind, normal_g phase phase.setting.cost to.place.path kind, d, le)

    closed : (n : Node) (i : ℕ) → slice_get (latest past.nodes) i ≡ Some n → slice_get past.nodes n.number ≡ Some n
        → IsDead phase.parts n.place.state ⊎ StaysIn phase.parts (space_of past) phase.setting.bound (is_exact phase) (node_member n)
    closed n i e at = elim (cases_Bool n.visit.seen.dead) [
      | inl d ↦ inl (dead n.number n at d)
      | inr alive ↦ inr (λ op next steps bounded.
          elim (c.each i n e (and_from _ _ (ap not alive) (ap not (no_goal_at phase past n on at alive))) op next steps bounded) [
            | inl p ↦ absurd (let none : ◌≡◌ {A = Option _} None (Some p.item) = sym (ap (λ xs. slice_get xs p.place) empty) ∙ p.at in cc)
            | inr f ↦
                let to_at = s.visits f.id f.to f.at in
                record {
                  member = node_member f.to;
                  is_in = (f.id, slice_get-map node_member (latest past.nodes) f.id ∙ ap (option_map node_member) f.at);
                  state = f.state;
                  cost = λ exact.
                      let parts = and_parts phase.setting.reopen (is_normal phase.setting.cost) exact in
                      elim (f.cost parts.0) [
                        | inl d ↦ inl (dead f.to.number f.to to_at d)
                        | inr le ↦ inr (cheaper n f.to op at to_at (normal_from phase.setting.cost parts.1) le)
                      ];
                }
          ])
    ]

-- from a member of a space that is closed without a bound no operators lead to a goal
member_never : (parts : Parts) (space : List Member) (exact : Bool) → IsWellFormed parts → IsClosed parts space None exact
    → (ops : List ℕ) (m : Member) (last : List ℕ) → IsIn space m → end_of parts m.state ops ≡ Some last → is_goal parts last ≡ false
member_never parts space exact formed e [] m last i run =
    let s : Some m.state ≡ Some last = run in
    let same : m.state ≡ last = cc in
    subst (λ (x : List ℕ). is_goal parts x ≡ false) same (e.no_goal m i)
member_never parts space exact formed e (op ∷ ops) m last i run =
    elim (e.closed m i) [
      | inl dead ↦ no_operators_reach_the_goal parts m.state (op ∷ ops) last formed (e.settled m i).values dead run
      | inr stays ↦
          elim (step parts m.state op) as (λ o. step parts m.state op ≡ o → option_and_then (λ next. end_of parts next ops) o ≡ Some last → is_goal parts last ≡ false) [
            | None ↦ λ taken r. let k : ◌≡◌ {A = Option (List ℕ)} None (Some last) = r in cc
            | Some next ↦ λ taken r.
                let f = stays op next taken refl in
                member_never parts space exact formed e ops f.member last f.is_in (subst (λ (x : List ℕ). end_of parts x ops ≡ Some last) (sym f.state) r)
          ] refl run
    ]

pub no_plan : (parts : Parts) (space : List Member) (exact : Bool) → IsWellFormed parts → IsExhausted parts space None exact → (ops : List ℕ) → IsPlan parts ops → ⊥
no_plan parts space exact formed is ops plan =
    elim is [
      | inr none ↦ (let k : ◌≡◌ {A = Option ℕ} None (Some 0) = none.1 in cc)
      | inl e ↦
          let missed : is_goal parts plan.last ≡ false = member_never parts space exact formed e ops (record { state = start_of parts; cost = 0 }) plan.last e.start plan.leads in
          let clash : false ≡ true = sym missed ∙ plan.goal in
          cc
    ]

-- from a member of an exact space each way to a goal costs so much that the sum isn't below the bound
member_costs : (parts : Parts) (space : List Member) (bound : ℕ) → IsWellFormed parts → IsClosed parts space (Some bound) true
    → (ops : List ℕ) (m : Member) (last : List ℕ) → IsIn space m → end_of parts m.state ops ≡ Some last → is_goal parts last ≡ true → bound ≤ m.cost + cost_of parts ops
member_costs parts space bound formed e [] m last i run goal =
    let s : Some m.state ≡ Some last = run in
    let same : m.state ≡ last = cc in
    absurd (false≢true (sym (e.no_goal m i) ∙ ap (is_goal parts) same ∙ goal))
member_costs parts space bound formed e (op ∷ ops) m last i run goal =
    elim (e.closed m i) [
      | inl dead ↦ absurd (false≢true (sym (no_operators_reach_the_goal parts m.state (op ∷ ops) last formed (e.settled m i).values dead run) ∙ goal))
      | inr stays ↦ elim (cases_lt (m.cost + cost_at parts op) bound) [
        | inr over ↦ omega (arith, over, sum_by-cons (cost_at parts) op ops)
        | inl below ↦
            elim (step parts m.state op) as (λ o. step parts m.state op ≡ o → option_and_then (λ next. end_of parts next ops) o ≡ Some last → bound ≤ m.cost + cost_of parts (op ∷ ops)) [
              | None ↦ λ taken r. let k : ◌≡◌ {A = Option (List ℕ)} None (Some last) = r in cc
              | Some next ↦ λ taken r.
                  let f : IsFound parts space true next (m.cost + cost_at parts op) = stays op next taken (lt-ltb _ _ below) in
                  let on : end_of parts f.member.state ops ≡ Some last = subst (λ (x : List ℕ). end_of parts x ops ≡ Some last) (sym f.state) r in
                  elim (f.cost refl) [
                    | inl dead ↦ absurd (false≢true (sym (no_operators_reach_the_goal parts f.member.state ops last formed (e.settled f.member f.is_in).values dead on) ∙ goal))
                    | inr less ↦ omega (arith, member_costs parts space bound formed e ops f.member last f.is_in on goal, less, sum_by-cons (cost_at parts) op ops)
                  ]
            ] refl run
      ]
    ]

pub no_cheaper_plan : (parts : Parts) (space : List Member) (bound : ℕ) → IsWellFormed parts → IsExhausted parts space (Some bound) true → (ops : List ℕ) → IsPlan parts ops → bound ≤ cost_of parts ops
no_cheaper_plan parts space bound formed is ops plan =
    elim is [
      | inr none ↦ (let k : Some bound ≡ Some 0 = none.1 in let zero : bound ≡ 0 = cc in omega (arith, zero))
      | inl e ↦ omega (arith, member_costs parts space bound formed e ops (record { state = start_of parts; cost = 0 }) plan.last e.start plan.leads plan.goal)
    ]

-- there are one to six lists
pub some_list : (phase : Phase) → IsPhase phase → 0 < lists_of phase
some_list phase is = by_test phase.preferring
  where
    by_test : (b : Bool) → 0 < (if b then 2 * phase.guides else phase.guides)
    by_test true = omega (arith, is.some_guide)
    by_test false = is.some_guide

pub few_lists : (phase : Phase) → IsPhase phase → lists_of phase ≤ 6
few_lists phase is = by_test phase.preferring
  where
    by_test : (b : Bool) → (if b then 2 * phase.guides else phase.guides) ≤ 6
    by_test true = omega (arith, is.few_guides)
    by_test false = omega (arith, is.few_guides)

-- the path of a goal visit at the end
pub goal_plan : (phase : Phase) (visits : List Visit) (pops : List Pop) (n : Node) → IsPhase phase → Lawful phase visits pops → EndsInGoal phase (past_of phase visits pops) n
    → IsPlan phase.parts n.place.path × (n.place.real ≡ cost_of phase.parts n.place.path) × (is_below phase.setting.bound n.place.real ≡ true)
goal_plan phase visits pops n is lawful ends =
    let nodes = (past_of phase visits pops).nodes in
    let last = length nodes - 1 in
    let there = slice_get_within nodes last n ends.last in
    let s = lawful_sound phase visits pops is lawful (visits_begun phase visits pops (omega (arith, there))) in
    let path = s.paths last n ends.last in
    (record { last = n.place.state; leads = path.leads; goal = (and_parts _ _ ends.goal).1 }, path.real, s.below last n ends.last)

-- the space of a log with nothing left
pub lawful_exhausted : (phase : Phase) (visits : List Visit) (pops : List Pop) → IsPhase phase → Lawful phase visits pops → EndsExhausted phase (past_of phase visits pops) → TellsDead phase (past_of phase visits pops)
    → IsExhausted phase.parts (space_of (past_of phase visits pops)) phase.setting.bound (is_exact phase)
lawful_exhausted phase visits pops is lawful ends dead =
    let begun = visits_begun phase visits pops ends.begun in
    inl (closed_space phase (past_of phase visits pops) is.task (lawful_sound phase visits pops is lawful begun)
    (lawful_covered phase visits pops is lawful begun (ap (list_any (λ (p : Pop). is_full p.result)) (sym (pops_in phase visits pops begun)) ∙ ends.goes_on.not_full))
    ends.goes_on (ends.empty 0 (some_list phase is)) dead)
