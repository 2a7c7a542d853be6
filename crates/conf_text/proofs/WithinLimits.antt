-- What is read is a configuration within the limits.
use Rattle.std.proofs.Common.{◌≡◌, refl, ap, subst, ℕ, zero, suc, ◌<◌, ◌≤◌, Bool, true, false, List, [], ◌∷◌, ◌++◌, length, Option, Some, None, Result, Ok, Err, arith, append_assoc, length-append}
use Rattle.std.specs.Prelude.{not, ◌&&◌, if◌then◌else◌, codes, nat_le, nat_lt, All, IfSome, unwrap_or}
use Rattle.std.proofs.lemmas.Bool.{ltb-true, leb-true}
use Rattle.std.proofs.lemmas.List.{append-nil}
use Rattle.std.proofs.lemmas.List.Elements.{All-nil, All-cons, All-append}
use Rattle.lama_num.proofs.ListLaws.{both}
use Rattle.lama_num.specs.Decimals.{decimal_of}
use Rattle.conf_text.specs.Tokens.{Spot, Token, next, is_word}
use Rattle.conf_text.specs.Rules.{Rule, ◌>>=◌, gives, judged, token, bad_at, refused, is_text, fixed, another, member_and_more, members}
use Rattle.conf_text.specs.Accepted.{each_once, IsPhase, IsConfig}
use Rattle.conf_text.specs.Grammar.{has_guide, guide_of, if_allowed, guide_name, next_guide, guides, kind, truth, if_within, number, option_name, put, value, next_option, no_options, options, phase_of, is_weighted, phase, if_room, next_phase, repeat_last, iterated, single, config_by, config, end_of_text, whole, config_of, value_of, usual_boost, every_guide, may_prefer, most_phases, highest_weight, highest_boost, greatest_pops, greatest_states}
use Rattle.conf_text.specs.declared.config.Config.{Config}
use Rattle.conf_text.specs.declared.config.GuideKind.{GuideKind}
use Rattle.conf_text.specs.declared.config.Phase.{Phase}
use Rattle.conf_text.specs.declared.options.OptionName.{OptionName}
use Rattle.conf_text.specs.declared.options.OptionName.TheVariants.{Preferred, CostType, Estimate, Weight, Reopen, Boost, MostPops, MostStates}
use Rattle.conf_text.specs.declared.options.Options.{Options}
use Rattle.conf_text.specs.declared.faults.ConfBad.{ConfBad}
use Rattle.conf_text.specs.declared.faults.ConfKind.TheVariants.{UnknownGuide, TwiceGuide, NotGuide, BadNumber, TooMany, Unexpected}

-- whatever a rule gives has a property
pub record Sound {A : Type 0} (rule : Rule A) (P : A → Type 0) : Type 0 where
  pub holds : (s t : Spot) (x : A) → rule s ≡ Ok (x, t) → P x

-- the value of a result, if it has one
or_else : {A : Type 0} → A → Result (A × Spot) ConfBad → A
or_else x (Ok r) = r.0
or_else x (Err bad) = x

same_value : {A : Type 0} (x y : A) (s t : Spot) → ◌≡◌ {A = Result (A × Spot) ConfBad} (Ok (x, s)) (Ok (y, t)) → x ≡ y
unfolding or_else
same_value x y s t given = ap (or_else x) given

sound_gives : {A : Type 0} (x : A) (P : A → Type 0) → P x → Sound (gives x) P
sound_gives x P is = record { holds = λ s t y given. subst P (same_value x y s t given) is }

refuses : {A : Type 0} (bad : ConfBad) (y : A) (t : Spot) (G : Type 0) → ◌≡◌ {A = Result (A × Spot) ConfBad} (Err bad) (Ok (y, t)) → G
refuses bad y t G given = cc

-- one rule after another
bound : {A B : Type 0} (rule : Rule A) (more : A → Rule B) (P : A → Type 0) (Q : B → Type 0) → Sound rule P → ((x : A) → P x → Sound (more x) Q) →
    (s t : Spot) (y : B) (first : Result (A × Spot) ConfBad) → rule s ≡ first → (rule >>= more) s ≡ Ok (y, t) → Q y
bound rule more P Q sound each s t y (Ok r) is given = (each r.0 (sound.holds s r.1 r.0 is)).holds r.1 t y (rw is at given)
bound rule more P Q sound each s t y (Err bad) is given = refuses bad y t (Q y) (rw is at given)

sound_bind : {A B : Type 0} (rule : Rule A) (more : A → Rule B) (P : A → Type 0) (Q : B → Type 0) → Sound rule P → ((x : A) → P x → Sound (more x) Q) → Sound (rule >>= more) Q
sound_bind rule more P Q sound each = record { holds = λ s t y given. bound rule more P Q sound each s t y (rule s) refl given }

judged_holds : {A : Type 0} (r : Result A ConfBad) (P : A → Type 0) → ((x : A) → r ≡ Ok x → P x) → Sound (judged r) P
judged_holds (Ok x) P each = record { holds = λ s t y given. each y (ap Ok (same_value x y s t given)) }
judged_holds (Err bad) P each = record { holds = λ s t y given. refuses bad y t (P y) given }

sound_token : {A : Type 0} (may : Token → Result A ConfBad) (P : A → Type 0) → ((t : Token) (x : A) → may t ≡ Ok x → P x) → Sound (token may) P
sound_token may P each = record { holds = λ s t x given. (judged_holds (may (next s).0) P (each (next s).0)).holds (next s).1 t x given }

-- a rule of which nothing is said
abbrev Anything : {A : Type 0} → A → Type 0
Anything x = Unit {0}

anything : {A : Type 0} (rule : Rule A) → Sound rule Anything
anything rule = record { holds = λ s t x given. tt }

sound_member : {A : Type 0} (close : List ℕ) (member : A → Rule A) (Q : A → Type 0) (x : A) → Sound (member x) Q → Sound (member_and_more close member x) (λ r. Q r.0)
sound_member close member Q x sound =
    sound_bind (member x) (λ all. another close >>= λ more. gives (all, more)) Q (λ r. Q r.0) sound
    (λ all is. sound_bind (another close) (λ more. gives (all, more)) Anything (λ r. Q r.0) (anything (another close)) (λ more _. sound_gives (all, more) (λ r. Q r.0) is))

sound_if : {A : Type 0} (b : Bool) (first second : Rule A) (P : A → Type 0) → Sound first P → Sound second P → Sound (if b then first else second) P
sound_if true first second P one two = one
sound_if false first second P one two = two

-- lists: what holds behind each member holds behind all
sound_more : {A : Type 0} (close : List ℕ) (member : A → Rule A) (Q : A → Type 0) → ((x : A) → Q x → Sound (member x) Q) → (n : ℕ) (x : A) → Q x → Sound (members close member n x) Q
unfolding members
sound_more close member Q each zero x is = sound_gives x Q is
sound_more close member Q each (suc n) x is =
    sound_bind (member_and_more close member x) (λ r. if r.1 then members close member n r.0 else gives r.0) (λ r. Q r.0) Q
    (sound_member close member Q x (each x is)) (λ r now. sound_if r.1 (members close member n r.0) (gives r.0) Q (sound_more close member Q each n r.0 now) (sound_gives r.0 Q now))

sound_members : {A : Type 0} (close : List ℕ) (member : A → Rule A) (Q : A → Type 0) (n : ℕ) (x : A) → Sound (member x) Q → ((y : A) → Q y → Sound (member y) Q) → Sound (members close member (suc n) x) Q
unfolding members
sound_members close member Q n x first each =
    sound_bind (member_and_more close member x) (λ r. if r.1 then members close member n r.0 else gives r.0) (λ r. Q r.0) Q
    (sound_member close member Q x first) (λ r now. sound_if r.1 (members close member n r.0) (gives r.0) Q (sound_more close member Q each n r.0 now) (sound_gives r.0 Q now))

-- guides

-- a guide that stands neither in front nor in the list is put behind it
once_more : (allowed front gs : List GuideKind) (g : GuideKind) → each_once allowed front gs ≡ true → has_guide (front ++ gs) g ≡ false → has_guide allowed g ≡ true → each_once allowed front (gs ++ g ∷ []) ≡ true
once_more allowed front [] g once new may = let new' : has_guide front g ≡ false = rw append-nil at new in rw (new', may) refl
once_more allowed front (h ∷ hs) g once new may =
    let parts = both (not (has_guide front h) && has_guide allowed h) (each_once allowed (front ++ h ∷ []) hs) once in
    let all : (front ++ h ∷ []) ++ hs ≡ front ++ h ∷ hs = append_assoc front (h ∷ []) hs in
    let new' : has_guide ((front ++ h ∷ []) ++ hs) g ≡ false = rw all new in
    rw (parts.0, once_more allowed (front ++ h ∷ []) hs g parts.1 new' may) refl

-- one guide or more, each once
pub record AreGuides (allowed gs : List GuideKind) : Type 0 where
  pub some : 0 < length gs
  pub once : each_once allowed [] gs ≡ true

-- what the name of a guide tells
pub record IsNew (allowed front : List GuideKind) (g : GuideKind) : Type 0 where
  pub new : has_guide front g ≡ false
  pub may : has_guide allowed g ≡ true

name_of : (allowed front : List GuideKind) (t : Token) (found : Option GuideKind) (g : GuideKind) → if_allowed allowed front t found ≡ Ok g → IsNew allowed front g
name_of allowed front t None g is = let k : Err (bad_at t UnknownGuide) ≡ Ok g = is in cc
name_of allowed front t (Some h) g is = by_tests (has_guide front h) (has_guide allowed h) refl refl is
  where
    by_tests : (twice may : Bool) → has_guide front h ≡ twice → has_guide allowed h ≡ may → (if twice then refused t TwiceGuide else (if may then Ok h else refused t NotGuide)) ≡ Ok g → IsNew allowed front g
    by_tests true may a b found = let k : Err (bad_at t TwiceGuide) ≡ Ok g = found in cc
    by_tests false false a b found = let k : Err (bad_at t NotGuide) ≡ Ok g = found in cc
    by_tests false true a b found = let k : Ok h ≡ Ok g = found in let same : h ≡ g = cc in record { new = rw (← same) a; may = rw (← same) b }

guide_name_new : (allowed front : List GuideKind) (t : Token) (g : GuideKind) → guide_name allowed front t ≡ Ok g → IsNew allowed front g
guide_name_new allowed front t g is = by_test (is_word t.text) is
  where
    by_test : (word : Bool) → (if word then if_allowed allowed front t (guide_of t) else refused t Unexpected) ≡ Ok g → IsNew allowed front g
    by_test true found = name_of allowed front t (guide_of t) g found
    by_test false found = let k : Err (bad_at t Unexpected) ≡ Ok g = found in cc

behind_sign : {A : Type 0} (text : List ℕ) (rule : Rule A) (P : A → Type 0) → Sound rule P → Sound (fixed text >>= λ _. rule) P
behind_sign text rule P sound = sound_bind (fixed text) (λ _. rule) Anything P (anything (fixed text)) (λ x is. sound)

sound_guide : (allowed front : List GuideKind) → each_once allowed [] front ≡ true → Sound (next_guide allowed front) (AreGuides allowed)
unfolding next_guide
sound_guide allowed front once =
    sound_bind (token (guide_name allowed front)) (λ g. fixed (codes "(") >>= λ begin. fixed (codes ")") >>= λ end. gives (front ++ g ∷ [])) (IsNew allowed front) (AreGuides allowed)
    (sound_token (guide_name allowed front) (IsNew allowed front) (guide_name_new allowed front))
    (λ g is. behind_sign (codes "(") (fixed (codes ")") >>= λ end. gives (front ++ g ∷ [])) (AreGuides allowed) (behind_sign (codes ")") (gives (front ++ g ∷ [])) (AreGuides allowed)
    (sound_gives (front ++ g ∷ []) (AreGuides allowed) (record { some = omega (arith, length-append front (g ∷ [])); once = once_more allowed [] front g once is.new is.may }))))

sound_guides : (allowed : List GuideKind) → Sound (guides allowed) (AreGuides allowed)
unfolding guides
sound_guides allowed =
    behind_sign (codes "[") (members (codes "]") (next_guide allowed) 4 []) (AreGuides allowed)
    (sound_members (codes "]") (next_guide allowed) (AreGuides allowed) 3 [] (sound_guide allowed [] refl) (λ front are. sound_guide allowed front are.once))

-- numbers

abbrev Within : ℕ → ℕ → ℕ → Type 0
Within least most n = (least ≤ n) × (n ≤ most)

number_within : (least most : ℕ) (t : Token) (n : ℕ) (found : Option ℕ) → if_within least most t found ≡ Ok n → Within least most n
number_within least most t n None is = let k : Err (bad_at t BadNumber) ≡ Ok n = is in cc
number_within least most t n (Some m) is = by_test (nat_le least m && nat_le m most) refl is
  where
    by_test : (within : Bool) → (nat_le least m && nat_le m most) ≡ within → (if within then Ok m else refused t BadNumber) ≡ Ok n → Within least most n
    by_test false e found = let k : Err (bad_at t BadNumber) ≡ Ok n = found in cc
    by_test true e found =
        let k : Ok m ≡ Ok n = found in let same : m ≡ n = cc in
        let parts = both (nat_le least m) (nat_le m most) e in
        let low : least ≤ m = leb-true _ _ parts.0 in let high : m ≤ most = leb-true _ _ parts.1 in (omega arith, omega arith)

sound_number : (least most : ℕ) → Sound (token (number least most)) (Within least most)
sound_number least most = sound_token (number least most) (Within least most) (λ t n is. number_within least most t n (decimal_of t.text) is)

-- options

-- what the options of a phase with these guides may be
pub record AreWithin (phase_guides : List GuideKind) (o : Options) : Type 0 where
  pub preferred : IfSome o.preferred (λ gs. each_once (may_prefer phase_guides) [] gs ≡ true)
  pub weight : IfSome o.weight (Within 1 highest_weight)
  pub boost : IfSome o.boost (λ n. n ≤ highest_boost)
  pub most_pops : IfSome o.most_pops (λ n. n ≤ greatest_pops)
  pub most_states : IfSome o.most_states (Within 1 greatest_states)

sound_put : {A : Type 0} (rule : Rule A) (set : A → Options) (P : A → Type 0) (Q : Options → Type 0) → Sound rule P → ((x : A) → P x → Q (set x)) → Sound (put rule set) Q
sound_put rule set P Q sound each = sound_bind rule (λ x. gives (set x)) P Q sound (λ x is. sound_gives (set x) Q (each x is))

sound_value : (phase_guides : List GuideKind) (o : Options) (name : OptionName) → AreWithin phase_guides o → Sound (value phase_guides o name) (AreWithin phase_guides)
sound_value phase_guides o Preferred are = sound_put (guides (may_prefer phase_guides)) (λ x. record o { preferred = Some x }) (AreGuides (may_prefer phase_guides)) (AreWithin phase_guides) (sound_guides (may_prefer phase_guides))
    (λ x is. record { preferred = is.once; weight = are.weight; boost = are.boost; most_pops = are.most_pops; most_states = are.most_states })
sound_value phase_guides o CostType are = sound_put (token kind) (λ x. record o { cost = Some x }) Anything (AreWithin phase_guides) (anything (token kind))
    (λ x is. record { preferred = are.preferred; weight = are.weight; boost = are.boost; most_pops = are.most_pops; most_states = are.most_states })
sound_value phase_guides o Estimate are = sound_put (token kind) (λ x. record o { estimate = Some x }) Anything (AreWithin phase_guides) (anything (token kind))
    (λ x is. record { preferred = are.preferred; weight = are.weight; boost = are.boost; most_pops = are.most_pops; most_states = are.most_states })
sound_value phase_guides o Weight are = sound_put (token (number 1 highest_weight)) (λ x. record o { weight = Some x }) (Within 1 highest_weight) (AreWithin phase_guides) (sound_number 1 highest_weight)
    (λ x is. record { preferred = are.preferred; weight = is; boost = are.boost; most_pops = are.most_pops; most_states = are.most_states })
sound_value phase_guides o Reopen are = sound_put (token truth) (λ x. record o { reopen = Some x }) Anything (AreWithin phase_guides) (anything (token truth))
    (λ x is. record { preferred = are.preferred; weight = are.weight; boost = are.boost; most_pops = are.most_pops; most_states = are.most_states })
sound_value phase_guides o Boost are = sound_put (token (number 0 highest_boost)) (λ x. record o { boost = Some x }) (Within 0 highest_boost) (AreWithin phase_guides) (sound_number 0 highest_boost)
    (λ x is. record { preferred = are.preferred; weight = are.weight; boost = is.1; most_pops = are.most_pops; most_states = are.most_states })
sound_value phase_guides o MostPops are = sound_put (token (number 0 greatest_pops)) (λ x. record o { most_pops = Some x }) (Within 0 greatest_pops) (AreWithin phase_guides) (sound_number 0 greatest_pops)
    (λ x is. record { preferred = are.preferred; weight = are.weight; boost = are.boost; most_pops = is.1; most_states = are.most_states })
sound_value phase_guides o MostStates are = sound_put (token (number 1 greatest_states)) (λ x. record o { most_states = Some x }) (Within 1 greatest_states) (AreWithin phase_guides) (sound_number 1 greatest_states)
    (λ x is. record { preferred = are.preferred; weight = are.weight; boost = are.boost; most_pops = are.most_pops; most_states = is })

sound_option : (weighted : Bool) (phase_guides : List GuideKind) (o : Options) → AreWithin phase_guides o → Sound (next_option weighted phase_guides o) (AreWithin phase_guides)
unfolding next_option
sound_option weighted phase_guides o are =
    sound_bind (token (option_name weighted o)) (λ name. fixed (codes "=") >>= λ equals. value phase_guides o name) Anything (AreWithin phase_guides) (anything (token (option_name weighted o)))
    (λ name is. behind_sign (codes "=") (value phase_guides o name) (AreWithin phase_guides) (sound_value phase_guides o name are))

none_within : (phase_guides : List GuideKind) → AreWithin phase_guides no_options
none_within phase_guides = record { preferred = tt; weight = tt; boost = tt; most_pops = tt; most_states = tt }

sound_options : (weighted : Bool) (phase_guides : List GuideKind) → Sound (options weighted phase_guides) (AreWithin phase_guides)
unfolding options
sound_options weighted phase_guides =
    sound_bind (another (codes ")")) (λ more. if more then members (codes ")") (next_option weighted phase_guides) 9 no_options else gives no_options) Anything (AreWithin phase_guides) (anything (another (codes ")")))
    (λ more is. sound_if more (members (codes ")") (next_option weighted phase_guides) 9 no_options) (gives no_options) (AreWithin phase_guides)
    (sound_more (codes ")") (next_option weighted phase_guides) (AreWithin phase_guides) (sound_option weighted phase_guides) 9 no_options (none_within phase_guides))
    (sound_gives no_options (AreWithin phase_guides) (none_within phase_guides)))

-- phases

or_default : {A : Type 0} (P : A → Type 0) (o : Option A) (d : A) → IfSome o P → P d → P (unwrap_or o d)
or_default P None d is usual = usual
or_default P (Some x) d is usual = is

weight_within : (weighted : Bool) (o : Option ℕ) → IfSome o (Within 1 highest_weight) → IfSome (if weighted then Some (unwrap_or o 1) else None) (Within 1 highest_weight)
weight_within true o is = or_default (Within 1 highest_weight) o 1 is (omega arith, omega arith)
weight_within false o is = tt

phase_within : (weighted : Bool) (phase_guides : List GuideKind) (o : Options) → AreGuides every_guide phase_guides → AreWithin phase_guides o → IsPhase (phase_of weighted phase_guides o)
phase_within weighted phase_guides o are within = record {
  some = are.some;
  guides = are.once;
  preferred = or_default (λ gs. each_once (may_prefer phase_guides) [] gs ≡ true) o.preferred [] within.preferred refl;
  weight = weight_within weighted o.weight within.weight;
  boost = or_default (λ n. n ≤ highest_boost) o.boost usual_boost within.boost (omega arith);
  most_pops = or_default (λ n. n ≤ greatest_pops) o.most_pops greatest_pops within.most_pops (omega arith);
  most_states = or_default (Within 1 greatest_states) o.most_states greatest_states within.most_states (omega arith, omega arith);
}

sound_phase : (weighted : Bool) → Sound (phase weighted) IsPhase
unfolding phase
sound_phase weighted =
    behind_sign (codes "(") (guides every_guide >>= λ phase_guides. options weighted phase_guides >>= λ o. gives (phase_of weighted phase_guides o)) IsPhase
    (sound_bind (guides every_guide) (λ phase_guides. options weighted phase_guides >>= λ o. gives (phase_of weighted phase_guides o)) (AreGuides every_guide) IsPhase (sound_guides every_guide)
    (λ phase_guides are. sound_bind (options weighted phase_guides) (λ o. gives (phase_of weighted phase_guides o)) (AreWithin phase_guides) IsPhase (sound_options weighted phase_guides)
    (λ o within. sound_gives (phase_of weighted phase_guides o) IsPhase (phase_within weighted phase_guides o are within))))

-- one phase or more, up to the limit
pub record ArePhases (ps : List Phase) : Type 0 where
  pub phases : All IsPhase ps
  pub some : 0 < length ps
  pub few : length ps ≤ most_phases

room_for : (front : List Phase) (t : Token) (word : Result Bool ConfBad) (weighted : Bool) → if_room front t word ≡ Ok weighted → length front < most_phases
room_for front t (Err bad) weighted is = let k : Err bad ≡ Ok weighted = is in cc
room_for front t (Ok w) weighted is = by_test (nat_lt (length front) most_phases) refl is
  where
    by_test : (room : Bool) → nat_lt (length front) most_phases ≡ room → (if room then Ok w else refused t TooMany) ≡ Ok weighted → length front < most_phases
    by_test true e found = ltb-true _ _ e
    by_test false e found = let k : Err (bad_at t TooMany) ≡ Ok weighted = found in cc

one_phase : (p : Phase) → IsPhase p → All IsPhase (p ∷ [])
one_phase p is = All-cons IsPhase p [] is (All-nil IsPhase)

sound_next_phase : (front : List Phase) → All IsPhase front → Sound (next_phase front) ArePhases
unfolding next_phase
sound_next_phase front all =
    sound_bind (token (λ t. if_room front t (is_weighted t))) (λ weighted. phase weighted >>= λ p. gives (front ++ p ∷ [])) (λ weighted. length front < most_phases) ArePhases
    (sound_token (λ t. if_room front t (is_weighted t)) (λ weighted. length front < most_phases) (λ t weighted is. room_for front t (is_weighted t) weighted is))
    (λ weighted room. sound_bind (phase weighted) (λ p. gives (front ++ p ∷ [])) IsPhase ArePhases (sound_phase weighted)
    (λ p is. sound_gives (front ++ p ∷ []) ArePhases (record {
      phases = All-append IsPhase front (p ∷ []) all (one_phase p is);
      some = omega (arith, length-append front (p ∷ []));
      few = omega (arith, length-append front (p ∷ []));
    })))

sound_phases : Sound (members (codes "]") next_phase 101 []) ArePhases
sound_phases = sound_members (codes "]") next_phase ArePhases 100 [] (sound_next_phase [] (All-nil IsPhase)) (λ front are. sound_next_phase front are.phases)

-- configurations

sound_iterated : Sound iterated IsConfig
unfolding iterated
sound_iterated =
    behind_sign (codes "(") (fixed (codes "[") >>= λ list. members (codes "]") next_phase 101 [] >>= λ phases. repeat_last >>= λ repeat. gives (of phases repeat)) IsConfig
    (behind_sign (codes "[") (members (codes "]") next_phase 101 [] >>= λ phases. repeat_last >>= λ repeat. gives (of phases repeat)) IsConfig
    (sound_bind (members (codes "]") next_phase 101 []) (λ phases. repeat_last >>= λ repeat. gives (of phases repeat)) ArePhases IsConfig sound_phases
    (λ phases are. sound_bind repeat_last (λ repeat. gives (of phases repeat)) Anything IsConfig (anything repeat_last)
    (λ repeat is. sound_gives (of phases repeat) IsConfig (record { phases = are.phases; some = are.some; few = are.few; single = λ e. let k : true ≡ false = e in cc })))))
  where
    of : List Phase → Bool → Config
    of phases repeat = record { iterated = true; phases = phases; repeat_last = repeat }

sound_single : (weighted : Bool) → Sound (single weighted) IsConfig
unfolding single
sound_single weighted =
    sound_bind (phase weighted) (λ p. gives (of p)) IsPhase IsConfig (sound_phase weighted)
    (λ p is. sound_gives (of p) IsConfig (record { phases = one_phase p is; some = omega arith; few = omega arith; single = λ e. (refl, refl) }))
  where
    of : Phase → Config
    of p = record { iterated = false; phases = p ∷ []; repeat_last = false }

sound_by : (t : Token) → Sound (config_by t) IsConfig
sound_by t = sound_if (is_text t (codes "iterated")) iterated (judged (is_weighted t) >>= single) IsConfig sound_iterated
    (sound_bind (judged (is_weighted t)) single Anything IsConfig (anything (judged (is_weighted t))) (λ weighted is. sound_single weighted))

sound_config : Sound config IsConfig
unfolding config
sound_config = record { holds = λ s t c given. (sound_by (next s).0).holds (next s).1 t c given }

sound_whole : Sound whole IsConfig
unfolding whole
sound_whole = sound_bind config (λ c. token end_of_text >>= λ end. gives c) IsConfig IsConfig sound_config
    (λ c is. sound_bind (token end_of_text) (λ end. gives c) Anything IsConfig (anything (token end_of_text)) (λ end ended. sound_gives c IsConfig is))

value_holds : (s : Spot) (c : Config) (r : Result (Config × Spot) ConfBad) → whole s ≡ r → value_of r ≡ Ok c → IsConfig c
value_holds s c (Ok r) is given = let same : r.0 ≡ c = cc in subst IsConfig same (sound_whole.holds s r.1 r.0 is)
value_holds s c (Err bad) is given = let k : Err bad ≡ Ok c = given in cc

-- a text that is a configuration is one within the limits
pub accepted : (text : List ℕ) (c : Config) → config_of text ≡ Ok c → IsConfig c
unfolding config_of
accepted text c given = let s : Spot = record { place = 0; left = text } in value_holds s c (whole s) refl given
