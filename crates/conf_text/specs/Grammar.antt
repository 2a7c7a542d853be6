-- The grammar of configurations.
use Rattle.std.specs.Prelude.{ℕ, List, [], ◌∷◌, ◌++◌, length, filter, Bool, true, false, not, ◌&&◌, if◌then◌else◌, codes, nat_le, nat_lt, Option, Some, None, is_some, unwrap_or, Result, Ok, Err}
use Rattle.std.specs.List.{list_any}
use Rattle.lama_num.specs.Decimals.{decimal_of}
use Rattle.sas_task.specs.declared.contents.CostKind.{CostKind}
use Rattle.sas_task.specs.declared.contents.CostKind.TheVariants.{Normal, One, PlusOne}
use Rattle.conf_text.specs.Tokens.{Spot, Token, is_word}
use Rattle.conf_text.specs.Rules.{Rule, ◌>>=◌, gives, judged, behind, token, refused, is_text, fixed, another, members}
use Rattle.conf_text.specs.declared.config.Config.{Config}
use Rattle.conf_text.specs.declared.config.GuideKind.{GuideKind}
use Rattle.conf_text.specs.declared.config.GuideKind.TheVariants.{Add, Ff, Lm}
use Rattle.conf_text.specs.declared.config.Phase.{Phase}
use Rattle.conf_text.specs.declared.options.OptionName.{OptionName}
use Rattle.conf_text.specs.declared.options.OptionName.TheVariants.{Preferred, CostType, Estimate, Weight, Reopen, Boost, MostPops, MostStates}
use Rattle.conf_text.specs.declared.options.Options.{Options}
use Rattle.conf_text.specs.declared.faults.ConfBad.{ConfBad}
use Rattle.conf_text.specs.declared.faults.ConfKind.TheVariants.{UnknownGuide, TwiceGuide, NotGuide, UnknownOption, TwiceOption, BadNumber, TooMany, Trailing, Unexpected}

-- limits and defaults

abbrev pub most_phases : ℕ
most_phases = 100

abbrev pub highest_weight : ℕ
highest_weight = 1000

abbrev pub highest_boost : ℕ
highest_boost = 1000000

abbrev pub usual_boost : ℕ
usual_boost = 1000

abbrev pub greatest_pops : ℕ
greatest_pops = 1099511627776

abbrev pub greatest_states : ℕ
greatest_states = 2147483647

-- guides: "[" guide { "," guide } "]", each a name with "()"

abbrev pub same_guide : GuideKind → GuideKind → Bool
same_guide Add Add = true
same_guide Ff Ff = true
same_guide Lm Lm = true
same_guide _ _ = false

abbrev pub has_guide : List GuideKind → GuideKind → Bool
has_guide guides g = list_any (same_guide g) guides

abbrev pub every_guide : List GuideKind
every_guide = Add ∷ Ff ∷ Lm ∷ []

-- the guides of a phase that may be preferred
abbrev pub may_prefer : List GuideKind → List GuideKind
may_prefer guides = filter (λ g. not (same_guide Add g)) guides

abbrev pub guide_of : Token → Option GuideKind
guide_of t = if is_text t (codes "add") then Some Add else (if is_text t (codes "ff") then Some Ff else (if is_text t (codes "lm") then Some Lm else None))

abbrev pub if_allowed : List GuideKind → List GuideKind → Token → Option GuideKind → Result GuideKind ConfBad
if_allowed allowed front t None = refused t UnknownGuide
if_allowed allowed front t (Some g) = if has_guide front g then refused t TwiceGuide else (if has_guide allowed g then Ok g else refused t NotGuide)

-- the name of a guide that is allowed and didn't stand in front
abbrev pub guide_name : List GuideKind → List GuideKind → Token → Result GuideKind ConfBad
guide_name allowed front t = if is_word t.text then if_allowed allowed front t (guide_of t) else refused t Unexpected

-- one more guide
unfoldable pub next_guide : List GuideKind → List GuideKind → Rule (List GuideKind)
next_guide allowed front = do
  g ← token (guide_name allowed front)
  begin ← fixed (codes "(")
  end ← fixed (codes ")")
  gives (front ++ g ∷ [])

-- There are three kinds of guides, so a fourth is refused.
unfoldable pub guides : List GuideKind → Rule (List GuideKind)
guides allowed = do
  begin ← fixed (codes "[")
  members (codes "]") (next_guide allowed) 4 []

-- values

abbrev pub kind : Token → Result CostKind ConfBad
kind t = if is_text t (codes "normal") then Ok Normal else (if is_text t (codes "one") then Ok One else (if is_text t (codes "plusone") then Ok PlusOne else refused t Unexpected))

abbrev pub truth : Token → Result Bool ConfBad
truth t = if is_text t (codes "true") then Ok true else (if is_text t (codes "false") then Ok false else refused t Unexpected)

abbrev pub if_within : ℕ → ℕ → Token → Option ℕ → Result ℕ ConfBad
if_within least most t None = refused t BadNumber
if_within least most t (Some n) = if nat_le least n && nat_le n most then Ok n else refused t BadNumber

-- a number in a range
abbrev pub number : ℕ → ℕ → Token → Result ℕ ConfBad
number least most t = if_within least most t (decimal_of t.text)

-- options: a name, "=" and a value, each at most once in a phase

-- the option of a name; a weight is one of weighted searches alone
abbrev pub option_of : Bool → Token → Option OptionName
option_of weighted t = if is_text t (codes "preferred") then Some Preferred
    else (if is_text t (codes "cost_type") then Some CostType
    else (if is_text t (codes "estimate") then Some Estimate
    else (if is_text t (codes "w") && weighted then Some Weight
    else (if is_text t (codes "reopen_closed") then Some Reopen
    else (if is_text t (codes "boost") then Some Boost
    else (if is_text t (codes "max_pops") then Some MostPops
    else (if is_text t (codes "max_states") then Some MostStates
    else None)))))))

abbrev pub is_given : Options → OptionName → Bool
is_given o Preferred = is_some o.preferred
is_given o CostType = is_some o.cost
is_given o Estimate = is_some o.estimate
is_given o Weight = is_some o.weight
is_given o Reopen = is_some o.reopen
is_given o Boost = is_some o.boost
is_given o MostPops = is_some o.most_pops
is_given o MostStates = is_some o.most_states

abbrev pub if_new : Options → Token → Option OptionName → Result OptionName ConfBad
if_new o t None = refused t UnknownOption
if_new o t (Some name) = if is_given o name then refused t TwiceOption else Ok name

abbrev pub option_name : Bool → Options → Token → Result OptionName ConfBad
option_name weighted o t = if is_word t.text then if_new o t (option_of weighted t) else refused t Unexpected

-- a value that is put with the options
abbrev pub put : {A : Type 0} → Rule A → (A → Options) → Rule Options
put rule set = do
  x ← rule
  gives (set x)

-- the options with the value of one more
abbrev pub value : List GuideKind → Options → OptionName → Rule Options
value phase_guides o Preferred = put (guides (may_prefer phase_guides)) (λ x. record o { preferred = Some x })
value phase_guides o CostType = put (token kind) (λ x. record o { cost = Some x })
value phase_guides o Estimate = put (token kind) (λ x. record o { estimate = Some x })
value phase_guides o Weight = put (token (number 1 highest_weight)) (λ x. record o { weight = Some x })
value phase_guides o Reopen = put (token truth) (λ x. record o { reopen = Some x })
value phase_guides o Boost = put (token (number 0 highest_boost)) (λ x. record o { boost = Some x })
value phase_guides o MostPops = put (token (number 0 greatest_pops)) (λ x. record o { most_pops = Some x })
value phase_guides o MostStates = put (token (number 1 greatest_states)) (λ x. record o { most_states = Some x })

-- one more option
unfoldable pub next_option : Bool → List GuideKind → Options → Rule Options
next_option weighted phase_guides o = do
  name ← token (option_name weighted o)
  equals ← fixed (codes "=")
  value phase_guides o name

abbrev pub no_options : Options
no_options = record { preferred = None; cost = None; estimate = None; weight = None; reopen = None; boost = None; most_pops = None; most_states = None }

-- There are eight options, so a ninth is refused.
unfoldable pub options : Bool → List GuideKind → Rule Options
options weighted phase_guides = do
  more ← another (codes ")")
  if more then members (codes ")") (next_option weighted phase_guides) 9 no_options else gives no_options

-- phases: a word, and "(" guides { "," option } ")"

-- options that aren't given have their defaults
abbrev pub phase_of : Bool → List GuideKind → Options → Phase
phase_of weighted phase_guides o = record {
  guides = phase_guides;
  preferred = unwrap_or o.preferred [];
  cost = unwrap_or o.cost Normal;
  estimate = unwrap_or o.estimate Normal;
  weight = if weighted then Some (unwrap_or o.weight 1) else None;
  reopen = unwrap_or o.reopen weighted;
  boost = unwrap_or o.boost usual_boost;
  most_pops = unwrap_or o.most_pops greatest_pops;
  most_states = unwrap_or o.most_states greatest_states;
}

-- whether the search of a phase is weighted
abbrev pub is_weighted : Token → Result Bool ConfBad
is_weighted t = if is_text t (codes "lazy_greedy") then Ok false else (if is_text t (codes "lazy_wastar") then Ok true else refused t Unexpected)

-- a phase behind its word
unfoldable pub phase : Bool → Rule Phase
phase weighted = do
  begin ← fixed (codes "(")
  phase_guides ← guides every_guide
  o ← options weighted phase_guides
  gives (phase_of weighted phase_guides o)

abbrev pub if_room : List Phase → Token → Result Bool ConfBad → Result Bool ConfBad
if_room front t (Err bad) = Err bad
if_room front t (Ok weighted) = if nat_lt (length front) most_phases then Ok weighted else refused t TooMany

-- one more phase
unfoldable pub next_phase : List Phase → Rule (List Phase)
next_phase front = do
  weighted ← token (λ t. if_room front t (is_weighted t))
  p ← phase weighted
  gives (front ++ p ∷ [])

-- configurations: a phase, or "iterated" "(" "[" phase { "," phase } "]" [ "," "repeat_last" "=" truth ] ")"

abbrev pub repeat_value : Rule Bool
repeat_value = do
  name ← fixed (codes "repeat_last")
  equals ← fixed (codes "=")
  repeat ← token truth
  end ← fixed (codes ")")
  gives repeat

unfoldable pub repeat_last : Rule Bool
repeat_last = do
  more ← another (codes ")")
  if more then repeat_value else gives false

unfoldable pub iterated : Rule Config
iterated = do
  begin ← fixed (codes "(")
  list ← fixed (codes "[")
  phases ← members (codes "]") next_phase 101 []
  repeat ← repeat_last
  gives (record { iterated = true; phases = phases; repeat_last = repeat })

unfoldable pub single : Bool → Rule Config
single weighted = do
  p ← phase weighted
  gives (record { iterated = false; phases = p ∷ []; repeat_last = false })

abbrev pub config_by : Token → Rule Config
config_by t = if is_text t (codes "iterated") then iterated else (judged (is_weighted t) >>= single)

unfoldable pub config : Rule Config
config = behind config_by

abbrev pub end_of_text : Token → Result (Unit {0}) ConfBad
end_of_text t = if is_text t [] then Ok tt else refused t Trailing

-- a configuration, and nothing behind it
unfoldable pub whole : Rule Config
whole = do
  c ← config
  end ← token end_of_text
  gives c

abbrev pub value_of : {A : Type 0} → Result (A × Spot) ConfBad → Result A ConfBad
value_of (Ok r) = Ok r.0
value_of (Err bad) = Err bad

-- the configuration that a text is, or the first token that can't stand where it stands
unfoldable pub config_of : List ℕ → Result Config ConfBad
config_of text = value_of (whole (record { place = 0; left = text }))
