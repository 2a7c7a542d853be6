-- The canonical text of a configuration.
use Rattle.std.specs.Prelude.{ℕ, List, [], ◌∷◌, ◌++◌, length, Bool, true, false, not, nat_eq, if◌then◌else◌, codes, decimal, is_some, unwrap_or}
use Rattle.std.specs.List.{flat_map}
use Rattle.sas_task.specs.declared.contents.CostKind.{CostKind}
use Rattle.sas_task.specs.declared.contents.CostKind.TheVariants.{Normal, One, PlusOne}
use Rattle.conf_text.specs.Grammar.{usual_boost, greatest_pops, greatest_states}
use Rattle.conf_text.specs.declared.config.Config.{Config}
use Rattle.conf_text.specs.declared.config.GuideKind.{GuideKind}
use Rattle.conf_text.specs.declared.config.GuideKind.TheVariants.{Add, Ff, Lm}
use Rattle.conf_text.specs.declared.config.Phase.{Phase}
use Rattle.sas_task.specs.Costs.{is_normal}

-- members of a list, each behind a comma
abbrev pub behind_commas : {A : Type 0} → (A → List ℕ) → List A → List ℕ
behind_commas text xs = flat_map (λ x. codes "," ++ text x) xs

-- members with commas between them
abbrev pub with_commas : {A : Type 0} → (A → List ℕ) → List A → List ℕ
with_commas text [] = []
with_commas text (x ∷ xs) = text x ++ behind_commas text xs

abbrev pub guide_text : GuideKind → List ℕ
guide_text Add = codes "add()"
guide_text Ff = codes "ff()"
guide_text Lm = codes "lm()"

abbrev pub guides_text : List GuideKind → List ℕ
guides_text guides = codes "[" ++ (with_commas guide_text guides ++ codes "]")

abbrev pub kind_text : CostKind → List ℕ
kind_text Normal = codes "normal"
kind_text One = codes "one"
kind_text PlusOne = codes "plusone"

abbrev pub truth_text : Bool → List ℕ
truth_text true = codes "true"
truth_text false = codes "false"

abbrev pub same_truth : Bool → Bool → Bool
same_truth true b = b
same_truth false b = not b

-- an option is written where it hasn't its default
abbrev pub option_text : Bool → List ℕ → List ℕ → List ℕ
option_text is_default name value = if is_default then [] else codes "," ++ (name ++ (codes "=" ++ value))

abbrev pub kind_option : List ℕ → CostKind → List ℕ
kind_option name kind = option_text (is_normal kind) name (kind_text kind)

abbrev pub number_option : List ℕ → ℕ → ℕ → List ℕ
number_option name usual number = option_text (nat_eq number usual) name (decimal number)

-- the options of a phase, in the order of the grammar
abbrev pub options_text : Phase → List ℕ
options_text p =
    option_text (nat_eq (length p.preferred) 0) (codes "preferred") (guides_text p.preferred)
    ++ (kind_option (codes "cost_type") p.cost
    ++ (kind_option (codes "estimate") p.estimate
    ++ (number_option (codes "w") 1 (unwrap_or p.weight 1)
    ++ (option_text (same_truth p.reopen (is_some p.weight)) (codes "reopen_closed") (truth_text p.reopen)
    ++ (number_option (codes "boost") usual_boost p.boost
    ++ (number_option (codes "max_pops") greatest_pops p.most_pops
    ++ number_option (codes "max_states") greatest_states p.most_states))))))

abbrev pub search_text : Bool → List ℕ
search_text weighted = if weighted then codes "lazy_wastar" else codes "lazy_greedy"

unfoldable pub phase_text : Phase → List ℕ
phase_text p = search_text (is_some p.weight) ++ (codes "(" ++ (guides_text p.guides ++ (options_text p ++ codes ")")))

abbrev pub phases_text : List Phase → List ℕ
phases_text phases = with_commas phase_text phases

abbrev pub repeat_text : Bool → List ℕ
repeat_text repeat_last = if repeat_last then codes ",repeat_last=true)" else codes ")"

unfoldable pub config_text : Config → List ℕ
config_text c = if c.iterated then codes "iterated([" ++ (phases_text c.phases ++ (codes "]" ++ repeat_text c.repeat_last)) else phases_text c.phases
