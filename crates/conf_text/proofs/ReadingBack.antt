-- What is written is read back.
use Rattle.std.proofs.Common.{◌≡◌, ◌∙◌, refl, sym, ap, subst, ℕ, zero, suc, ◌+◌, ◌<◌, ◌≤◌, ◌^◌, Bool, true, false, List, [], ◌∷◌, ◌++◌, length, Option, Some, None, Ok, arith, append_assoc, length-append, nat_eq}
use Rattle.std.specs.Prelude.{not, ◌&&◌, ◌||◌, if◌then◌else◌, codes, decimal, All, IfSome, is_some, unwrap_or}
use Rattle.std.specs.Char.{is_ascii_digit}
use Rattle.std.specs.List.{list_all}
use Rattle.std.specs.Str.{all_ascii_digits}
use Rattle.std.proofs.lemmas.Bool.{eqb-true, le-leb, lt-ltb}
use Rattle.std.proofs.lemmas.List.{append-nil}
use Rattle.std.proofs.lemmas.List.Folds.{list_any-append}
use Rattle.lama_num.specs.Decimals.{is_decimal}
use Rattle.lama_num.proofs.DecimalLaws.{decimal_of-decimal, decimal_of_some}
use Rattle.lama_num.proofs.ListLaws.{both}
use Rattle.sas_task.specs.declared.contents.CostKind.{CostKind}
use Rattle.sas_task.specs.declared.contents.CostKind.TheVariants.{Normal, One, PlusOne}
use Rattle.conf_text.specs.Tokens.{Spot, is_word_byte, next, after_blanks, token_length}
use Rattle.conf_text.specs.Rules.{Rule, ◌>>=◌, gives, behind, token, only, fixed, another, members}
use Rattle.conf_text.specs.Grammar.{same_guide, has_guide, every_guide, may_prefer, guide_name, next_guide, guides, kind, truth, number, option_name, value, next_option, no_options, options, phase_of, is_weighted, phase, if_room, next_phase, repeat_value, repeat_last, iterated, single, config_by, config, end_of_text, whole, config_of, most_phases, highest_weight, highest_boost, usual_boost, greatest_pops, greatest_states}
use Rattle.conf_text.specs.Accepted.{each_once, IsPhase, IsConfig}
use Rattle.conf_text.specs.Written.{behind_commas, guide_text, guides_text, kind_text, truth_text, same_truth, options_text, search_text, phase_text, phases_text, repeat_text, config_text}
use Rattle.sas_task.specs.Costs.{is_normal}
use Rattle.conf_text.specs.declared.config.Config.{Config}
use Rattle.conf_text.specs.declared.config.GuideKind.{GuideKind}
use Rattle.conf_text.specs.declared.config.GuideKind.TheVariants.{Add, Ff, Lm}
use Rattle.conf_text.specs.declared.config.Phase.{Phase}
use Rattle.conf_text.specs.declared.options.OptionName.{OptionName}
use Rattle.conf_text.specs.declared.options.OptionName.TheVariants.{Preferred, CostType, Estimate, Weight, Reopen, Boost, MostPops, MostStates}
use Rattle.conf_text.specs.declared.options.Options.{Options}
use Rattle.conf_text.proofs.Readings.{spot, token_at, Reads, EndsWord, reads_gives, reads_bind, sign_bind, reads_map, reads_same, IsWord, reads_word, reads_behind, reads_open, reads_close, reads_bracket, reads_equals, closes_round, closes_square, Chain, chain_nil, chain_cons, comma_ends, reads_members}
use Rattle.lama_num.proofs.BoolLaws.{or-false as or_false}
use Rattle.conf_text.proofs.GuideKinds.{few_guides, three_left, begins}

guide_word : (g : GuideKind) → List ℕ
guide_word Add = codes "add"
guide_word Ff = codes "ff"
guide_word Lm = codes "lm"

guide_is_word : (g : GuideKind) → IsWord (guide_word g)
unfolding guide_word
guide_is_word Add = record { all = refl; some = refl }
guide_is_word Ff = record { all = refl; some = refl }
guide_is_word Lm = record { all = refl; some = refl }

guide_named : (allowed front : List GuideKind) (g : GuideKind) (place : ℕ) → has_guide front g ≡ false → has_guide allowed g ≡ true → guide_name allowed front (token_at place (guide_word g)) ≡ Ok g
unfolding guide_word
guide_named allowed front Add place new may = rw (new, may) refl
guide_named allowed front Ff place new may = rw (new, may) refl
guide_named allowed front Lm place new may = rw (new, may) refl

call_is : (g : GuideKind) → guide_word g ++ (codes "(" ++ (codes ")" ++ [])) ≡ guide_text g
unfolding guide_word
call_is Add = refl
call_is Ff = refl
call_is Lm = refl

round_word : (u : List ℕ) → EndsWord (codes "(" ++ u)
round_word u = record { ends = λ rest. refl }

reads_guide : (allowed front : List GuideKind) (g : GuideKind) → has_guide front g ≡ false → has_guide allowed g ≡ true → Reads (next_guide allowed front) (guide_text g) (front ++ g ∷ [])
unfolding next_guide
reads_guide allowed front g new may =
    reads_same (next_guide allowed front) (guide_word g ++ (codes "(" ++ (codes ")" ++ []))) (guide_text g) (front ++ g ∷ []) (call_is g)
    (reads_bind (token (guide_name allowed front)) (λ h. fixed (codes "(") >>= λ begin. fixed (codes ")") >>= λ end. gives (front ++ h ∷ [])) (guide_word g) (codes "(" ++ (codes ")" ++ [])) g (front ++ g ∷ [])
    (reads_word (guide_name allowed front) (guide_word g) g (guide_is_word g) (λ place. guide_named allowed front g place new may)) (round_word (codes ")" ++ []))
    (sign_bind (fixed (codes "(")) (λ begin. fixed (codes ")") >>= λ end. gives (front ++ g ∷ [])) (codes "(") (codes ")" ++ []) tt (front ++ g ∷ []) reads_open
    (sign_bind (fixed (codes ")")) (λ end. gives (front ++ g ∷ [])) (codes ")") [] tt (front ++ g ∷ []) reads_close (reads_gives (front ++ g ∷ [])))))

guides_chain : (allowed front gs : List GuideKind) → each_once allowed front gs ≡ true → Chain (next_guide allowed) guide_text front gs (front ++ gs)
guides_chain allowed front [] once = chain_nil (next_guide allowed) guide_text front (front ++ []) (sym (append-nil front))
guides_chain allowed front (g ∷ gs) once =
    let is = begins allowed front g gs once in
    let all : (front ++ g ∷ []) ++ gs ≡ front ++ g ∷ gs = append_assoc front (g ∷ []) gs in
    chain_cons (next_guide allowed) guide_text front (front ++ g ∷ gs) (front ++ g ∷ []) g gs (reads_guide allowed front g is.new is.may)
    (subst (λ hs. Chain (next_guide allowed) guide_text (front ++ g ∷ []) gs hs) all (guides_chain allowed (front ++ g ∷ []) gs is.more))

-- guides that stand once are read back
reads_guides : (allowed gs : List GuideKind) → 0 < length gs → each_once allowed [] gs ≡ true → Reads (guides allowed) (guides_text gs) gs
unfolding guides
reads_guides allowed [] some once = absurd (omega arith)
reads_guides allowed (g ∷ gs) some once =
    let few = few_guides allowed [] (g ∷ gs) once in
    reads_same (fixed (codes "[") >>= λ begin. members (codes "]") (next_guide allowed) 4 []) (codes "[" ++ (guide_text g ++ (behind_commas guide_text gs ++ codes "]"))) (guides_text (g ∷ gs)) (g ∷ gs)
    (ap (λ (t : List ℕ). codes "[" ++ t) (sym (append_assoc (guide_text g) (behind_commas guide_text gs) (codes "]"))))
    (sign_bind (fixed (codes "[")) (λ begin. members (codes "]") (next_guide allowed) 4 []) (codes "[") (guide_text g ++ (behind_commas guide_text gs ++ codes "]")) tt (g ∷ gs) reads_bracket
    (reads_members (codes "]") (next_guide allowed) guide_text 4 [] (g ∷ gs) g gs closes_square (guides_chain allowed [] (g ∷ gs) once) (omega (arith, few, three_left))))

-- values

reads_kind : (k : CostKind) → Reads (token kind) (kind_text k) k
reads_kind Normal = reads_word kind (codes "normal") Normal (record { all = refl; some = refl }) (λ place. refl)
reads_kind One = reads_word kind (codes "one") One (record { all = refl; some = refl }) (λ place. refl)
reads_kind PlusOne = reads_word kind (codes "plusone") PlusOne (record { all = refl; some = refl }) (λ place. refl)

reads_truth : (b : Bool) → Reads (token truth) (truth_text b) b
reads_truth true = reads_word truth (codes "true") true (record { all = refl; some = refl }) (λ place. refl)
reads_truth false = reads_word truth (codes "false") false (record { all = refl; some = refl }) (λ place. refl)

digit_in_word : (b : ℕ) → is_ascii_digit b ≡ true → is_word_byte b ≡ true
digit_in_word b digit = rw digit refl

digits_in_word : (w : List ℕ) → all_ascii_digits w ≡ true → list_all is_word_byte w ≡ true
digits_in_word [] all = refl
digits_in_word (b ∷ bs) all = let parts = both (is_ascii_digit b) (all_ascii_digits bs) all in rw (digit_in_word b parts.0, digits_in_word bs parts.1) refl

decimal_word : (w : List ℕ) → is_decimal w ≡ true → IsWord w
decimal_word [] digits = let k : false ≡ true = digits in absurd (let e : ⊥ = cc in e)
decimal_word (b ∷ bs) digits = record { all = digits_in_word (b ∷ bs) digits; some = digit_in_word b (both (is_ascii_digit b) (all_ascii_digits bs) digits).0 }

reads_number : (least most n : ℕ) → least ≤ n → n ≤ most → n < 2 ^ 64 → Reads (token (number least most)) (decimal n) n
reads_number least most n low high small =
    let read = decimal_of-decimal n small in
    let some = decimal_of_some (decimal n) n read in
    reads_word (number least most) (decimal n) n (decimal_word (decimal n) some.digits) (λ place. rw (read, le-leb least n low, le-leb n most high) refl)

-- options

abbrev itself : List ℕ → List ℕ
itself t = t

abbrev named : List ℕ → List ℕ → List ℕ
named name v = name ++ (codes "=" ++ v)

equals_word : (u : List ℕ) → EndsWord (codes "=" ++ u)
equals_word u = record { ends = λ rest. refl }

reads_option : (weighted : Bool) (gs : List GuideKind) (o o' : Options) (name : OptionName) (w v : List ℕ) → IsWord w → ((place : ℕ) → option_name weighted o (token_at place w) ≡ Ok name) → Reads (value gs o name) v o' →
    Reads (next_option weighted gs o) (named w v) o'
unfolding next_option
reads_option weighted gs o o' name w v is each reads =
    reads_bind (token (option_name weighted o)) (λ n. fixed (codes "=") >>= λ equals. value gs o n) w (codes "=" ++ v) name o' (reads_word (option_name weighted o) w name is each) (equals_word v)
    (sign_bind (fixed (codes "=")) (λ equals. value gs o name) (codes "=") v tt o' reads_equals reads)

-- an option that is given where it hasn't its default
abbrev unless : {A : Type 0} → Bool → A → Option A
unless is_default x = if is_default then None else Some x

abbrev listed : Bool → List ℕ → List (List ℕ)
listed is_default t = if is_default then [] else t ∷ []

-- one option more of a chain
chain_option : {A : Type 0} (member : Options → Rule Options) (f : Option A → Options) (d : Bool) (x : A) (y : Options) (t : List ℕ) (ts : List (List ℕ)) → (d ≡ false → Reads (member (f None)) t (f (Some x))) →
    Chain member itself (f (unless d x)) ts y → Chain member itself (f None) (listed d t ++ ts) y
chain_option member f true x y t ts reads more = more
chain_option member f false x y t ts reads more = chain_cons member itself (f None) y (f (Some x)) t ts (reads refl) more

-- its text
abbrev shown : Bool → List ℕ → List ℕ
shown d t = if d then [] else codes "," ++ t

shown_more : (d : Bool) (t rest : List ℕ) (ts : List (List ℕ)) → behind_commas itself ts ≡ rest → behind_commas itself (listed d t ++ ts) ≡ shown d t ++ rest
shown_more true t rest ts is = is
shown_more false t rest ts is = ap (λ (r : List ℕ). (codes "," ++ t) ++ r) is

shown_last : (d : Bool) (t : List ℕ) → behind_commas itself (listed d t ++ []) ≡ shown d t
shown_last true t = refl
shown_last false t = append-nil (codes "," ++ t)

one_more : (d : Bool) (t : List ℕ) (ts : List (List ℕ)) (n : ℕ) → length ts ≤ n → length (listed d t ++ ts) ≤ n + 1
one_more true t ts n few = omega arith
one_more false t ts n few = omega arith

-- whether an option has its default
abbrev prefers_none : Phase → Bool
prefers_none p = nat_eq (length p.preferred) 0

abbrev has_usual_weight : Phase → Bool
has_usual_weight p = nat_eq (unwrap_or p.weight 1) 1

abbrev has_usual_reopening : Phase → Bool
has_usual_reopening p = same_truth p.reopen (is_some p.weight)

-- the options that are written, from one of them on
abbrev from_states : Phase → List (List ℕ)
from_states p = listed (nat_eq p.most_states greatest_states) (named (codes "max_states") (decimal p.most_states)) ++ []

abbrev from_pops : Phase → List (List ℕ)
from_pops p = listed (nat_eq p.most_pops greatest_pops) (named (codes "max_pops") (decimal p.most_pops)) ++ from_states p

abbrev from_boost : Phase → List (List ℕ)
from_boost p = listed (nat_eq p.boost usual_boost) (named (codes "boost") (decimal p.boost)) ++ from_pops p

abbrev from_reopening : Phase → List (List ℕ)
from_reopening p = listed (has_usual_reopening p) (named (codes "reopen_closed") (truth_text p.reopen)) ++ from_boost p

abbrev from_weight : Phase → List (List ℕ)
from_weight p = listed (has_usual_weight p) (named (codes "w") (decimal (unwrap_or p.weight 1))) ++ from_reopening p

abbrev from_estimate : Phase → List (List ℕ)
from_estimate p = listed (is_normal p.estimate) (named (codes "estimate") (kind_text p.estimate)) ++ from_weight p

abbrev from_cost : Phase → List (List ℕ)
from_cost p = listed (is_normal p.cost) (named (codes "cost_type") (kind_text p.cost)) ++ from_estimate p

unfoldable option_list : Phase → List (List ℕ)
option_list p = listed (prefers_none p) (named (codes "preferred") (guides_text p.preferred)) ++ from_cost p

-- the options that are given, up to one of them
abbrev up_to_preferred : Phase → Options
up_to_preferred p = record no_options { preferred = unless (prefers_none p) p.preferred }

abbrev up_to_cost : Phase → Options
up_to_cost p = record (up_to_preferred p) { cost = unless (is_normal p.cost) p.cost }

abbrev up_to_estimate : Phase → Options
up_to_estimate p = record (up_to_cost p) { estimate = unless (is_normal p.estimate) p.estimate }

abbrev up_to_weight : Phase → Options
up_to_weight p = record (up_to_estimate p) { weight = unless (has_usual_weight p) (unwrap_or p.weight 1) }

abbrev up_to_reopening : Phase → Options
up_to_reopening p = record (up_to_weight p) { reopen = unless (has_usual_reopening p) p.reopen }

abbrev up_to_boost : Phase → Options
up_to_boost p = record (up_to_reopening p) { boost = unless (nat_eq p.boost usual_boost) p.boost }

abbrev up_to_pops : Phase → Options
up_to_pops p = record (up_to_boost p) { most_pops = unless (nat_eq p.most_pops greatest_pops) p.most_pops }

unfoldable all_options : Phase → Options
all_options p = record (up_to_pops p) { most_states = unless (nat_eq p.most_states greatest_states) p.most_states }

options_shown : (p : Phase) → behind_commas itself (option_list p) ≡ options_text p
unfolding option_list
options_shown p =
    shown_more (prefers_none p) (named (codes "preferred") (guides_text p.preferred)) _ (from_cost p)
    (shown_more (is_normal p.cost) (named (codes "cost_type") (kind_text p.cost)) _ (from_estimate p)
    (shown_more (is_normal p.estimate) (named (codes "estimate") (kind_text p.estimate)) _ (from_weight p)
    (shown_more (has_usual_weight p) (named (codes "w") (decimal (unwrap_or p.weight 1))) _ (from_reopening p)
    (shown_more (has_usual_reopening p) (named (codes "reopen_closed") (truth_text p.reopen)) _ (from_boost p)
    (shown_more (nat_eq p.boost usual_boost) (named (codes "boost") (decimal p.boost)) _ (from_pops p)
    (shown_more (nat_eq p.most_pops greatest_pops) (named (codes "max_pops") (decimal p.most_pops)) _ (from_states p)
    (shown_last (nat_eq p.most_states greatest_states) (named (codes "max_states") (decimal p.most_states)))))))))

few_options : (p : Phase) → length (option_list p) ≤ 8
unfolding option_list
few_options p =
    one_more (prefers_none p) (named (codes "preferred") (guides_text p.preferred)) (from_cost p) 7
    (one_more (is_normal p.cost) (named (codes "cost_type") (kind_text p.cost)) (from_estimate p) 6
    (one_more (is_normal p.estimate) (named (codes "estimate") (kind_text p.estimate)) (from_weight p) 5
    (one_more (has_usual_weight p) (named (codes "w") (decimal (unwrap_or p.weight 1))) (from_reopening p) 4
    (one_more (has_usual_reopening p) (named (codes "reopen_closed") (truth_text p.reopen)) (from_boost p) 3
    (one_more (nat_eq p.boost usual_boost) (named (codes "boost") (decimal p.boost)) (from_pops p) 2
    (one_more (nat_eq p.most_pops greatest_pops) (named (codes "max_pops") (decimal p.most_pops)) (from_states p) 1
    (one_more (nat_eq p.most_states greatest_states) (named (codes "max_states") (decimal p.most_states)) [] 0 (omega arith))))))))

some_length : (n : ℕ) → nat_eq n 0 ≡ false → 0 < n
some_length zero e = let k : true ≡ false = e in absurd (let f : ⊥ = cc in f)
some_length (suc n) e = omega arith

-- a weight is written in weighted searches alone
reads_weight : (weight : Option ℕ) (gs : List GuideKind) (o : Options) → is_some o.weight ≡ false → IfSome weight (λ w. (1 ≤ w) × (w ≤ highest_weight)) → nat_eq (unwrap_or weight 1) 1 ≡ false →
    Reads (next_option (is_some weight) gs o) (named (codes "w") (decimal (unwrap_or weight 1))) (record o { weight = Some (unwrap_or weight 1) })
reads_weight None gs o free within other = let k : true ≡ false = other in absurd (let f : ⊥ = cc in f)
reads_weight (Some w) gs o free within other =
    reads_option true gs o (record o { weight = Some w }) Weight (codes "w") (decimal w) (record { all = refl; some = refl }) (λ place. rw free refl)
    (reads_map (token (number 1 highest_weight)) (λ x. record o { weight = Some x }) (decimal w) w (reads_number 1 highest_weight w within.0 within.1 (omega (arith, within.1))))

-- what is written of options is read as those that are given
options_chain : (p : Phase) → IsPhase p → Chain (next_option (is_some p.weight) p.guides) itself no_options (option_list p) (all_options p)
unfolding option_list all_options
options_chain p is =
    let weighted = is_some p.weight in
    let member = next_option (is_some p.weight) p.guides in
    chain_option member (λ x. record no_options { preferred = x }) (prefers_none p) p.preferred (all_options p) (named (codes "preferred") (guides_text p.preferred)) (from_cost p)
    (λ e. reads_option weighted p.guides no_options (record no_options { preferred = Some p.preferred }) Preferred (codes "preferred") (guides_text p.preferred) (record { all = refl; some = refl }) (λ place. refl)
    (reads_map (guides (may_prefer p.guides)) (λ x. record no_options { preferred = Some x }) (guides_text p.preferred) p.preferred (reads_guides (may_prefer p.guides) p.preferred (some_length (length p.preferred) e) is.preferred)))
    (chain_option member (λ x. record (up_to_preferred p) { cost = x }) (is_normal p.cost) p.cost (all_options p) (named (codes "cost_type") (kind_text p.cost)) (from_estimate p)
    (λ e. reads_option weighted p.guides (up_to_preferred p) (record (up_to_preferred p) { cost = Some p.cost }) CostType (codes "cost_type") (kind_text p.cost) (record { all = refl; some = refl }) (λ place. refl)
    (reads_map (token kind) (λ x. record (up_to_preferred p) { cost = Some x }) (kind_text p.cost) p.cost (reads_kind p.cost)))
    (chain_option member (λ x. record (up_to_cost p) { estimate = x }) (is_normal p.estimate) p.estimate (all_options p) (named (codes "estimate") (kind_text p.estimate)) (from_weight p)
    (λ e. reads_option weighted p.guides (up_to_cost p) (record (up_to_cost p) { estimate = Some p.estimate }) Estimate (codes "estimate") (kind_text p.estimate) (record { all = refl; some = refl }) (λ place. refl)
    (reads_map (token kind) (λ x. record (up_to_cost p) { estimate = Some x }) (kind_text p.estimate) p.estimate (reads_kind p.estimate)))
    (chain_option member (λ x. record (up_to_estimate p) { weight = x }) (has_usual_weight p) (unwrap_or p.weight 1) (all_options p) (named (codes "w") (decimal (unwrap_or p.weight 1))) (from_reopening p)
    (λ e. reads_weight p.weight p.guides (up_to_estimate p) refl is.weight e)
    (chain_option member (λ x. record (up_to_weight p) { reopen = x }) (has_usual_reopening p) p.reopen (all_options p) (named (codes "reopen_closed") (truth_text p.reopen)) (from_boost p)
    (λ e. reads_option weighted p.guides (up_to_weight p) (record (up_to_weight p) { reopen = Some p.reopen }) Reopen (codes "reopen_closed") (truth_text p.reopen) (record { all = refl; some = refl }) (λ place. refl)
    (reads_map (token truth) (λ x. record (up_to_weight p) { reopen = Some x }) (truth_text p.reopen) p.reopen (reads_truth p.reopen)))
    (chain_option member (λ x. record (up_to_reopening p) { boost = x }) (nat_eq p.boost usual_boost) p.boost (all_options p) (named (codes "boost") (decimal p.boost)) (from_pops p)
    (λ e. reads_option weighted p.guides (up_to_reopening p) (record (up_to_reopening p) { boost = Some p.boost }) Boost (codes "boost") (decimal p.boost) (record { all = refl; some = refl }) (λ place. refl)
    (reads_map (token (number 0 highest_boost)) (λ x. record (up_to_reopening p) { boost = Some x }) (decimal p.boost) p.boost (reads_number 0 highest_boost p.boost (omega arith) is.boost (omega (arith, is.boost)))))
    (chain_option member (λ x. record (up_to_boost p) { most_pops = x }) (nat_eq p.most_pops greatest_pops) p.most_pops (all_options p) (named (codes "max_pops") (decimal p.most_pops)) (from_states p)
    (λ e. reads_option weighted p.guides (up_to_boost p) (record (up_to_boost p) { most_pops = Some p.most_pops }) MostPops (codes "max_pops") (decimal p.most_pops) (record { all = refl; some = refl }) (λ place. refl)
    (reads_map (token (number 0 greatest_pops)) (λ x. record (up_to_boost p) { most_pops = Some x }) (decimal p.most_pops) p.most_pops (reads_number 0 greatest_pops p.most_pops (omega arith) is.most_pops (omega (arith, is.most_pops)))))
    (chain_option member (λ x. record (up_to_pops p) { most_states = x }) (nat_eq p.most_states greatest_states) p.most_states (all_options p) (named (codes "max_states") (decimal p.most_states)) []
    (λ e. reads_option weighted p.guides (up_to_pops p) (record (up_to_pops p) { most_states = Some p.most_states }) MostStates (codes "max_states") (decimal p.most_states) (record { all = refl; some = refl }) (λ place. refl)
    (reads_map (token (number 1 greatest_states)) (λ x. record (up_to_pops p) { most_states = Some x }) (decimal p.most_states) p.most_states (reads_number 1 greatest_states p.most_states is.most_states.0 is.most_states.1 (omega (arith, is.most_states.1)))))
    (chain_nil member itself (all_options p) (all_options p) refl))))))))

listed_options : (weighted : Bool) (gs : List GuideKind) (ts : List (List ℕ)) (y : Options) → Chain (next_option weighted gs) itself no_options ts y → length ts ≤ 8 → Reads (options weighted gs) (behind_commas itself ts ++ codes ")") y
unfolding options Chain
listed_options weighted gs [] y chain few =
    subst (λ o. Reads (options weighted gs) (codes ")") o) chain
    (sign_bind (another (codes ")")) (λ more. if more then members (codes ")") (next_option weighted gs) 9 no_options else gives no_options) (codes ")") [] false no_options closes_round.last (reads_gives no_options))
listed_options weighted gs (t ∷ ts) y chain few =
    reads_same (options weighted gs) (codes "," ++ (t ++ (behind_commas itself ts ++ codes ")"))) (behind_commas itself (t ∷ ts) ++ codes ")") y (sym (append_assoc (codes "," ++ t) (behind_commas itself ts) (codes ")")))
    (sign_bind (another (codes ")")) (λ more. if more then members (codes ")") (next_option weighted gs) 9 no_options else gives no_options) (codes ",") (t ++ (behind_commas itself ts ++ codes ")")) true y closes_round.comma
    (reads_members (codes ")") (next_option weighted gs) itself 9 no_options y t ts closes_round chain (omega arith)))

-- phases

-- an option that is given, or its default, is the phase's own
own : {A : Type 0} (d : Bool) (x usual : A) → (d ≡ true → x ≡ usual) → unwrap_or (unless d x) usual ≡ x
own true x usual same = sym (same refl)
own false x usual same = refl

no_length : {A : Type 0} (xs : List A) → nat_eq (length xs) 0 ≡ true → xs ≡ []
no_length [] e = refl
no_length (x ∷ xs) e = absurd (omega (arith, eqb-true (length (x ∷ xs)) 0 e))

normal_is : (k : CostKind) → is_normal k ≡ true → k ≡ Normal
normal_is Normal e = refl
normal_is One e = let k : false ≡ true = e in cc
normal_is PlusOne e = let k : false ≡ true = e in cc

truth_is : (a b : Bool) → same_truth a b ≡ true → a ≡ b
truth_is true true e = refl
truth_is true false e = sym e
truth_is false true e = let k : false ≡ true = e in cc
truth_is false false e = refl

own_weight : (weight : Option ℕ) → (if is_some weight then Some (unwrap_or (unless (nat_eq (unwrap_or weight 1) 1) (unwrap_or weight 1)) 1) else None) ≡ weight
own_weight None = refl
own_weight (Some w) = ap Some (own (nat_eq w 1) w 1 (eqb-true w 1))

same_phase : (p : Phase) (preferred : List GuideKind) (cost estimate : CostKind) (weight : Option ℕ) (reopen : Bool) (boost pops states : ℕ) → preferred ≡ p.preferred → cost ≡ p.cost → estimate ≡ p.estimate → weight ≡ p.weight → reopen ≡ p.reopen → boost ≡ p.boost → pops ≡ p.most_pops → states ≡ p.most_states →
    ◌≡◌ {A = Phase} (record { guides = p.guides; preferred = preferred; cost = cost; estimate = estimate; weight = weight; reopen = reopen; boost = boost; most_pops = pops; most_states = states }) p
same_phase p preferred cost estimate weight reopen boost pops states a b c d e f g h = rw (a, b, c, d, e, f, g, h) refl

options_are : (p : Phase) → phase_of (is_some p.weight) p.guides (all_options p) ≡ p
unfolding all_options
options_are p = same_phase p _ _ _ _ _ _ _ _
    (own (prefers_none p) p.preferred [] (no_length p.preferred)) (own (is_normal p.cost) p.cost Normal (normal_is p.cost)) (own (is_normal p.estimate) p.estimate Normal (normal_is p.estimate)) (own_weight p.weight)
    (own (has_usual_reopening p) p.reopen (is_some p.weight) (truth_is p.reopen (is_some p.weight))) (own (nat_eq p.boost usual_boost) p.boost usual_boost (eqb-true p.boost usual_boost))
    (own (nat_eq p.most_pops greatest_pops) p.most_pops greatest_pops (eqb-true p.most_pops greatest_pops)) (own (nat_eq p.most_states greatest_states) p.most_states greatest_states (eqb-true p.most_states greatest_states))

-- what stands behind the word of a phase
abbrev behind_word : Phase → List ℕ
behind_word p = codes "(" ++ (guides_text p.guides ++ (options_text p ++ codes ")"))

options_end : (p : Phase) → EndsWord (options_text p ++ codes ")")
options_end p = subst (λ (t : List ℕ). EndsWord (t ++ codes ")")) (options_shown p) (comma_ends itself (option_list p) (codes ")") closes_round.ends)

reads_options : (p : Phase) → IsPhase p → Reads (options (is_some p.weight) p.guides) (options_text p ++ codes ")") (all_options p)
reads_options p is = subst (λ (t : List ℕ). Reads (options (is_some p.weight) p.guides) (t ++ codes ")") (all_options p)) (options_shown p) (listed_options (is_some p.weight) p.guides (option_list p) (all_options p) (options_chain p is) (few_options p))

reads_phase : (p : Phase) → IsPhase p → Reads (phase (is_some p.weight)) (behind_word p) p
unfolding phase
reads_phase p is =
    sign_bind (fixed (codes "(")) (λ begin. guides every_guide >>= λ gs. options (is_some p.weight) gs >>= λ o. gives (phase_of (is_some p.weight) gs o)) (codes "(") (guides_text p.guides ++ (options_text p ++ codes ")")) tt p reads_open
    (reads_bind (guides every_guide) (λ gs. options (is_some p.weight) gs >>= λ o. gives (phase_of (is_some p.weight) gs o)) (guides_text p.guides) (options_text p ++ codes ")") p.guides p (reads_guides every_guide p.guides is.some is.guides) (options_end p)
    (subst (λ q. Reads (options (is_some p.weight) p.guides >>= λ o. gives (phase_of (is_some p.weight) p.guides o)) (options_text p ++ codes ")") q) (options_are p)
    (reads_map (options (is_some p.weight) p.guides) (λ o. phase_of (is_some p.weight) p.guides o) (options_text p ++ codes ")") (all_options p) (reads_options p is))))

search_is_word : (weighted : Bool) → IsWord (search_text weighted)
search_is_word true = record { all = refl; some = refl }
search_is_word false = record { all = refl; some = refl }

search_named : (front : List Phase) (weighted : Bool) (place : ℕ) → length front < most_phases → if_room front (token_at place (search_text weighted)) (is_weighted (token_at place (search_text weighted))) ≡ Ok weighted
search_named front true place room = rw (lt-ltb (length front) most_phases room) refl
search_named front false place room = rw (lt-ltb (length front) most_phases room) refl

reads_next_phase : (front : List Phase) (p : Phase) → length front < most_phases → IsPhase p → Reads (next_phase front) (phase_text p) (front ++ p ∷ [])
unfolding next_phase phase_text
reads_next_phase front p room is =
    reads_bind (token (λ t. if_room front t (is_weighted t))) (λ weighted. phase weighted >>= λ q. gives (front ++ q ∷ [])) (search_text (is_some p.weight)) (behind_word p) (is_some p.weight) (front ++ p ∷ [])
    (reads_word (λ t. if_room front t (is_weighted t)) (search_text (is_some p.weight)) (is_some p.weight) (search_is_word (is_some p.weight)) (λ place. search_named front (is_some p.weight) place room))
    (round_word (guides_text p.guides ++ (options_text p ++ codes ")")))
    (reads_map (phase (is_some p.weight)) (λ q. front ++ q ∷ []) (behind_word p) p (reads_phase p is))

phases_chain : (front ps : List Phase) → All IsPhase ps → length front + length ps ≤ most_phases → Chain next_phase phase_text front ps (front ++ ps)
phases_chain front [] all few = chain_nil next_phase phase_text front (front ++ []) (sym (append-nil front))
phases_chain front (p ∷ ps) all few =
    let rest : (front ++ p ∷ []) ++ ps ≡ front ++ p ∷ ps = append_assoc front (p ∷ []) ps in
    let here : IsPhase p = all 0 p (omega arith) in
    let tail : All IsPhase ps = λ k d lt. all (suc k) d (omega arith) in
    chain_cons next_phase phase_text front (front ++ p ∷ ps) (front ++ p ∷ []) p ps (reads_next_phase front p (omega arith) here)
    (subst (λ qs. Chain next_phase phase_text (front ++ p ∷ []) ps qs) rest (phases_chain (front ++ p ∷ []) ps tail (omega (arith, length-append front (p ∷ [])))))

-- configurations

reads_repeat : (b : Bool) → Reads repeat_last (repeat_text b) b
unfolding repeat_last
reads_repeat false = sign_bind (another (codes ")")) (λ more. if more then repeat_value else gives false) (codes ")") [] false false closes_round.last (reads_gives false)
reads_repeat true =
    sign_bind (another (codes ")")) (λ more. if more then repeat_value else gives false) (codes ",") (codes "repeat_last=true)") true true closes_round.comma
    (reads_bind (fixed (codes "repeat_last")) (λ name. fixed (codes "=") >>= λ equals. token truth >>= λ repeat. fixed (codes ")") >>= λ end. gives repeat) (codes "repeat_last") (codes "=true)") tt true
    (reads_word (only (codes "repeat_last")) (codes "repeat_last") tt (record { all = refl; some = refl }) (λ place. refl)) (equals_word (codes "true)"))
    (sign_bind (fixed (codes "=")) (λ equals. token truth >>= λ repeat. fixed (codes ")") >>= λ end. gives repeat) (codes "=") (codes "true)") tt true reads_equals
    (reads_bind (token truth) (λ repeat. fixed (codes ")") >>= λ end. gives repeat) (codes "true") (codes ")") true true (reads_truth true) closes_round.ends
    (sign_bind (fixed (codes ")")) (λ end. gives true) (codes ")") [] tt true reads_close (reads_gives true)))))

abbrev several : List Phase → Bool → Config
several phases repeat = record { iterated = true; phases = phases; repeat_last = repeat }

reads_iterated : (p : Phase) (ps : List Phase) (repeat : Bool) → All IsPhase (p ∷ ps) → length (p ∷ ps) ≤ most_phases →
    Reads iterated (codes "(" ++ (codes "[" ++ ((phase_text p ++ (behind_commas phase_text ps ++ codes "]")) ++ repeat_text repeat))) (several (p ∷ ps) repeat)
unfolding iterated
reads_iterated p ps repeat all few =
    sign_bind (fixed (codes "(")) (λ begin. fixed (codes "[") >>= λ list. members (codes "]") next_phase 101 [] >>= λ phases. repeat_last >>= λ r. gives (several phases r)) (codes "(") (codes "[" ++ ((phase_text p ++ (behind_commas phase_text ps ++ codes "]")) ++ repeat_text repeat)) tt (several (p ∷ ps) repeat) reads_open
    (sign_bind (fixed (codes "[")) (λ list. members (codes "]") next_phase 101 [] >>= λ phases. repeat_last >>= λ r. gives (several phases r)) (codes "[") ((phase_text p ++ (behind_commas phase_text ps ++ codes "]")) ++ repeat_text repeat) tt (several (p ∷ ps) repeat) reads_bracket
    (reads_bind (members (codes "]") next_phase 101 []) (λ phases. repeat_last >>= λ r. gives (several phases r)) (phase_text p ++ (behind_commas phase_text ps ++ codes "]")) (repeat_text repeat) (p ∷ ps) (several (p ∷ ps) repeat)
    (reads_members (codes "]") next_phase phase_text 101 [] (p ∷ ps) p ps closes_square (phases_chain [] (p ∷ ps) all (omega (arith, few))) (omega arith)) (repeat_ends repeat)
    (reads_map repeat_last (λ r. several (p ∷ ps) r) (repeat_text repeat) repeat (reads_repeat repeat))))
  where
    repeat_ends : (b : Bool) → EndsWord (repeat_text b)
    repeat_ends true = record { ends = λ rest. refl }
    repeat_ends false = record { ends = λ rest. refl }

abbrev alone : Phase → Config
alone p = record { iterated = false; phases = p ∷ []; repeat_last = false }

single_named : (weighted : Bool) (place : ℕ) (s : Spot) → config_by (token_at place (search_text weighted)) s ≡ single weighted s
single_named true place s = refl
single_named false place s = refl

single_behind : (p : Phase) → IsPhase p → Reads (single (is_some p.weight)) (behind_word p) (alone p)
unfolding single
single_behind p is = reads_map (phase (is_some p.weight)) (λ q. alone q) (behind_word p) p (reads_phase p is)

reads_single : (p : Phase) → IsPhase p → Reads config (phase_text p) (alone p)
unfolding config phase_text
reads_single p is =
    reads_behind config_by (single (is_some p.weight)) (search_text (is_some p.weight)) (behind_word p) (alone p) (search_is_word (is_some p.weight)) (round_word (guides_text p.guides ++ (options_text p ++ codes ")")))
    (λ place s. single_named (is_some p.weight) place s) (single_behind p is)

several_text : (p : Phase) (ps : List Phase) (r : List ℕ) → codes "iterated" ++ (codes "(" ++ (codes "[" ++ ((phase_text p ++ (behind_commas phase_text ps ++ codes "]")) ++ r))) ≡ codes "iterated([" ++ (phases_text (p ∷ ps) ++ (codes "]" ++ r))
several_text p ps r = ap (λ (t : List ℕ). codes "iterated([" ++ t) (ap (λ (t : List ℕ). t ++ r) (sym (append_assoc (phase_text p) (behind_commas phase_text ps) (codes "]"))) ∙ append_assoc (phases_text (p ∷ ps)) (codes "]") r)

reads_several : (p : Phase) (ps : List Phase) (repeat : Bool) → All IsPhase (p ∷ ps) → length (p ∷ ps) ≤ most_phases → Reads config (config_text (several (p ∷ ps) repeat)) (several (p ∷ ps) repeat)
unfolding config config_text
reads_several p ps repeat all few =
    let behind_it : List ℕ = codes "(" ++ (codes "[" ++ ((phase_text p ++ (behind_commas phase_text ps ++ codes "]")) ++ repeat_text repeat)) in
    reads_same (behind config_by) (codes "iterated" ++ behind_it) (codes "iterated([" ++ (phases_text (p ∷ ps) ++ (codes "]" ++ repeat_text repeat))) (several (p ∷ ps) repeat) (several_text p ps (repeat_text repeat))
    (reads_behind config_by iterated (codes "iterated") behind_it (several (p ∷ ps) repeat) (record { all = refl; some = refl }) (record { ends = λ rest. refl }) (λ place s. refl) (reads_iterated p ps repeat all few))

-- a configuration within the limits, by its parts
reads_config : (iterated : Bool) (phases : List Phase) (repeat : Bool) → IsConfig (record { iterated = iterated; phases = phases; repeat_last = repeat }) →
    Reads config (config_text (record { iterated = iterated; phases = phases; repeat_last = repeat })) (record { iterated = iterated; phases = phases; repeat_last = repeat })
unfolding config_text
reads_config iterated [] repeat is = absurd (omega (arith, is.some))
reads_config true (p ∷ ps) repeat is = reads_several p ps repeat is.phases is.few
reads_config false (p ∷ []) true is = let k : true ≡ false = (is.single refl).1 in absurd (let f : ⊥ = cc in f)
reads_config false (p ∷ []) false is = reads_same config (phase_text p) (phase_text p ++ []) (alone p) (sym (append-nil (phase_text p))) (reads_single p (is.phases 0 p (omega arith)))
reads_config false (p ∷ q ∷ ps) repeat is = absurd (omega (arith, (is.single refl).0))

nothing_left : (place : ℕ) → token end_of_text (spot place []) ≡ Ok (tt, spot (place + 0) [])
unfolding next after_blanks token_length
nothing_left place = refl

whole_reads : (text : List ℕ) (c : Config) → Reads config text c → config_of text ≡ Ok c
unfolding config_of whole
whole_reads text c reads =
    let first : config (spot 0 text) ≡ Ok (c, spot (0 + length text) []) = rw append-nil at (reads.reads 0 [] refl) in
    rw (first, nothing_left (0 + length text)) refl

-- what is written of a configuration within the limits is read back
pub read_back : (c : Config) (text : List ℕ) → text ≡ config_text c → IsConfig c → config_of text ≡ Ok c
read_back c text written is = rw written (whole_reads (config_text c) c (reads_config c.iterated c.phases c.repeat_last is))
