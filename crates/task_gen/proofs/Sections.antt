-- The parts of a task are read back.
use Rattle.std.proofs.Common.{◌≡◌, ◌∙◌, sym, ap, subst, refl, ℕ, zero, suc, ◌+◌, ◌<◌, ◌≤◌, ◌^◌, List, [], ◌∷◌, ◌++◌, length, map, Bool, true, false, ◌&&◌, not, nat_eq, nat_lt, nat_le, Option, Some, None, arith, append_assoc}
use Rattle.std.specs.Prelude.{codes, decimal, option_to_list, option_map, if◌then◌else◌, slice_index, slice_get}
use Rattle.std.specs.List.{list_all, flat_map, zip, filter_map, cons_option, enumerate_from}
use Rattle.std.proofs.lemmas.List.{map-id}
use Rattle.std.proofs.lemmas.List.FromFn.{length-enumerate_from}
use Rattle.std.proofs.lemmas.List.Sums.{sum_by-cons}
use Rattle.lama_num.proofs.ListLaws.{both, list_all_get}
use Rattle.sas_task.specs.Limits.{most_variables, most_facts, most_listed, most_operators, most_rules, highest_cost}
use Rattle.sas_task.proofs.TestLaws.{and_true, le-test, test-le}
use Rattle.sas_task.specs.WellFormed.{IsWellFormed, is_short, is_few, is_variable, is_fact, are_facts, is_effect, is_operator, is_rule, is_default, is_layered_rule, is_derived, starts, fact_count, range_of}
use Rattle.sas_task.proofs.WithinLaws.{fact_within}
use Rattle.sas_task.specs.Order.{distinct, on_variable, prevail, standing_for, arranged, in_order, has_few_prevail}
use Rattle.sas_task.specs.Refusals.{is_good_rule}
use Rattle.sas_task.specs.declared.contents.Fact.{Fact}
use Rattle.sas_task.specs.declared.contents.Variable.{Variable}
use Rattle.sas_task.specs.declared.contents.Effect.{Effect}
use Rattle.sas_task.specs.declared.contents.Operator.{Operator}
use Rattle.sas_task.specs.declared.contents.Rule.{Rule}
use Rattle.sas_task.specs.declared.contents.Parts.{Parts}
use Rattle.sas_task.specs.declared.refusals.What.{What}
use Rattle.sas_task.specs.declared.refusals.What.TheVariants.{Variables, Groups, GroupFacts, Goals, Operators, Conditions, Effects, Rules, Cost}
use Rattle.sas_reader.specs.Formats.{Format, Done, ◌>>=◌, Begin, End, Version, ZeroOrOne, Name, Count, Layer, Range, Below, FactIn, EffectIn, HeadIn, Kind, Value, line, times, each}
use Rattle.sas_reader.specs.Reading.{begin_of, end_of, AreVariables}
use Rattle.sas_reader.specs.TaskText.{version, metric, variable, variables_from, variables, opening, facts, group, groups, initial, state, goal, ends, preconditions, changes, operator, operators, rule, rules, rest, task}
use Rattle.sas_reader.specs.declared.sections.Section.{Section}
use Rattle.sas_reader.specs.declared.sections.Section.TheVariants.{Version as InVersion, Metric as InMetric, Variable as InVariable, MutexGroup as InGroup, State as InState, Goal as InGoal, Operator as InOperator, Rule as InRule}
use Rattle.task_gen.specs.Printed.{spaced, part, counted, version_lines, metric_lines, number_or_none, variable_lines, fact_words, fact_lines, group_lines, state_lines, goal_lines, effect_line, old_value, effect_lines, change_lines, operator_lines, rule_lines, task_lines}
use Rattle.task_gen.specs.ReadBack.{is_line_name, has_line_names}
use Rattle.task_gen.proofs.Tested.{lt-from_test, all-filter, filter-all, few_values, passes_variable, passes_operator, passes_rule, passes_start}
use Rattle.std.proofs.lemmas.Bool.{eqb-true as same_number}
use Rattle.task_gen.proofs.ReadFormats.{Says, Reads, reads_done, reads_line, reads_bind, reads_bind_line, reads_map, reads_times, reads_lines}
use Rattle.task_gen.proofs.Says.{begins, ends as ends_says, three, zero_or_one, names, counts, layers, ranges, values, facts as fact_says, own_fact, effects as effect_says, head_words, heads}
use Rattle.task_gen.proofs.NamesRead.{has_names}

-- lines that each say what they were made of
reads_same : (kind : Kind) (text : Value kind → List ℕ) (xs : List (Value kind)) → ((i : ℕ) (x : Value kind) → slice_get xs i ≡ Some x → Says kind (text x) x) → Reads (times (length xs) (line kind)) (map text xs) xs
reads_same kind text xs each = subst (λ ys. Reads (times (length xs) (line kind)) (map text xs) ys) (map-id xs) (reads_lines kind text (λ x. x) xs each)

-- a part between the words that begin and end it
reads_part : {A : Type 0} (section : Section) (format : Format A) (lines : List (List ℕ)) (x : A) → Reads format lines x → Reads (line (Begin section) >>= λ begin. format >>= λ x. line (End section) >>= λ done. Done x) (part section lines) x
reads_part section format lines x is =
    reads_line (Begin section) _ (begin_of section) tt (lines ++ end_of section ∷ []) x (begins section)
    (reads_bind format _ lines (end_of section ∷ []) x x is (reads_line (End section) _ (end_of section) tt [] x (ends_says section) (reads_done x)))

-- things behind their count
reads_counted : {X A : Type 0} (what : What) (most : ℕ) (format : Format A) (lines : X → List (List ℕ)) (g : X → A) (xs : List X) → nat_le (length xs) most ≡ true → length xs < 2 ^ 64 →
    ((i : ℕ) (x : X) → slice_get xs i ≡ Some x → Reads format (lines x) (g x)) → Reads (line (Count what most) >>= λ n. times n format) (counted lines xs) (map g xs)
reads_counted what most format lines g xs few small each =
    reads_line (Count what most) _ (decimal (length xs)) (length xs) (flat_map lines xs) (map g xs) (counts what most (length xs) few small) (reads_times format lines g xs each)

-- version and metric

reads_version : Reads version version_lines tt
unfolding version
reads_version =
    reads_line (Begin InVersion) _ (begin_of InVersion) tt _ tt (begins InVersion)
    (reads_line Version _ (codes "3") tt _ tt three (reads_line (End InVersion) _ (end_of InVersion) tt [] tt (ends_says InVersion) (reads_done tt)))

reads_metric : (m : Bool) → Reads metric (metric_lines m) m
unfolding metric
reads_metric m =
    reads_line (Begin InMetric) _ (begin_of InMetric) tt _ m (begins InMetric)
    (reads_line ZeroOrOne _ (if m then codes "1" else codes "0") m _ m (zero_or_one m) (reads_line (End InMetric) _ (end_of InMetric) tt [] m (ends_says InMetric) (reads_done m)))

reads_names : (xs : List (List ℕ)) → list_all is_line_name xs ≡ true → list_all is_short xs ≡ true → Reads (times (length xs) (line Name)) xs xs
reads_names xs are short =
    subst (λ ls. Reads (times (length xs) (line Name)) ls xs) (map-id xs)
    (reads_same Name (λ x. x) xs (λ i x at. names x (list_all_get is_line_name xs i x are at) (list_all_get is_short xs i x short at)))

reads_variable : (var before : ℕ) (v : Variable) → has_names v ≡ true → is_variable v ≡ true → before + length v.values ≤ most_facts → Reads (variable var before) (variable_lines v) v
unfolding variable variable_lines
reads_variable var before v named is all =
    let own = both (is_line_name v.name) (list_all is_line_name v.values) named in
    let passes = passes_variable v is in
    reads_line (Begin InVariable) _ (begin_of InVariable) tt _ v (begins InVariable)
    (reads_line Name _ v.name v.name _ v (names v.name own.0 passes.name)
    (reads_line Layer _ (number_or_none v.layer) v.layer _ v (layers v.layer (length v.values) passes.layered)
    (reads_line (Range var v.layer before) _ (decimal (length v.values)) (length v.values) _ v (ranges var v.layer before (length v.values) passes.layered passes.some passes.few (test-le (before + length v.values) most_facts all))
    (reads_bind (times (length v.values) (line Name)) _ v.values (end_of InVariable ∷ []) v.values v (reads_names v.values own.1 passes.values)
    (reads_line (End InVariable) _ (end_of InVariable) tt [] v (ends_says InVariable) (reads_done v))))))

reads_variables_from : (var before : ℕ) (vs : List Variable) → list_all has_names vs ≡ true → list_all is_variable vs ≡ true → before + fact_count vs ≤ most_facts → Reads (variables_from (length vs) var before) (flat_map variable_lines vs) vs
unfolding variables_from
reads_variables_from var before [] named are all = reads_done []
reads_variables_from var before (v ∷ vs) named are all =
    let sum = sum_by-cons (λ v. length v.values) v vs in
    let own = both (has_names v) (list_all has_names vs) named in
    let good = both (is_variable v) (list_all is_variable vs) are in
    reads_bind (variable var before) _ (variable_lines v) (flat_map variable_lines vs) v (v ∷ vs) (reads_variable var before v own.0 good.0 (omega arith))
    (reads_map (variables_from (length vs) (var + 1) (before + length v.values)) (λ ys. v ∷ ys) (flat_map variable_lines vs) vs
    (reads_variables_from (var + 1) (before + length v.values) vs own.1 good.1 (omega arith)))

reads_variables : (vs : List Variable) → list_all has_names vs ≡ true → AreVariables vs → fact_count vs ≤ most_facts → Reads variables (counted variable_lines vs) vs
unfolding variables
reads_variables vs named are all =
    let few = are.few in
    reads_line (Count Variables most_variables) _ (decimal (length vs)) (length vs) (flat_map variable_lines vs) vs (counts Variables most_variables (length vs) (test-le (length vs) most_variables few) (omega arith))
    (reads_variables_from 0 0 vs named are.each (omega arith))

-- lists of facts

reads_facts : (what : What) (vs : List Variable) (fs : List Fact) → AreVariables vs → are_facts vs fs ≡ true → Reads (facts what vs) (fact_lines fs) fs
unfolding facts
reads_facts what vs fs are is =
    let tests = both (is_few fs) (list_all (is_fact vs) fs) is in
    let le = le-test (length fs) most_listed tests.0 in
    reads_line (Count what most_listed) _ (decimal (length fs)) (length fs) (map (λ f. spaced (fact_words f)) fs) fs (counts what most_listed (length fs) tests.0 (omega arith))
    (reads_same (FactIn vs) (λ f. spaced (fact_words f)) fs (λ i f at. fact_says vs f are (list_all_get (is_fact vs) fs i f tests.1 at)))

reads_group : (vs : List Variable) (fs : List Fact) → AreVariables vs → are_facts vs fs ≡ true → Reads (group vs) (group_lines fs) fs
unfolding group group_lines
reads_group vs fs are is = reads_part InGroup (facts GroupFacts vs) (fact_lines fs) fs (reads_facts GroupFacts vs fs are is)

reads_groups : (vs : List Variable) (gs : List (List Fact)) → AreVariables vs → is_few gs ≡ true → list_all (are_facts vs) gs ≡ true → Reads (groups vs) (counted group_lines gs) gs
unfolding groups
reads_groups vs gs are few all =
    let le = le-test (length gs) most_listed few in
    subst (λ ys. Reads (line (Count Groups most_listed) >>= λ n. times n (group vs)) (counted group_lines gs) ys) (map-id gs)
    (reads_counted Groups most_listed (group vs) group_lines (λ g. g) gs few (omega arith) (λ i g at. reads_group vs g are (list_all_get (are_facts vs) gs i g all at)))

reads_goal : (vs : List Variable) (fs : List Fact) → AreVariables vs → are_facts vs fs ≡ true → Reads (goal vs) (goal_lines fs) fs
unfolding goal goal_lines
reads_goal vs fs are is = reads_part InGoal (facts Goals vs) (fact_lines fs) fs (reads_facts Goals vs fs are is)

-- the initial state

reads_values : (vs : List Variable) (init : List ℕ) → list_all is_variable vs ≡ true → length init ≡ length vs → list_all (λ p. nat_lt p.0 (length p.1.values)) (zip init vs) ≡ true → Reads (each initial vs) (map decimal init) init
unfolding each
reads_values [] [] are long all = reads_done []
reads_values [] (x ∷ init) are long all = absurd (omega (arith, long))
reads_values (v ∷ vs) [] are long all = absurd (omega (arith, long))
reads_values (v ∷ vs) (x ∷ init) are long all =
    let good = both (is_variable v) (list_all is_variable vs) are in
    let tests = both (nat_lt x (length v.values)) (list_all (λ p. nat_lt p.0 (length p.1.values)) (zip init vs)) all in
    let below = lt-from_test x (length v.values) tests.0 in
    let few = few_values v good.0 in
    reads_line (Below (length v.values)) _ (decimal x) x (map decimal init) (x ∷ init) (values (length v.values) x tests.0 (omega arith))
    (reads_map (each initial vs) (λ ys. x ∷ ys) (map decimal init) init (reads_values vs init good.1 (omega (arith, long)) tests.1))

reads_state : (vs : List Variable) (init : List ℕ) → AreVariables vs → starts vs init ≡ true → Reads (state vs) (state_lines init) init
unfolding state state_lines
reads_state vs init are is =
    let passes = passes_start vs init is in
    reads_part InState (each initial vs) (map decimal init) init (reads_values vs init are.each passes.long passes.values)

-- operators

all-enumerate_from : {X : Type 0} (p : X → Bool) (n : ℕ) (xs : List X) → list_all p xs ≡ true → list_all (λ e. p e.1) (enumerate_from n xs) ≡ true
all-enumerate_from p n [] all = refl
all-enumerate_from p n (x ∷ xs) all =
    let each = both (p x) (list_all p xs) all in
    and_true (p x) _ each.0 (all-enumerate_from p (n + 1) xs each.1)

-- a precondition that stands for an effect is on its variable
stands_own : (pre : List Fact) (all : List Effect) (e : ℕ × Effect) → own_fact e.1 (old_value pre all e) ≡ standing_for pre all e
stands_own pre all e = found (standing_for pre all e) refl
  where
    found : (o : Option Fact) → standing_for pre all e ≡ o → own_fact e.1 (option_map (λ f. f.val) o) ≡ o
    found None at = refl
    found (Some f) at =
        let var = same_number f.var e.1.fact.var (list_all_get (λ f. nat_eq f.var e.1.fact.var) (on_variable e.1.fact.var pre) _ f (filter-all (λ f. nat_eq f.var e.1.fact.var) pre) at) in
        ap (λ v. Some (record { var = v; val = f.val })) (sym var)

stands_fact : (vs : List Variable) (pre : List Fact) (all : List Effect) (e : ℕ × Effect) → list_all (is_fact vs) pre ≡ true → list_all (is_fact vs) (option_to_list (standing_for pre all e)) ≡ true
stands_fact vs pre all e are = found (standing_for pre all e) refl
  where
    found : (o : Option Fact) → standing_for pre all e ≡ o → list_all (is_fact vs) (option_to_list o) ≡ true
    found None at = refl
    found (Some f) at = and_true (is_fact vs f) true (list_all_get (is_fact vs) (on_variable e.1.fact.var pre) _ f (all-filter (is_fact vs) (λ f. nat_eq f.var e.1.fact.var) pre are) at) refl

abbrev changed : List Fact → List Effect → ℕ × Effect → Option Fact × Effect
changed pre all e = (own_fact e.1 (old_value pre all e), e.1)

preconditions-changed : (pre : List Fact) (all : List Effect) (es : List (ℕ × Effect)) → preconditions (map (changed pre all) es) ≡ filter_map (standing_for pre all) es
preconditions-changed pre all [] = refl
preconditions-changed pre all (e ∷ es) = ap (λ o. option_to_list o ++ preconditions (map (changed pre all) es)) (stands_own pre all e) ∙ joined (standing_for pre all e) ∙ ap (λ fs. cons_option (standing_for pre all e) fs) (preconditions-changed pre all es)
  where
    joined : (o : Option Fact) → option_to_list o ++ preconditions (map (changed pre all) es) ≡ cons_option o (preconditions (map (changed pre all) es))
    joined None = refl
    joined (Some f) = refl

effects-changed : (pre : List Fact) (all es : List Effect) (n : ℕ) → map (λ e. e.1) (map (changed pre all) (enumerate_from n es)) ≡ es
effects-changed pre all [] n = refl
effects-changed pre all (e ∷ es) n = ap (λ xs. e ∷ xs) (effects-changed pre all es (n + 1))

reads_effects : (vs : List Variable) (pre : List Fact) (es : List Effect) → AreVariables vs → list_all (is_fact vs) pre ≡ true → list_all (is_effect vs) es ≡ true →
    Reads (times (length es) (line (EffectIn vs))) (effect_lines pre es) (map (changed pre es) (enumerate_from 0 es))
unfolding effect_lines
reads_effects vs pre es are facts_are effects_are =
    subst (λ n. Reads (times n (line (EffectIn vs))) (map (λ e. effect_line (old_value pre es e) e.1) (enumerate_from 0 es)) (map (changed pre es) (enumerate_from 0 es))) (length-enumerate_from 0 es)
    (reads_lines (EffectIn vs) (λ e. effect_line (old_value pre es e) e.1) (changed pre es) (enumerate_from 0 es) (λ i e at.
    effect_says vs e.1 (old_value pre es e) are (list_all_get (λ e. is_effect vs e.1) (enumerate_from 0 es) i e (all-enumerate_from (is_effect vs) 0 es effects_are) at)
    (rw (stands_own pre es e) (stands_fact vs pre es e facts_are))))

reads_changes : (vs : List Variable) (pre : List Fact) (es : List Effect) → AreVariables vs → list_all (is_fact vs) pre ≡ true → nat_le (length (prevail pre es)) most_listed ≡ true → is_few es ≡ true → list_all (is_effect vs) es ≡ true →
    Reads (changes vs) (change_lines pre es) (arranged pre es, es)
unfolding changes change_lines
reads_changes vs pre es are facts_are few_prevail few_effects effects_are =
    let read = map (changed pre es) (enumerate_from 0 es) in
    let le = le-test (length es) most_listed few_effects in
    let pairs : ◌≡◌ {A = List Fact × List Effect} (prevail pre es ++ preconditions read, map (λ e. e.1) read) (arranged pre es, es) =
    ap (λ fs. (prevail pre es ++ fs, map (λ e. e.1) read)) (preconditions-changed pre es (enumerate_from 0 es)) ∙ ap (λ xs. (arranged pre es, xs)) (effects-changed pre es es 0) in
    subst (λ c. Reads (changes vs) (fact_lines (prevail pre es) ++ decimal (length es) ∷ effect_lines pre es) c) pairs
    (reads_bind (facts Conditions vs) _ (fact_lines (prevail pre es)) (decimal (length es) ∷ effect_lines pre es) (prevail pre es) (prevail pre es ++ preconditions read, map (λ e. e.1) read)
    (reads_facts Conditions vs (prevail pre es) are (and_true (is_few (prevail pre es)) _ few_prevail (all-filter (is_fact vs) _ pre facts_are)))
    (reads_line (Count Effects most_listed) _ (decimal (length es)) (length es) (effect_lines pre es) _ (counts Effects most_listed (length es) few_effects (omega arith))
    (reads_map (times (length es) (line (EffectIn vs))) (λ xs. (prevail pre es ++ preconditions xs, map (λ e. e.1) xs)) (effect_lines pre es) read (reads_effects vs pre es are facts_are effects_are))))

pub record IsPrintable (metric : Bool) (vs : List Variable) (o : Operator) : Type 0 where
  pub name : is_line_name o.name ≡ true
  pub good : is_operator vs o ≡ true
  pub prevails : has_few_prevail o ≡ true
  pub once : distinct o.pre ≡ o.pre
  pub cost : metric ≡ false → o.cost ≡ 1

reads_operator : (metric : Bool) (vs : List Variable) (o : Operator) → AreVariables vs → IsPrintable metric vs o → Reads (operator metric vs) (operator_lines o) (in_order o)
unfolding operator operator_lines
reads_operator metric vs o are is =
    let passes = passes_operator vs o is.good in
    let le = le-test o.cost highest_cost passes.cost in
    let few_prevail : nat_le (length (prevail o.pre o.effects)) most_listed ≡ true = subst (λ fs. nat_le (length (prevail fs o.effects)) most_listed ≡ true) is.once is.prevails in
    let made : Operator = record { name = o.name; pre = arranged o.pre o.effects; effects = o.effects; cost = if metric then o.cost else 1 } in
    let same : made ≡ in_order o = ap (λ k. record { name = o.name; pre = arranged o.pre o.effects; effects = o.effects; cost = k }) (own_cost metric o.cost is.cost) ∙ ap (λ fs. record o { pre = arranged fs o.effects }) (sym is.once) in
    reads_line (Begin InOperator) _ (begin_of InOperator) tt _ (in_order o) (begins InOperator)
    (reads_line Name _ o.name o.name _ (in_order o) (names o.name is.name passes.name)
    (reads_bind_line (changes vs) _ (change_lines o.pre o.effects) (decimal o.cost) (end_of InOperator ∷ []) (arranged o.pre o.effects, o.effects) (in_order o) (reads_changes vs o.pre o.effects are passes.pre few_prevail passes.few passes.effects)
    (reads_line (Count Cost highest_cost) _ (decimal o.cost) o.cost (end_of InOperator ∷ []) (in_order o) (counts Cost highest_cost o.cost passes.cost (omega arith))
    (reads_line (End InOperator) _ (end_of InOperator) tt [] (in_order o) (ends_says InOperator)
    (subst (λ x. Reads (Done made) [] x) same (reads_done made))))))
  where
    own_cost : (metric : Bool) (cost : ℕ) → (metric ≡ false → cost ≡ 1) → (if metric then cost else 1) ≡ cost
    own_cost true cost unit = refl
    own_cost false cost unit = sym (unit refl)

reads_operators : (metric : Bool) (vs : List Variable) (os : List Operator) → AreVariables vs → length os ≤ most_operators → ((i : ℕ) (o : Operator) → slice_get os i ≡ Some o → IsPrintable metric vs o) →
    Reads (operators metric vs) (counted operator_lines os) (map in_order os)
unfolding operators
reads_operators metric vs os are few each =
    reads_counted Operators most_operators (operator metric vs) operator_lines in_order os (test-le (length os) most_operators few) (omega arith) (λ i o at. reads_operator metric vs o are (each i o at))

-- rules

default_fact : (vs : List Variable) (init : List ℕ) (var : ℕ) → length init ≡ length vs → list_all (λ p. nat_lt p.0 (length p.1.values)) (zip init vs) ≡ true → var < length vs → nat_lt (slice_index init var) (range_of vs var) ≡ true
default_fact [] init var long all lt = absurd (omega arith)
default_fact (v ∷ vs) [] var long all lt = absurd (omega (arith, long))
default_fact (v ∷ vs) (x ∷ init) zero long all lt = (both (nat_lt x (length v.values)) (list_all (λ p. nat_lt p.0 (length p.1.values)) (zip init vs)) all).0
default_fact (v ∷ vs) (x ∷ init) (suc var) long all lt =
    default_fact vs init var (omega (arith, long)) (both (nat_lt x (length v.values)) (list_all (λ p. nat_lt p.0 (length p.1.values)) (zip init vs)) all).1 (omega arith)

good_rule : (vs : List Variable) (init : List ℕ) (r : Rule) → not (is_default init r.head) ≡ true → is_layered_rule vs init r ≡ true → is_good_rule vs init r ≡ true
good_rule vs init r other layered = chosen (is_default init r.head) other
  where
    chosen : (default : Bool) → not default ≡ true → (if default then is_derived vs r.head.var else is_layered_rule vs init r) ≡ true
    chosen true other = let k : false ≡ true = other in cc
    chosen false other = layered

reads_rule : (vs : List Variable) (init : List ℕ) (r : Rule) → AreVariables vs → starts vs init ≡ true → is_rule vs init r ≡ true → Reads (rule vs init) (rule_lines init r) r
unfolding rule rule_lines
reads_rule vs init r are start is =
    let passes = passes_rule vs init r is in
    let starts = passes_start vs init start in
    let within = lt-from_test r.head.var (length vs) (fact_within vs r.head passes.head) in
    let default = default_fact vs init r.head.var starts.long starts.values within in
    reads_line (Begin InRule) _ (begin_of InRule) tt _ r (begins InRule)
    (reads_bind_line (facts Conditions vs) _ (fact_lines r.conds) (spaced (head_words init r.head)) (end_of InRule ∷ []) r.conds r (reads_facts Conditions vs r.conds are passes.conds)
    (reads_line (HeadIn vs init r.conds) _ (spaced (head_words init r.head)) r (end_of InRule ∷ []) r (heads vs init r are passes.head default (good_rule vs init r passes.other passes.layered))
    (reads_line (End InRule) _ (end_of InRule) tt [] r (ends_says InRule) (reads_done r))))

reads_rules : (vs : List Variable) (init : List ℕ) (rs : List Rule) → AreVariables vs → starts vs init ≡ true → length rs ≤ most_rules → list_all (is_rule vs init) rs ≡ true → Reads (rules vs init) (counted (rule_lines init) rs) rs
unfolding rules
reads_rules vs init rs are start few all =
    subst (λ ys. Reads (line (Count Rules most_rules) >>= λ n. times n (rule vs init)) (counted (rule_lines init) rs) ys) (map-id rs)
    (reads_counted Rules most_rules (rule vs init) (rule_lines init) (λ r. r) rs (test-le (length rs) most_rules few) (omega arith) (λ i r at. reads_rule vs init r are start (list_all_get (is_rule vs init) rs i r all at)))

-- the whole task

abbrev pub given : Parts → Parts
given parts = record parts { operators = map in_order parts.operators }

regroup : (a b c d e f g h : List (List ℕ)) → (a ++ (b ++ c)) ++ (d ++ ((e ++ f) ++ (g ++ h))) ≡ a ++ (b ++ (c ++ (d ++ (e ++ (f ++ (g ++ h))))))
regroup a b c d e f g h = simp append_assoc

reads_opening : (parts : Parts) → list_all has_names parts.variables ≡ true → AreVariables parts.variables → fact_count parts.variables ≤ most_facts → Reads opening (version_lines ++ (metric_lines parts.metric ++ counted variable_lines parts.variables)) (parts.metric, parts.variables)
unfolding opening
reads_opening parts named are all =
    reads_bind version _ version_lines (metric_lines parts.metric ++ counted variable_lines parts.variables) tt (parts.metric, parts.variables) reads_version
    (reads_bind metric _ (metric_lines parts.metric) (counted variable_lines parts.variables) parts.metric (parts.metric, parts.variables) (reads_metric parts.metric)
    (reads_map variables (λ vs. (parts.metric, vs)) (counted variable_lines parts.variables) parts.variables (reads_variables parts.variables named are all)))

reads_ends : (vs : List Variable) (init : List ℕ) (fs : List Fact) → AreVariables vs → starts vs init ≡ true → are_facts vs fs ≡ true → Reads (ends vs) (state_lines init ++ goal_lines fs) (init, fs)
unfolding ends
reads_ends vs init fs are start goals =
    reads_bind (state vs) _ (state_lines init) (goal_lines fs) init (init, fs) (reads_state vs init are start)
    (reads_map (goal vs) (λ fs. (init, fs)) (goal_lines fs) fs (reads_goal vs fs are goals))

reads_rest : (parts : Parts) → IsWellFormed parts → AreVariables parts.variables → ((i : ℕ) (o : Operator) → slice_get parts.operators i ≡ Some o → IsPrintable parts.metric parts.variables o) →
    Reads (rest parts.metric parts.variables) (counted group_lines parts.groups ++ ((state_lines parts.init ++ goal_lines parts.goal) ++ (counted operator_lines parts.operators ++ counted (rule_lines parts.init) parts.rules))) (given parts)
unfolding rest
reads_rest parts formed are each =
    let vs = parts.variables in
    let rule_part = counted (rule_lines parts.init) parts.rules in
    let operator_part = counted operator_lines parts.operators ++ rule_part in
    let end_part = state_lines parts.init ++ goal_lines parts.goal in
    reads_bind (groups vs) _ (counted group_lines parts.groups) (end_part ++ operator_part) parts.groups (given parts) (reads_groups vs parts.groups are formed.few_groups formed.groups)
    (reads_bind (ends vs) _ end_part operator_part (parts.init, parts.goal) (given parts) (reads_ends vs parts.init parts.goal are formed.init formed.goal)
    (reads_bind (operators parts.metric vs) _ (counted operator_lines parts.operators) rule_part (map in_order parts.operators) (given parts) (reads_operators parts.metric vs parts.operators are formed.few_operators each)
    (reads_map (rules vs parts.init) (λ rs. record { metric = parts.metric; variables = vs; groups = parts.groups; init = parts.init; goal = parts.goal; operators = map in_order parts.operators; rules = rs }) rule_part parts.rules
    (reads_rules vs parts.init parts.rules are formed.init formed.few_rules formed.rules))))

printable : (parts : Parts) → IsWellFormed parts → list_all (λ o. is_line_name o.name) parts.operators ≡ true → (i : ℕ) (o : Operator) → slice_get parts.operators i ≡ Some o → IsPrintable parts.metric parts.variables o
printable parts formed named i o at = record {
  name = list_all_get (λ o. is_line_name o.name) parts.operators i o named at;
  good = list_all_get (is_operator parts.variables) parts.operators i o formed.operators at;
  prevails = list_all_get has_few_prevail parts.operators i o formed.conditions at;
  once = (formed.order i o at).once;
  cost = λ unit. same_number o.cost 1 (list_all_get (λ o. nat_eq o.cost 1) parts.operators i o (formed.costs unit) at);
}

pub reads_task : (parts : Parts) → IsWellFormed parts → has_line_names parts ≡ true → Reads task (task_lines parts) (given parts)
unfolding task task_lines
reads_task parts formed names =
    let named = both (list_all has_names parts.variables) (list_all (λ o. is_line_name o.name) parts.operators) names in
    let are : AreVariables parts.variables = record { few = le-test (length parts.variables) most_variables formed.few_variables; each = formed.variables } in
    subst (λ ls. Reads task ls (given parts)) (regroup version_lines (metric_lines parts.metric) (counted variable_lines parts.variables) (counted group_lines parts.groups) (state_lines parts.init) (goal_lines parts.goal) (counted operator_lines parts.operators) (counted (rule_lines parts.init) parts.rules))
    (reads_bind opening _ (version_lines ++ (metric_lines parts.metric ++ counted variable_lines parts.variables)) _ (parts.metric, parts.variables) (given parts) (reads_opening parts named.0 are formed.few_facts)
    (reads_rest parts formed are (printable parts formed named.1)))
