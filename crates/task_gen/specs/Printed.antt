-- The canonical text of a task, as its lines.
use Rattle.std.specs.Prelude.{ℕ, List, [], ◌∷◌, ◌++◌, length, map, flat_map, Bool, if◌then◌else◌, codes, decimal, slice_index, Option, Some, None, option_map}
use Rattle.std.specs.List.{enumerate_from, join_with_byte}
use Rattle.text_lines.specs.Texts.{text_of}
use Rattle.sas_reader.specs.Reading.{begin_of, end_of}
use Rattle.sas_reader.specs.declared.sections.Section.{Section}
use Rattle.sas_reader.specs.declared.sections.Section.TheVariants.{Version, Metric, Variable as AVariable, MutexGroup, State, Goal, Operator as AnOperator, Rule as ARule}
use Rattle.sas_task.specs.Order.{prevail, standing_for}
use Rattle.sas_task.specs.declared.contents.Fact.{Fact}
use Rattle.sas_task.specs.declared.contents.Variable.{Variable}
use Rattle.sas_task.specs.declared.contents.Effect.{Effect}
use Rattle.sas_task.specs.declared.contents.Operator.{Operator}
use Rattle.sas_task.specs.declared.contents.Rule.{Rule}
use Rattle.sas_task.specs.declared.contents.Parts.{Parts}

-- words with one blank between them
abbrev pub spaced : List (List ℕ) → List ℕ
spaced words = join_with_byte 32 words

-- words, each behind a blank
abbrev pub behind_blanks : List (List ℕ) → List ℕ
behind_blanks words = flat_map (λ w. 32 ∷ w) words

-- a part between the words that begin and end it
abbrev pub part : Section → List (List ℕ) → List (List ℕ)
part section lines = begin_of section ∷ (lines ++ end_of section ∷ [])

-- things behind their count, each in its lines
abbrev pub counted : {X : Type 0} → (X → List (List ℕ)) → List X → List (List ℕ)
counted lines xs = decimal (length xs) ∷ flat_map lines xs

abbrev pub version_lines : List (List ℕ)
version_lines = part Version (codes "3" ∷ [])

abbrev pub metric_lines : Bool → List (List ℕ)
metric_lines metric = part Metric ((if metric then codes "1" else codes "0") ∷ [])

-- a number, or `-1` where there is none
abbrev pub number_or_none : Option ℕ → List ℕ
number_or_none None = codes "-1"
number_or_none (Some n) = decimal n

unfoldable pub variable_lines : Variable → List (List ℕ)
variable_lines v = part AVariable (v.name ∷ number_or_none v.layer ∷ decimal (length v.values) ∷ v.values)

abbrev pub fact_words : Fact → List (List ℕ)
fact_words f = decimal f.var ∷ decimal f.val ∷ []

-- facts behind their count
abbrev pub fact_lines : List Fact → List (List ℕ)
fact_lines facts = decimal (length facts) ∷ map (λ f. spaced (fact_words f)) facts

unfoldable pub group_lines : List Fact → List (List ℕ)
group_lines group = part MutexGroup (fact_lines group)

unfoldable pub state_lines : List ℕ → List (List ℕ)
state_lines init = part State (map decimal init)

unfoldable pub goal_lines : List Fact → List (List ℕ)
goal_lines goal = part Goal (fact_lines goal)

-- An effect: the number of its conditions, these, its variable, the value that this has to have before, if a precondition stands for it,
-- and the value that it gives.
unfoldable pub effect_line : Option ℕ → Effect → List ℕ
effect_line old e = spaced (decimal (length e.conds) ∷ (flat_map fact_words e.conds ++ decimal e.fact.var ∷ number_or_none old ∷ decimal e.fact.val ∷ []))

-- the value of the precondition that stands for an effect, which is given with its place
abbrev pub old_value : List Fact → List Effect → ℕ × Effect → Option ℕ
old_value pre effects e = option_map (λ f. f.val) (standing_for pre effects e)

unfoldable pub effect_lines : List Fact → List Effect → List (List ℕ)
effect_lines pre effects = map (λ e. effect_line (old_value pre effects e) e.1) (enumerate_from 0 effects)

-- Preconditions that stand for no effect have lines of their own, before the effects.
unfoldable pub change_lines : List Fact → List Effect → List (List ℕ)
change_lines pre effects = fact_lines (prevail pre effects) ++ decimal (length effects) ∷ effect_lines pre effects

-- In a task without a metric each cost is 1.
unfoldable pub operator_lines : Operator → List (List ℕ)
operator_lines o = part AnOperator (o.name ∷ (change_lines o.pre o.effects ++ decimal o.cost ∷ []))

-- The head's old value is its default.
abbrev pub head_line : List ℕ → Fact → List ℕ
head_line init head = spaced (decimal head.var ∷ decimal (slice_index init head.var) ∷ decimal head.val ∷ [])

unfoldable pub rule_lines : List ℕ → Rule → List (List ℕ)
rule_lines init r = part ARule (fact_lines r.conds ++ head_line init r.head ∷ [])

unfoldable pub task_lines : Parts → List (List ℕ)
task_lines parts =
    version_lines
    ++ (metric_lines parts.metric
    ++ (counted variable_lines parts.variables
    ++ (counted group_lines parts.groups
    ++ (state_lines parts.init
    ++ (goal_lines parts.goal
    ++ (counted operator_lines parts.operators
    ++ counted (rule_lines parts.init) parts.rules))))))

-- the canonical text: one blank between numbers, and a line feed behind each line
abbrev pub task_text : Parts → List ℕ
task_text parts = text_of (task_lines parts)
