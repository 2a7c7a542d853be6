-- A good file shows a plan.
use Rattle.std.proofs.Common.{◌≡◌, ◌∙◌, ap, refl, sym, subst, arith, ℕ, ◌<◌, List, length, Bool, true, false, Option, Some, None, Result, Ok, Err, nat_eq, nat_lt}
use Rattle.std.specs.Prelude.{IfSome, not, if◌then◌else◌}
use Rattle.std.proofs.lemmas.Bool.Decides.{nat_tests}
use Rattle.lama_num.specs.Gives.{◌>>=◌}
use Rattle.lama_num.proofs.ListLaws.{both}
use Rattle.sas_task.specs.declared.contents.Parts.{Parts}
use Rattle.sas_task.specs.Runs.{IsPlan, start_of, is_goal, cost_of}
use Rattle.sas_task.specs.Costs.{is_unit_cost}
use Rattle.plan_text.specs.PlanLines.{plan_lines_of}
use Rattle.plan_text.specs.declared.reading.PlanLines.{PlanLines}
use Rattle.plan_text.specs.declared.faults.PlanTextFault.{PlanTextFault}
use Rattle.plan_check.specs.Choices.{choices, IsChoice, IsBefore}
use Rattle.plan_check.specs.GoodPlans.{IsGoodPlan}
use Rattle.plan_check.specs.Verdicts.{unless, only_if, or_fault, cheaper, compared, reaches_goal, is_plan_at, first_fault, first_plan, least_cost, last_state, as_text, plan_in, plan_of}
use Rattle.plan_check.specs.declared.verdicts.PlanFault.{PlanFault}
use Rattle.plan_check.specs.declared.verdicts.PlanFault.TheVariants.{NoGoal, WrongKind, WrongCost, NotCheaper, Text}
use Rattle.plan_check.proofs.Earliest.{choice_taken, earliest}
use Rattle.plan_check.proofs.Chosen.{AreTaken, choices-taken, find_each, taken_choice, taken_leads, taken_long, taken_within}

abbrev Gives : {A : Type 0} → Result A PlanFault → A → Type 0
Gives {A} r x = ◌≡◌ {A = Result A PlanFault} r (Ok x)

-- what went well went well in each part
record Then {A B : Type 0} (r : Result A PlanFault) (f : A → Result B PlanFault) (y : B) : Type 0 where
  first : A
  gives : Gives r first
  rest : Gives (f first) y

then_ok : {A B : Type 0} (r : Result A PlanFault) (f : A → Result B PlanFault) (y : B) → Gives (r >>= f) y → Then r f y
then_ok (Ok x) f y is = record { first = x; gives = refl; rest = is }
then_ok {B} (Err fault) f y is = let clash : ◌≡◌ {A = Result B PlanFault} (Err fault) (Ok y) = is in cc

or_fault_ok : {A : Type 0} (fault : PlanFault) (o : Option A) (x : A) → Gives (or_fault fault o) x → o ≡ Some x
or_fault_ok {A} fault None x is = let clash : ◌≡◌ {A = Result A PlanFault} (Err fault) (Ok x) = is in cc
or_fault_ok {A} fault (Some y) x is = let same : ◌≡◌ {A = Result A PlanFault} (Ok y) (Ok x) = is in let eq : y ≡ x = cc in ap (λ z. Some z) eq

only_if_ok : (b : Bool) (fault : PlanFault) (x : Unit {0}) → Gives (only_if b fault) x → b ≡ true
only_if_ok true fault x is = refl
only_if_ok false fault x is = let clash : ◌≡◌ {A = Result (Unit {0}) PlanFault} (Err fault) (Ok x) = is in cc

cheaper_ok : (bound : Option ℕ) (cost : ℕ) (x : Unit {0}) → Gives (cheaper bound cost) x → IfSome bound (λ limit. cost < limit)
cheaper_ok None cost x is = tt
cheaper_ok (Some limit) cost x is = let test : nat_lt cost limit ≡ true = only_if_ok (nat_lt cost limit) (NotCheaper cost limit) x is in grind (arith, nat_tests, test)

same_kind : (unit told : Bool) → (if unit then told else not told) ≡ true → told ≡ unit
same_kind true told is = is
same_kind false true is = let k : false ≡ true = is in cc
same_kind false false is = refl

-- what a comparison without a fault tells
record Agrees (unit : Bool) (plan : Option (List ℕ)) (bound : Option ℕ) (lines : PlanLines) (ops : List ℕ) : Type 0 where
  plan_is : plan ≡ Some ops
  kind_is : lines.unit ≡ unit
  cheaper : IfSome bound (λ limit. lines.cost < limit)

agrees : (unit : Bool) (real : Option ℕ) (plan : Option (List ℕ)) (bound : Option ℕ) (lines : PlanLines) (ops : List ℕ) → Gives (compared unit real plan bound lines) ops → Agrees unit plan bound lines ops
agrees unit real plan bound lines ops is =
    let kind : Bool = if unit then lines.unit else not lines.unit in
    let goal = then_ok (or_fault NoGoal real) (λ lowest. only_if kind WrongKind >>= λ k. or_fault (WrongCost lowest) plan >>= λ found. cheaper bound lines.cost >>= λ below. Ok found) ops is in
    let own = then_ok (only_if kind WrongKind) (λ k. or_fault (WrongCost goal.first) plan >>= λ found. cheaper bound lines.cost >>= λ below. Ok found) ops goal.rest in
    let told = then_ok (or_fault (WrongCost goal.first) plan) (λ found. cheaper bound lines.cost >>= λ below. Ok found) ops own.rest in
    let low = then_ok (cheaper bound lines.cost) (λ below. Ok told.first) ops told.rest in
    let last : ◌≡◌ {A = Result (List ℕ) PlanFault} (Ok told.first) (Ok ops) = low.rest in
    let same : told.first ≡ ops = cc in
    record {
      plan_is = or_fault_ok (WrongCost goal.first) plan told.first told.gives ∙ ap (λ z. Some z) same;
      kind_is = same_kind unit lines.unit (only_if_ok kind WrongKind own.first own.gives);
      cheaper = cheaper_ok bound lines.cost low.first low.gives;
    }

abbrev Planned : Type 0
Planned = Result (List ℕ × ℕ) PlanFault

-- what lines tell where they are good
record IsPlanIn (parts : Parts) (bound : Option ℕ) (lines : PlanLines) (ops : List ℕ) (cost : ℕ) : Type 0 where
  agree : Agrees (is_unit_cost parts) (first_plan parts lines.names lines.cost) bound lines ops
  told : lines.cost ≡ cost

plan_in-tells : (parts : Parts) (bound : Option ℕ) (lines : PlanLines) (ops : List ℕ) (cost : ℕ) → Gives (plan_in parts bound lines) (ops, cost) → IsPlanIn parts bound lines ops cost
unfolding plan_in
plan_in-tells parts bound lines ops cost is =
    let whole = compared (is_unit_cost parts) (least_cost parts lines.names) (first_plan parts lines.names lines.cost) bound lines in
    let each = then_ok (unless (first_fault parts lines.names (length lines.names))) (λ each. whole >>= λ found. Ok (found, lines.cost)) (ops, cost) is in
    let last = then_ok whole (λ found. Ok (found, lines.cost)) (ops, cost) each.rest in
    let end : ◌≡◌ {A = Planned} (Ok (last.first, lines.cost)) (Ok (ops, cost)) = last.rest in
    let pair : ◌≡◌ {A = List ℕ × ℕ} (last.first, lines.cost) (ops, cost) = cc in
    let same : last.first ≡ ops = ap (λ (p : List ℕ × ℕ). p.0) pair in
    let told : lines.cost ≡ cost = ap (λ (p : List ℕ × ℕ). p.1) pair in
    record {
      agree = subst (Agrees (is_unit_cost parts) (first_plan parts lines.names lines.cost) bound lines) same (agrees (is_unit_cost parts) (least_cost parts lines.names) (first_plan parts lines.names lines.cost) bound lines last.first last.gives);
      told = told;
    }

-- a plan has as many operators as the lines have names
pub plan_in-long : (parts : Parts) (bound : Option ℕ) (lines : PlanLines) (ops : List ℕ) (cost : ℕ) → plan_in parts bound lines ≡ Ok (ops, cost) → length ops ≡ length lines.names
plan_in-long parts bound lines ops cost is =
    let told = plan_in-tells parts bound lines ops cost is in
    let found = find_each (AreTaken parts (start_of parts) lines.names) (is_plan_at parts lines.cost) (choices parts lines.names) ops (choices-taken parts lines.names) told.agree.plan_is in
    taken_long parts (start_of parts) lines.names ops found.0

-- no other choice that is a plan of the cost comes before the first
not_earlier : (parts : Parts) (names : List (List ℕ)) (cost : ℕ) (ops others : List ℕ) → first_plan parts names cost ≡ Some ops → IsChoice parts names others → IsPlan parts others → cost_of parts others ≡ cost → IsBefore others ops → ⊥
not_earlier parts names cost ops others is choice plan same before =
    let taken = choice_taken parts names others choice in
    let some : Some (last_state parts others) ≡ Some plan.last = sym (taken_leads parts (start_of parts) names others taken) ∙ plan.leads in
    let last : last_state parts others ≡ plan.last = cc in
    let goal : reaches_goal parts others ≡ true = ap (is_goal parts) last ∙ plan.goal in
    let own : nat_eq (cost_of parts others) cost ≡ true = grind (arith, nat_tests, same) in
    let first = earliest parts names (start_of parts) (is_plan_at parts cost) others taken (rw (goal, own) refl) in
    let found : Some first.ops ≡ Some ops = sym first.is ∙ is in
    let own_ops : first.ops ≡ ops = cc in
    first.least (subst (IsBefore others) (sym own_ops) before)

found_plan : (parts : Parts) (bytes : List ℕ) (bound : Option ℕ) (lines : PlanLines) (ops : List ℕ) (cost : ℕ) → plan_lines_of bytes ≡ Ok lines → IsPlanIn parts bound lines ops cost → IsGoodPlan parts bytes bound ops cost
found_plan parts bytes bound lines ops cost text is =
    let found = find_each (AreTaken parts (start_of parts) lines.names) (is_plan_at parts lines.cost) (choices parts lines.names) ops (choices-taken parts lines.names) is.agree.plan_is in
    let tests = both (reaches_goal parts ops) (nat_eq (cost_of parts ops) lines.cost) found.1 in
    let own : nat_eq (cost_of parts ops) lines.cost ≡ true = tests.1 in
    let real : cost_of parts ops ≡ lines.cost = grind (arith, nat_tests, own) in
    let choice = taken_choice parts lines.names ops found.0 in
    record {
      lines = lines;
      text = text;
      chosen = choice;
      operators = taken_within parts (start_of parts) lines.names ops found.0;
      plan = record { last = last_state parts ops; leads = taken_leads parts (start_of parts) lines.names ops found.0; goal = tests.0 };
      kind = is.agree.kind_is;
      told = is.told;
      cost_is = sym is.told ∙ sym real;
      cheaper = subst (λ n. IfSome bound (λ limit. n < limit)) is.told is.agree.cheaper;
      first = λ others own_choice plan same. not_earlier parts lines.names lines.cost ops others is.agree.plan_is own_choice plan (same ∙ sym is.told);
    }

as_text_ok : (read : Result PlanLines PlanTextFault) (lines : PlanLines) → Gives (as_text read) lines → read ≡ Ok lines
as_text_ok (Ok other) lines is = let same : ◌≡◌ {A = Result PlanLines PlanFault} (Ok other) (Ok lines) = is in let eq : other ≡ lines = cc in ap (λ z. Ok z) eq
as_text_ok (Err fault) lines is = let clash : ◌≡◌ {A = Result PlanLines PlanFault} (Err (Text fault)) (Ok lines) = is in cc

pub good_by : (parts : Parts) (bytes : List ℕ) (bound : Option ℕ) (ops : List ℕ) (cost : ℕ) → plan_of parts bound bytes ≡ Ok (ops, cost) → IsGoodPlan parts bytes bound ops cost
unfolding plan_of
good_by parts bytes bound ops cost is =
    let split = then_ok (as_text (plan_lines_of bytes)) (plan_in parts bound) (ops, cost) is in
    found_plan parts bytes bound split.first ops cost (as_text_ok (plan_lines_of bytes) split.first split.gives) (plan_in-tells parts bound split.first ops cost split.rest)
