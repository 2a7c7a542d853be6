-- What a verdict says of the cost.
use Rattle.std.specs.Prelude.{if◌then◌else◌, not, nat_eq, nat_lt, nat_le, option_map}
use Rattle.std.specs.Option.{option_or}
use Rattle.std.proofs.lemmas.Bool.Decides.{nat_tests}
use Rattle.std.proofs.Common.{◌≡◌, ℕ, zero, suc, ◌+◌, ◌<◌, Bool, true, false, List, [], ◌∷◌, length, Option, Some, None, Result, Ok, Err, refl, sym, ap, ◌∙◌, subst, arith}
use Rattle.std.proofs.lemmas.Bool.{lt-ltb, cond-true}
use Rattle.lama_num.specs.Gives.{◌>>=◌}
use Rattle.sas_task.specs.declared.contents.Parts.{Parts}
use Rattle.sas_task.specs.Costs.{is_unit_cost}
use Rattle.plan_text.specs.PlanLines.{plan_lines_of}
use Rattle.plan_text.specs.declared.reading.PlanLines.{PlanLines}
use Rattle.plan_text.specs.declared.faults.PlanTextFault.{PlanTextFault}
use Rattle.plan_text.specs.declared.faults.PlanTextFault.TheVariants.{TooLong}
use Rattle.plan_check.specs.declared.verdicts.PlanFault.{PlanFault}
use Rattle.plan_check.specs.declared.verdicts.PlanFault.TheVariants.{Text, NoOperator, NotApplicable, TooMany, NoGoal, WrongKind, WrongCost, NotCheaper}
use Rattle.plan_check.specs.declared.verdicts.Verdict.{Verdict}
use Rattle.plan_check.specs.declared.verdicts.Verdict.TheVariants.{Good, Bad}
use Rattle.plan_check.specs.Verdicts.{unless, only_if, or_fault, has_operator, pairs_after, pairs_up_to, are_many, fault_after, first_fault, first_plan, least_cost, cheaper, compared, plan_in, plan_of, as_text, as_verdict, verdict_of}
use Rattle.plan_check.specs.GoodPlans.{IsJudged, HasFewSteps}
use Rattle.lama_num.specs.Bounds.{is_below}
use Rattle.candidates.specs.declared.reading.Whole.{Whole}
use Rattle.candidates.specs.declared.reading.Whole.TheVariants as whole
use Rattle.candidates.specs.Whole.{whole_of}
use Rattle.candidates.specs.Judging.{real_cost, IsPlanIfGood, HeedsBound}

-- no fault of a cost that isn't below the bound
abbrev IsPlain : {A : Type 0} → Result A PlanFault → Type 0
IsPlain (Ok x) = Unit {0}
IsPlain (Err fault) = real_cost fault ≡ None

plain_only : (b : Bool) (fault : PlanFault) → real_cost fault ≡ None → IsPlain (only_if b fault)
plain_only true fault plain = tt
plain_only false fault plain = plain

plain_or : {A : Type 0} (fault : PlanFault) (found : Option A) → real_cost fault ≡ None → IsPlain (or_fault fault found)
plain_or fault None plain = plain
plain_or fault (Some x) plain = tt

-- no fault of a step is one of cost
abbrev IsPlainFault : Option PlanFault → Type 0
IsPlainFault None = Unit {0}
IsPlainFault (Some fault) = real_cost fault ≡ None

plain_choice : (b : Bool) (one two : Option PlanFault) → IsPlainFault one → IsPlainFault two → IsPlainFault (if b then one else two)
plain_choice true one two first second = first
plain_choice false one two first second = second

plain_step : (parts : Parts) (names : List (List ℕ)) (count : ℕ) → IsPlainFault (fault_after parts names count)
plain_step parts names count =
    let pairs = pairs_after parts names (suc count) in
    let many = are_many pairs (pairs_up_to parts names (suc count)) in
    plain_choice (not (has_operator parts names count)) (Some (NoOperator (suc count))) (if nat_eq pairs 0 then Some (NotApplicable (suc count)) else (if many then Some (TooMany (suc count)) else None)) refl
    (plain_choice (nat_eq pairs 0) (Some (NotApplicable (suc count))) (if many then Some (TooMany (suc count)) else None) refl
    (plain_choice many (Some (TooMany (suc count))) None refl tt))

plain_first : (one two : Option PlanFault) → IsPlainFault one → IsPlainFault two → IsPlainFault (option_or one two)
plain_first None two first second = second
plain_first (Some fault) two first second = first

plain_steps : (parts : Parts) (names : List (List ℕ)) (count : ℕ) → IsPlainFault (first_fault parts names count)
plain_steps parts names zero = tt
plain_steps parts names (suc count) = plain_first (first_fault parts names count) (fault_after parts names count) (plain_steps parts names count) (plain_step parts names count)

plain_unless : (fault : Option PlanFault) → IsPlainFault fault → IsPlain (unless fault)
plain_unless None plain = tt
plain_unless (Some fault) plain = plain

-- where all is told, the cost is below the bound; a fault of the cost says that it isn't
abbrev Tells : {A : Type 0} → Option ℕ → ℕ → Result A PlanFault → Type 0
Tells bound cost (Ok x) = is_below bound cost ≡ true
Tells bound cost (Err fault) = (c : ℕ) → real_cost fault ≡ Some c → is_below bound c ≡ false

no_cost : (fault : PlanFault) (c : ℕ) → real_cost fault ≡ None → real_cost fault ≡ Some c → ⊥
no_cost fault c none is = cc

tells_then : {A B : Type 0} (bound : Option ℕ) (cost : ℕ) (r : Result A PlanFault) (f : A → Result B PlanFault) → IsPlain r → ((x : A) → Tells bound cost (f x)) → Tells bound cost (r >>= f)
tells_then bound cost (Ok x) f plain so = so x
tells_then bound cost (Err fault) f plain so = λ c is. absurd (no_cost fault c plain is)

tells_with : {A B : Type 0} (bound : Option ℕ) (cost : ℕ) (r : Result A PlanFault) (f : A → B) → Tells bound cost r → Tells bound cost (r >>= (λ x. Ok (f x)))
tells_with bound cost (Ok x) f tells = tells
tells_with bound cost (Err fault) f tells = tells

tells_only : (b : Bool) (cost bound : ℕ) → nat_lt cost bound ≡ b → Tells (Some bound) cost (only_if b (NotCheaper cost bound))
tells_only true cost bound is = is
tells_only false cost bound is = λ c same. let eq : cost ≡ c = cc in ap (λ k. nat_lt k bound) (sym eq) ∙ is

tells_cheaper : (bound : Option ℕ) (cost : ℕ) → Tells bound cost (cheaper bound cost)
tells_cheaper None cost = refl
tells_cheaper (Some bound) cost = tells_only (nat_lt cost bound) cost bound refl

tells_true : (unit : Bool) (real : Option ℕ) (plan : Option (List ℕ)) (bound : Option ℕ) (lines : PlanLines) → Tells bound lines.cost (compared unit real plan bound lines)
tells_true unit real plan bound lines =
    let kind : Bool = if unit then lines.unit else not lines.unit in
    tells_then bound lines.cost (or_fault NoGoal real)
    (λ lowest. only_if kind WrongKind >>= (λ k. or_fault (WrongCost lowest) plan >>= (λ ops. cheaper bound lines.cost >>= (λ below. Ok ops))))
    (plain_or NoGoal real refl)
    (λ lowest. tells_then bound lines.cost (only_if kind WrongKind) (λ k. or_fault (WrongCost lowest) plan >>= (λ ops. cheaper bound lines.cost >>= (λ below. Ok ops)))
    (plain_only kind WrongKind refl)
    (λ k. tells_then bound lines.cost (or_fault (WrongCost lowest) plan) (λ ops. cheaper bound lines.cost >>= (λ below. Ok ops))
    (plain_or (WrongCost lowest) plan refl)
    (λ ops. tells_with bound lines.cost (cheaper bound lines.cost) (λ below. ops) (tells_cheaper bound lines.cost))))

fair_told : (bound : Option ℕ) (cost : ℕ) (r : Result (List ℕ) PlanFault) → Tells bound cost r → HeedsBound bound (as_verdict (r >>= (λ ops. Ok (ops, cost))))
fair_told bound cost (Ok ops) tells = tells
fair_told bound cost (Err fault) tells = tells

fair_plain : {A : Type 0} (bound : Option ℕ) (r : Result A PlanFault) (f : A → Result (List ℕ × ℕ) PlanFault) → IsPlain r → ((x : A) → HeedsBound bound (as_verdict (f x))) → HeedsBound bound (as_verdict (r >>= f))
fair_plain bound (Ok x) f plain so = so x
fair_plain bound (Err fault) f plain so = λ c is. absurd (no_cost fault c plain is)

fair_plan : (parts : Parts) (bound : Option ℕ) (lines : PlanLines) → HeedsBound bound (as_verdict (plan_in parts bound lines))
unfolding plan_in
fair_plan parts bound lines =
    let fault = first_fault parts lines.names (length lines.names) in
    let told = compared (is_unit_cost parts) (least_cost parts lines.names) (first_plan parts lines.names lines.cost) bound lines in
    fair_plain bound (unless fault) (λ each. told >>= (λ ops. Ok (ops, lines.cost))) (plain_unless fault (plain_steps parts lines.names (length lines.names)))
    (λ each. fair_told bound lines.cost told (tells_true (is_unit_cost parts) (least_cost parts lines.names) (first_plan parts lines.names lines.cost) bound lines))

plain_text : (read : Result PlanLines PlanTextFault) → IsPlain (as_text read)
plain_text (Ok lines) = tt
plain_text (Err fault) = refl

-- a verdict is by the bound
pub fair_verdict : (parts : Parts) (bytes : List ℕ) (bound : Option ℕ) → HeedsBound bound (verdict_of parts bytes bound)
unfolding verdict_of plan_of
fair_verdict parts bytes bound = fair_plain bound (as_text (plan_lines_of bytes)) (plan_in parts bound) (plain_text (plan_lines_of bytes)) (λ lines. fair_plan parts bound lines)

-- what is judged good is a plan
pub sound_verdict : (parts : Parts) (bytes : List ℕ) (bound : Option ℕ) (verdict : Verdict) → IsJudged parts bytes bound verdict → HasFewSteps verdict → IsPlanIfGood parts verdict
sound_verdict parts bytes bound (Good ops cost) judged few = record {
  plan = judged.plan;
  cost_is = judged.cost_is;
  operators = judged.operators;
  few = omega (arith, few);
}
sound_verdict parts bytes bound (Bad fault) judged few = tt

-- a text that is too long
pub too_long_verdict : (parts : Parts) (bytes : List ℕ) (bound : Option ℕ) → 67108864 < length bytes → verdict_of parts bytes bound ≡ Bad (Text TooLong)
unfolding verdict_of plan_of plan_lines_of
too_long_verdict parts bytes bound long =
    ap (λ read. as_verdict (as_text read >>= plan_in parts bound)) (cond-true (nat_lt 67108864 (length bytes)) _ _ (lt-ltb 67108864 (length bytes) long))

long_told : (parts : Parts) (bound : Option ℕ) (bytes : List ℕ) (fits : Bool) → nat_le (length bytes) 67108864 ≡ fits → whole.TooLong ≡ (if fits then whole.Bytes bytes else whole.TooLong) → verdict_of parts bytes bound ≡ Bad (Text TooLong)
long_told parts bound bytes true is told = cc
long_told parts bound bytes false is told = too_long_verdict parts bytes bound (grind (arith, nat_tests))

pub too_long_told : (parts : Parts) (bound : Option ℕ) (held : Option (List ℕ)) (read : Whole) → read ≡ whole.TooLong → read ≡ whole_of held 67108864 → Some (Bad (Text TooLong)) ≡ option_map (λ bytes. verdict_of parts bytes bound) held
too_long_told parts bound None read is told = cc
too_long_told parts bound (Some bytes) read is told = ap Some (sym (long_told parts bound bytes (nat_le (length bytes) 67108864) refl (sym is ∙ told)))
