-- What is written is read back.
use Rattle.std.proofs.Common.{◌≡◌, ◌∙◌, sym, ap, refl, ℕ, ◌+◌, ◌<◌, ◌≤◌, ◌^◌, List, [], ◌∷◌, ◌++◌, length, drop, map, reverse, Bool, true, false, Some, None, Result, Ok, Err, arith, append_assoc, nat_eq, nat_lt}
use Rattle.std.specs.Option.{option_or}
use Rattle.std.specs.Char.{is_ascii_digit}
use Rattle.std.specs.Prelude.{is_some, unwrap_or, codes, decimal, not, if◌then◌else◌, option_and_then, option_map}
use Rattle.std.specs.List.{list_all, flat_map, prefix_len}
use Rattle.std.specs.Str.{bytes_eq, all_ascii_digits}
use Rattle.std.proofs.lemmas.Bool.Decides.{nat_tests}
use Rattle.std.proofs.lemmas.List.{reverse-append, reverse-reverse}
use Rattle.std.proofs.lemmas.Slice.Eq.{bytes_eq-Decides}
use Rattle.lama_num.proofs.ListLaws.{both}
use Rattle.lama_num.specs.Decimals.{is_decimal, decimal_of}
use Rattle.lama_num.proofs.DecimalLaws.{decimal_of-decimal, decimal_of_some}
use Rattle.text_lines.specs.Lines.{lines_of, trimmed}
use Rattle.text_lines.specs.Texts.{has_no_feed}
use Rattle.text_lines.proofs.LineLaws.{cut_lines-feed, trimmed-bare, begins_bare-reverse}
use Rattle.sas_task.specs.declared.contents.Parts.{Parts}
use Rattle.sas_task.specs.Costs.{is_unit_cost}
use Rattle.sas_task.specs.Runs.{cost_of}
use Rattle.plan_text.specs.PlanText.{name_at, step_line, cost_line, plan_text}
use Rattle.plan_text.specs.PlanLines.{behind, before, step_name, is_step, name_in, digits_in, cost_digits, cost_in, or_fault, no_cost, only_empty, ending, names_in_front, plan_lines, plan_lines_of, is_finished}
use Rattle.plan_text.specs.ReadBack.{fits_line, IsReadBack}
use Rattle.plan_text.specs.declared.reading.PlanLines.{PlanLines}
use Rattle.plan_text.specs.declared.faults.PlanTextFault.{PlanTextFault}
use Rattle.plan_text.specs.declared.faults.PlanTextFault.TheVariants.{BadCost, TooLong}
use Rattle.lama_num.specs.Gives.{◌>>=◌}
use Rattle.plan_text.proofs.TextEnds.{before-append}
use Rattle.plan_text.proofs.Fronts.{passes_rest, passes_front, fails_rest, fails_front}

-- the line of a step, without its line feed
abbrev step_of : List ℕ → List ℕ
step_of name = 40 ∷ (name ++ 41 ∷ [])

step_trimmed : (name : List ℕ) → trimmed (step_of name) ≡ step_of name
step_trimmed name = trimmed-bare (step_of name) refl (begins_bare-reverse (40 ∷ name) 41 refl)

-- what the test of a name tells
fits_feed : (name : List ℕ) → fits_line name ≡ true → has_no_feed name ≡ true
fits_feed name fits = (both (has_no_feed name) (bytes_eq (trimmed name) name) fits).0

fits_trimmed : (name : List ℕ) → fits_line name ≡ true → trimmed name ≡ name
fits_trimmed name fits = (bytes_eq-Decides (trimmed name) name).0 (both (has_no_feed name) (bytes_eq (trimmed name) name) fits).1

no_feed-append : (a b : List ℕ) → has_no_feed a ≡ true → has_no_feed b ≡ true → has_no_feed (a ++ b) ≡ true
no_feed-append [] b one two = two
no_feed-append (x ∷ a) b one two =
    let parts = both (not (nat_eq x 10)) (has_no_feed a) one in
    rw (parts.0, no_feed-append a b parts.1 two) refl

step_of-name : (name : List ℕ) → fits_line name ≡ true → step_name (step_of name) ≡ Some name
step_of-name name fits =
    let inner : before (codes ")") (name ++ codes ")") ≡ Some name = before-append (codes ")") name in
    ap (λ o. option_map trimmed o) inner ∙ ap (λ n. Some n) (fits_trimmed name fits)

step_feed : (name : List ℕ) → fits_line name ≡ true → has_no_feed (step_of name) ≡ true
step_feed name fits = no_feed-append name (41 ∷ []) (fits_feed name fits) refl

-- the cost line, without its line feed
abbrev ends_of : Bool → List ℕ
ends_of unit = if unit then codes "(unit cost)" else codes "(general cost)"

abbrev cost_text : Bool → ℕ → List ℕ
cost_text unit cost = codes "; cost = " ++ (decimal cost ++ (32 ∷ ends_of unit))

cost_line-feed : (unit : Bool) (cost : ℕ) → cost_line unit cost ≡ cost_text unit cost ++ 10 ∷ []
cost_line-feed true cost = simp append_assoc
cost_line-feed false cost = simp append_assoc

cost_trimmed : (unit : Bool) (cost : ℕ) → trimmed (cost_text unit cost) ≡ cost_text unit cost
cost_trimmed true cost =
    let shape : cost_text true cost ≡ 59 ∷ ((codes " cost = " ++ (decimal cost ++ codes " (unit cost")) ++ 41 ∷ []) = simp append_assoc in
    rw shape (trimmed-bare _ refl (begins_bare-reverse (codes "; cost = " ++ (decimal cost ++ codes " (unit cost")) 41 refl))
cost_trimmed false cost =
    let shape : cost_text false cost ≡ 59 ∷ ((codes " cost = " ++ (decimal cost ++ codes " (general cost")) ++ 41 ∷ []) = simp append_assoc in
    rw shape (trimmed-bare _ refl (begins_bare-reverse (codes "; cost = " ++ (decimal cost ++ codes " (general cost")) 41 refl))

decimal_digits : (cost : ℕ) → cost < 2 ^ 64 → is_decimal (decimal cost) ≡ true
decimal_digits cost small = (decimal_of_some (decimal cost) cost (decimal_of-decimal cost small)).digits

digits_in-decimal : (cost : ℕ) → cost < 2 ^ 64 → digits_in (decimal cost ++ 32 ∷ []) ≡ Some (decimal cost)
digits_in-decimal cost small =
    let turned : reverse (decimal cost ++ 32 ∷ []) ≡ 32 ∷ reverse (decimal cost) = reverse-append (decimal cost) (32 ∷ []) in
    let back : reverse (reverse (decimal cost)) ≡ decimal cost = reverse-reverse (decimal cost) in
    rw (turned, back, decimal_digits cost small) refl

ends_found : (ends : List ℕ) (cost : ℕ) → cost < 2 ^ 64 → option_and_then digits_in (before ends (decimal cost ++ (32 ∷ ends))) ≡ Some (decimal cost)
ends_found ends cost small =
    ap (λ t. option_and_then digits_in (before ends t)) (sym (append_assoc (decimal cost) (32 ∷ []) ends))
    ∙ ap (λ o. option_and_then digits_in o) (before-append ends (decimal cost ++ 32 ∷ []))
    ∙ digits_in-decimal cost small

not_unit : (digits : List ℕ) → before (codes "(unit cost)") (digits ++ (32 ∷ codes "(general cost)")) ≡ None
not_unit digits = ap (λ t. option_map reverse (behind (reverse (codes "(unit cost)")) t)) (reverse-append digits (32 ∷ codes "(general cost)"))

cost_in-text : (unit : Bool) (cost : ℕ) → cost < 2 ^ 64 → cost_in (cost_text unit cost) ≡ Some (decimal cost, unit)
cost_in-text true cost small =
    ap (λ o. option_or (option_map (λ digits. (digits, true)) o) (option_map (λ digits. (digits, false)) (cost_digits (codes "(general cost)") (cost_text true cost)))) (ends_found (codes "(unit cost)") cost small)
cost_in-text false cost small =
    ap (λ o. option_or (option_map (λ digits. (digits, true)) (option_and_then digits_in o)) (option_map (λ digits. (digits, false)) (cost_digits (codes "(general cost)") (cost_text false cost)))) (not_unit (decimal cost))
    ∙ ap (λ o. option_map (λ digits. (digits, false)) o) (ends_found (codes "(general cost)") cost small)

cost_no_step : (unit : Bool) (cost : ℕ) → is_step (cost_text unit cost) ≡ false
cost_no_step true cost = refl
cost_no_step false cost = refl

digit_no_feed : (c : ℕ) → is_ascii_digit c ≡ true → not (nat_eq c 10) ≡ true
digit_no_feed c is = grind (arith, nat_tests)

digits_no_feed : (ds : List ℕ) → all_ascii_digits ds ≡ true → has_no_feed ds ≡ true
digits_no_feed [] is = refl
digits_no_feed (d ∷ ds) is =
    let parts = both (is_ascii_digit d) (all_ascii_digits ds) is in
    rw (digit_no_feed d parts.0, digits_no_feed ds parts.1) refl

decimal_no_feed : (ds : List ℕ) → is_decimal ds ≡ true → has_no_feed ds ≡ true
decimal_no_feed [] is = let k : false ≡ true = is in cc
decimal_no_feed (d ∷ ds) is = digits_no_feed (d ∷ ds) is

cost_feed : (unit : Bool) (cost : ℕ) → cost < 2 ^ 64 → has_no_feed (cost_text unit cost) ≡ true
cost_feed true cost small = no_feed-append (decimal cost) (32 ∷ codes "(unit cost)") (decimal_no_feed (decimal cost) (decimal_digits cost small)) refl
cost_feed false cost small = no_feed-append (decimal cost) (32 ∷ codes "(general cost)") (decimal_no_feed (decimal cost) (decimal_digits cost small)) refl

-- the lines of what is written
module _ (parts : Parts) (unit : Bool) (cost : ℕ) (small : cost < 2 ^ 64) where
  abbrev text_of : List ℕ → List ℕ
  text_of ops = flat_map (λ op. step_line (name_at parts op)) ops ++ cost_line unit cost

  abbrev lines_for : List ℕ → List (List ℕ)
  lines_for ops = map (λ op. step_of (name_at parts op)) ops ++ cost_text unit cost ∷ []

  abbrev fit : List ℕ → Bool
  fit ops = list_all (λ op. fits_line (name_at parts op)) ops

  one_step : (name rest : List ℕ) → (step_line name ++ rest) ++ cost_line unit cost ≡ step_of name ++ 10 ∷ (rest ++ cost_line unit cost)
  one_step name rest =
      let tail : List ℕ = rest ++ cost_line unit cost in
      ap (λ t. 40 ∷ t) (append_assoc (name ++ codes ")\n") rest (cost_line unit cost) ∙ append_assoc name (codes ")\n") tail ∙ sym (append_assoc name (41 ∷ []) (10 ∷ tail)))

  lines_of-text : (ops : List ℕ) → fit ops ≡ true → lines_of (text_of ops) ≡ lines_for ops
  lines_of-text [] are =
      ap lines_of (cost_line-feed unit cost)
      ∙ ap (map trimmed) (cut_lines-feed (cost_text unit cost) [] (cost_feed unit cost small))
      ∙ ap (λ line. line ∷ []) (cost_trimmed unit cost)
  lines_of-text (op ∷ ops) are =
      let tests = both (fits_line (name_at parts op)) (fit ops) are in
      let name = name_at parts op in
      ap lines_of (one_step name (flat_map (λ op. step_line (name_at parts op)) ops))
      ∙ ap (map trimmed) (cut_lines-feed (step_of name) (text_of ops) (step_feed name tests.0))
      ∙ ap (λ line. line ∷ lines_of (text_of ops)) (step_trimmed name)
      ∙ ap (λ lines. step_of name ∷ lines) (lines_of-text ops tests.1)

  stepped : (op : ℕ) → fits_line (name_at parts op) ≡ true → is_step (step_of (name_at parts op)) ≡ true
  stepped op fits = ap (λ o. is_some o) (step_of-name (name_at parts op) fits)

  named : (op : ℕ) → fits_line (name_at parts op) ≡ true → name_in (step_of (name_at parts op)) ≡ name_at parts op
  named op fits = ap (λ o. unwrap_or o []) (step_of-name (name_at parts op) fits)

  names_are : (ops : List ℕ) → fit ops ≡ true → names_in_front (lines_for ops) ≡ map (name_at parts) ops
  names_are [] are = ap (map name_in) (fails_front is_step (cost_text unit cost) [] (cost_no_step unit cost))
  names_are (op ∷ ops) are =
      let tests = both (fits_line (name_at parts op)) (fit ops) are in
      ap (map name_in) (passes_front is_step (step_of (name_at parts op)) (lines_for ops) (stepped op tests.0))
      ∙ ap (λ name. name ∷ names_in_front (lines_for ops)) (named op tests.0)
      ∙ ap (λ names. name_at parts op ∷ names) (names_are ops tests.1)

  rest_is : (ops : List ℕ) → fit ops ≡ true → drop (prefix_len is_step (lines_for ops)) (lines_for ops) ≡ cost_text unit cost ∷ []
  rest_is [] are = fails_rest is_step (cost_text unit cost) [] (cost_no_step unit cost)
  rest_is (op ∷ ops) are =
      let tests = both (fits_line (name_at parts op)) (fit ops) are in
      passes_rest is_step (step_of (name_at parts op)) (lines_for ops) (stepped op tests.0) ∙ rest_is ops tests.1

  ending_is : (finished : Bool) (n : ℕ) → ending finished n (cost_text unit cost ∷ []) ≡ Ok (cost, unit)
  ending_is finished n =
      ap (λ o. or_fault (no_cost finished n []) o >>= λ c. or_fault BadCost (decimal_of c.0) >>= λ number. only_empty (n + 2) [] >>= λ nothing. Ok (number, c.1)) (cost_in-text unit cost small)
      ∙ ap (λ o. or_fault BadCost o >>= λ number. only_empty (n + 2) [] >>= λ nothing. Ok (number, unit)) (decimal_of-decimal cost small)

  whole : (finished : Bool) (ops : List ℕ) → fit ops ≡ true → plan_lines finished (lines_for ops) ≡ Ok (record { names = map (name_at parts) ops; cost = cost; unit = unit })
  unfolding plan_lines
  whole finished ops are =
      let n = prefix_len is_step (lines_for ops) in
      let with_names : List (List ℕ) → ℕ × Bool → Result PlanLines PlanTextFault = λ names c. Ok (record { names = names; cost = c.0; unit = c.1 }) in
      ap (λ rest. ending finished n rest >>= with_names (names_in_front (lines_for ops))) (rest_is ops are)
      ∙ ap (λ r. r >>= with_names (names_in_front (lines_for ops))) (ending_is finished n)
      ∙ ap (λ names. with_names names (cost, unit)) (names_are ops are)

within_limit : (n : ℕ) → n ≤ 67108864 → nat_lt 67108864 n ≡ false
within_limit n le = grind (arith, nat_tests)

pub read_back : (parts : Parts) (ops : List ℕ) → IsReadBack parts ops
unfolding plan_lines_of
read_back parts ops = λ are short small.
    let text = plan_text parts ops in
    ap (λ b. if b then Err TooLong else plan_lines (is_finished text) (lines_of text)) (within_limit (length text) short)
    ∙ ap (plan_lines (is_finished text)) (lines_of-text parts (is_unit_cost parts) (cost_of parts ops) small ops are)
    ∙ whole parts (is_unit_cost parts) (cost_of parts ops) small (is_finished text) ops are
