-- A text has no more steps than bytes.
use Rattle.std.proofs.Common.{◌≡◌, ◌∙◌, sym, ap, ℕ, suc, ◌≤◌, List, [], ◌∷◌, length, drop, Bool, true, false, Result, Ok, Err, arith, nat_eq}
use Rattle.std.specs.Prelude.{if◌then◌else◌, IfOk}
use Rattle.std.specs.List.{prefix_len}
use Rattle.std.proofs.lemmas.List.{length-map}
use Rattle.std.proofs.lemmas.List.Sums.{prefix_len-le-length}
use Rattle.lama_num.specs.Gives.{◌>>=◌, Gives}
use Rattle.text_lines.specs.Lines.{cut_lines, lines_of, onto}
use Rattle.plan_text.specs.PlanLines.{is_step, names_in_front, ending, plan_lines, is_finished, fault_of}
use Rattle.plan_text.specs.declared.reading.PlanLines.{PlanLines}
use Rattle.plan_text.specs.declared.faults.PlanTextFault.{PlanTextFault}
use Rattle.plan_text.specs.declared.faults.PlanTextError.{PlanTextError}
use Rattle.plan_text.proofs.Fronts.{names_long}

onto_long : (b : ℕ) (pieces : List (List ℕ)) → length (onto b pieces) ≤ suc (length pieces)
onto_long b [] = omega arith
onto_long b (piece ∷ pieces) = omega arith

cut_lines_long : (bytes : List ℕ) → length (cut_lines bytes) ≤ length bytes
cut_lines_long [] = omega arith
cut_lines_long (b ∷ bs) =
    let rest = cut_lines_long bs in
    let more = onto_long b (cut_lines bs) in
    elim (nat_eq b 10) as (λ t. length (if t then [] ∷ cut_lines bs else onto b (cut_lines bs)) ≤ suc (length bs)) [
      | true ↦ omega (arith, rest)
      | false ↦ omega (arith, rest, more)
    ]

lines_of_long : (bytes : List ℕ) → length (lines_of bytes) ≤ length bytes
lines_of_long bytes = let same : length (lines_of bytes) ≡ length (cut_lines bytes) = simp length-map in omega (arith, same, cut_lines_long bytes)

few_lines : (finished : Bool) (lines : List (List ℕ)) (read : PlanLines) → plan_lines finished lines ≡ Ok read → length read.names ≤ length lines
unfolding plan_lines
few_lines finished lines read is =
    elim (ending finished (prefix_len is_step lines) (drop (prefix_len is_step lines) lines)) as (λ r. (r >>= λ cost. Ok (record { names = names_in_front lines; cost = cost.0; unit = cost.1 })) ≡ Ok read → length read.names ≤ length lines) [
      | Err fault ↦ λ e. let k : ◌≡◌ {A = Result PlanLines PlanTextFault} (Err fault) (Ok read) = e in cc
      | Ok cost ↦ λ e.
          let made : PlanLines = record { names = names_in_front lines; cost = cost.0; unit = cost.1 } in
          let k : ◌≡◌ {A = Result PlanLines PlanTextFault} (Ok made) (Ok read) = e in
          let same : made ≡ read = cc in
          let names : names_in_front lines ≡ read.names = ap (λ r. r.names) same in
          let long : length read.names ≡ prefix_len is_step lines = ap (λ t. length t) (sym names) ∙ names_long lines in
          omega (arith, long, prefix_len-le-length is_step lines)
    ] is

pub few_given : (bytes : List ℕ) (result : Result PlanLines PlanTextError) → length bytes ≤ 67108864 → Gives fault_of (λ read. read) result (plan_lines (is_finished bytes) (lines_of bytes)) → IfOk result (λ read. length read.names ≤ 67108864)
few_given bytes (Ok read) short is = let few = few_lines (is_finished bytes) (lines_of bytes) read is in omega (arith, few, short, lines_of_long bytes)
few_given bytes (Err e) short is = tt
