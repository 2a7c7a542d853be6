use Rattle.std.proofs.Common.{◌≡◌, true, false, is_some, ap, sym, ◌∙◌, arith, refl}
use Rattle.std.specs.FinSet as sets
use Rattle.exit_codes.specs.Combined.{single_critical, codes_between}
use Rattle.exit_codes.proofs.CriticalLaws.{codes_between-none, codes_between-with, codes_between-without, single_critical-first, single_critical-second}
use Rattle.exit_codes.proofs.combined.critical_error.Goals as goal
use Rattle.exit_codes.proofs.combined.critical_error.Goals.{then-has+then-is_none, then-has+else-is_none, else-has}

pub loop-code-init : goal.loop-code-init
loop-code-init c = let none = codes_between-none c.args.codes 30 in rw none refl

pub loop-code-preserved : goal.loop-code-preserved
loop-code-preserved c =
    let codes = c.args.codes in
    let code = c.loop-code.code in
    let so_far = codes_between codes 30 code in
    elim c.if-has.branch [
      | then-has+then-is_none w ↦
          let there : sets.contains codes code ≡ true = cc in
          let none : is_some (single_critical so_far) ≡ false = ap is_some (sym c.loop-code.invariant) ∙ w.if-is_none.ensures in
          w.found-is ∙ sym (ap single_critical (codes_between-with codes 30 code (omega arith) there) ∙ single_critical-first so_far code none)
      | then-has+else-is_none w ↦
          let there : sets.contains codes code ≡ true = cc in
          let some : is_some (single_critical so_far) ≡ true = ap is_some (sym c.loop-code.invariant) ∙ w.if-is_none.ensures in
          w.found-is ∙ sym (ap single_critical (codes_between-with codes 30 code (omega arith) there) ∙ single_critical-second so_far code some)
      | else-has w ↦
          let out : sets.contains codes code ≡ false = cc in
          w.found-is ∙ c.loop-code.invariant ∙ sym (ap single_critical (codes_between-without codes 30 code (omega arith) out))
    ]

pub returns : goal.returns
returns c =
    let all : c.loop-code.code ≡ 40 = omega arith in
    c.loop-code.invariant ∙ ap (λ k. single_critical (codes_between c.args.codes 30 k)) all
