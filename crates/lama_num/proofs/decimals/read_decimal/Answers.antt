use Rattle.std.proofs.Common.{rules, ◌≡◌, ◌+◌, ◌-◌, ◌*◌, ◌^◌, ◌<◌, ◌≤◌, ◌∙◌, length, true, get_or, arith}
use Rattle.std.specs.Char.{is_ascii_digit}
use Rattle.lama_num.proofs.DecimalDigits.{loop_digit, loop_large, loop_end}
use Rattle.lama_num.proofs.decimals.read_decimal.Goals as goal

pub returns-in_err-checked_mul : goal.returns-in_err-checked_mul
returns-in_err-checked_mul c =
    let digit : is_ascii_digit (get_or c.args.text.now c.loop-byte.byte-index 0) ≡ true = search rules in
    let large : 2 ^ 64 ≤ c.loop-byte.value * 10 + (get_or c.args.text.now c.loop-byte.byte-index 0 - 48) = omega (arith, c.in_err-checked_mul.ensures) in
    c.from_residual.ensures ∙ loop_large c.args.text.now c.loop-byte.byte-index c.loop-byte.value (omega arith) digit large c.loop-byte.invariant.same

pub returns-in_err-value : goal.returns-in_err-value
returns-in_err-value c =
    let digit : is_ascii_digit (get_or c.args.text.now c.loop-byte.byte-index 0) ≡ true = search rules in
    let large : 2 ^ 64 ≤ c.loop-byte.value * 10 + (get_or c.args.text.now c.loop-byte.byte-index 0 - 48) = omega (arith, c.in_err-value.ensures, c.in_ok-checked_mul.ensures) in
    c.from_residual-in_err-value.ensures ∙ loop_large c.args.text.now c.loop-byte.byte-index c.loop-byte.value (omega arith) digit large c.loop-byte.invariant.same

pub loop-byte-preserved : goal.loop-byte-preserved
loop-byte-preserved c =
    let digit : is_ascii_digit (get_or c.args.text.now c.loop-byte.byte-index 0) ≡ true = search rules in
    let next : c.in_ok-value.value ≡ c.loop-byte.value * 10 + (get_or c.args.text.now c.loop-byte.byte-index 0 - 48) = omega (arith, c.in_ok-value.ensures, c.in_ok-checked_mul.ensures) in
    record {
      fits = omega (arith, c.in_ok-value.ensures);
      same = loop_digit c.args.text.now c.loop-byte.byte-index c.loop-byte.value c.in_ok-value.value (omega arith) digit next c.loop-byte.invariant.same;
    }

pub returns : goal.returns
returns c =
    let some : 0 < length c.args.text.now = search rules in
    loop_end c.args.text.now c.loop-byte.byte-index c.loop-byte.value (omega arith) some (omega arith) c.loop-byte.invariant.same
