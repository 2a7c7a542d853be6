use Rattle.std.proofs.Common.{◌≡◌, ◌<◌, ◌^◌, drop}
use Rattle.lama_num.proofs.DecimalDigits.{decimal_on}
use Rattle.lama_num.proofs.decimals.read_decimal.Given as goal

abbrev pub invariant-loop-byte : goal.invariant-loop-byte
invariant-loop-byte l = record {
  fits : l.value < 2 ^ 64;
  same : decimal_on l.value (drop l.byte-index l.text) ≡ decimal_on 0 l.text;
}
