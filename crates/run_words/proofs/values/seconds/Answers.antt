use Rattle.std.proofs.Common.{◌∙◌, ap, sym}
use Rattle.std.specs.Prelude.{option_and_then}
use Rattle.run_words.specs.Requests.{up_to}
use Rattle.run_words.proofs.RequestLaws.{with_unit, without_unit}
use Rattle.run_words.proofs.values.seconds.Goals as goal

pub returns-in-Some-clause-same : goal.returns-in-Some-clause-same
returns-in-Some-clause-same c =
    c.seconds_in.ensures.same ∙ ap (option_and_then (up_to 1000000)) (sym (with_unit c.args.text.now c.in_ok-last.front.now c.in_ok-last.last.now c.in-Some.unit c.in_ok-last.ensures.cases c.in-Some.ensures))

pub returns-in_ok-read_decimal-in-None-clause-same : goal.returns-in_ok-read_decimal-in-None-clause-same
returns-in_ok-read_decimal-in-None-clause-same c =
    c.up_to.ensures.same ∙ ap (option_and_then (up_to 1000000)) (c.in_ok-read_decimal-in-None.ensures ∙ sym (without_unit c.args.text.now c.in_ok-last.front.now c.in_ok-last.last.now c.in_ok-last.ensures.cases c.in-None.ensures))
