use Rattle.std.proofs.Common.{◌≡◌, Ok, rules}
use Rattle.conf_text.specs.Grammar.{whole, config_of}
use Rattle.conf_text.proofs.WithinLimits.{accepted}
use Rattle.conf_text.proofs.reading.read.Goals as goal

pub returns-clause-accepted : goal.returns-clause-accepted
unfolding whole config_of
returns-clause-accepted c = let given : config_of c.args.text.now ≡ Ok c.in_ok-config.config = search rules in accepted c.args.text.now c.in_ok-config.config given
