use Rattle.conf_text.proofs.Commas.{eight_pieces}
use Rattle.conf_text.proofs.writing.push_options.Goals as goal

pub returns : goal.returns
returns c =
    eight_pieces _ _ _ _ _ _ _ _ _ _ _ _ _ _ _ _ _ c.in_ok-push_preferred.ensures c.in_ok-push_kind.ensures c.in_ok-push_kind-2.ensures c.in_ok-push_weight.ensures c.in_ok-push_reopen.ensures c.in_ok-push_short.ensures
    c.in_ok-push_number.ensures c.in_ok-push_short-2.ensures
