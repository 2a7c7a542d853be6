use Rattle.lazy_search.specs.Entries.{puts_in, Puts}
use Rattle.lazy_search.proofs.entries.put_all.Given as goal

abbrev pub invariant-loop-list : goal.invariant-loop-list
invariant-loop-list l =
    Puts l.fn.lists l.list (puts_in l.setting l.shape l.row l.estimates l.chosen.all.items l.chosen.preferred.items) l.lists
