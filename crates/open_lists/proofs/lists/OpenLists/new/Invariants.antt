use Rattle.open_lists.proofs.Places.{Empties}
use Rattle.open_lists.proofs.lists.OpenLists.new.Given as goal

abbrev pub invariant-loop-flag : goal.invariant-loop-flag
invariant-loop-flag l = Empties l.lists.items l.preferred_only l.flag-index
