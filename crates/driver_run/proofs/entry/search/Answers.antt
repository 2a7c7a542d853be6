use Rattle.std.proofs.Common.{◌≡◌, ◌∙◌, sym, subst, refl}
use Rattle.conf_text.specs.Accepted.{IsConfig}
use Rattle.driver_run.proofs.Asking.{asks_none, asks_any}
use Rattle.driver_run.proofs.Beginning.{first_searching, none_searched}
use Rattle.driver_run.proofs.entry.search.Goals as goal

pub search_by-requires-clause-searching : goal.search_by-requires-clause-searching
search_by-requires-clause-searching g c =
    let made = c.in-Ok.ensures in
    first_searching c.args.task.now c.in-Ok.phases c.args.many c.args.progress.now c.args.trail.now c.requires.begun made.next (subst IsConfig (sym made.config) c.requires.config) (rw made.config c.requires.many) made.task c.requires.phases c.requires.pops c.requires.first

pub returns-in-Err-clause-ended : goal.returns-in-Err-clause-ended
returns-in-Err-clause-ended g c = none_searched c.args.task.now c.args.config.now c.args.progress.now c.args.trail.now c.requires.begun c.requires.phases c.requires.pops c.requires.first
