-- One phase more of a search.
use Rattle.std.proofs.Common.{◌≡◌, ◌≢◌, ◌∙◌, sym, ap, subst, refl, ℕ, ◌+◌, ◌<◌, ◌≤◌, zero, suc, List, [], ◌∷◌, ◌++◌, length, map, Bool, true, false, nat_lt, slice_get, Option, Some, None, arith}
use Rattle.sas_task.specs.declared.contents.Parts.{Parts}
use Rattle.sas_task.specs.declared.plans.Kept.{Kept}
use Rattle.sas_task.specs.Runs.{IsPlanOf}
use Rattle.conf_text.specs.declared.config.Config.{Config}
use Rattle.conf_text.specs.declared.config.Phase.{Phase}
use Rattle.search_log.specs.Logs.{Content}
use Rattle.search_log.specs.Members.{Member}
use Rattle.run_report.specs.declared.report.Past.{Past}
use Rattle.run_report.specs.declared.report.Past.TheVariants as item
use Rattle.iterated.specs.declared.ends.PhaseEnd.TheVariants as phase
use Rattle.run_report.specs.Searches.{Search, Standing, Went, Ends, after_plan, after_space}

pub went_so : (search : Search) (at : Standing) (past other : List Past) (plans same : List Kept) (to there : Standing) → other ≡ past → same ≡ plans → there ≡ to → Went search at past plans to → Went search at other same there
went_so search at past other plans same to there p q r went = rw (p, q, r) went
