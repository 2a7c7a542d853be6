use Rattle.std.proofs.Common.{◌≡◌, drop, ◌&&◌}
use Rattle.std.specs.List.{list_any}
use Rattle.sas_task.specs.States.{fires}
use Rattle.lm_status.specs.Preferred.{is_wanted}
use Rattle.bit_rows.specs.Rows.{has}
use Rattle.lm_status.proofs.status.Status.some_leads_on.Given as goal

abbrev pub invariant-loop-effect : goal.invariant-loop-effect
invariant-loop-effect l = list_any (λ e. fires l.state e && is_wanted l.self.graph (has l.row) e.fact) (drop l.effect-index l.effects) ≡ list_any (λ e. fires l.state e && is_wanted l.self.graph (has l.row) e.fact) l.effects
