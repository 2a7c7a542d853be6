use Rattle.std.proofs.Common.{◌≡◌, ◌∙◌, ◌↔◌, sym, ap, subst, ℕ, List, Bool, true}
use Rattle.sas_task.specs.Runs.{start_of}
use Rattle.sas_task.specs.declared.contents.CostKind.TheVariants.{One}
use Rattle.relaxed_task.specs.Numbers.{number_of}
use Rattle.relaxed_task.specs.Reached.{IsReached}
use Rattle.bit_rows.specs.Rows.{has}
use Rattle.lm_backchain.proofs.singles.reached_row.Goals as goal

pub returns : goal.returns
returns c parts node knows = record {
  each = λ fact there.
      let bit = ap (λ (row : List ℕ). has row (number_of parts.variables fact)) c.from.ensures ∙ c.in_ok-row.ensures (number_of parts.variables fact) in
      subst (λ (t : Bool). (t ≡ true) ↔ IsReached parts (start_of parts) node fact) (sym bit)
      (c.costs.ensures.reached parts One (start_of parts) node knows.relaxed knows.evaluated fact there);
}
