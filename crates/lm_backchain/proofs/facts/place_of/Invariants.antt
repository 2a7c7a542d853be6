use Rattle.std.proofs.Common.{◌≡◌, ◌<◌, ℕ, true, Some, slice_get}
use Rattle.sas_task.specs.declared.contents.Fact.{Fact}
use Rattle.lm_graph.specs.Nodes.{is_less}
use Rattle.lm_backchain.proofs.facts.place_of.Given as goal

abbrev pub invariant-loop-place : goal.invariant-loop-place
invariant-loop-place l = (i : ℕ) (other : Fact) → i < l.place → slice_get l.facts i ≡ Some other → is_less other l.fact ≡ true
