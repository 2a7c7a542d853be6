use Rattle.std.specs.Prelude.{◌≡◌, take}
use Rattle.sas_task.specs.Order.{standing}
use Rattle.sas_task.specs.Tables.{Knows, Places, CountsEffects}
use Rattle.sas_task.proofs.tables.standing_facts.Given as goal

abbrev pub invariant-loop-effect : goal.invariant-loop-effect
invariant-loop-effect l = record {
  placed : Places l.placed l.pre;
  counts : CountsEffects l.counts (take l.effect-index l.effects);
  facts : l.facts.items ≡ standing l.pre (take l.effect-index l.effects);
  known : Knows l.known l.facts.items;
}
