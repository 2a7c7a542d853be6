use Rattle.std.proofs.Common.{◌≡◌, ◌∙◌, sym, ap, subst, ◌<◌, ◌++◌, ◌∷◌, [], ◌+◌, length, take, get_or, arith, rules, Option, Some, None}
use Rattle.std.proofs.lemmas.List.{take_more, length-take-le}
use Rattle.std.specs.Option.{option_copied}
use Rattle.std.specs.BTreeMap.{get}
use Rattle.sas_task.specs.Tables.{pair_cmp}
use Rattle.sas_task.specs.Order.{standing}
use Rattle.sas_task.specs.declared.contents.Fact.{Fact}
use Rattle.sas_task.proofs.TableLaws.{few_effects, counts_effect, found_for, knows_more, standing_some, standing_none}
use Rattle.sas_task.proofs.tables.standing_facts.Goals as goal
use Rattle.sas_task.proofs.tables.standing_facts.Goals.{in-Some+in_ok-insert+in_ok-push, in_default}

pub count_up-requires : goal.count_up-requires
count_up-requires c =
    let effects = c.args.effects.now in
    let i = c.loop-effect.effect-index in
    let few = few_effects c.loop-effect.counts (take i effects) c.effect-item.result.fact.var c.loop-effect.invariant.counts in
    let long = length-take-le i effects (omega arith) in
    omega (arith, few, long)

pub loop-effect-preserved : goal.loop-effect-preserved
loop-effect-preserved c =
    let pre = c.args.pre.now in
    let effects = c.args.effects.now in
    let i = c.loop-effect.effect-index in
    let e = c.effect-item.result in
    let before = take i effects in
    let lt : i < length effects = omega arith in
    let more : take (i + 1) effects ≡ before ++ e ∷ [] = take_more effects i e lt ∙ ap (λ x. before ++ x ∷ []) (sym c.effect-item.is) in
    let found = found_for c.in_ok-placed.placed c.loop-effect.counts pre before e c.in_ok-place.place c.loop-effect.invariant.placed c.loop-effect.invariant.counts c.in_ok-place.ensures.before in
    let counts = counts_effect c.loop-effect.counts c.count_up.new.counts before e c.loop-effect.invariant.counts c.in_ok-place.ensures.after in
    elim c.match-get.branch [
      | in-Some+in_ok-insert+in_ok-push w ↦
          let f : Fact = w.in-Some.fact.now in
          let got : get pair_cmp c.in_ok-placed.placed (e.fact.var, c.in_ok-place.place) ≡ Some f = sym c.get.ensures.value ∙ ap option_copied w.in-Some.is in
          let pushed : w.push.new.self.items ≡ c.loop-effect.facts.items ++ f ∷ [] = search rules in
          let known = knows_more c.loop-effect.known w.insert.new.self c.loop-effect.facts.items f c.loop-effect.invariant.known w.in_ok-insert.ensures.updates in
          record {
            placed = c.loop-effect.invariant.placed;
            counts = rw more counts;
            facts = rw w.facts-is (pushed ∙ ap (λ xs. xs ++ f ∷ []) c.loop-effect.invariant.facts ∙ sym (standing_some pre before e f (sym found ∙ got)) ∙ ap (standing pre) (sym more));
            known = rw (w.known-is, w.facts-is, pushed) known;
          }
      | in_default w ↦
          let got : get pair_cmp c.in_ok-placed.placed (e.fact.var, c.in_ok-place.place) ≡ None = sym c.get.ensures.value ∙ ap option_copied w.in_default.is in
          record {
            placed = c.loop-effect.invariant.placed;
            counts = rw more counts;
            facts = rw w.facts-is (c.loop-effect.invariant.facts ∙ sym (standing_none pre before e (sym found ∙ got)) ∙ ap (standing pre) (sym more));
            known = rw (w.known-is, w.facts-is) c.loop-effect.invariant.known;
          }
    ]
