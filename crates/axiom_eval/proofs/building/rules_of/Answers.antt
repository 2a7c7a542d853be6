use Rattle.std.proofs.Common.{◌≡◌, ◌∙◌, ap, sym, arith, length, map}
use Rattle.std.proofs.lemmas.List.{length-map}
use Rattle.axiom_eval.specs.Building.{AreSlots, AreWatchers, head_of, conds_of}
use Rattle.axiom_eval.proofs.RuleTables.{slots_moved, slots_below, conds_within, are_rules}
use Rattle.axiom_eval.proofs.building.rules_of.Goals as goal

pub heads_of-requires : goal.heads_of-requires
heads_of-requires c =
    let so : AreSlots c.args.parts.now c.order_by_layer.new.slots.items = slots_moved _ _ _ c.order_by_layer.ensures.same c.in_ok-slots.ensures in
    rw (c.deref.ensures, c.deref-2.ensures.value) (slots_below c.args.parts.now c.order_by_layer.new.slots.items so)

pub conds_of-requires : goal.conds_of-requires
conds_of-requires c =
    let so : AreSlots c.args.parts.now c.order_by_layer.new.slots.items = slots_moved _ _ _ c.order_by_layer.ensures.same c.in_ok-slots.ensures in
    rw (c.deref-3.ensures, c.deref-4.ensures.value) (slots_below c.args.parts.now c.order_by_layer.new.slots.items so)

pub watchers_of-requires-clause-few : goal.watchers_of-requires-clause-few
watchers_of-requires-clause-few c =
    let so : AreSlots c.args.parts.now c.order_by_layer.new.slots.items = slots_moved _ _ _ c.order_by_layer.ensures.same c.in_ok-slots.ensures in
    let heads : c.in_ok-heads.heads.items ≡ map (head_of c.args.parts.now.rules) c.order_by_layer.new.slots.items = rw (c.deref.ensures, c.deref-2.ensures.value) at c.in_ok-heads.ensures in
    let long : length c.in_ok-heads.heads.items ≡ length c.order_by_layer.new.slots.items = ap length heads ∙ length-map c.order_by_layer.new.slots.items (head_of c.args.parts.now.rules) in
    omega (arith, long, so.long, c.requires.few_rules, ap length c.deref-6.ensures.value)

pub watchers_of-requires-clause-long : goal.watchers_of-requires-clause-long
watchers_of-requires-clause-long c =
    let heads : c.in_ok-heads.heads.items ≡ map (head_of c.args.parts.now.rules) c.order_by_layer.new.slots.items = rw (c.deref.ensures, c.deref-2.ensures.value) at c.in_ok-heads.ensures in
    let conds : c.in_ok-conds.conds ≡ map (conds_of c.args.parts.now.rules) c.order_by_layer.new.slots.items = rw (c.deref-3.ensures, c.deref-4.ensures.value) at c.in_ok-conds.ensures in
    ap length conds ∙ (length-map c.order_by_layer.new.slots.items (conds_of c.args.parts.now.rules) ∙ sym (ap length c.deref-6.ensures.value ∙ (ap length heads ∙ length-map c.order_by_layer.new.slots.items (head_of c.args.parts.now.rules))))

pub watchers_of-requires-clause-within : goal.watchers_of-requires-clause-within
watchers_of-requires-clause-within c =
    let so : AreSlots c.args.parts.now c.order_by_layer.new.slots.items = slots_moved _ _ _ c.order_by_layer.ensures.same c.in_ok-slots.ensures in
    let conds : c.in_ok-conds.conds ≡ map (conds_of c.args.parts.now.rules) c.order_by_layer.new.slots.items = rw (c.deref-3.ensures, c.deref-4.ensures.value) at c.in_ok-conds.ensures in
    rw c.deref-5.ensures (conds_within c.args.parts.now c.order_by_layer.new.slots.items c.in_ok-conds.conds c.requires so conds)

pub returns : goal.returns
returns c =
    let so : AreSlots c.args.parts.now c.order_by_layer.new.slots.items = slots_moved _ _ _ c.order_by_layer.ensures.same c.in_ok-slots.ensures in
    let heads : c.in_ok-heads.heads.items ≡ map (head_of c.args.parts.now.rules) c.order_by_layer.new.slots.items = rw (c.deref.ensures, c.deref-2.ensures.value) at c.in_ok-heads.ensures in
    let conds : c.in_ok-conds.conds ≡ map (conds_of c.args.parts.now.rules) c.order_by_layer.new.slots.items = rw (c.deref-3.ensures, c.deref-4.ensures.value) at c.in_ok-conds.ensures in
    let w : AreWatchers c.args.parts.now.variables c.in_ok-heads.heads.items c.in_ok-conds.conds (length c.in_ok-heads.heads.items) c.in_ok-watchers.watchers = rw (c.deref-5.ensures, c.deref-6.ensures.value) at c.in_ok-watchers.ensures in
    are_rules c.args.parts.now c.order_by_layer.new.slots.items _ c.requires so c.order_by_layer.ensures.order (c.from.ensures ∙ heads) conds (rw c.from.ensures w)
