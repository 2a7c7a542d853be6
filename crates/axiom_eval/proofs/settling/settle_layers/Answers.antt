use Rattle.std.proofs.Common.{◌<◌, length, arith}
use Rattle.axiom_eval.proofs.Upwards.{settled_to_none, settled_to_more, settled_to_all}
use Rattle.axiom_eval.proofs.settling.settle_layers.Goals as goal

pub loop-place-init : goal.loop-place-init
loop-place-init c = record {
  settled = settled_to_none c.args.parts.now c.args.rules.now c.args.values.now c.requires.rules;
  within = omega arith;
  long = c.requires.long;
  room = c.requires.room;
  none = c.requires.none;
}

pub settle_layer-place-requires-clause-first : goal.settle_layer-place-requires-clause-first
settle_layer-place-requires-clause-first c place less = c.loop-place.invariant.settled.apart place c.loop-place.place less (omega arith) (omega arith)

pub loop-place-preserved : goal.loop-place-preserved
loop-place-preserved c =
    let lt : c.loop-place.place < length c.args.rules.now.heads = omega arith in
    record {
      settled = settled_to_more c.args.parts.now c.args.rules.now c.loop-place.place c.settle_layer-place.result c.args.values.now c.loop-place.values c.settle_layer-place.new.values c.requires.rules lt c.settle_layer-place.ensures.onwards c.settle_layer-place.ensures.within c.loop-place.invariant.settled c.settle_layer-place.ensures.values c.settle_layer-place.ensures.those c.settle_layer-place.ensures.end;
      within = c.settle_layer-place.ensures.within;
      long = omega arith;
      room = c.settle_layer-place.ensures.room;
      none = c.settle_layer-place.ensures.none;
    }

pub returns-clause-values : goal.returns-clause-values
returns-clause-values c = settled_to_all c.args.parts.now c.args.rules.now c.loop-place.place c.args.values.now c.loop-place.values c.requires.rules (omega arith) c.loop-place.invariant.settled
