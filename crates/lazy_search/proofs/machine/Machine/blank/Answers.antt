use Rattle.std.proofs.Common.{◌≡◌, map, length, refl, ap, ◌∙◌, arith}
use Rattle.std.specs.List.{range_with_len}
use Rattle.std.proofs.lemmas.List.FromFn.{length-map-range_with_len}
use Rattle.lazy_search.specs.Shapes.{lists_by, is_preferred_by}
use Rattle.lazy_search.proofs.FirstVisit.{sorts_first, few_sorts}
use Rattle.lazy_search.proofs.machine.Machine.blank.Goals as goal

pub new-requires : goal.new-requires
new-requires c =
    let is : c.deref.result.now ≡ map (is_preferred_by c.args.phase.now.shape) (range_with_len 0 (lists_by c.args.phase.now.shape)) = c.deref.ensures.value ∙ c.in_ok-sorts.ensures in
    omega (arith, few_sorts c.args.phase.now.shape c.args.phase.now.is_phase.few_guides, ap length is, length-map-range_with_len (is_preferred_by c.args.phase.now.shape) 0 (lists_by c.args.phase.now.shape))

pub returns : goal.returns
returns c =
    let shape = c.args.phase.now.shape in
    let is : c.deref.result.now ≡ map (is_preferred_by shape) (range_with_len 0 (lists_by shape)) = c.deref.ensures.value ∙ c.in_ok-sorts.ensures in
    let ls = c.in_ok-lists.ensures in
    let ss = c.in_ok-states.ensures in
    record {
      visits = c.new-3.ensures.visits;
      pops = c.new-3.ensures.pops;
      ready = ss.ready;
      words = ss.states;
      most = ss.most;
      rows = c.new-4.ensures.items;
      origins = c.new-5.ensures.items;
      count = ls.count ∙ ap length is ∙ length-map-range_with_len (is_preferred_by shape) 0 (lists_by shape);
      empty = ls.empty;
      counters = ls.counters;
      sorts = λ k l. ls.sorts k ∙ sorts_first (is_preferred_by shape) (lists_by shape) c.deref.result.now k is l;
      boost = ls.boost;
      least = refl;
    }
