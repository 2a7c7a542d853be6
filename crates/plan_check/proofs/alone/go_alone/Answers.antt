use Rattle.std.proofs.Common.{◌∙◌, ◌<◌, ◌+◌, sym, ap, subst, refl, arith, length, Vec, ℕ}
use Rattle.std.specs.declared.alloc.Global.{Global}
use Rattle.std.specs.Prelude.{slice_index, if◌then◌else◌}
use Rattle.std.specs.List.{list_any}
use Rattle.std.proofs.lemmas.Option.{slice_get_read}
use Rattle.plan_check.specs.Choices.{has_name, candidates}
use Rattle.plan_check.specs.Layers.{IsAlone}
use Rattle.plan_check.specs.declared.tracing.Link.{Link}
use Rattle.plan_check.specs.declared.verdicts.PlanFault.TheVariants.{NotApplicable, NoOperator}
use Rattle.plan_check.proofs.Faults.{alone_more, stuck_fault, one_is, one_applicable}
use Rattle.plan_check.proofs.alone.go_alone.Goals as goal

pub returns-in-empty-clause-fault : goal.returns-in-empty-clause-fault
returns-in-empty-clause-fault c =
    let lt : c.loop-i.i < length c.args.names.now = omega arith in
    stuck_fault c.args.setup.now.task.now c.args.names.now c.loop-i.links.items c.loop-i.i c.loop-i.cost c.find_candidates.new.self.here.items c.index-names-i.result c.as_slice.result.now (c.loop-i.i + 1) c.no_candidate.result
    (subst (λ (v : Vec ℕ Global). IsAlone c.args.setup.now.task.now c.args.names.now c.loop-i.links.items c.loop-i.i v.items c.loop-i.cost) (sym c.find_candidates.ensures.here) c.loop-i.invariant.alone)
    (slice_get_read c.args.names.now (length c.args.names.now) c.loop-i.i c.index-names-i.result refl lt c.index-names-i.is)
    (c.as_slice.ensures.value ∙ c.in_ok-find_candidates.ensures.found ∙ ap (candidates c.args.setup.now.task.now c.find_candidates.new.self.here.items) c.deref.ensures)
    c.in-empty.len_below (omega arith)
    (c.no_candidate.ensures ∙ ap (λ n. if list_any (has_name n) c.args.setup.now.task.now.operators then NotApplicable (c.loop-i.i + 1) else NoOperator (c.loop-i.i + 1)) c.deref-in-empty.ensures) lt

pub apply-cost-requires-clause-applicable : goal.apply-cost-requires-clause-applicable
apply-cost-requires-clause-applicable c =
    one_applicable c.args.setup.now.task.now c.find_candidates.new.self.here.items c.deref.result.now c.as_slice.result.now (c.as_slice.ensures.value ∙ c.in_ok-find_candidates.ensures.found) c.in-len1.len_at_least c.in-len1.len_below

pub loop-i-preserved : goal.loop-i-preserved
loop-i-preserved c =
    let lt : c.loop-i.i < length c.args.names.now = omega arith in
    let link : Link = record { from = c.saturating_sub-from.result; op = slice_index c.as_slice.result.now 0 } in
    record {
      ready = c.apply-cost.ensures.ready;
      alone = rw c.in_ok-push-in-len1.ensures.items
          (alone_more c.args.setup.now.task.now c.args.names.now c.loop-i.links.items c.loop-i.i c.loop-i.cost c.find_candidates.new.self.here.items c.index-names-i.result
          (subst (λ (v : Vec ℕ Global). IsAlone c.args.setup.now.task.now c.args.names.now c.loop-i.links.items c.loop-i.i v.items c.loop-i.cost) (sym c.find_candidates.ensures.here) c.loop-i.invariant.alone)
          (slice_get_read c.args.names.now (length c.args.names.now) c.loop-i.i c.index-names-i.result refl lt c.index-names-i.is)
          (slice_index c.as_slice.result.now 0) c.apply-cost.result c.apply-cost.new.self.here.items link (omega (arith, c.requires.few))
          (sym (c.as_slice.ensures.value ∙ c.in_ok-find_candidates.ensures.found ∙ ap (candidates c.args.setup.now.task.now c.find_candidates.new.self.here.items) c.deref.ensures) ∙ one_is c.as_slice.result.now c.in-len1.len_at_least c.in-len1.len_below)
          c.apply-cost.ensures.here c.apply-cost.ensures.cost c.saturating_sub-from.ensures refl);
      cost_fits = omega (arith, c.apply-cost.ensures.low);
    }
